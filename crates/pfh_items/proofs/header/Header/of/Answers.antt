-- Octets that are a header are a file without a body.
use Rattle.std.proofs.Common.{◌≡◌, ◌==◌, [], length, sym, ap, ◌∙◌}
use Rattle.pfh_items.proofs.Names.{both_ways, eq-eqb, HeaderValue}
use Rattle.pfh_items.proofs.HeaderLemmas.{HeaderText-FileText, one_header}
use Rattle.pfh_items.proofs.header.Header.of.Goals as goal

pub returns-in_default-clause-none : goal.returns-in_default-clause-none
returns-in_default-clause-none c items is = c.in_default.ensures.none items [] (HeaderText-FileText items c.args.header.now is)

pub returns-else-is_empty-clause-none : goal.returns-else-is_empty-clause-none
returns-else-is_empty-clause-none c items is =
    let same = one_header c.args.header.now c.in-Some.whole.items items c.in-Some.whole.body [] c.in-Some.ensures.some (HeaderText-FileText items c.args.header.now is) in
    let none : c.whole.inside.body.now ≡ [] = ap (λ (whole : HeaderValue). whole.body) c.whole.view_is ∙ same.1 in
    absurd (both_ways (length c.whole.inside.body.now == 0) (sym c.is_empty.ensures ∙ c.if-is_empty.false) (eq-eqb (length c.whole.inside.body.now) 0 (ap length none)))
