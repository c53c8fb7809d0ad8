use Rattle.std.proofs.Common.{◌≡◌, ◌+◌, ◌≤◌, ℕ, List, ◌++◌, length, sym, ap, ◌∙◌, subst}
use Rattle.pfh_writer.proofs.Names.{ItemValue, end_item, AreOthers, BuilderValue, built_len}
use Rattle.pfh_writer.proofs.BuiltLemmas.{built_faultless}
use Rattle.pfh_writer.proofs.builder.HeaderBuilder.file.Goals as goal

pub returns : goal.returns
returns c =
    let are : AreOthers c.self.inside.others c.args.self.now.others =
    subst (λ (l : List ItemValue). AreOthers c.self.inside.others l) (ap (λ (b : BuilderValue). b.others) c.self.view_is) c.self.invariant in
    let len : c.header_len-header_len.result ≡ built_len c.args.self.now = c.header_len-header_len.ensures in
    let text : c.append-4.new.self ≡ ((c.first-first.result.items ++ c.self.inside.others) ++ end_item) ++ c.args.body.now =
    c.in_ok-append-4.ensures.ok
    ∙ ap (λ (t : List ℕ). t ++ c.args.body.now)
    (c.in_ok-append-3.ensures.ok
    ∙ ap (λ (t : List ℕ). t ++ end_item)
    (c.in_ok-append-2.ensures.ok
    ∙ ap (λ (t : List ℕ). t ++ c.as_slice-2.result.now)
    (c.in_ok-append.ensures.ok ∙ ap (λ (t : List ℕ). t ++ c.as_slice.result.now) c.in_ok-file.ensures ∙ c.as_slice.ensures.value)
    ∙ ap (λ (t : List ℕ). c.first-first.result.items ++ t) c.as_slice-2.ensures)) in
    built_faultless c.args.self.now c.self.inside.others are c.first-first.ensures.name c.first-first.ensures.ext c.args.body.now c.append-4.new.self
    c.first-first.result.items (c.header_len-header_len.result + length c.args.body.now) c.sum16.result c.header_len-header_len.result c.header_sum.result
    c.first-first.ensures.items c.first-first.ensures.text text (ap (λ (n : ℕ). n + length c.args.body.now) len) c.sum16.ensures len c.header_sum.ensures
    (subst (λ (n : ℕ). n ≤ 65535) (sym len) c.requires.header)
    (subst (λ (n : ℕ). n + length c.args.body.now ≤ 4194304) (sym len) c.requires.file)
