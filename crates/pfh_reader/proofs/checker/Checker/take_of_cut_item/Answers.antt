-- One octet more of the item that is cut.
use Rattle.std.proofs.Common.{ℕ, List, ◌++◌, take, refl, sym, ap, ◌∙◌, subst, rules}
use Rattle.pfh_reader.specs.declared.checker.Stage.TheVariants as stages
use Rattle.pfh_reader.proofs.Names.{Stage, Measures, CheckerValue, TakesEnd, TakesItems, at_end, with_header}
use Rattle.pfh_reader.proofs.FeedLemmas.{Extends-at, first_octet, takes_end, takes_items, value, value_at}
use Rattle.pfh_reader.proofs.checker.Checker.take_of_cut_item.Goals as goal

pub returns-then-take_octet-clause-takes : goal.returns-then-take_octet-clause-takes
returns-then-take_octet-clause-takes c =
    let fed =
    Extends-at (value stages.Items c.self.inside.held.items c.self.inside.claims c.self.inside.measures) c.args.self.now
    (value stages.Body c.take_octet.new.held.items c.take_octet.new.claims (at_end (with_header c.self.inside.measures (take 1 c.args.octets.now))))
    (value stages.Body c.take_octet.new.held.items c.take_octet.new.claims c.end_header.new.self)
    (take 1 c.args.octets.now) (take 1 c.args.octets.now)
    (value_at c.args.self.now c.self.inside.stage stages.Items c.self.inside.held.items c.self.inside.claims c.self.inside.measures c.self.view_is c.requires.stage)
    (ap (λ (m : Measures). value stages.Body c.take_octet.new.held.items c.take_octet.new.claims m)
    (ap (λ (t : List ℕ). at_end (with_header c.self.inside.measures t)) (sym c.split_at.ensures.front) ∙ sym c.end_header.ensures))
    refl
    (takes_end c.self.inside.held.items c.take_octet.new.held.items c.self.inside.claims c.take_octet.new.claims c.self.inside.measures (take 1 c.args.octets.now)
    (subst (λ (t : List ℕ). TakesEnd (c.self.inside.held.items ++ t) c.self.inside.claims c.take_octet.new.claims) (sym (first_octet c.args.octets.now c.requires.some))
    (c.take_octet.ensures.end c.if-take_octet.true))) in
    record { fed = fed; len = search rules }

pub returns-else-take_octet-clause-takes : goal.returns-else-take_octet-clause-takes
returns-else-take_octet-clause-takes c =
    let fed =
    Extends-at (value stages.Items c.self.inside.held.items c.self.inside.claims c.self.inside.measures) c.args.self.now
    (value stages.Items c.take_octet.new.held.items c.take_octet.new.claims (with_header c.self.inside.measures (take 1 c.args.octets.now)))
    (value c.self.inside.stage c.take_octet.new.held.items c.take_octet.new.claims c.add_header.new.self)
    (take 1 c.args.octets.now) (take 1 c.args.octets.now)
    (value_at c.args.self.now c.self.inside.stage stages.Items c.self.inside.held.items c.self.inside.claims c.self.inside.measures c.self.view_is c.requires.stage)
    (ap (λ (m : Measures). value stages.Items c.take_octet.new.held.items c.take_octet.new.claims m)
    (ap (λ (t : List ℕ). with_header c.self.inside.measures t) (sym c.split_at.ensures.front) ∙ sym c.add_header.ensures)
    ∙ ap (λ (s : Stage). value s c.take_octet.new.held.items c.take_octet.new.claims c.add_header.new.self) (sym (ap (λ (v : CheckerValue). v.stage) c.self.view_is ∙ c.requires.stage)))
    refl
    (takes_items c.self.inside.held.items c.take_octet.new.held.items c.self.inside.claims c.take_octet.new.claims c.self.inside.measures (take 1 c.args.octets.now)
    (subst (λ (t : List ℕ). TakesItems (c.self.inside.held.items ++ t) c.take_octet.new.held.items c.self.inside.claims c.take_octet.new.claims) (sym (first_octet c.args.octets.now c.requires.some))
    (c.take_octet.ensures.items c.if-take_octet.false)) c.take_octet.ensures.cut) in
    record { fed = fed; len = search rules }
