-- Items that are whole, up to the end item or to one that is cut.
use Rattle.std.proofs.Common.{ℕ, ◌+◌, List, [], refl, length, take, drop, sym, ap, ◌∙◌, subst, arith, rules}
use Rattle.pfh_reader.specs.declared.checker.Stage.TheVariants as stages
use Rattle.pfh_reader.proofs.Names.{take_all, IsOctets-slice, Stage, Measures, CheckerValue, IsCutItem, at_end, with_header}
use Rattle.pfh_reader.proofs.FeedLemmas.{Extends-at, end_within, ends, ran, ran_within, takes_end, takes_items, value, value_none}
use Rattle.pfh_reader.proofs.checker.Checker.take_whole_items.Goals as goal

pub overflow_add-at : goal.overflow_add-at
overflow_add-at c =
    let within = end_within c.args.octets.now c.in-EndItem.at (IsOctets-slice c.args.octets.now (λ i. omega (arith, c.type_inv.octets i))) (sym c.take_items.ensures.stop ∙ c.in-EndItem.is) in omega arith

pub split_at-requires : goal.split_at-requires
split_at-requires c = end_within c.args.octets.now c.in-EndItem.at (IsOctets-slice c.args.octets.now (λ i. omega (arith, c.type_inv.octets i))) (sym c.take_items.ensures.stop ∙ c.in-EndItem.is)

pub split_at-requires-in-Ran : goal.split_at-requires-in-Ran
split_at-requires-in-Ran c = ran_within c.args.octets.now c.in-Ran.at (IsOctets-slice c.args.octets.now (λ i. omega (arith, c.type_inv.octets i))) (sym c.take_items.ensures.stop ∙ c.in-Ran.is)

pub held-self-inside-requires : goal.held-self-inside-requires
held-self-inside-requires c =
    subst IsCutItem (sym c.split_at-in-Ran.ensures.back)
    (ran c.args.octets.now c.in-Ran.at c.self.inside.claims c.take_items.new.claims (IsOctets-slice c.args.octets.now (λ i. omega (arith, c.type_inv.octets i)))
    (sym c.take_items.ensures.stop ∙ c.in-Ran.is) c.take_items.ensures.claims).1

pub invariant_of-self-in-Ran : goal.invariant_of-self-in-Ran
invariant_of-self-in-Ran c =
    subst IsCutItem (sym (c.held-self-inside.ensures ∙ c.split_at-in-Ran.ensures.back))
    (ran c.args.octets.now c.in-Ran.at c.self.inside.claims c.take_items.new.claims (IsOctets-slice c.args.octets.now (λ i. omega (arith, c.type_inv.octets i)))
    (sym c.take_items.ensures.stop ∙ c.in-Ran.is) c.take_items.ensures.claims).1

pub returns-in-EndItem-clause-takes : goal.returns-in-EndItem-clause-takes
returns-in-EndItem-clause-takes c =
    let fed =
    Extends-at (value stages.Items [] c.self.inside.claims c.self.inside.measures) c.args.self.now
    (value stages.Body c.self.inside.held.items c.take_items.new.claims (at_end (with_header c.self.inside.measures (take (c.in-EndItem.at + 3) c.args.octets.now))))
    (value stages.Body c.self.inside.held.items c.take_items.new.claims c.end_header.new.self)
    (take (c.in-EndItem.at + 3) c.args.octets.now) (take (c.in-EndItem.at + 3) c.args.octets.now)
    (value_none c.args.self.now c.self.inside.stage stages.Items c.self.inside.held.items c.self.inside.claims c.self.inside.measures c.self.view_is c.requires.stage c.requires.none)
    (ap (λ (m : Measures). value stages.Body c.self.inside.held.items c.take_items.new.claims m)
    (ap (λ (t : List ℕ). at_end (with_header c.self.inside.measures t)) (sym c.split_at.ensures.front) ∙ sym c.end_header.ensures))
    refl
    (takes_end [] c.self.inside.held.items c.self.inside.claims c.take_items.new.claims c.self.inside.measures (take (c.in-EndItem.at + 3) c.args.octets.now)
    (ends c.args.octets.now c.in-EndItem.at c.self.inside.claims c.take_items.new.claims (IsOctets-slice c.args.octets.now (λ i. omega (arith, c.type_inv.octets i)))
    (sym c.take_items.ensures.stop ∙ c.in-EndItem.is) c.take_items.ensures.claims)) in
    record { fed = fed; len = search rules }

pub returns-in-Ran-clause-takes : goal.returns-in-Ran-clause-takes
returns-in-Ran-clause-takes c =
    let left =
    ran c.args.octets.now c.in-Ran.at c.self.inside.claims c.take_items.new.claims (IsOctets-slice c.args.octets.now (λ i. omega (arith, c.type_inv.octets i)))
    (sym c.take_items.ensures.stop ∙ c.in-Ran.is) c.take_items.ensures.claims in
    let fed =
    Extends-at (value stages.Items [] c.self.inside.claims c.self.inside.measures) c.args.self.now
    (value stages.Items (drop c.in-Ran.at c.args.octets.now) c.take_items.new.claims (with_header c.self.inside.measures c.args.octets.now))
    (value c.self.inside.stage c.held-self-inside.result.items c.take_items.new.claims c.add_header.new.self)
    c.args.octets.now (take (length c.args.octets.now) c.args.octets.now)
    (value_none c.args.self.now c.self.inside.stage stages.Items c.self.inside.held.items c.self.inside.claims c.self.inside.measures c.self.view_is c.requires.stage c.requires.none)
    (ap (λ (m : Measures). value stages.Items (drop c.in-Ran.at c.args.octets.now) c.take_items.new.claims m) (sym c.add_header.ensures)
    ∙ ap (λ (t : List ℕ). value stages.Items t c.take_items.new.claims c.add_header.new.self) (sym (c.held-self-inside.ensures ∙ c.split_at-in-Ran.ensures.back))
    ∙ ap (λ (s : Stage). value s c.held-self-inside.result.items c.take_items.new.claims c.add_header.new.self) (sym (ap (λ (v : CheckerValue). v.stage) c.self.view_is ∙ c.requires.stage)))
    (sym (take_all (length c.args.octets.now) c.args.octets.now (omega arith)))
    (takes_items [] (drop c.in-Ran.at c.args.octets.now) c.self.inside.claims c.take_items.new.claims c.self.inside.measures c.args.octets.now left.0 left.1) in
    record { fed = fed; len = search rules }
