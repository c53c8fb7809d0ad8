-- More octets where no header begins.
use Rattle.std.proofs.Common.{length, take, sym, ap, ◌∙◌, arith, rules}
use Rattle.pfh_reader.specs.declared.checker.Stage.TheVariants as stages
use Rattle.pfh_reader.proofs.Names.{take_all, Stage, Measures, CheckerValue, with_header}
use Rattle.pfh_reader.proofs.FeedLemmas.{Extends-at, passes, value, value_at}
use Rattle.pfh_reader.proofs.checker.Checker.pass.Goals as goal

pub returns-clause-takes : goal.returns-clause-takes
returns-clause-takes c =
    let fed =
    Extends-at (value stages.NoHeader c.self.inside.held.items c.self.inside.claims c.self.inside.measures) c.args.self.now
    (value stages.NoHeader c.self.inside.held.items c.self.inside.claims (with_header c.self.inside.measures c.args.octets.now))
    (value c.self.inside.stage c.self.inside.held.items c.self.inside.claims c.add_header.new.self)
    c.args.octets.now (take (length c.args.octets.now) c.args.octets.now)
    (value_at c.args.self.now c.self.inside.stage stages.NoHeader c.self.inside.held.items c.self.inside.claims c.self.inside.measures c.self.view_is c.requires.stage)
    (ap (λ (s : Stage). value s c.self.inside.held.items c.self.inside.claims (with_header c.self.inside.measures c.args.octets.now)) (sym (ap (λ (v : CheckerValue). v.stage) c.self.view_is ∙ c.requires.stage))
    ∙ ap (λ (m : Measures). value c.self.inside.stage c.self.inside.held.items c.self.inside.claims m) (sym c.add_header.ensures))
    (sym (take_all (length c.args.octets.now) c.args.octets.now (omega arith)))
    (passes c.self.inside.held.items c.self.inside.claims c.self.inside.measures c.args.octets.now) in
    record { fed = fed; len = search rules }
