-- The sums of a file without fault are those that are kept.
use Rattle.std.proofs.Common.{refl}
use Rattle.pfh_reader.proofs.FaultLemmas.{sums_of}
use Rattle.pfh_reader.proofs.FeedLemmas.{behind, stands_in, value}
use Rattle.pfh_reader.proofs.checker.Checker.end.Goals as goal

pub returns-in-None-clause-ok : goal.returns-in-None-clause-ok
returns-in-None-clause-ok c fed h =
    let found = c.in-None.ensures.found fed h in
    let stands =
    behind (value c.self.inside.stage c.self.inside.held.items c.self.inside.claims c.self.inside.measures) fed found.0 found.1 found.2.file_text c.self.inside.stage
    (stands_in c.args.self.now c.self.inside.stage c.self.inside.stage c.self.inside.held.items c.self.inside.claims c.self.inside.measures fed c.self.view_is refl h) in (
      found.0,
      found.1,
      found.2,
      sums_of found.0 stands.0 found.1 stands.1 fed c.self.inside.claims c.self.inside.measures c.from.result found.2 stands.2.file_text stands.2.claims stands.2.measures c.from.ensures,
    )
