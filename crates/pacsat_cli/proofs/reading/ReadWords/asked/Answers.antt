-- What was read of the words, as it was kept.
use Rattle.std.proofs.Common.{◌≡◌}
use Rattle.pacsat_cli.proofs.reading.ReadWords.asked.Goals as goal

pub returns-clause-usage : goal.returns-clause-usage
returns-clause-usage c = let is : c.self.inside.words.now ≡ c.args.self.now = c.self.view_is in rw is at c.self.invariant.usage
