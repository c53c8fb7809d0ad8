use Rattle.std.proofs.Common.{refl, sym, ◌∙◌}
use Rattle.air_rehearsal.proofs.PlayParts.{number_at}
use Rattle.air_rehearsal.proofs.play.part_at.Goals as goal

pub returns-in-Some : goal.returns-in-Some
returns-in-Some c = (number_at c.args.client c.in-Some.c (sym c.place_of.ensures ∙ c.in-Some.is), refl)
