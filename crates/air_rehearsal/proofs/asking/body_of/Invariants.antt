-- The first octets of the body.
use Rattle.std.proofs.Common.{◌≡◌}
use Rattle.air_rehearsal.proofs.Names.{body_octets}
use Rattle.air_rehearsal.proofs.asking.body_of.Given as goal

abbrev pub invariant-loop-i : goal.invariant-loop-i
invariant-loop-i l = l.body.items ≡ body_octets l.upload l.i
