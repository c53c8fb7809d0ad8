-- Each opening so far gave a descriptor of a standard stream, and is held.
use Rattle.std.proofs.Common.{◌≡◌, length}
use Rattle.real_outside.proofs.Names.{Asks, AreHeld}
use Rattle.real_outside.proofs.descriptors.hold_standard_streams.Given as goal

abbrev pub invariant-loop : goal.invariant-loop
invariant-loop g l =
    Asks (g.N.NullDevice.answers l.fn.null) (g.N.NullDevice.answers l.null)
    (λ answers. AreHeld g.N.NullDevice.descriptor l.streams answers × (length answers ≡ l.counter))
