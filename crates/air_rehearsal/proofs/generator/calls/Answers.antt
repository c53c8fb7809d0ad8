-- The three calls are those that are read.
use Rattle.std.proofs.Common.{refl, ◌∙◌}
use Rattle.air_rehearsal.proofs.DrawnCalls.{call-drawn, calls-drawn}
use Rattle.air_rehearsal.proofs.generator.calls.Goals as goal

pub returns : goal.returns
returns c =
    let law = c.one_call.ensures in
    c.in_ok-from_slice.ensures.items
    ∙ calls-drawn (call-drawn law 49 refl _ c.in_ok-read_call.ensures)
    (call-drawn law 50 refl _ c.in_ok-read_call-2.ensures) (call-drawn law 51 refl _ c.in_ok-read_call-3.ensures)
