-- A turn of each client, one after another.
use Rattle.std.proofs.Common.{refl}
use Rattle.air_rehearsal.proofs.Names.{IfOk-weaker, cuts_by, rounds, Turn, Turns}
use Rattle.air_rehearsal.proofs.DriveLemmas.{Then, drives_as, drives_then}
use Rattle.air_rehearsal.proofs.generator.Driver.round.Goals as goal

pub turn-requires-2 : goal.turn-requires-2
turn-requires-2 g c = c.in_ok-server.ensures.ready

pub turn-requires-3 : goal.turn-requires-3
turn-requires-3 g c = c.in_ok-server-2.ensures.ready

pub returns : goal.returns
returns g c =
    let cuts = cuts_by g.B.CutDisk.restarts g.B.CutDisk.arming g.B.CutDisk.plain g.B.CutDisk.is_starved in
    IfOk-weaker c.turn-3.result _ _
    (λ later third.
    drives_as g.B.Disk cuts (Then (Then (Turn 1) (Turn 2)) (Turn 3)) (Turns (rounds 1)) _ _
    (λ x y both. (both.1.0, both.1.1, (both.0, both.1.2, (y, both.2, refl))))
    (drives_then g.B.Disk cuts (Then (Turn 1) (Turn 2)) (Turn 3) _ _ _
    (drives_then g.B.Disk cuts (Turn 1) (Turn 2) _ _ _ c.in_ok-server.ensures c.in_ok-server-2.ensures) third))
    c.turn-3.ensures
