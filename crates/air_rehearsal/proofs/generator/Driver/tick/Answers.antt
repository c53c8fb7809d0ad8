-- One tick after the other.
use Rattle.air_rehearsal.proofs.Names.{IfOk-weaker, cuts_by, tick_client, tick_server, Tries}
use Rattle.air_rehearsal.proofs.DriveLemmas.{drives_then}
use Rattle.air_rehearsal.proofs.generator.Driver.tick.Goals as goal

pub play-requires-clause-ready : goal.play-requires-clause-ready
play-requires-clause-ready g c = c.requires

pub play-requires-clause-fits : goal.play-requires-clause-fits
play-requires-clause-fits g c = λ world sound plays. tt

pub play-requires-2-clause-ready : goal.play-requires-2-clause-ready
play-requires-2-clause-ready g c = c.in_ok-server.ensures.ready

pub play-requires-2-clause-fits : goal.play-requires-2-clause-fits
play-requires-2-clause-fits g c = λ world sound plays. tt

pub returns : goal.returns
returns g c =
    let cuts = cuts_by g.B.CutDisk.restarts g.B.CutDisk.arming g.B.CutDisk.plain g.B.CutDisk.is_starved in
    IfOk-weaker c.play-2.result _ _
    (λ later last.
    drives_then g.B.Disk cuts (Tries (tick_client c.args.client)) (Tries tick_server) _ _ _ c.in_ok-server.ensures last)
    c.play-2.ensures
