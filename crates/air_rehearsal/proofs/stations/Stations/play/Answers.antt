use Rattle.std.proofs.Common.{sym, subst}
use Rattle.air_rehearsal.proofs.Names.{cuts_by, event_value, bench_of, AreReady, Stations}
use Rattle.air_rehearsal.proofs.PlayParts.{if_ok}
use Rattle.air_rehearsal.proofs.PlayServer.{plays_event}
use Rattle.air_rehearsal.proofs.stations.Stations.play.Goals as goal

pub go-requires-clause-clients : goal.go-requires-clause-clients
go-requires-clause-clients g c =
    subst (λ (s : Stations). AreReady g.B.Disk s.parties.items c.args.disks.now) (sym c.count_event.ensures.same)
    c.requires.clients

pub returns-clause-plays : goal.returns-clause-plays
returns-clause-plays g c =
    if_ok c.go.result _ _ c.go.ensures.goes
    (λ later goes world playing can allowed.
    plays_event g.B.Disk (cuts_by g.B.CutDisk.restarts g.B.CutDisk.arming g.B.CutDisk.plain g.B.CutDisk.is_starved)
    world (event_value c.args.event.now) (bench_of c.args.self.now c.args.server c.args.disk.now c.args.disks.now)
    (bench_of c.go.new.self later c.go.new.disk c.go.new.disks) c.count_event.new.self playing c.count_event.ensures
    (λ bench moment. goes world bench can moment allowed))
