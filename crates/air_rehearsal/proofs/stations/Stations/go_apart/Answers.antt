use Rattle.std.proofs.Common.{refl, sym, subst, Some}
use Rattle.air_schedule.specs.declared.event.Event.{Event as StoredEvent}
use Rattle.air_rehearsal.proofs.Names.{cuts_by, event_value, GoesApart, clients_of, Cut, Stations}
use Rattle.air_rehearsal.proofs.PlayApart.{notes_server_cut}
use Rattle.air_rehearsal.proofs.stations.Stations.go_apart.Goals as goal

pub returns-in-CutServer-clause-goes : goal.returns-in-CutServer-clause-goes
returns-in-CutServer-clause-goes g c =
    let cut : Cut = record { call = c.in-CutServer.call; choice = c.in-CutServer.choice } in
    let then : Stations = record c.args.self.now { cut = Some cut } in
    subst
    (λ (e : StoredEvent).
    GoesApart g.B.Disk (cuts_by g.B.CutDisk.restarts g.B.CutDisk.arming g.B.CutDisk.plain g.B.CutDisk.is_starved)
    (event_value e) (clients_of c.args.self.now c.args.disks.now) (clients_of then c.args.disks.now))
    (sym c.in-CutServer.is)
    (notes_server_cut g.B.Disk
    (cuts_by g.B.CutDisk.restarts g.B.CutDisk.arming g.B.CutDisk.plain g.B.CutDisk.is_starved) c.sound_law.ensures
    g.met.B.Disk.content_is_image g.met.B.Disk.counts_now (clients_of c.args.self.now c.args.disks.now) then cut refl)
