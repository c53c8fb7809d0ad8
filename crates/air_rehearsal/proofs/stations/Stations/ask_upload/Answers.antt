use Rattle.std.proofs.Common.{refl, sym, ◌∙◌, arith}
use Rattle.air_rehearsal.proofs.Names.{cuts_by, clients_of}
use Rattle.air_rehearsal.proofs.PlayApart.{asks_upload}
use Rattle.air_rehearsal.proofs.PlayParts.{number_at}
use Rattle.air_rehearsal.proofs.stations.Stations.ask_upload.Goals as goal

pub returns-clause-goes : goal.returns-clause-goes
returns-clause-goes g c =
    asks_upload g.B.Disk
    (cuts_by g.B.CutDisk.restarts g.B.CutDisk.arming g.B.CutDisk.plain g.B.CutDisk.is_starved) c.sound_law.ensures
    g.met.B.Disk.content_is_image g.met.B.Disk.counts_now (clients_of c.args.self.now c.args.disks.now)
    (clients_of c.take_part.new.self c.take_part.new.disks) _ c.args.client c.in-Some-Ok.client c.args.octets
    c.in-Some-Ok.upload c.in_ok-file.file
    (number_at c.args.client c.in-Some-Ok.client (sym c.place_of.ensures ∙ c.in-Some-Ok.is-0))
    (omega (arith, c.in-Some-Ok.ensures'.1, c.len.ensures)) c.in_ok-file.ensures c.in_ok-take_part.ensures.took refl
    c.in_ok-push.ensures.items
