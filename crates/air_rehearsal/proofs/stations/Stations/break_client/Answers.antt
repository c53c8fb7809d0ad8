use Rattle.std.proofs.Common.{refl, sym, ap, ◌∙◌, arith, Some, slice_index_or}
use Rattle.air_rehearsal.proofs.Names.{cuts_by, clients_of}
use Rattle.air_rehearsal.proofs.PlayApart.{breaks_client}
use Rattle.air_rehearsal.proofs.PlayParts.{images_there, number_at}
use Rattle.air_rehearsal.proofs.ReadyLemmas.{read_at, ready_after}
use Rattle.air_rehearsal.proofs.stations.Stations.break_client.Goals as goal

pub break_off-requires : goal.break_off-requires
break_off-requires g c =
    c.requires c.in-Some.c c.index_mut-party.result.now _
    (read_at c.args.self.now.parties.items c.in-Some.c c.index_mut-party.result.now
    (omega (arith, c.len.ensures, c.if-c-len.false)) c.index_mut-party.ensures.value)
    (read_at c.args.disks.now c.in-Some.c c.index-disks-c.result c.if-c-disks.false c.index-disks-c.is
    ∙ ap Some c.index-disks-c.is)

pub returns-clause-clients : goal.returns-clause-clients
returns-clause-clients g c =
    ready_after g.B.Disk c.args.self.now.parties.items c.args.disks.now c.requires c.in-Some.c c.break_off.new.self
    c.break_off.new.disk c.in_ok-break_off.ensures.ready

pub returns-clause-goes : goal.returns-clause-goes
returns-clause-goes g c =
    breaks_client g.B.Disk
    (cuts_by g.B.CutDisk.restarts g.B.CutDisk.arming g.B.CutDisk.plain g.B.CutDisk.is_starved) c.sound_law.ensures
    g.met.B.Disk.content_is_image g.met.B.Disk.counts_now (clients_of c.args.self.now c.args.disks.now) _ c.args.client
    c.in-Some.c c.index_mut-party.result.now c.break_off.new.self
    (slice_index_or c.args.disks.now c.in-Some.c c.index-disks-c.result) c.break_off.new.disk
    (number_at c.args.client c.in-Some.c (sym c.place_of.ensures ∙ c.in-Some.is))
    (read_at c.args.self.now.parties.items c.in-Some.c c.index_mut-party.result.now
    (omega (arith, c.len.ensures, c.if-c-len.false)) c.index_mut-party.ensures.value)
    (read_at c.args.disks.now c.in-Some.c c.index-disks-c.result c.if-c-disks.false c.index-disks-c.is
    ∙ ap Some c.index-disks-c.is)
    refl refl refl refl c.in_ok-break_off.ensures.breaks
    (images_there g.B.Disk c.args.disks.now c.in-Some.c c.break_off.new.disk c.index-disks-c-2.result
    c.notes.result.now c.break_off.new.self.client.notes c.if-c-disks.false c.notes.ensures c.images_law.ensures)
