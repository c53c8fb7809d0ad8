use Rattle.std.proofs.Common.{refl, ap, ◌∙◌, subst, arith, Bool, Option, Some, slice_index_or}
use Rattle.air_rehearsal.proofs.Names.{cuts_by, is_under_way, outcome_by, Outcome, TellsThen, asked_more, cut_more, outcome_more, clients_of}
use Rattle.air_rehearsal.proofs.PlayParts.{counts_busy, counts_free, images_there, is_free_so, not_free_so, took_part}
use Rattle.air_rehearsal.proofs.ReadyLemmas.{read_at, ready_after}
use Rattle.air_rehearsal.proofs.stations.Stations.take_part.Goals as goal

pub take_part-requires-clause-ready : goal.take_part-requires-clause-ready
take_part-requires-clause-ready g c =
    c.requires c.args.c c.index_mut-party.result.now _
    (read_at c.args.self.now.parties.items c.args.c c.index_mut-party.result.now
    (omega (arith, c.len.ensures, c.if-c-len.false)) c.index_mut-party.ensures.value)
    (read_at c.args.disks.now c.args.c c.index-disks-c.result c.if-c-disks.false c.index-disks-c.is
    ∙ ap Some c.index-disks-c.is)

pub returns-then-not-was_free-clause-clients : goal.returns-then-not-was_free-clause-clients
returns-then-not-was_free-clause-clients g c =
    ready_after g.B.Disk c.args.self.now.parties.items c.args.disks.now c.requires c.args.c c.take_part.new.self
    c.take_part.new.disk c.in_ok-take_part.ensures.ready

pub returns-then-not-was_free-clause-took : goal.returns-then-not-was_free-clause-took
returns-then-not-was_free-clause-took g c =
    took_part g.B.Disk
    (cuts_by g.B.CutDisk.restarts g.B.CutDisk.arming g.B.CutDisk.plain g.B.CutDisk.is_starved)
    (clients_of c.args.self.now c.args.disks.now) _ c.args.c c.index_mut-party.result.now c.take_part.new.self
    (slice_index_or c.args.disks.now c.args.c c.index-disks-c.result) c.take_part.new.disk c.args.part
    c.count_asked.new.self c.count_cut.new.self
    (read_at c.args.self.now.parties.items c.args.c c.index_mut-party.result.now
    (omega (arith, c.len.ensures, c.if-c-len.false)) c.index_mut-party.ensures.value)
    (read_at c.args.disks.now c.args.c c.index-disks-c.result c.if-c-disks.false c.index-disks-c.is
    ∙ ap Some c.index-disks-c.is)
    refl refl refl c.in_ok-take_part.ensures.takes
    (images_there g.B.Disk c.args.disks.now c.args.c c.take_part.new.disk c.index-disks-c-2.result c.notes.result.now
    c.take_part.new.self.client.notes c.if-c-disks.false c.notes.ensures c.images_law.ensures)
    (subst (λ (b : Bool). TellsThen (asked_more b) c.args.self.now.report c.count_asked.new.self) c.asks.ensures
    c.count_asked.ensures)
    (subst (λ (b : Bool). TellsThen (cut_more b) c.count_asked.new.self c.count_cut.new.self) c.is_some.ensures
    c.count_cut.ensures)
    (λ seat next is_seat is_client.
    counts_busy (is_under_way seat.party.client.attempt) (outcome_by next.attempt) c.count_cut.new.self
    c.count_outcome.new.self
    (not_free_so c.is_free-was_free.result c.if-not-was_free.true (c.is_free-was_free.ensures.party seat is_seat))
    (subst (λ (o : Option Outcome). TellsThen (outcome_more o) c.count_cut.new.self c.count_outcome.new.self)
    (c.outcome.ensures next is_client) c.count_outcome.ensures))

pub returns-else-not-was_free-clause-clients : goal.returns-else-not-was_free-clause-clients
returns-else-not-was_free-clause-clients g c =
    ready_after g.B.Disk c.args.self.now.parties.items c.args.disks.now c.requires c.args.c c.take_part.new.self
    c.take_part.new.disk c.in_ok-take_part.ensures.ready

pub returns-else-not-was_free-clause-took : goal.returns-else-not-was_free-clause-took
returns-else-not-was_free-clause-took g c =
    took_part g.B.Disk
    (cuts_by g.B.CutDisk.restarts g.B.CutDisk.arming g.B.CutDisk.plain g.B.CutDisk.is_starved)
    (clients_of c.args.self.now c.args.disks.now) _ c.args.c c.index_mut-party.result.now c.take_part.new.self
    (slice_index_or c.args.disks.now c.args.c c.index-disks-c.result) c.take_part.new.disk c.args.part
    c.count_asked.new.self c.count_cut.new.self
    (read_at c.args.self.now.parties.items c.args.c c.index_mut-party.result.now
    (omega (arith, c.len.ensures, c.if-c-len.false)) c.index_mut-party.ensures.value)
    (read_at c.args.disks.now c.args.c c.index-disks-c.result c.if-c-disks.false c.index-disks-c.is
    ∙ ap Some c.index-disks-c.is)
    refl refl refl c.in_ok-take_part.ensures.takes
    (images_there g.B.Disk c.args.disks.now c.args.c c.take_part.new.disk c.index-disks-c-2.result c.notes.result.now
    c.take_part.new.self.client.notes c.if-c-disks.false c.notes.ensures c.images_law.ensures)
    (subst (λ (b : Bool). TellsThen (asked_more b) c.args.self.now.report c.count_asked.new.self) c.asks.ensures
    c.count_asked.ensures)
    (subst (λ (b : Bool). TellsThen (cut_more b) c.count_asked.new.self c.count_cut.new.self) c.is_some.ensures
    c.count_cut.ensures)
    (λ seat next is_seat is_client.
    counts_free (is_under_way seat.party.client.attempt) (outcome_by next.attempt) c.count_cut.new.self
    (is_free_so c.is_free-was_free.result c.if-not-was_free.false
    (c.is_free-was_free.ensures.party seat is_seat)))
