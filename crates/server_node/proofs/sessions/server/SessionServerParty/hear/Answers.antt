-- A whole packet is taken, and less than one waits.
use Rattle.std.proofs.Common.{ap, sym, ◌∙◌}
use Rattle.disk_model.proofs.Writes.{octets_from_fits}
use Rattle.disk_model.specs.declared.halt.Halt.TheVariants as halt
use Rattle.ftl0_packets.specs.Values.{item_of}
use Rattle.server_node.proofs.Names.{IsOctets-append, IsOctets-take, ServerState, caller_of, octets_under_way, under-way-less, under_way, working}
use Rattle.server_node.proofs.sessions.CourseLemmas.{owes-last, owes-more, owes-taken}
use Rattle.server_node.proofs.sessions.server.SessionServerParty.hear.Goals as goal

pub invariant_of-self-in_default : goal.invariant_of-self-in_default
invariant_of-self-in_default g c =
    let i = c.self.invariant in
    let fed = c.feed-taken.ensures in
    let piece_are = IsOctets-take c.feed-taken.result.0 c.args.piece.now (octets_from_fits c.args.piece.now c.type_inv.piece) in
    let are = octets_under_way c.feed-taken.new.self (rw fed.octets (IsOctets-append (under_way c.self.inside.reader) _ i.waiting.are_octets piece_are)) in
    record { held = i.held; only = i.only; due = i.due; complete = i.complete; waiting = record { none = fed.none; left = fed.left; are_octets = are } }

pub returns-in_default-clause-takes : goal.returns-in_default-clause-takes
returns-in_default-clause-takes g c =
    let piece = c.args.piece.now in
    let fed = c.feed-taken.ensures in
    rw (sym c.self.view_is) (owes-more g.D.Disk g.met.D.Disk.lasts_same g.met.D.Disk.lasts_on c.args.moment c.self.inside c.args.disk.now (rw c.self.view_is c.requires.fit) c.self.invariant
    piece (octets_from_fits piece c.type_inv.piece) c.feed-taken.result.0 c.feed-taken.new.self fed.octets (fed.partial.0 c.in_default.is)
    (under-way-less c.feed-taken.new.self (λ whole. c.in_default.not-Whole (fed.readable.1 whole))))

pub returns-in_default-answer-clause-takes : goal.returns-in_default-answer-clause-takes
returns-in_default-answer-clause-takes g c =
    let piece = c.args.piece.now in
    let new = c.take-answer.new in
    let now = working new.self new.store new.lists in
    rw (sym c.self.view_is) (owes-taken g.D.Disk g.met.D.Disk.lasts_same g.met.D.Disk.lasts_on c.args.moment c.self.inside c.args.disk.now (rw c.self.view_is c.requires.fit) c.self.invariant
    piece (octets_from_fits piece c.type_inv.piece) c.feed-taken.result.0 c.feed-taken.new.self c.feed-taken.ensures.octets (item_of c.packet.result) c.packet.ensures.text (c.feed-taken.ensures.readable.0 c.in-Whole.is)
    now new.disk new.replies.items (caller_of new.self) c.self.inside.halted c.take-answer.ensures.caller (ap (λ (s : ServerState). s.halted) c.self.view_is ∙ c.requires.fit.goes_on)
    (record { healthy = c.take-answer.ensures.healthy (λ e. let no = rw c.in_default-answer.is at e in cc no); stands_on = c.take-answer.ensures.stands_on })
    (rw c.in_default-answer.is at c.take-answer.ensures.takes))

pub returns-in-Err-clause-halts : goal.returns-in-Err-clause-halts
returns-in-Err-clause-halts g c =
    let piece = c.args.piece.now in
    let taken = c.feed-taken.result.0 in
    let new = c.take-answer.new in
    let now = working new.self new.store new.lists in
    let owes = owes-last g.D.Disk g.met.D.Disk.lasts_same g.met.D.Disk.lasts_on c.args.moment c.self.inside c.args.disk.now (rw c.self.view_is c.requires.fit) c.self.invariant
    piece (octets_from_fits piece c.type_inv.piece) taken c.feed-taken.new.self c.feed-taken.ensures.octets (item_of c.packet.result) c.packet.ensures.text (c.feed-taken.ensures.readable.0 c.in-Whole.is)
    now new.disk new.replies.items (caller_of new.self) c.in-Err.fault
    (rw c.in-Err.is at c.take-answer.ensures.takes) in
    (taken, c.feed-taken.ensures.progress c.requires.some, c.feed-taken.ensures.taken, (halt.Disk, c.from.ensures, rw (sym c.self.view_is) owes))
