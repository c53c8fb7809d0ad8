-- A packet that is found is answered, and the loop stops when that stops.
use Rattle.std.proofs.Common.{◌≡◌, ◌++◌, ℕ, List, Err, rules, sym, subst}
use Rattle.ftl0_client.proofs.Names.{Result, ⊤, Kept, read_item, under_way, octets_in, Halt, working, TakesOctetsBy}
use Rattle.ftl0_client.proofs.attempt.FeedLemmas.{taking-next, taking-start, taking-stops}
use Rattle.ftl0_client.proofs.attempt.Invariants.{IsTaking}
use Rattle.ftl0_client.proofs.attempt.attempt.take_packets.Goals as goal

pub loop-left-init : goal.loop-left-init
loop-left-init g c =
    taking-start g.D.Disk (octets_in c.args.link.now ++ c.args.octets.now) (working c.args.link.now.link c.args.job.now c.args.notes.now c.args.disk.now) (g.met.D.Disk.lasts_same c.args.disk.now) c.requires

pub returns-in_err-answer-clause-takes : goal.returns-in_err-answer-clause-takes
returns-in_err-answer-clause-takes g c =
    let all = octets_in c.args.link.now ++ c.args.octets.now in
    let before = working c.args.link.now.link c.args.job.now c.args.notes.now c.args.disk.now in
    let now = working c.answer.new.link.link c.answer.new.job c.answer.new.notes c.answer.new.disk in
    let why = c.in_err-answer.field-0.0 in
    let stops : c.from_residual.result ≡ Err why = search rules in
    let mid = working c.next_packet.new.self.link c.loop-left.job c.loop-left.notes c.loop-left.disk in
    let P : Kept → Type 0 =
    λ k. IsTaking g.D.Disk all (octets_in c.loop-left.link ++ c.loop-left.piece.now) before (working k c.loop-left.job c.loop-left.notes c.loop-left.disk) in
    subst (λ (r : Result ⊤ Halt). TakesOctetsBy g.D.Disk all (octets_in c.answer.new.link) before now r) (sym stops)
    (taking-stops g.D.Disk g.met.D.Disk.lasts_on all (octets_in c.loop-left.link ++ c.loop-left.piece.now) (octets_in c.next_packet.new.self ++ c.in-Some.left.now) before mid now
    (read_item c.next_packet.new.self.reader) (subst P (sym c.in-Some.ensures.link) c.loop-left.invariant) c.in-Some.ensures.found.front why c.in_err-answer.ensures.answers)

pub loop-left-preserved : goal.loop-left-preserved
loop-left-preserved g c =
    let all = octets_in c.args.link.now ++ c.args.octets.now in
    let before = working c.args.link.now.link c.args.job.now c.args.notes.now c.args.disk.now in
    let now = working c.answer.new.link.link c.answer.new.job c.answer.new.notes c.answer.new.disk in
    let mid = working c.next_packet.new.self.link c.loop-left.job c.loop-left.notes c.loop-left.disk in
    let P : Kept → Type 0 =
    λ k. IsTaking g.D.Disk all (octets_in c.loop-left.link ++ c.loop-left.piece.now) before (working k c.loop-left.job c.loop-left.notes c.loop-left.disk) in
    subst (λ (reader : List ℕ). IsTaking g.D.Disk all (under_way reader ++ c.in-Some.left.now) before now) (sym c.answer.ensures.reader)
    (taking-next g.D.Disk g.met.D.Disk.lasts_on all (octets_in c.loop-left.link ++ c.loop-left.piece.now) (octets_in c.next_packet.new.self ++ c.in-Some.left.now) before mid now
    (read_item c.next_packet.new.self.reader) (subst P (sym c.in-Some.ensures.link) c.loop-left.invariant) c.in-Some.ensures.found.front c.in_ok-answer.ensures.answers c.in_ok-answer.ensures.up
    c.in_ok-answer.ensures.fit)
