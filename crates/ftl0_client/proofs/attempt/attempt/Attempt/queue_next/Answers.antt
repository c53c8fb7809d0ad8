-- What is due was queued.
use Rattle.std.proofs.Common.{◌≡◌, ◌≤◌, List, ℕ, ◌∙◌, subst, arith}
use Rattle.ftl0_client.proofs.Names.{after_push, StandsFor, room_of, packet_text, enough_free, packet-some, next_due, AttemptState, QueuesPacket, attempt_state}
use Rattle.ftl0_client.proofs.attempt.SettlingLemmas.{due-put}
use Rattle.ftl0_client.proofs.attempt.attempt.Attempt.queue_next.Goals as goal

pub returns-clause-next : goal.returns-clause-next
returns-clause-next c =
    let a = c.self.inside in
    let now = attempt_state (record { link = c.push.new.self; job = c.fill.new.self; down = a.down }) in
    let sent = due-put (next_due a.job) a.job c.fill.new.self c.new-packet.result.items c.fill.new.out.items c.if-not-fill.ensures.puts in
    let enough : enough_free ≤ room_of a.link.link.queue = c.has_room.ensures.enough c.if-not-has_room.false in
    let text : c.deref.result.now ≡ packet_text sent.0.packet = c.deref.ensures.0 ∙ sent.3 in
    subst (λ (s : AttemptState). QueuesPacket s now) c.self.view_is (record {
      due = sent.0;
      is_due = sent.1;
      enough = enough;
      queued = λ w end stands. subst (λ (t : List ℕ). StandsFor w c.push.new.self.link (after_push end t)) text (c.push.ensures.after w end stands);
      job = sent.2;
      fewer = c.push.ensures.fewer (rw text (packet-some sent.0.packet)) (omega (arith, enough));
    })
