-- What is due was queued, or it is as it was.
use Rattle.std.proofs.Common.{◌≡◌, inl, inr, ◌<◌, ◌≤◌, ℕ, length, ap, sym, ◌∙◌, subst, arith}
use Rattle.ftl0_server.proofs.Names.{common_steps, Kept, room_of, packet_text, puts-among-reads, StoreState, state_in, due-among, due-none, AreFree, enough_free, stations-same}
use Rattle.ftl0_server.proofs.connection.DueLemmas.{known-or, none-due}
use Rattle.ftl0_server.proofs.connection.connection.Connection.queue_next.Goals as goal

pub returns-then-not-fill-clause-next : goal.returns-then-not-fill-clause-next
returns-then-not-fill-clause-next g c = record {
  queues = λ seen. elim seen [ inl known ↦ grind (arith, common_steps, due-none) | inr none ↦ grind (arith, common_steps, none-due) ];
  fewer = λ queued. absurd (cc queued);
}

pub returns-clause-next : goal.returns-clause-next
returns-clause-next g c =
    let a = c.self.inside in
    let room : enough_free ≤ room_of a.link.link.queue = c.has_room.ensures.enough c.if-not-has_room.false in
    let enough : AreFree a.link.link (λ free. enough_free ≤ free) = λ w end stands. subst (λ (n : ℕ). enough_free ≤ n) (ap (λ (k : Kept). room_of k.queue) stands.kept) room in
    let some : 0 < length c.deref.result.now = rw c.deref.ensures.0 (c.fill.ensures.some c.if-not-fill.false) in
    rw (sym c.self.view_is) (record {
      queues = λ seen.
          let known = known-or (c.fill.ensures.due) (c.if-not-fill.false) seen in
          let sent = due-among g.D.Disk c.args.store.now _ _ _ _ _ _ (g.met.D.Disk.lasts_same c.args.disk.now) c.if-not-fill.ensures.puts c.requires.may.ready known in
          let text : c.deref.result.now ≡ packet_text sent.next.packet = c.deref.ensures.0 ∙ sent.text_is in
          record {
            fails = c.if-not-fill.ensures.puts.fails;
            due = sent.next;
            is_due = sent.is_next;
            enough = enough;
            queued = rw text at c.push.ensures.after;
            state = ap (λ (s : StoreState). state_in s c.fill.new.self) (sym c.fill.ensures.store) ∙ sent.state_is;
            reads = sent.does;
          };
      fewer = λ queued. c.push.ensures.fewer some (omega (arith, room));
    })

pub returns-then-not-fill-clause-keeps : goal.returns-then-not-fill-clause-keeps
returns-then-not-fill-clause-keeps g c = grind (arith, common_steps, puts-among-reads, stations-same, g.met.D.Disk.lasts_same c.args.disk.now)

pub returns-clause-keeps : goal.returns-clause-keeps
returns-clause-keeps g c = grind (arith, common_steps, puts-among-reads, g.met.D.Disk.lasts_same c.args.disk.now)
