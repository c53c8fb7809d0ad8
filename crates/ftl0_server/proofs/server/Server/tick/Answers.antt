-- A tick came at each place, and the disk stays.
use Rattle.std.proofs.Common.{refl, subst, sym, [], arith, ap}
use Rattle.ftl0_server.proofs.Names.{common_steps, in_parked, on_parked, stands_parked, store_on, Store, DoesAmongReads, AreComplete, NodeEvent, ticks, Ok, Hears, server_state, Server, happening, IsServer, ServerState}
use Rattle.ftl0_server.proofs.HearLemmas.{all-are}
use Rattle.ftl0_server.proofs.connection.HearLemmas.{nothing-done}
use Rattle.ftl0_server.proofs.StepLemmas.{server-ticked}
use Rattle.ftl0_server.proofs.server.Server.tick.Goals as goal

pub invariant_of-self : goal.invariant_of-self
invariant_of-self g c = record {
  settled = c.tick_all.ensures.settled c.self.inside.me c.self.inside.k c.self.invariant.settled;
  complete = subst (λ (s : Store). AreComplete s c.self.inside.lists) (sym (in_parked c.self.inside.store c.tick_all.new.store c.tick_all.ensures.store.entries)) c.self.invariant.complete;
}

pub returns-clause-ticks : goal.returns-clause-ticks
returns-clause-ticks g c = λ over server is.
    let was = rw (sym c.self.view_is) at is in
    let all = all-are over (server_state c.self.inside) server was in
    server-ticked over (server_state c.self.inside) server c.tick_all.new.places c.tick_all.new.store was (c.tick_all.ensures.ticks server.window server.slots all)

-- the entries and what they hold are as they were
pub returns-clause-store : goal.returns-clause-store
returns-clause-store g c = rw (sym c.self.view_is) (in_parked c.self.inside.store c.tick_all.new.store c.tick_all.ensures.store.entries)

pub returns-clause-on_disk : goal.returns-clause-on_disk
returns-clause-on_disk g c = rw (sym c.self.view_is) (on_parked g.D.Disk c.self.inside.store c.tick_all.new.store c.args._disk.now c.tick_all.ensures.store.entries)

pub returns-clause-takes : goal.returns-clause-takes
returns-clause-takes g c =
    let old : ServerState = server_state c.self.inside in
    let new : ServerState = record old { places = c.tick_all.new.places; store = c.tick_all.new.store } in
    let disk = c.args._disk.now in
    let ready = rw (sym c.self.view_is) at c.requires.ready in
    let does : DoesAmongReads g.D.Disk ⊥ 0 old.store new.store disk disk [] =
    nothing-done g.D.Disk old.store new.store disk ready (g.met.D.Disk.lasts_same disk) c.tick_all.ensures.store in
    let event : NodeEvent = ticks c.args._moment in
    let ticked : (server : Server) → IsServer (store_on g.D.Disk old.store disk) old server → Hears g.D.Disk (happening server event) old new disk disk (Ok tt) =
    λ server is.
    let here = returns-clause-ticks g c (store_on g.D.Disk c.args.self.now.store disk) server (rw (sym c.self.view_is) is) in
    record { parts = []; by = (refl, rw (sym (returns-clause-on_disk g c)) at here, does); since = does.since } in
    record {
      hears = λ known server is. rw (sym c.self.view_is) (ticked server (rw (sym c.self.view_is) at is));
      alone = λ server is looks. rw (sym c.self.view_is) (ticked server (rw (sym c.self.view_is) at is));
      keeps = record {
        puts = grind (arith, common_steps);
        kept = grind (arith, common_steps);
        healthy = grind (arith, common_steps);
        stands_on = stands_parked g.D.Disk c.self.inside.store c.tick_all.new.store c.args._disk.now c.tick_all.ensures.store.entries c.tick_all.ensures.store.journal
            (rw (sym c.self.view_is) at c.requires.ready).stands_on;
      };
      me = ap (λ (s : ServerState). s.me) c.self.view_is;
    }
