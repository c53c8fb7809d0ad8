-- The frame is heard at the place of its sender's connection.
use Rattle.std.proofs.Common.{◌⊎◌, inl, inr, set, refl, ap, subst, sym, ◌∙◌}
use Rattle.ftl0_server.proofs.Names.{slice_get-get_or, value_of, is_there, IsKnown, store_on, NodeEvent, hears, IsPlace, Hears, Place, server_state, Server, IsServer, ServerState, any_pending, has_caller, LooksAtNoFile, happening, connected}
use Rattle.ftl0_server.proofs.HearLemmas.{found-at, found-talks, found-within, may-hear, server-hears}
use Rattle.ftl0_server.proofs.NextLemmas.{none_first}
use Rattle.ftl0_server.proofs.SettledLemmas.{settled-works}
use Rattle.ftl0_server.proofs.server.Server.hear_at.Goals as goal

pub hear-requires-clause-may : goal.hear-requires-clause-may
hear-requires-clause-may g c =
    let found = rw (sym c.self.view_is) at c.requires.place in
    let none = (none_first (is_there c.self.inside.stray) (any_pending c.self.inside.places) (rw (sym c.self.view_is) at c.requires.awaits.awaits.silent)).1 in
    may-hear c.self.inside.me c.self.inside.k c.self.inside.store c.self.inside.places c.args.place c.index-places-place.result (value_of c.args.frame.now) found c.self.invariant.settled none
    (record { dest = c.requires.awaits.is_for.dest ∙ sym (ap (λ (s : ServerState). s.me) c.self.view_is); via = c.requires.awaits.is_for.via }) c.requires.awaits.numbers

pub invariant_of-self : goal.invariant_of-self
invariant_of-self g c =
    let found = rw (sym c.self.view_is) at c.requires.place in
    let within = found-within (has_caller (value_of c.args.frame.now).src) c.self.inside.places c.args.place found in
    let at = slice_get-get_or c.self.inside.places c.args.place c.index-places-place.result within in
    record {
      settled = settled-works c.self.inside.me c.self.inside.k c.self.inside.store c.hear.new.store c.self.inside.places c.args.place _ c.hear.new.self at c.self.invariant.settled
          c.hear.ensures.works c.hear.ensures.keeps.kept (λ fine. (rw (sym c.self.view_is) at c.requires.awaits.awaits.ready.healthy));
      complete = c.hear.ensures.complete;
    }

pub returns : goal.returns
returns g c =
    let old : ServerState = server_state c.self.inside in
    let new : ServerState = record old { places = set c.self.inside.places c.args.place c.hear.new.self; store = c.hear.new.store; lists = c.hear.new.lists } in
    let frame = value_of c.args.frame.now in
    let event : NodeEvent = hears frame c.args.moment in
    let found = rw (sym c.self.view_is) at c.requires.place in
    let talks = found-talks frame.src c.self.inside.places c.args.place c.index-places-place.result found in
    let at = found-at frame.src c.self.inside.places c.args.place c.index-places-place.result talks.0 found talks.1 in
    let heard : (server : Server) → IsServer (store_on g.D.Disk old.store c.args.disk.now) old server → IsKnown g.D.Disk c.args.disk.now ⊎ LooksAtNoFile server event
    → Hears g.D.Disk (happening server event) old new c.args.disk.now c.hear.new.disk c.hear.result =
    λ server is seen.
    server-hears g.D.Disk old new server c.args.disk.now c.hear.new.disk is c.self.invariant.settled frame c.args.moment c.args.place found talks.0 at c.hear.new.self
    (rw talks.1 at c.hear.ensures.works) refl refl refl refl c.hear.result seen
    (λ d at_d seen_d. c.hear.ensures.hears server.window d (subst (λ (p : Place). IsPlace server.window c.self.inside.store p (connected d)) (sym talks.1) at_d) seen_d) in
    record {
      hears = λ known server is. rw (sym c.self.view_is) (heard server (rw (sym c.self.view_is) at is) (inl known));
      alone = λ server is looks. rw (sym c.self.view_is) (heard server (rw (sym c.self.view_is) at is) (inr looks));
      keeps = rw (sym c.self.view_is) c.hear.ensures.keeps;
      me = ap (λ (s : ServerState). s.me) c.self.view_is;
    }
