-- A server over events, and others after them; and its store is the one after its commands.
use Rattle.std.proofs.Common.{◌≡◌, ℕ, ◌+◌, List, [], ◌∷◌, ◌++◌, refl, ap, sym, ◌∙◌, append_assoc, arith, rules}
use Rattle.ftl0_server.specs.Serving.{ServerComesTo, ServesLaw, ServesOver, TakesEvent}
use Rattle.ftl0_server.proofs.Names.{common_steps, add_assoc, zero-add, FrameValue, Command, after_all, Store, after_all-append, NodeEvent, failed_reads, Server, happening}
use Rattle.ftl0_server.proofs.HappeningLemmas.{empties_store, happening_store}

-- one event
pub serves-one : (server : Server) (event : NodeEvent) (done : List Command) (sent : List FrameValue) (told : ℕ) (next : Server)
    → TakesEvent server event sent done told next → ServesOver server (event ∷ []) sent done told next
serves-one server event done sent told next taken = grind (arith, common_steps)

-- events and then others
pub serves-append :
    (server : Server) (events : List NodeEvent) (frames : List FrameValue) (commands : List Command) (missed : ℕ) (mid : Server) (others : List NodeEvent) (more : List FrameValue) (further : List Command)
    (other : ℕ) (now : Server) → ServesOver server events frames commands missed mid → ServesOver mid others more further other now
    → ServesOver server (events ++ others) (frames ++ more) (commands ++ further) (missed + other) now
serves-append server [] frames commands missed mid others more further other now h k = search (rules, arith, zero-add)
serves-append server (e ∷ events) frames commands missed mid others more further other now h k = (
  h.0,
  h.1,
  h.2,
  h.3,
  h.4 ++ further,
  h.5 ++ more,
  h.6 + other,
  h.7,
  ap (λ (fs : List FrameValue). fs ++ more) h.8 ∙ append_assoc h.1 h.5 more,
  ap (λ (cs : List Command). cs ++ further) h.9 ∙ append_assoc h.0 h.4 further,
  ap (λ (n : ℕ). n + other) h.10 ∙ add_assoc h.2 h.6 other,
  serves-append h.3 events h.5 h.4 h.6 mid others more further other now h.11 k,
)

-- the store that it ends with
serves_store : (server : Server) (events : List NodeEvent) (frames : List FrameValue) (commands : List Command) (missed : ℕ) (now : Server) → ServesOver server events frames commands missed now
    → now.store ≡ after_all server.store commands
serves_store server [] frames commands missed now h = rw (h.1, h.3) refl
serves_store server (e ∷ events) frames commands missed now h =
    let step = h.7.step in
    let next : h.3.store ≡ after_all server.store h.0 =
    ap (λ (s : Server). s.store) step.new_is ∙ empties_store _ h.1 step.last step.sent ∙ happening_store server e (failed_reads h.7.parts) ∙ ap (after_all server.store) (sym step.done_is) in
    serves_store h.3 events h.5 h.4 h.6 now h.11 ∙ ap (λ (s : Store). after_all s h.4) next ∙ sym (after_all-append h.0 h.4 server.store) ∙ ap (after_all server.store) (sym h.9)

comes_to : (server : Server) (earlier : List NodeEvent) (next : NodeEvent) (later : List NodeEvent) (frames : List FrameValue) (commands : List Command) (missed : ℕ) (now : Server)
    → ServesOver server (earlier ++ next ∷ later) frames commands missed now → ServerComesTo server earlier next commands
comes_to server [] next later frames commands missed now h = record {
  frames = [];
  before = [];
  missed = 0;
  server_then = server;
  serves = (refl, refl, refl, refl);
  parts = h.7.parts;
  others = h.4;
  commands_are = h.9 ∙ ap (λ (cs : List Command). cs ++ h.4) h.7.step.done_is;
}
comes_to server (e ∷ earlier) next later frames commands missed now h =
    let on = comes_to h.3 earlier next later h.5 h.4 h.6 now h.11 in
    record {
      frames = h.1 ++ on.frames;
      before = h.0 ++ on.before;
      missed = h.2 + on.missed;
      server_then = on.server_then;
      serves = (h.0, h.1, h.2, h.3, on.before, on.frames, on.missed, h.7, refl, refl, refl, on.serves);
      parts = on.parts;
      others = on.others;
      commands_are =
          h.9 ∙ ap (λ (cs : List Command). h.0 ++ cs) on.commands_are
          ∙ sym (append_assoc h.0 on.before ((happening on.server_then next (failed_reads on.parts)).done ++ on.others));
    }

pub serves : ServesLaw
serves = record { store = serves_store; comes_to = comes_to }
