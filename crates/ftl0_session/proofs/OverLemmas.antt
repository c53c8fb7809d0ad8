-- A session over events, and others after them.
use Rattle.std.proofs.Common.{List, [], ◌∷◌, ◌++◌, refl, ap, sym, ◌∙◌, append_assoc}
use Rattle.ftl0_session.specs.Run.{Event as MetEvent}
use Rattle.ftl0_session.specs.RunLaws.{ComesTo, RunsLaw}
use Rattle.ftl0_session.proofs.Names.{CallSign, PacketValue, CallerList, Command, after_all, Store, RunsOver, event_row, session_over, Row, State}
use Rattle.ftl0_session.proofs.RunLemmas.{commands}

-- each event was reached, after the earlier ones
comes-to :
    (caller : CallSign) (store : Store) (lists : List CallerList) (state : State) (earlier : List MetEvent) (next : MetEvent) (later : List MetEvent) (said : List PacketValue) (commands : List Command)
    (now : Store) (lists_n : List CallerList) (last : State)
    → RunsOver caller (session_over store lists state) (earlier ++ next ∷ later) said commands (session_over now lists_n last) → ComesTo caller store lists state earlier next commands
comes-to caller store lists state [] next later said commands now lists_n last h = record {
  said = [];
  before = [];
  store_then = store;
  lists_then = lists;
  state_then = state;
  runs = (refl, refl, refl, refl, refl);
  others = h.4;
  commands_are = h.8 ∙ ap (λ (row : Row). row.commands ++ h.4) (sym h.5);
}
comes-to caller store lists state (e ∷ earlier) next later said commands now lists_n last h =
    let on = comes-to caller (after_all store h.0.commands) h.0.lists h.2 earlier next later h.3 h.4 now lists_n last h.9 in
    record {
      said = h.0.replies ++ (h.1 ++ on.said);
      before = h.0.commands ++ on.before;
      store_then = on.store_then;
      lists_then = on.lists_then;
      state_then = on.state_then;
      runs = (h.0, h.1, h.2, on.said, on.before, h.5, h.6, refl, refl, on.runs);
      others = on.others;
      commands_are =
          h.8 ∙ ap (λ (cs : List Command). h.0.commands ++ cs) on.commands_are
          ∙ sym (append_assoc h.0.commands on.before ((event_row caller on.store_then on.lists_then on.state_then next).commands ++ on.others));
    }

module _ (caller : CallSign) where
  -- events and then others
  pub runs-trans :
      (store : Store) (lists : List CallerList) (state : State) (events : List MetEvent) (said : List PacketValue) (commands : List Command) (mid : Store) (lists_m : List CallerList) (between : State)
      (others : List MetEvent) (more : List PacketValue) (further : List Command) (now : Store) (lists_n : List CallerList) (next : State)
      → RunsOver caller (session_over store lists state) events said commands (session_over mid lists_m between) → RunsOver caller (session_over mid lists_m between) others more further (session_over now lists_n next)
      → RunsOver caller (session_over store lists state) (events ++ others) (said ++ more) (commands ++ further) (session_over now lists_n next)
  runs-trans store lists state [] said commands mid lists_m between others more further now lists_n next h k = rw (h.0, h.1, sym h.2, sym h.3, sym h.4) k
  runs-trans store lists state (e ∷ events) said commands mid lists_m between others more further now lists_n next h k = (
    h.0,
    h.1,
    h.2,
    h.3 ++ more,
    h.4 ++ further,
    h.5,
    h.6,
    ap (λ s. s ++ more) h.7 ∙ append_assoc h.0.replies (h.1 ++ h.3) more ∙ ap (λ s. h.0.replies ++ s) (append_assoc h.1 h.3 more),
    ap (λ c. c ++ further) h.8 ∙ append_assoc h.0.commands h.4 further,
    runs-trans (after_all store h.0.commands) h.0.lists h.2 events h.3 h.4 mid lists_m between others more further now lists_n next h.9 k,
  )

pub runs : RunsLaw
runs = record { store = commands; comes_to = comes-to }
