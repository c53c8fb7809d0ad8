-- A session by the turns of its node.
use Rattle.std.proofs.Common.{◌≡◌, ap, sym, ◌∙◌, subst, ◌⊎◌, inl, inr, ℕ, max, List, [], ◌∷◌, ◌++◌, length, Option, Some, Result, Err, refl, ap₂, append_assoc, append-nil, arith, None, IsErrOf}
use Rattle.px_base.proofs.Told.{Grows-trans}
use Rattle.turn_loop.specs.declared.stop.NodeStop.TheVariants as stop
use Rattle.server_node.specs.declared.terms.SessionTerms.{SessionTerms}
use Rattle.server_node.proofs.Names.{AreHandedOver, AtDisk, Brings, CallSign, Event, Finished, Ghosts, GoesOver, HaltsOver, HasAirCause, Input, IsButLast, IsGreeted, IsKnown, IsOctets, IsUngreeted, LentParty, MomentsFrom, MomentsOf, NodeStop, Run, Seen, Served, ServerState, Service, Session, SessionRan, Steps, StopsOn, Store, StoreState, TookTurns, Turn, TurnTerms, TurnsBy, at, brings-init, brings-more, brings-stream, common_steps, cuts-among-none, events_to, first_session, inputs_of, known_on, lent, login_text, new_server, nil_from_length, nothing_partial, octets_in, party_at, puts-among-same, served_by, session_course, session_service, session_steps, store_on, waiting_behind}
use Rattle.server_node.proofs.Ending.{Came, Recovers, Serves, Stopped, Taken, append-none, but_last, came-by, run_of, served}
use Rattle.server_node.proofs.StepsLemmas.{DidOnDisk, did-all, did-stop}
use Rattle.server_node.proofs.sessions.PacketLemmas.{both-octets, brings-of, events-then}
use Rattle.server_node.proofs.sessions.CourseLemmas.{are_steps}

-- the moments of turns of which the first one's was taken before: with it there is one at least
record FirstOf (given : Option ℕ) (before now : Option (List ℕ)) (first : ℕ) (moments : List ℕ) (count : ℕ) : Type 0 where
  later : List ℕ
  told : MomentsOf given before now later
  more : List ℕ
  are : first ∷ later ≡ moments ++ more
  one_each : length (first ∷ later) ≡ max 1 count

first-of : (given : Option ℕ) (before now : Option (List ℕ)) (first : ℕ) (moments : List ℕ) (count : ℕ) → MomentsFrom (Some first) given before now moments → length moments ≡ count
    → FirstOf given before now first moments count
first-of given before now first moments count (inl none) counted =
    record { later = []; told = none.1; more = first ∷ []; are = ap (λ (ms : List ℕ). ms ++ first ∷ []) (sym none.0); one_each = omega (arith, counted, ap (λ (ms : List ℕ). length ms) none.0) }
first-of given before now first moments count (inr some) counted = record { later = some.0; told = some.2; more = []; are = sym (append-nil moments ∙ some.1); one_each = omega (arith, counted, ap (λ (ms : List ℕ). length ms) some.1) }

-- the first moment and those since
moments-first : (given : Option ℕ) (a m n : Option (List ℕ)) (first : ℕ) (later : List ℕ) → MomentsOf given a m (first ∷ []) → MomentsOf given m n later → MomentsOf given a n (first ∷ later)
moments-first None a m n first later h k = Grows-trans a m n (first ∷ []) later h k
moments-first (Some moment) a m n first later h k = ((h.0.0, k.0), k.1 ∙ h.1)

-- all turns but the last bring something
init-of : (turns earlier : List Turn) (moments : List ℕ) (events : List Event) (rest : List ℕ) → IsButLast turns earlier → Brings [] turns moments events rest
    → (least : List Event) × (left : List ℕ) × Brings [] earlier moments least left
init-of turns earlier moments events rest (inl none) h = ([], [], subst (λ (ts : List Turn). Brings [] ts moments [] []) (sym none.1) (refl, refl))
init-of turns earlier moments events rest (inr some) h = brings-init [] earlier some.0 moments events rest (subst (λ (ts : List Turn). Brings [] ts moments events rest) some.1 h)

-- how a session comes to a run
abbrev pub Ran : Type 0 → SessionTerms → Result Served NodeStop → Store → Run → Type 0
Ran known terms result start run = SessionRan known terms start run result

-- the session was served over the store that was recovered, from the moment of LOGIN_RESP on
module _ {A C D : Type 0} (seen : Seen D A C) (terms : SessionTerms) (first : ℕ) (start : StoreState) (mid : D) (air : A) (clock : C)
    (new : LentParty ServerState D A C) (ended : Result Finished NodeStop) where
  abbrev g : Ghosts D
  g = seen.disk

  abbrev server : ServerState
  server = new_server terms.caller start (login_text first)

  abbrev turn_terms : TurnTerms
  turn_terms = record { polls = terms.polls; given = terms.moment; first = Some first }

  abbrev old : LentParty ServerState D A C
  old = record { party = server; disk = mid; air = air; clock = clock }

  module _ (took : TookTurns AreHandedOver (session_course g) seen.air seen.given old new turn_terms ended)
      (lasts : (disk : D) → g.lasts disk disk) (on : (first second third : D) → g.lasts first second → g.lasts second third → g.lasts first third) {T : Type 0} (disk : D) (value : T) (recovers : Recovers {T = T} g terms.limits.blocks disk mid value start) (clock_o : C)
      (told : MomentsOf terms.moment (seen.given clock_o) (seen.given clock) (first ∷ [])) where
    abbrev events : List Event
    events = events_to server took.all.events

    abbrev steps : Steps Session Event
    steps = session_steps terms.caller

    abbrev from : Session
    from = first_session (store_on g start mid)

    abbrev service : Service ServerState Session Event D
    service = session_service g terms.caller

    abbrev CameSo : Result Served NodeStop → Type 0
    CameSo result = Came seen AreHandedOver (session_course g) old new turn_terms ended took terms.moment clock_o (Ran (IsKnown g disk) terms) start new.party.store result

    moments : FirstOf terms.moment (seen.given clock) (seen.given new.clock) first took.all.moments (length took.all.turns)
    moments = grind (arith, common_steps, first-of, took)

    abbrev all_moments : List ℕ
    all_moments = first ∷ moments.later

    -- what the first turns bring, of what was handed over in them
    brings-at : (turns : List Turn) (front behind : List ℕ) (inputs : List Input) → took.all.moments ≡ front ++ behind → length front ≡ length turns → inputs ≡ inputs_of turns front → IsOctets (octets_in inputs)
        → Brings [] turns all_moments (events_to server inputs) (waiting_behind [] inputs)
    brings-at turns front behind inputs split same is are = grind (arith, common_steps, are, moments, brings-more, brings-of)

    brings : IsOctets (octets_in took.all.events) → Brings [] took.all.turns all_moments events (waiting_behind [] took.all.events)
    brings are = brings-at took.all.turns took.all.moments [] took.all.events (sym (append-nil took.all.moments)) took.one_each took.brings are

    abbrev Did : Result Served NodeStop → Type 0
    Did result = DidOnDisk g result (at start mid) (at new.party.store new.disk)

    abbrev run : {result : Result Served NodeStop} → Did result → Run
    run d = run_of seen AreHandedOver (session_course g) old new turn_terms ended took all_moments d

    came : (result : Result Served NodeStop) (d : Did result) → TurnsBy result terms.polls took.all.turns → HasAirCause seen.air.read_faults seen.air.write_faults air new.air result
        → IsOctets (octets_in took.all.events) → IsUngreeted first (run d) result ⊎ IsGreeted (IsKnown g disk) terms (store_on g start mid) (run d) events result → CameSo result
    came result d ends counts are said = record {
      did = d;
      moments = all_moments;
      moments_given = moments-first terms.moment (seen.given clock_o) (seen.given clock) (seen.given new.clock) first moments.later told moments.told;
      ends = ends;
      counts = counts;
      ran = record { one_each = moments.one_each; events = events; rest = waiting_behind [] took.all.events; brings = brings are; bound = took.bound; ends = ends; said = said; stream = brings-stream [] took.all.turns all_moments events (waiting_behind [] took.all.events) nothing_partial (brings are) };
    }

    taken : Taken seen AreHandedOver (session_course g) old new turn_terms ended took (λ p. refl) steps from events CameSo
    taken result ends counts fine over h =
        let goes : GoesOver g (at server mid) took.all.events took.text (party_at new) = h.0 in
        let last = but_last took.all.turns in
        let init = init-of took.all.turns last.0 all_moments events (waiting_behind [] took.all.events) last.1 (brings goes.hears.are_octets) in
        let did = did-all service (are_steps terms.caller) lasts (at server mid) (party_at new) events goes.replies from refl took.unsaid result fine over goes.runs in
        came result did.0 ends counts goes.hears.are_octets
        (inr (record { replies = goes.replies; text_is = goes.text_is; earlier = last.0; but_last = last.1; least = init.0; left = init.1; brought = init.2; ends_over = λ known. did.1 (known_on g disk mid recovers.answers.runs.told known) init.0 }))

    stopped : Stopped seen AreHandedOver (session_course g) old new turn_terms ended took (λ p. refl) steps from events CameSo
    stopped why ends counts over h = elim h.ends [
      | inl none ↦ at-first none.0 none.2 none.3
      | inr some ↦ later some.0 some.1 some.2
    ]
      where
        -- before the first turn LOGIN_RESP was cut off
        at-first : took.all.turns ≡ [] → h.first ≡ [] → HaltsOver g (at server mid) h.more why took.unsaid h.last (party_at new) → CameSo (Err why)
        at-first no_turn none_first halts =
            let no_moments : took.all.moments ≡ [] = nil_from_length took.all.moments (took.one_each ∙ ap (λ (ts : List Turn). length ts) no_turn) in
            let no_inputs : took.all.events ≡ [] = took.brings ∙ ap (λ (ms : List ℕ). inputs_of took.all.turns ms) no_moments in
            let no_more : h.more ≡ [] = (append-none h.least h.more (sym h.events_are ∙ no_inputs)).1 in
            elim halts.stops [
              | inl unsaid ↦ (
                  let fine : ¬ IsErrOf {T = Served} (Err why) stop.Disk = λ failed. cc (failed, unsaid.why_is) in
                  let did : Did (Err why) = record {
                    puts = puts-among-same g ⊥ _ mid new.disk (λ never. absurd never) fine unsaid.puts;
                    done = [];
                    cut = [];
                    missed = 0;
                    cuts = λ known. cuts-among-none g _ 0 (at start mid) (at new.party.store new.disk) [] fine (lasts new.disk) (unsaid.does known);
                  } in
                  came (Err why) did ends counts (subst (λ (is : List Input). IsOctets (octets_in is)) (no_more ∙ sym no_inputs) halts.are_octets)
                  (inl (record { why = ap Err unsaid.why_is; no_turn = no_turn; front = rw (h.text_is, none_first) unsaid.front; none_done = refl; none_cut = refl; none_missed = refl }))
                  )
              | inr stopped ↦ absurd (stopped.some (ap (events_to server) no_more))
            ]

        -- in the last turn
        later : (then_is : AtDisk ServerState D) → GoesOver g (at server mid) h.least h.first then_is → HaltsOver g then_is h.more why took.unsaid h.last (party_at new) → CameSo (Err why)
        later then_is goes halts =
            elim halts.stops [
              | inl unsaid ↦ absurd (unsaid.some goes.silent)
              | inr stopped ↦ (
                  let are : IsOctets (octets_in took.all.events) = rw h.events_are (both-octets h.least h.more goes.hears.are_octets halts.are_octets) in
                  let here : events ≡ events_to server h.least ++ events_to then_is.it h.more = ap (events_to server) h.events_are ∙ events-then server then_is.it h.least goes.hears h.more in
                  let did = did-stop service (are_steps terms.caller) on (at server mid) then_is (party_at new) (events_to server h.least) (events_to then_is.it h.more) goes.replies stopped.replies goes.runs from refl
                  events (goes.replies ++ stopped.replies) here refl why took.unsaid (over (events_to server h.least)) (subst (λ (caller : CallSign). StopsOn (session_service g caller) then_is (party_at new) (events_to then_is.it h.more) why took.unsaid stopped.replies) goes.hears.caller stopped.stops) in
                  let text = h.text_is ∙ ap₂ (λ (t u : List ℕ). t ++ u) goes.text_is (stopped.text_is ∙ ap (λ (t : List ℕ). t ++ stopped.replies) goes.silent) ∙ append_assoc (login_text first) goes.replies stopped.replies in
                  let brought = brings-at h.earlier h.before h.behind h.least h.split h.one_each h.brought goes.hears.are_octets in let over = λ (k : IsKnown g disk). did.1 (known_on g disk mid recovers.answers.runs.told k) in
                  came (Err why) did.0 ends counts are
                  (inr (record { replies = goes.replies ++ stopped.replies; text_is = text; earlier = h.earlier; but_last = h.but_last; least = events_to server h.least; left = waiting_behind [] h.least; brought = brought; ends_over = over }))
                  )
            ]

    pub session-serves : Serves seen terms.limits.blocks terms.moment (Ran (IsKnown g disk) terms) (lent disk air clock_o) (lent new.disk new.air new.clock) (served_by ended)
    session-serves = served seen AreHandedOver (session_course g) old new turn_terms ended took on terms.limits.blocks terms.moment (Ran (IsKnown g disk) terms) disk clock_o value start new.party.store (served_by ended) recovers
        (came-by seen AreHandedOver (session_course g) old new turn_terms ended took (λ p. refl) steps from events CameSo (λ start now inputs text h. elim h.stops [
          | inl first ↦ cc first.why_is
          | inr stopped ↦ stopped.stops.memory refl
        ]) taken stopped)
