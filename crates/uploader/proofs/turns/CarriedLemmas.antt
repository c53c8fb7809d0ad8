-- What is carried out, from the asking to the answer.
use Rattle.std.proofs.Common.{◌≡◌, ◌⊎◌, ℕ, List, [], ◌∷◌, ◌++◌, length, Bool, false, true, Result, Ok, Err, refl, ap, sym, subst, ◌∙◌, inl, inr, suc, arith, append-nil, ◌≢◌, None, IsErrOf}
use Rattle.px_base.specs.Octets.{IsFront}
use Rattle.px_base.specs.Polling.{IsButLast}
use Rattle.turn_loop.specs.declared.finished.Finished.TheVariants as finished
use Rattle.turn_loop.specs.declared.stop.NodeStop.TheVariants as stop
use Rattle.uploader.specs.declared.stop.SendStop.TheVariants as send_stop
use Rattle.uploader.proofs.Names.{Option, Turn, Gains-none, Grows-none, Ghosts, NotesCommand, Lists, IsReady, NotesState, AtDisk, at, NodeEvent, NodeEvents, OneRunLaw, Seen, Brought, HasAirCause, IsUnsaid, LentParty, RanBy, StoppedInLast, TookAll, TookTurns, TurnsBy, lent_party, party_at, Finished, NodeStop, HasAsked, Client, ClientEvent, IsSilent, asking, asks, ClientState, IsClient, MayHear, outcome_in, GoesLaw, GoesOver, is_over, IsNew, NotesGoWith, OneStepLaw, outcome_by, JobState, Outcome, SendStop, answer_of, CutsOff, CarriesOut, ClientRan, CountsWhere, EndsOver, IsOpenBeforeEach, MayCarryOut, Run, asked_first, before_last, StopsBehind, StopsOver, TakesAll, text_of, CameOf, CameToSome, Past, StoppedAt, client_course, further, ClientStation, cuts-none, does-nothing}
use Rattle.uploader.proofs.turns.CourseLemmas.{came-silent, came-whole, closed-done, closed-over, goes-alike, no-split, owes-more, promised, tells-of}

-- ---- the turns but the last

-- turns at moments, but the last of them
record ButLast (turns : List Turn) (moments : List ℕ) : Type 0 where
  earlier : List Turn
  before : List ℕ
  behind : List ℕ
  but_last : IsButLast turns earlier
  split : moments ≡ before ++ behind
  one_each : length before ≡ length earlier

but-last : (turns : List Turn) (moments : List ℕ) → length moments ≡ length turns → ButLast turns moments
but-last [] moments same = record { earlier = []; before = []; behind = moments; but_last = inl (refl, refl); split = refl; one_each = refl }
but-last (t ∷ []) moments same = record { earlier = []; before = []; behind = moments; but_last = inr (t, refl); split = refl; one_each = refl }
but-last (t ∷ u ∷ turns) [] same = absurd (cc same)
but-last (t ∷ u ∷ turns) (m ∷ moments) same =
    let rest = but-last (u ∷ turns) moments (omega (arith, same)) in
    record {
      earlier = t ∷ rest.earlier;
      before = m ∷ rest.before;
      behind = rest.behind;
      but_last = one-more rest.earlier rest.but_last;
      split = ap (λ (ms : List ℕ). m ∷ ms) rest.split;
      one_each = ap (λ (n : ℕ). suc n) rest.one_each;
    }
  where
    one-more : (earlier : List Turn) → IsButLast (u ∷ turns) earlier → IsButLast (t ∷ u ∷ turns) (t ∷ earlier)
    one-more earlier (inl none) = absurd (cc none.0)
    one-more earlier (inr last) = inr (last.0, ap (λ (ts : List Turn). t ∷ ts) last.1)

no-moments : (moments : List ℕ) → length moments ≡ 0 → moments ≡ []
no-moments [] same = refl
no-moments (m ∷ moments) same = absurd (cc same)

-- a stop behind what all turns but the last bring
behind-last : (turns : List Turn) (job : JobState) (least : List NodeEvent) (base : Client) (events : List ClientEvent) (why : NodeStop) (reached : Option Outcome) (text : List ℕ) (done cut : List NotesCommand)
    → StopsBehind (asked_first job least) base events why reached text done cut → StopsBehind (before_last turns job least) base events why reached text done cut
behind-last [] job least base events why reached text done cut h = record { stops = h.stops; between = h.stops.before; in_order = refl }
behind-last (t ∷ turns) job least base events why reached text done cut h = h

-- ---- what the air counted

-- a count that didn't rise
counts-same : (P : Type 0) (before now : ℕ) → ¬ P → now ≡ before → CountsWhere before now P
counts-same P before now never same = record { rose = λ p. absurd (never p); same = λ _. same }

-- where no put failed
still : (unsaid : Bool) (writes writes_n : ℕ) → IsUnsaid unsaid writes writes_n → ¬ (unsaid ≡ true) → writes_n ≡ writes
still false writes writes_n is never = is
still true writes writes_n is never = absurd (never refl)

module _ (reads reads_n writes writes_n : ℕ) where
  abbrev Counted : Result Finished NodeStop → Type 0
  Counted ended = CountsWhere reads reads_n (IsErrOf ended stop.AirRead) × CountsWhere writes writes_n (IsErrOf ended stop.AirWrite)

  none-rose : (ended : Result Finished NodeStop) → ¬ IsErrOf ended stop.AirRead → ¬ IsErrOf ended stop.AirWrite → reads_n ≡ reads → writes_n ≡ writes → Counted ended
  none-rose ended no_read no_write same_reads same_writes = (counts-same _ reads reads_n no_read same_reads, counts-same _ writes writes_n no_write same_writes)

-- ---- what came of the turns

-- before the turns: the client was asked for the job, and nothing was said
abbrev asked_past : {D : Type 0} → ClientState → D → Client → JobState → Past D
asked_past client disk base job = record { client = client; disk = disk; base = base; job = job; whole = []; events = []; text = [] }

-- what turns bring, how they ended, and what was said and noted
abbrev run_of : Brought NodeEvent → Result Finished NodeStop → List ℕ → Option Outcome → List NotesCommand → List NotesCommand → Run
run_of all ended text reached done cut = record { turns = all.turns; moments = all.moments; ended = ended; text = text; reached = reached; done = done; cut = cut }

-- What came of the turns, by how they ended.
record CameOut {D : Type 0} (g : Ghosts D) (past : Past D) (all : Brought NodeEvent) (polls : ℕ) (ended : Result Finished NodeStop) (text : List ℕ) (new : AtDisk ClientStation D) : Type 0 where
  done : List NotesCommand
  cut : List NotesCommand
  reached : Option Outcome
  ran : ClientRan past.base past.job polls (run_of all ended text reached done cut)
  cuts : CutsOff g (IsErrOf ended stop.Disk) past.client.notes new.it.client.notes past.disk new.disk done cut
  over : (count : ℕ) → ended ≡ Ok (finished.Over count) → reached ≢ None
  tells : outcome_in new.it.client.attempt ≡ reached
  came : reached ≢ None → CameToSome new.it.client past.base (asked_first past.job ran.events) reached

module _ {A C D : Type 0} (see : Seen D A C) (lasts : (disk : D) → see.disk.lasts disk disk) (one_run : OneRunLaw) (one_step : OneStepLaw) (law : GoesLaw) (old : ClientState) (base : Client) (job : JobState)
    (from to : LentParty ClientStation D A C) (came_of : CameOf see.disk (asked_past old from.disk base job) (party_at from)) (polls : ℕ) (closing : Result Finished NodeStop)
    (h : TookTurns (NodeEvents base.me) (client_course see.disk) see.air see.given from to (record { polls = polls; given = None; first = None }) closing) where
  abbrev past : Past D
  past = asked_past old from.disk base job

  abbrev new : AtDisk ClientStation D
  new = party_at to

  abbrev events : List ClientEvent
  events = asked_first job h.all.events

  abbrev Out : Result Finished NodeStop → Type 0
  Out ended = CameOut see.disk past h.all polls ended h.text new

  -- before each turn it wasn't over, and what it had said is a front of what it said
  open-each : IsOpenBeforeEach base job h.all.moments h.all.turns h.text
  open-each earlier next later before behind events frames commands client split moments_split same brings goes =
      let then_is = h.open_before earlier next later before behind split moments_split same in
      let came : CameOf see.disk (further past then_is.0 then_is.2) then_is.4 = then_is.5.1 past came_of in
      let same_events : then_is.0 ≡ events = one_run base.me earlier before then_is.0 events then_is.1 brings in
      let own : GoesOver base (asked_first job events) came.frames came.commands came.now =
      subst (λ (es : List NodeEvent). GoesOver base (asked_first job es) came.frames came.commands came.now) same_events (came-silent see.disk (further past then_is.0 then_is.2) then_is.4 came then_is.5.0.silent) in
      let alike = goes-alike one_step base (asked_first job events) frames came.frames commands came.commands client came.now goes own in
      let said : then_is.2 ≡ text_of frames = came.text_is ∙ ap text_of (sym alike.1) in (
        ap is_over alike.0 ∙ sym (closed-over then_is.4.it.client came.now came.is then_is.5.0.quiet) ∙ then_is.6,
        subst (λ (t : List ℕ). IsFront t h.text) said then_is.3,
      )

  -- the events of all turns but the last
  last-brought : (last : ButLast h.all.turns h.all.moments) → IsButLast h.all.turns last.earlier → (least : List NodeEvent) × NodeEvents base.me last.earlier last.before least
  last-brought last (inl none) = (
    [],
    subst (λ (ms : List ℕ). NodeEvents base.me last.earlier ms []) (sym (no-moments last.before (last.one_each ∙ ap (λ (ts : List Turn). length ts) none.1))) (none.1, refl),
  )
  last-brought last (inr one) = let then_is = h.open_before last.earlier one.0 [] last.before last.behind one.1 last.split last.one_each in (then_is.0, then_is.1)

  ran-as : (ended : Result Finished NodeStop) → TurnsBy ended polls h.all.turns → (last : ButLast h.all.turns h.all.moments) (least : List NodeEvent) → NodeEvents base.me last.earlier last.before least
      → (reached : Option Outcome) (done cut : List NotesCommand) → EndsOver ended (before_last h.all.turns job least) base events reached h.text done cut
      → ClientRan base job polls (run_of h.all ended h.text reached done cut)
  ran-as ended turns last least brought reached done cut over = record {
    one_each = h.one_each;
    events = h.all.events;
    brings = h.brings;
    bound = h.bound;
    ends = turns;
    open_before = open-each;
    earlier = last.earlier;
    but_last = last.but_last;
    earlier_moments = last.before;
    later_moments = last.behind;
    split = last.split;
    least = least;
    brought = brought;
    ends_over = over;
  }

  -- all was taken
  took-all : (ended : Result Finished NodeStop) (over : Bool) → TurnsBy ended polls h.all.turns → ¬ IsErrOf ended stop.Disk → ((count : ℕ) → ended ≡ Ok (finished.Over count) → over ≡ true)
      → ((least : List ClientEvent) (reached : Option Outcome) (done : List NotesCommand) → TakesAll base events over reached h.text done [] → EndsOver ended least base events reached h.text done [])
      → TookAll (client_course see.disk) (party_at from) h.all.events h.text new over → Out ended
  unfolding ran-as
  took-all ended over turns fine closed ends took =
      let came : CameOf see.disk (further past h.all.events h.text) new = took.0.1 past came_of in
      let goes : GoesOver base events came.frames came.commands came.now = came-silent see.disk (further past h.all.events h.text) new came took.0.0.silent in
      let last = but-last h.all.turns h.all.moments h.one_each in
      let least = last-brought last last.but_last in
      let reached = outcome_by came.now.attempt in
      let tells = tells-of new.it.client came.now came.is in
      let taken : TakesAll base events over reached h.text came.commands [] =
      (came.frames, came.now, goes, came.text_is, refl, refl, sym (closed-over new.it.client came.now came.is took.0.0.quiet) ∙ took.2) in
      record {
        done = came.commands;
        cut = [];
        reached = reached;
        ran = ran-as ended turns last least.0 least.1 reached came.commands [] (ends (before_last h.all.turns job least.0) reached came.commands taken);
        cuts = cuts-none see.disk lasts (IsErrOf ended stop.Disk) old.notes new.it.client.notes from.disk new.disk came.commands fine came.does;
        over = λ count e. closed-done law base job came_of.just came_of.go_with new.it.client reached h.all.events h.text came.commands []
            (subst (λ (b : Bool). TakesAll base events b reached h.text came.commands []) (closed count e) taken);
        tells = tells.outcome;
        came = λ some. (
          record {
            some = events;
            others = [];
            in_order = sym (append-nil events);
            frames = came.frames;
            commands = came.commands;
            now = came.now;
            goes = goes;
            outcome_is = refl;
            listing_is = tells.listing;
          },
          λ none. cc none,
          tells,
        );
      }

  -- it stopped
  module _ (why : NodeStop) (stopped : StoppedInLast (NodeEvents base.me) (client_course see.disk) (party_at from) h.all why h.text h.unsaid new) where
    abbrev Ends : Type 0
    Ends =
        ((h.all.turns ≡ []) × (stopped.least ≡ []) × (stopped.first ≡ []) × (client_course see.disk).halts (party_at from) stopped.more why h.unsaid stopped.last new)
        ⊎ ((then_is : AtDisk ClientStation D) × (client_course see.disk).goes (party_at from) stopped.least stopped.first then_is × (client_course see.disk).halts then_is stopped.more why h.unsaid stopped.last new)

    unsaid-why : h.unsaid ≡ true → why ≡ stop.AirWrite
    unsaid-why = by stopped.ends
      where
        by : Ends → h.unsaid ≡ true → why ≡ stop.AirWrite
        by (inl none) = none.3.0
        by (inr some) = some.2.0

    stopped-at : TurnsBy (Err why) polls h.all.turns
        → ((least : List ClientEvent) (reached : Option Outcome) (done cut : List NotesCommand) → StopsBehind least base events why reached h.text done cut → EndsOver (Err why) least base events reached h.text done cut)
        → Out (Err why)
    unfolding ran-as
    stopped-at turns ends = by stopped.ends
      where
        last : ButLast h.all.turns h.all.moments
        last = record { earlier = stopped.earlier; before = stopped.before; behind = stopped.behind; but_last = stopped.but_last; split = stopped.split; one_each = stopped.one_each }

        out : (whole : List ClientEvent) (those : List NodeEvent) (text : List ℕ) → those ≡ h.all.events → text ≡ h.text → StoppedAt see.disk (record past { whole = whole; events = those; text = text }) why new
            → ((reached : Option Outcome) (done cut : List NotesCommand) → StopsBehind whole base events why reached h.text done cut
            → StopsBehind (before_last h.all.turns job stopped.least) base events why reached h.text done cut)
            → Out (Err why)
        out whole those text same_events same_text before behind =
            let s : StoppedAt see.disk (record past { whole = whole; events = h.all.events; text = h.text }) why new =
            subst (λ (t : List ℕ). StoppedAt see.disk (record past { whole = whole; events = h.all.events; text = t }) why new) same_text
            (subst (λ (es : List NodeEvent). StoppedAt see.disk (record past { whole = whole; events = es; text = text }) why new) same_events before) in
            record {
              done = s.done;
              cut = s.cut;
              reached = s.reached;
              ran =
                  ran-as (Err why) turns last stopped.least stopped.brought s.reached s.done s.cut
                  (ends (before_last h.all.turns job stopped.least) s.reached s.done s.cut (behind s.reached s.done s.cut s.stops));
              cuts = s.cuts;
              over = λ count e. cc e;
              tells = s.tells;
              came = s.came;
            }

        by : Ends → Out (Err why)
        by (inl none) =
            out [] stopped.more stopped.last (sym (stopped.events_are ∙ ap (λ (es : List NodeEvent). es ++ stopped.more) none.1)) (sym (stopped.text_is ∙ ap (λ (t : List ℕ). t ++ stopped.last) none.2))
            (none.3.1 past came_of)
            (λ reached done cut s. subst (λ (ts : List Turn). StopsBehind (before_last ts job stopped.least) base events why reached h.text done cut) (sym none.0) s)
        by (inr some) =
            out (asked_first job stopped.least) (stopped.least ++ stopped.more) (stopped.first ++ stopped.last) (sym stopped.events_are) (sym stopped.text_is)
            (some.2.1 (record (further past stopped.least stopped.first) { whole = asked_first job stopped.least })
            (came-whole see.disk (further past stopped.least stopped.first) some.0 (some.1.1 past came_of) some.1.0.silent))
            (λ reached done cut s. behind-last h.all.turns job stopped.least base events why reached h.text done cut s)

  -- by how the turns ended
  abbrev Came : Result Finished NodeStop → Type 0
  Came ended = Out ended × Counted (see.air.read_faults from.air) (see.air.read_faults to.air) (see.air.write_faults from.air) (see.air.write_faults to.air) ended

  came-by : (ended : Result Finished NodeStop) → TurnsBy ended polls h.all.turns → HasAirCause see.air from.air to.air ended
      → RanBy (NodeEvents base.me) (client_course see.disk) (party_at from) h.all ended h.text h.unsaid new → Came ended
  came-by (Ok (finished.Over count)) turns counts ran =
      (took-all (Ok (finished.Over count)) true turns (λ e. cc e) (λ n e. refl) (λ least reached done over. over) ran, none-rose _ _ _ _ _ (λ e. cc e) (λ e. cc e) counts.0 counts.1)
  came-by (Ok (finished.Closed count)) turns counts ran =
      (took-all (Ok (finished.Closed count)) false turns (λ e. cc e) (λ n e. cc e) (λ least reached done over. over) ran, none-rose _ _ _ _ _ (λ e. cc e) (λ e. cc e) counts.0 counts.1)
  came-by (Err stop.AirRead) turns counts ran = (
    took-all (Err stop.AirRead) false turns (λ e. cc e) (λ n e. cc e) (λ least reached done over. over) ran,
    (record { rose = λ _. counts.0; same = λ never. absurd (never refl) }, counts-same _ _ _ (λ e. cc e) counts.1),
  )
  came-by (Err stop.Spent) turns counts ran =
      (took-all (Err stop.Spent) false turns (λ e. cc e) (λ n e. cc e) (λ least reached done over. over) ran, none-rose _ _ _ _ _ (λ e. cc e) (λ e. cc e) counts.0 counts.1)
  came-by (Err stop.AirWrite) turns counts ran = (
    stopped-at stop.AirWrite ran turns (λ least reached done cut over. over),
    (counts-same _ _ _ (λ e. cc e) counts.0, record { rose = λ _. counts.1; same = λ never. absurd (never refl) }),
  )
  came-by (Err stop.Disk) turns counts ran = (
    stopped-at stop.Disk ran turns (λ least reached done cut over. over),
    none-rose _ _ _ _ _ (λ e. cc e) (λ e. cc e) counts.0 (still h.unsaid _ _ h.is_unsaid (λ is. cc (unsaid-why stop.Disk ran is))),
  )
  came-by (Err stop.OutOfMemory) turns counts ran = (
    stopped-at stop.OutOfMemory ran turns (λ least reached done cut over. over),
    none-rose _ _ _ _ _ (λ e. cc e) (λ e. cc e) counts.0 (still h.unsaid _ _ h.is_unsaid (λ is. cc (unsaid-why stop.OutOfMemory ran is))),
  )
  came-by (Err why) turns counts ran = absurd turns

  abbrev now : ClientState
  now = to.party.client

  pub carries : (result : Result Outcome SendStop) → result ≡ answer_of closing (outcome_in now.attempt)
      → CarriesOut see (lent_party old from.disk from.air from.clock) (lent_party now to.disk to.air to.clock) job polls base result
  carries result is =
      let came = came-by closing h.ends h.counts h.ran in
      let out : Out closing = came.0 in
      record {
        run = run_of h.all closing h.text out.reached out.done out.cut;
        answer = is ∙ ap (answer_of closing) out.tells;
        air = record { turns_heard = h.turns_heard; moments_given = h.moments_given; text_said = h.text_said; reads = came.1.0; writes = came.1.1 };
        ran = out.ran;
        cuts = out.cuts;
        became = record {
          over = out.over;
          came = λ some. (out.came some).0;
          promises = λ some. promised law base job came_of.just came_of.go_with now out.reached out.ran.events (out.came some);
        };
      }

-- ---- the asking

module _ {A C D : Type 0} (see : Seen D A C) (lasts : (disk : D) → see.disk.lasts disk disk) (old : ClientState) (disk : D) (job : JobState) (may : MayCarryOut see.disk old disk) where
  module _ (asked : ClientState) (has : HasAsked old asked) where
    -- a client that was asked may hear a frame
    pub may-asked : MayHear see.disk asked disk
    may-asked = record {
      ready = subst (λ (n : NotesState). IsReady see.disk n disk) (sym has.notes) may.ready;
      notes_are = has.go_with;
    }

    -- it came of the asking
    pub came-asked : (base : Client) → IsClient old base → IsSilent base → IsNew job → NotesGoWith old.notes.lists job → IsClient asked (asking base job)
        → CameOf see.disk (asked_past old disk base job) (at (record { client = asked; halted = false }) disk)
    came-asked base is silent just go_with becomes = record {
      just = just;
      go_with = subst (λ (l : Lists). NotesGoWith l job) is.lists go_with;
      frames = [];
      commands = [];
      now = asking base job;
      owes = owes-more [] base [] [] [] base (asks job) [] refl (refl, refl, refl) silent;
      text_is = refl;
      is = becomes;
      does = does-nothing see.disk lasts old.notes asked.notes disk has.notes may.ready;
    }

  -- there was no memory for the attempt
  pub refused-carries : (polls : ℕ) (base : Client) (air : A) (clock : C) (new : ClientState) → new ≡ old → CarriesOut see (lent_party old disk air clock) (lent_party new disk air clock) job polls base (Err send_stop.OutOfMemory)
  refused-carries polls base air clock new same =
      let stops : StopsOver base (asks job ∷ []) stop.OutOfMemory None [] [] [] =
      record {
        before = [];
        next = asks job;
        later = [];
        events_are = refl;
        frames = [];
        commands = [];
        client_then = base;
        goes = (refl, refl, refl);
        last = [];
        more = [];
        stops = ([], refl, refl, refl, refl, refl);
        text_is = refl;
        done_is = refl;
      } in
      record {
        run = run_of (record { turns = []; moments = []; events = [] }) (Err stop.OutOfMemory) [] None [] [];
        answer = refl;
        air =
            record {
              turns_heard = Grows-none (see.air.heard air);
              moments_given = Grows-none (see.given clock);
              text_said = Gains-none (see.air.said air);
              reads = counts-same _ _ _ (λ e. cc e) refl;
              writes = counts-same _ _ _ (λ e. cc e) refl;
            };
        ran =
            record {
              one_each = refl;
              events = [];
              brings = (refl, refl);
              bound = omega arith;
              ends = tt;
              open_before = λ earlier other later before behind events frames commands client split. absurd (no-split earlier other later split);
              earlier = [];
              but_last = inl (refl, refl);
              earlier_moments = [];
              later_moments = [];
              split = refl;
              least = [];
              brought = (refl, refl);
              ends_over = record { stops = stops; between = stops.before; in_order = refl };
            };
        cuts =
            cuts-none see.disk lasts (IsErrOf {T = Finished} (Err stop.OutOfMemory) stop.Disk) old.notes new.notes disk disk [] (λ e. cc e)
            (does-nothing see.disk lasts old.notes new.notes disk (ap (λ (s : ClientState). s.notes) same) may.ready);
        became = record { over = λ count e. cc e; came = λ some. absurd (some refl); promises = λ some. absurd (some refl) };
      }
