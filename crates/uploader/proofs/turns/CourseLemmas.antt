-- The course of a client's station: what a client comes to over events and owes the air meanwhile, what it says, and a frame
-- at which it halts, before which nothing had become of the job, since a link that is down brings no packets.
use Rattle.std.proofs.Common.{inl, ◌≡◌, ℕ, List, [], ◌∷◌, ◌++◌, refl, ap, sym, ◌∙◌, subst, append_assoc, append-nil, Some, Option, ◌≢◌, true, map, false, Bool, not, ◌||◌, ◌&&◌, Err, true≢false, IsErrOf, length, take, arith, take-append-drop, drop}
use Rattle.std.specs.Prelude.{is_none}
use Rattle.std.proofs.lemmas.List.Concat.{flat_map-append}
use Rattle.kiss.specs.KissText.{kiss_text}
use Rattle.ftl0_client.specs.ClientStep.{ClientStep, Empties, happening}
use Rattle.turn_loop.specs.declared.stop.NodeStop.TheVariants as stop
use Rattle.turn_loop.specs.Events as node
use Rattle.ftl0_client.specs.Attempt.Attempted.{Attempted}
use Rattle.uploader.specs.Turns.Came.{listing_by, TellsOf}
use Rattle.std.proofs.lemmas.Option.{same_Some}
use Rattle.ax25_link.specs.Kept.{Kept, is_pending, is_there}
use Rattle.ax25_link.specs.Sending.{Sending, next_sending}
use Rattle.ax25_link.specs.Timer.{is_down}
use Rattle.ax25_link.specs.Window.{Window}
use Rattle.ftl0_client.specs.Attempt.Attempted as attempted
use Rattle.ftl0_client.specs.Attempt.AttemptState.{AttemptState, StopsAmong}
use Rattle.ax25_link.specs.declared.state.Why.{Why}
use Rattle.px_base.specs.Octets.{IsFront}
use Rattle.disk_model.specs.declared.halt.Halt.{Halt}
use Rattle.std.proofs.lemmas.Bool.{cond_both}
use Rattle.ax25_link.specs.declared.state.Heard.{Heard}
use Rattle.ax25_link.specs.declared.state.Heard.TheVariants.{Closed}
use Rattle.ax25_link.specs.Rows.{after_frame, heard_of}
use Rattle.ftl0_client.specs.Layout.{Item}
use Rattle.ftl0_client.specs.Ending.{Ending}
use Rattle.ftl0_client.specs.Taking.{WithNotes, with_notes}
use Rattle.ftl0_client.specs.Attempt.Hearing.{after_hearing, after_told, packets_heard, packets_told, with_end}
use Rattle.ftl0_client.specs.Attempt.Taking.{Happened, taking}
use Rattle.ftl0_client.proofs.attempt.DownLemmas.{still-silent}
use Rattle.ftl0_client.proofs.attempt.EndedLemmas.{taking-ended, told-job}
use Rattle.disk_model.specs.declared.halt.Halt.TheVariants as halt
use Rattle.ftl0_client.proofs.attempt.TakingLemmas.{noted-front}
use Rattle.uploader.proofs.Names.{FrameValue, canonical, NotesCommand, Client, ClientEvent, ClientSends, IsSilent, client_next, asks, Refused, sends_by, sends_of_attempt, sends_of_link, attempt_for, client_hearing, hearing_by, hears, ClientState, listing_in, IsClient, MayHear, GoWithAttempt, IsAttemptOf, attempt_closed, attempt_pending, client_closed, client_pending, outcome_in, Outcome, OneStepLaw, IsToldDownOf, StopsBehind, text_of, TakesAll, event_of, StopsAt, GoesOver, AsksNothing, Comes, GoesLaw, Promises, is_over, is_over_at, CameToSome, Owes, CameOf, IsFit, OwesBy, Past, StoppedAt, all_events, client_course, further, HaltsBy, IsQuiet, NodeStop, is_under_way, outcome_by, AllByRecursion, Lists, is_same_call, NodeEvent, IsNew, NotesGoWith, JobState, listing_of, job_row, asked_first, map-append, None, ⊤, Ghosts, DoesSeveral, CutsOff, Several-then, cuts-none, cuts-then, Several-same, AtDisk, IsLawful, GaveAll, GivesNext, at, stop_at_put, stop_of, ClientStation, SameAttempt, SameButFrames, HandsOut, HandsOutNext, StopsBy, may-kept, NotesState, Finished}

-- one frame more
pub text-more : (xs : List FrameValue) (x : FrameValue) → text_of (xs ++ x ∷ []) ≡ text_of xs ++ kiss_text (canonical x)
text-more xs x = flat_map-append (λ (frame : FrameValue). kiss_text (canonical frame)) xs (x ∷ []) ∙ ap (λ (t : List ℕ). text_of xs ++ t) (append-nil (kiss_text (canonical x)))

-- one event
pub goes-one : (client : Client) (event : ClientEvent) (noted : List NotesCommand) (sent : List FrameValue) (next : Client)
    → ClientStep client event noted sent next → GoesOver client (event ∷ []) sent noted next
goes-one client event noted sent next step = (noted, sent, next, [], [], step, sym (append-nil sent), sym (append-nil noted), (refl, refl, refl))

-- events and then others
pub goes-append :
    (client : Client) (events : List ClientEvent) (frames : List FrameValue) (commands : List NotesCommand) (mid : Client) (others : List ClientEvent) (more : List FrameValue)
    (further : List NotesCommand) (now : Client) → GoesOver client events frames commands mid → GoesOver mid others more further now
    → GoesOver client (events ++ others) (frames ++ more) (commands ++ further) now
goes-append client [] frames commands mid others more further now h k = rw (h.0, h.1, sym h.2) k
goes-append client (e ∷ events) frames commands mid others more further now h k = (
  h.0,
  h.1,
  h.2,
  h.3 ++ further,
  h.4 ++ more,
  h.5,
  ap (λ (fs : List FrameValue). fs ++ more) h.6 ∙ append_assoc h.1 h.4 more,
  ap (λ (cs : List NotesCommand). cs ++ further) h.7 ∙ append_assoc h.0 h.3 further,
  goes-append h.2 events h.4 h.3 mid others more further now h.8 k,
)

-- by one law of its steps a client comes to one client, and sends the same frames
pub goes-alike : OneStepLaw → (client : Client) (events : List ClientEvent) (frames others : List FrameValue) (commands those : List NotesCommand) (now that : Client)
    → GoesOver client events frames commands now → GoesOver client events others those that → (now ≡ that) × (frames ≡ others)
goes-alike law client [] frames others commands those now that h k = (h.2 ∙ sym k.2, h.0 ∙ sym k.0)
goes-alike law client (e ∷ events) frames others commands those now that h k =
    let same = law client e h.0 k.0 h.1 k.1 h.2 k.2 h.5 k.5 in
    let rest = goes-alike law h.2 events h.4 k.4 h.3 k.3 now that h.8 (subst (λ (c : Client). GoesOver c events k.4 k.3 that) (sym same.client) k.8) in
    (rest.0, h.6 ∙ ap (λ (fs : List FrameValue). fs ++ h.4) same.sent ∙ ap (λ (fs : List FrameValue). k.1 ++ fs) rest.1 ∙ sym k.6)

-- a stop with further events behind it
pub stops-longer : (whole : List ClientEvent) (client : Client) (events others : List ClientEvent) (why : NodeStop) (reached : Option Outcome) (text : List ℕ) (done cut : List NotesCommand)
    → StopsBehind whole client events why reached text done cut → StopsBehind whole client (events ++ others) why reached text done cut
stops-longer whole client events others why reached text done cut h =
    let s = h.stops in
    record {
      stops =
          record {
            before = s.before;
            next = s.next;
            later = s.later ++ others;
            events_are = ap (λ (es : List ClientEvent). es ++ others) s.events_are ∙ append_assoc s.before (s.next ∷ s.later) others;
            frames = s.frames;
            commands = s.commands;
            client_then = s.client_then;
            goes = s.goes;
            last = s.last;
            more = s.more;
            stops = s.stops;
            text_is = s.text_is;
            done_is = s.done_is;
          };
      between = h.between;
      in_order = h.in_order;
    }

-- what it came to, with further events behind it
pub came-longer : (new : ClientState) (reached : Option Outcome) (client : Client) (events others : List ClientEvent) → CameToSome new client events reached → CameToSome new client (events ++ others) reached
came-longer new reached client events others (h, some, tells) = (
  record {
    some = h.some;
    others = h.others ++ others;
    in_order = ap (λ (es : List ClientEvent). es ++ others) h.in_order ∙ append_assoc h.some h.others others;
    frames = h.frames;
    commands = h.commands;
    now = h.now;
    goes = h.goes;
    outcome_is = h.outcome_is;
    listing_is = h.listing_is;
  },
  some,
  tells,
)

-- a silent client sends nothing
empties-silent : (client : Client) (frames : List FrameValue) (last : Client) → IsSilent client → Empties client frames last → frames ≡ []
empties-silent client [] last silent h = refl
empties-silent client (f ∷ fs) last silent h = absurd (cc (sym silent ∙ h.1))

module _ (whole : List ClientEvent) (base : Client) (events : List ClientEvent) (frames : List FrameValue) (commands : List NotesCommand) (now : Client) where
  -- all was sent
  pub owes-silent : Owes whole base events frames commands now → IsSilent now → GoesOver base events frames commands now
  owes-silent owes silent = subst (λ (fs : List FrameValue). GoesOver base events fs commands now) (append-nil frames) (owes.goes_on [] now (silent, refl))

  -- then the events are whole
  pub owes-whole : Owes whole base events frames commands now → IsSilent now → Owes events base events frames commands now
  owes-whole owes silent = record {
    between = [];
    in_order = sym (append-nil events);
    goes_on = owes.goes_on;
    cut_off = λ rest last text sent some front. absurd (some (empties-silent now rest last silent sent));
  }

  -- one event more
  pub owes-more : (event : ClientEvent) (between : List ClientEvent) → events ≡ whole ++ between → GoesOver base events frames commands now → IsSilent now
      → Owes whole base (events ++ event ∷ []) frames (commands ++ (happening now event).noted) (happening now event).after
  owes-more event between in_order goes silent = record {
    between = between ++ event ∷ [];
    in_order = more;
    goes_on = λ rest last sent.
        goes-append base events frames commands now (event ∷ []) rest noted last goes (goes-one now event noted rest last (step rest last sent));
    cut_off = λ rest last text sent some front. record {
      stops =
          record {
            before = events;
            next = event;
            later = [];
            events_are = refl;
            frames = frames;
            commands = commands;
            client_then = now;
            goes = goes;
            last = text;
            more = noted;
            stops = (rest, last, step rest last sent, some, front, refl, refl);
            text_is = refl;
            done_is = refl;
          };
      between = between;
      in_order = in_order;
    };
  }
    where
      noted : List NotesCommand
      noted = (happening now event).noted

      more : events ++ event ∷ [] ≡ whole ++ (between ++ event ∷ [])
      more = ap (λ (es : List ClientEvent). es ++ event ∷ []) in_order ∙ append_assoc whole between (event ∷ [])

      step : (rest : List FrameValue) (last : Client) → Empties (happening now event).after rest last → ClientStep now event (happening now event).noted rest last
      step rest last sent = record { silent = silent; noted_is = refl; sent = sent }

  -- one of the frames was sent
  pub owes-sent : (sends : ClientSends) → Owes whole base events frames commands now → client_next now ≡ Some sends → Owes whole base events (frames ++ sends.frame ∷ []) commands sends.after
  owes-sent sends owes is =
      let next = kiss_text (canonical sends.frame) in
      record {
        between = owes.between;
        in_order = owes.in_order;
        goes_on = λ rest last sent.
            subst (λ (fs : List FrameValue). GoesOver base events fs commands last) (sym (append_assoc frames (sends.frame ∷ []) rest))
            (owes.goes_on (sends.frame ∷ rest) last (sends, is, refl, sent));
        cut_off = λ rest last text sent some front.
            subst (λ (t : List ℕ). StopsBehind whole base events stop.AirWrite (outcome_by last.attempt) t commands [])
            (sym (append_assoc (text_of frames) next text) ∙ ap (λ (t : List ℕ). t ++ text) (sym (text-more frames sends.frame)))
            (owes.cut_off (sends.frame ∷ rest) last (next ++ text) (sends, is, refl, sent) (λ e. cc e)
            (front.0, ap (λ (t : List ℕ). next ++ t) front.1 ∙ sym (append_assoc next text front.0)));
      }

-- what a node hears and counts asks nothing
pub nothing-asked : (events : List NodeEvent) → AllByRecursion AsksNothing (map event_of events)
nothing-asked [] = tt
nothing-asked (node.hears frame moment ∷ events) = (tt, nothing-asked events)
nothing-asked (node.ticks moment ∷ events) = (tt, nothing-asked events)

nothing-front : (some others : List ClientEvent) → AllByRecursion AsksNothing (some ++ others) → AllByRecursion AsksNothing some
nothing-front [] others h = tt
nothing-front (e ∷ some) others h = (h.0, nothing-front some others h.1)

module _ (law : GoesLaw) (base : Client) (job : JobState) (just : IsNew job) (go_with : NotesGoWith base.lists job) (new : ClientState) (reached : Option Outcome) (events : List NodeEvent) where
  -- what the client comes to over some of its events, the asking first
  comes : (some others : List ClientEvent) (frames : List FrameValue) (commands : List NotesCommand) (now : Client) → some ≢ [] → asked_first job events ≡ some ++ others
      → GoesOver base some frames commands now → Comes base job commands now
  comes [] others frames commands now is_some parts goes = absurd (is_some refl)
  comes (first ∷ some) others frames commands now is_some parts goes =
      let is_first : first ≡ asks job = cc parts in
      let rest : map event_of events ≡ some ++ others = cc parts in
      law base job some frames commands now just go_with (nothing-front some others (subst (λ (es : List ClientEvent). AllByRecursion AsksNothing es) rest (nothing-asked events)))
      (subst (λ (e : ClientEvent). GoesOver base (e ∷ some) frames commands now) is_first goes)

  -- what it then promises
  pub promised : CameToSome new base (asked_first job events) reached → Promises new.notes.lists job.work (listing_in new.attempt) reached
  promised (came, some, tells) =
      let stands = (comes came.some came.others came.frames came.commands came.now some came.in_order came.goes).stands in
      let listing : listing_of stands.a.job.work ≡ listing_in new.attempt = sym (tells.listing ∙ ap (λ (o : Option Attempted). listing_by o) stands.is_attempt) in
      subst (λ (l : Lists). Promises l job.work (listing_in new.attempt) reached) (sym tells.lists)
      (subst (λ (octets : List ℕ). Promises came.now.lists job.work octets reached) listing
      (subst (λ (o : Option Outcome). Promises came.now.lists job.work (listing_of stands.a.job.work) o) (sym came.outcome_is) stands.promises))

  -- where the client is closed something became of the job
  pub closed-done : (text : List ℕ) (done cut : List NotesCommand) → TakesAll base (asked_first job events) true reached text done cut → reached ≢ None
  closed-done text done cut all working =
      (comes (asked_first job events) [] all.0 done all.1 (λ none. cc none) (sym (append-nil (asked_first job events))) all.2).over all.6 (sym all.5 ∙ working)

-- further events behind those of before
pub asked-append : {D : Type 0} (past : Past D) (others : List NodeEvent) → all_events (record past { events = past.events ++ others }) ≡ all_events past ++ map event_of others
asked-append past others = ap (λ (es : List ClientEvent). asks past.job ∷ es) (map-append _ past.events others)

module _ {D : Type 0} (past : Past D) where
  -- more said
  pub further-said : (events : List NodeEvent) (text more : List ℕ) → record (further past events text) { text = (past.text ++ text) ++ more } ≡ further past events (text ++ more)
  further-said events text more = ap (λ (t : List ℕ). record past { events = past.events ++ events; text = t }) (append_assoc past.text text more)

  further-twice : (events others : List NodeEvent) (text more : List ℕ) → further (further past events text) others more ≡ further past (events ++ others) (text ++ more)
  further-twice events others text more =
      ap (λ (es : List NodeEvent). record past { events = es; text = (past.text ++ text) ++ more }) (append_assoc past.events events others) ∙ further-said (events ++ others) text more

  further-none : past ≡ further past [] []
  further-none =
      ap (λ (es : List NodeEvent). record past { events = es }) (sym (append-nil past.events)) ∙ ap (λ (t : List ℕ). record past { events = past.events ++ []; text = t }) (sym (append-nil past.text))

module _ {D : Type 0} (g : Ghosts D) where
  abbrev At : Type 0
  At = AtDisk ClientStation D

  -- what a client came to that has sent all
  pub came-silent : (past : Past D) (a : At) (h : CameOf g past a) → ((client : Client) → IsClient a.it.client client → IsSilent client) → GoesOver past.base (all_events past) h.frames h.commands h.now
  came-silent past a h silent = owes-silent past.whole past.base (all_events past) h.frames h.commands h.now h.owes (silent h.now h.is)

  -- then its events are whole
  pub came-whole : (past : Past D) (a : At) → CameOf g past a → ((client : Client) → IsClient a.it.client client → IsSilent client) → CameOf g (record past { whole = all_events past }) a
  came-whole past a h silent = record {
    just = h.just;
    go_with = h.go_with;
    frames = h.frames;
    commands = h.commands;
    now = h.now;
    owes = owes-whole past.whole past.base (all_events past) h.frames h.commands h.now h.owes (silent h.now h.is);
    text_is = h.text_is;
    is = h.is;
    does = h.does;
  }

  -- before any event
  pub owes-none : (a : At) → a.it.halted ≡ false → MayHear g a.it.client a.disk → OwesBy g a [] None [] a
  owes-none a awake may = (awake, may, λ past h. subst (λ (p : Past D). CameOf g p a) (further-none past) h)

  -- a stop with further events behind it
  stops-before : (past : Past D) (others : List NodeEvent) (why : NodeStop) (a : At) → StoppedAt g past why a → StoppedAt g (record past { events = past.events ++ others }) why a
  stops-before past others why a h = record {
    done = h.done;
    cut = h.cut;
    reached = h.reached;
    stops =
        subst (λ (es : List ClientEvent). StopsBehind past.whole past.base es why h.reached past.text h.done h.cut) (sym (asked-append past others))
        (stops-longer past.whole past.base (all_events past) (map event_of others) why h.reached past.text h.done h.cut h.stops);
    cuts = h.cuts;
    tells = h.tells;
    came = λ some.
        subst (λ (es : List ClientEvent). CameToSome a.it.client past.base es h.reached) (sym (asked-append past others))
        (came-longer a.it.client h.reached past.base (all_events past) (map event_of others) (h.came some));
  }

  pub lawful : IsLawful (client_course g) (λ (event : NodeEvent). ⊤)
  lawful = record {
    owes_none = λ start fit. owes-none start fit.awake fit.may;
    goes_none = λ start fit. (fit.nothing, λ past h. subst (λ (p : Past D). CameOf g p start) (further-none past) h);
    goes_on = λ start mid now events others text more h k. (
      k.0,
      λ past came. subst (λ (p : Past D). CameOf g p now) (further-twice past events others text more) (k.1 (further past events text) (h.1 past came)),
    );
    halts_behind = λ start mid now events others text more why unsaid h k. (
      k.0,
      λ past came. subst (λ (p : Past D). StoppedAt g p why now) (further-twice past events others text more) (k.1 (further past events text) (h.1 past came)),
    );
    halts_before = λ start now events others text why unsaid are h. (
      h.0,
      λ past came.
          subst (λ (es : List NodeEvent). StoppedAt g (record past { events = es; text = past.text ++ text }) why now) (append_assoc past.events events others)
          (stops-before (further past events text) others why now (h.1 past came)),
    );
  }

  -- an event was taken, and what it brings is still to be sent
  pub event-taken : (on : (first second third : D) → g.lasts first second → g.lasts second third → g.lasts first third) (a b : At) → IsFit g a → (event : NodeEvent) → b.it.halted ≡ false
      → MayHear g b.it.client b.disk
      → ((client : Client) → IsClient a.it.client client
      → IsClient b.it.client (happening client (event_of event)).after
      × DoesSeveral g ⊥ a.it.client.notes b.it.client.notes a.disk b.disk (happening client (event_of event)).noted)
      → OwesBy g a (event ∷ []) None [] b
  event-taken on a b fit event awake may taken = (awake, may, λ past h. by past h (taken h.now h.is))
    where
      by : (past : Past D) (h : CameOf g past a)
          → IsClient b.it.client (happening h.now (event_of event)).after
          × DoesSeveral g ⊥ a.it.client.notes b.it.client.notes a.disk b.disk (happening h.now (event_of event)).noted
          → CameOf g (further past (event ∷ []) []) b
      by past h all =
          let noted = (happening h.now (event_of event)).noted in
          record {
            just = h.just;
            go_with = h.go_with;
            frames = h.frames;
            commands = h.commands ++ noted;
            now = (happening h.now (event_of event)).after;
            owes =
                subst (λ (es : List ClientEvent). Owes past.whole past.base es h.frames (h.commands ++ noted) (happening h.now (event_of event)).after) (sym (asked-append past (event ∷ [])))
                (owes-more past.whole past.base (all_events past) h.frames h.commands h.now (event_of event) h.owes.between h.owes.in_order (came-silent past a h fit.nothing.silent)
                (fit.nothing.silent h.now h.is));
            text_is = append-nil past.text ∙ h.text_is;
            is = all.0;
            does = Several-then g on ⊥ ⊥ past.client.notes a.it.client.notes b.it.client.notes past.disk a.disk b.disk h.commands noted (λ never. never) h.does all.1;
          }

true_no : {X : Type 0} → true ≡ false → X
true_no same = absurd (let x : ⊥ = cc same in x)

neither : (a b : Bool) → (a || b) ≡ false → (a ≡ false) × (b ≡ false)
neither true b h = true_no h
neither false b h = (refl, h)

-- ---- it is closed exactly where it is over

not-false : (b : Bool) → b ≡ false → (c : Bool) → (c && not b) ≡ c
not-false true h c = true_no h
not-false false h true = refl
not-false false h false = refl

attempt-over : (w : Window) (attempt : Option AttemptState) (o : Option Attempted) → IsAttemptOf w attempt o → attempt_pending attempt ≡ false → attempt_closed attempt ≡ is_over_at o
attempt-over w None None is quiet = refl
attempt-over w None (Some a) is quiet = absurd is
attempt-over w (Some attempt) None is quiet = absurd is
attempt-over w (Some attempt) (Some a) is quiet =
    not-false (is_pending attempt.link) quiet (is_down attempt.link.state) ∙ ap (λ (link : Kept). is_down link.state) is.link.kept

no-stray : (o : Option Refused) (closed : Bool) → is_there o ≡ false → (not (is_there o) && closed) ≡ closed
no-stray None closed h = refl
no-stray (Some refused) closed h = true_no h

pub closed-over : (self : ClientState) (client : Client) → IsClient self client → client_pending self ≡ false → client_closed self ≡ is_over client
closed-over self client is quiet =
    let parts = neither (is_there self.stray) (attempt_pending self.attempt) quiet in
    no-stray self.stray (attempt_closed self.attempt) parts.0 ∙ attempt-over client.window self.attempt client.attempt is.attempt parts.1

-- ---- what it tells

told-by : (attempt : AttemptState) (a : Attempted) (job : JobState) (down : Option Why) → attempt.job ≡ job → attempt.down ≡ down → a.job ≡ job → a.down ≡ down
    → (attempted.outcome_by attempt.job.ending attempt.down ≡ attempted.outcome_by a.job.ending a.down) × (listing_of attempt.job.work ≡ listing_of a.job.work)
told-by attempt a job down h k m n = (cc, cc)

-- the attempt of the code's client tells what that one has
abbrev ToldOf : Option AttemptState → Option Attempted → Type 0
ToldOf attempt o = (outcome_in attempt ≡ outcome_by o) × (listing_in attempt ≡ listing_by o)

attempt-told : (w : Window) (attempt : Option AttemptState) (o : Option Attempted) → IsAttemptOf w attempt o → ToldOf attempt o
attempt-told w None None is = (refl, refl)
attempt-told w None (Some a) is = absurd is
attempt-told w (Some attempt) None is = absurd is
attempt-told w (Some attempt) (Some a) is = told-by attempt a a.job a.down is.job is.down refl refl

pub tells-of : (self : ClientState) (client : Client) → IsClient self client → TellsOf self client
tells-of self client is =
    let told = attempt-told client.window self.attempt client.attempt is.attempt in
    record { lists = is.lists; outcome = told.0; listing = told.1 }

-- sending frames changes none of it
abbrev SentAlike : Client → Client → Type 0
SentAlike old new = (new.lists ≡ old.lists) × (outcome_by new.attempt ≡ outcome_by old.attempt) × (listing_by new.attempt ≡ listing_by old.attempt) × (new.me ≡ old.me)

link-alike : (client : Client) (a : Attempted) (o : Option Sending) (sends : ClientSends) → client.attempt ≡ Some a → sends_of_link client a o ≡ Some sends → SentAlike client sends.after
link-alike client a None sends is h = absurd (cc h)
link-alike client a (Some sending) sends is h =
    let after : sends.after ≡ record client { attempt = Some (record a { end = sending.after }) } = sym (ap (λ (s : ClientSends). s.after) (same_Some _ sends h)) in
    subst (λ (c : Client). SentAlike client c) (sym after)
    (refl, sym (ap (λ (o : Option Attempted). outcome_by o) is), sym (ap (λ (o : Option Attempted). listing_by o) is), refl)

sent-alike : (client : Client) (o : Option Refused) (a : Option Attempted) (sends : ClientSends) → client.attempt ≡ a → sends_by client o ≡ Some sends → SentAlike client sends.after
sent-alike client None None sends is h =
    absurd (cc (subst (λ (o : Option Attempted). sends_of_attempt client o ≡ Some sends) is h))
sent-alike client None (Some a) sends is h =
    link-alike client a (next_sending client.window a.end) sends is (subst (λ (o : Option Attempted). sends_of_attempt client o ≡ Some sends) is h)
sent-alike client (Some refused) a sends is h =
    let after : sends.after ≡ record client { stray = None } = sym (ap (λ (s : ClientSends). s.after) (same_Some _ sends h)) in
    subst (λ (c : Client). SentAlike client c) (sym after) (refl, refl, refl, refl)

pub empties-alike : (client : Client) (frames : List FrameValue) (last : Client) → Empties client frames last → SentAlike client last
empties-alike client [] last h = subst (λ (c : Client). SentAlike client c) (sym h.1) (refl, refl, refl, refl)
empties-alike client (f ∷ frames) last h =
    let one = sent-alike client client.stray client.attempt h.0 refl h.1 in
    let rest = empties-alike h.0.after frames last h.3 in
    (rest.0 ∙ one.0, rest.1 ∙ one.1, rest.2 ∙ one.2, rest.3 ∙ one.3)

pub tells-sent : (self : ClientState) (client : Client) (frames : List FrameValue) (last : Client) → Empties client frames last → TellsOf self client → TellsOf self last
tells-sent self client frames last sent tells =
    let alike = empties-alike client frames last sent in
    record { lists = tells.lists ∙ sym alike.0; outcome = tells.outcome ∙ sym alike.1; listing = tells.listing ∙ sym alike.2 }

-- ---- what it needs to hear a frame stays

goes-still : (lists : Lists) (old new : Option AttemptState) → SameAttempt old new → GoWithAttempt lists old → GoWithAttempt lists new
goes-still lists None None same goes = goes
goes-still lists None (Some new) same goes = absurd same
goes-still lists (Some old) None same goes = absurd same
goes-still lists (Some old) (Some new) same goes = subst (λ (j : JobState). NotesGoWith lists j) (sym same.job) goes

pub may-still : {D : Type 0} (g : Ghosts D) (old new : ClientState) (disk : D) → SameButFrames old new → MayHear g old disk → MayHear g new disk
may-still g old new disk same may = may-kept g old new disk (record { same = same.same; notes = same.notes; go_with = λ lists. goes-still lists old.attempt new.attempt same.attempt }) may

module _ {D : Type 0} (g : Ghosts D) (lasts : (disk : D) → g.lasts disk disk) (old new : ClientStation) (disk : D) (awake : old.halted ≡ false) (still : new.halted ≡ false)
    (same : SameButFrames old.client new.client) (out octets : List ℕ) (answer : Bool) (is_true : answer ≡ true) (hands : HandsOutNext old.client new.client out octets answer)
    (ends : (client : Client) → IsClient new.client client → (frames : List FrameValue) × (last : Client) × Empties client frames last) where
  -- what is given, of whichever client it is
  abbrev Given : Client → Type 0
  Given now = (sends : ClientSends) × (client_next now ≡ Some sends) × IsClient new.client sends.after × (octets ≡ canonical sends.frame)

  given : (now : Client) → IsClient old.client now → Given now
  given now is = by (client_next now) refl (hands now is)
    where
      by : (sends : Option ClientSends) → client_next now ≡ sends → HandsOut sends old.client new.client out octets answer → Given now
      by None none h = absurd (true≢false (sym is_true ∙ h.0))
      by (Some sends) some h = (sends, some, h.1, h.2)

  module _ (past : Past D) (h : CameOf g past (at old disk)) where
    sent : Given h.now
    sent = given h.now h.is

    does : DoesSeveral g ⊥ past.client.notes new.client.notes past.disk disk h.commands
    does = subst (λ (n : NotesState). DoesSeveral g ⊥ past.client.notes n past.disk disk h.commands) (sym same.notes) h.does

    given-more : CameOf g (record past { text = past.text ++ kiss_text octets }) (at new disk)
    given-more = record {
      just = h.just;
      go_with = h.go_with;
      frames = h.frames ++ sent.0.frame ∷ [];
      commands = h.commands;
      now = sent.0.after;
      owes = owes-sent past.whole past.base (all_events past) h.frames h.commands h.now sent.0 h.owes sent.1;
      text_is =
          ap (λ (t : List ℕ). t ++ kiss_text octets) h.text_is ∙ ap (λ (o : List ℕ). text_of h.frames ++ kiss_text o) sent.3 ∙ sym (text-more h.frames sent.0.frame);
      is = sent.2;
      does = does;
    }

    given-unsaid : (front : List ℕ) → IsFront front (kiss_text octets) → StoppedAt g (record past { text = past.text ++ front }) stop.AirWrite (at new disk)
    given-unsaid front part = by (ends sent.0.after sent.2)
      where
        by : (frames : List FrameValue) × (last : Client) × Empties sent.0.after frames last → StoppedAt g (record past { text = past.text ++ front }) stop.AirWrite (at new disk)
        by rest =
            let frames : List FrameValue = sent.0.frame ∷ rest.0 in
            let whole : Empties h.now frames rest.1 = (sent.0, sent.1, refl, rest.2) in
            let tells = tells-sent new.client sent.0.after rest.0 rest.1 rest.2 (tells-of new.client sent.0.after sent.2) in
            let of_first : kiss_text (canonical sent.0.frame) ≡ front ++ part.0 = ap kiss_text (sym sent.3) ∙ part.1 in
            let of_all : IsFront front (text_of frames) =
            (part.0 ++ text_of rest.0, ap (λ (t : List ℕ). t ++ text_of rest.0) of_first ∙ append_assoc front part.0 (text_of rest.0)) in
            record {
              done = h.commands;
              cut = [];
              reached = outcome_by rest.1.attempt;
              stops =
                  subst (λ (t : List ℕ). StopsBehind past.whole past.base (all_events past) stop.AirWrite (outcome_by rest.1.attempt) (t ++ front) h.commands []) (sym h.text_is)
                  (h.owes.cut_off frames rest.1 front whole (λ e. cc e) of_all);
              cuts = cuts-none g lasts (IsErrOf {T = Finished} (Err stop.AirWrite) stop.Disk) past.client.notes new.client.notes past.disk disk h.commands (λ e. cc e) does;
              tells = tells.outcome;
              came = λ some. (
                record {
                  some = all_events past;
                  others = [];
                  in_order = sym (append-nil (all_events past));
                  frames = h.frames ++ frames;
                  commands = h.commands;
                  now = rest.1;
                  goes = h.owes.goes_on frames rest.1 whole;
                  outcome_is = refl;
                  listing_is = tells.listing;
                },
                λ none. cc none,
                tells,
              );
            }

  -- a frame is given
  pub gives-next : GivesNext (client_course g) (at old disk) (kiss_text octets) (at new disk)
  gives-next = record { goes_on = more; cut_off = unsaid }
    where
      more : (start : AtDisk ClientStation D) (events : List NodeEvent) (why : Option Halt) (said : List ℕ) → OwesBy g start events why said (at old disk)
          → OwesBy g start events why (said ++ kiss_text octets) (at new disk)
      more start events None said h = (
        still,
        may-still g old.client new.client disk same h.1,
        λ past came. subst (λ (p : Past D). CameOf g p (at new disk)) (further-said past events said (kiss_text octets)) (given-more (further past events said) (h.2 past came)),
      )
      more start events (Some why) said h = absurd (true≢false (sym h.0 ∙ awake))

      unsaid : (start : AtDisk ClientStation D) (events : List NodeEvent) (why : Option Halt) (said front : List ℕ) → IsFront front (kiss_text octets) → OwesBy g start events why said (at old disk)
          → HaltsBy g start events (stop_at_put why) true (said ++ front) (at new disk)
      unsaid start events None said front part h = (
        λ put. refl,
        λ past came.
            subst (λ (p : Past D). StoppedAt g p stop.AirWrite (at new disk)) (further-said past events said front) (given-unsaid (further past events said) (h.2 past came) front part),
      )
      unsaid start events (Some why) said front part h = absurd (true≢false (sym h.0 ∙ awake))

-- nothing more is to be given
pub gave-all : {D : Type 0} (g : Ghosts D) (old : ClientStation) (disk : D) → old.halted ≡ false → IsQuiet old.client → GaveAll (client_course g) (at old disk) (at old disk)
gave-all g old disk awake nothing start events None said h = ((nothing, h.2), record { awake = awake; may = h.1; nothing = nothing })
gave-all g old disk awake nothing start events (Some why) said h = absurd (true≢false (sym h.0 ∙ awake))

-- where nothing was handed out nothing is to be sent
pub hands-none : (old new : ClientState) (out octets : List ℕ) (answer : Bool) → HandsOutNext old new out octets answer → answer ≡ false → (client : Client) → IsClient old client → IsSilent client
hands-none old new out octets answer hands is_false client is = by (client_next client) refl (hands client is)
  where
    by : (sends : Option ClientSends) → client_next client ≡ sends → HandsOut sends old new out octets answer → client_next client ≡ None
    by None none h = none
    by (Some sends) some h = absurd (true≢false (sym h.0 ∙ is_false))

-- there is something among what has an item in the midst
pub no-split : {T : Type 0} (before : List T) (item : T) (behind : List T) → [] ≡ before ++ item ∷ behind → ⊥
no-split [] item behind h = absurd (cc h)
no-split (x ∷ before) item behind h = absurd (cc h)

module _ (client : Client) (frame : FrameValue) (told : IsToldDownOf client.attempt) (a : Attempted) (hears_it : attempt_for client frame ≡ Some a) where
  -- the attempt before packets are taken
  abbrev begins : Attempted
  begins = after_hearing client.window a frame

  is_attempt : client.attempt ≡ Some a
  is_attempt =
      cond_both (is_same_call frame.src client.server) client.attempt None (λ (o : Option Attempted). o ≡ Some a → client.attempt ≡ Some a) (λ same is. is) (λ other is. absurd (cc is)) hears_it

  -- the packets keep an outcome, so there was none before them
  no-ending : (lists : Lists) (before : List Item) → (taking lists begins before).after.job.ending ≡ None → (e : Option Ending) → a.job.ending ≡ e → a.job.ending ≡ None
  no-ending lists before none None is = is
  no-ending lists before none (Some ending) is =
      let job : begins.job ≡ a.job = told-job (heard_of client.window a.end frame) (with_end a (after_frame client.window a.end frame)) frame.kind.information in
      let begun : begins.job.ending ≡ Some ending = ap (λ (j : JobState). j.ending) job ∙ is in
      let kept : (taking lists begins before).after.job.ending ≡ Some ending = ap (λ (h : Happened). h.after.job.ending) (taking-ended lists begins before ending begun) ∙ begun in
      absurd (cc (sym none ∙ kept))

  -- a link that is down brings no packet
  not-down : (before : List Item) (item : Item) (behind : List Item) → packets_heard client.window a frame ≡ before ++ item ∷ behind → (d : Option Why) → a.down ≡ d → a.down ≡ None
  not-down before item behind parts None is = is
  not-down before item behind parts (Some why) is =
      let silent = still-silent client.window a.end frame (subst (λ (o : Option Attempted). IsToldDownOf o) is_attempt told why is) in
      absurd (no-split before item behind (sym (ap (λ (t : Heard). packets_told t a frame.kind.information) silent) ∙ parts))

  -- the client was at work
  pub stopped-working : {D : Type 0} (g : Ghosts D) (old new : WithNotes AttemptState D) (why : Halt) → StopsAmong g begins (packets_heard client.window a frame) old new why
      → is_under_way client.attempt ≡ true
  stopped-working g old new why h =
      ap is_under_way is_attempt
      ∙ ap (λ (e : Option Ending). is_none (attempted.outcome_by e a.down)) (no-ending old.notes.lists h.before h.stops.no_outcome a.job.ending refl)
      ∙ ap (λ (d : Option Why). is_none (attempted.outcome_by None d)) (not-down h.before h.item h.behind h.is_part a.down refl)

  -- and is so still
  told-down : (told : Heard) (b : Attempted) (octets : List ℕ) (before : List Item) (item : Item) (behind : List Item) → packets_told told a octets ≡ before ++ item ∷ behind → (after_told told b octets).down ≡ b.down
  told-down (Closed why) b octets before item behind parts = absurd (no-split before item behind parts)
  told-down told b octets before item behind parts = refl

  pub still-working : {D : Type 0} (g : Ghosts D) (old new : WithNotes AttemptState D) (why : Halt) → StopsAmong g begins (packets_heard client.window a frame) old new why
      → attempted.outcome_by new.state.job.ending new.state.down ≡ None
  still-working g old new why h =
      let down : new.state.down ≡ None =
      h.down ∙ told-down (heard_of client.window a.end frame) (with_end a (after_frame client.window a.end frame)) frame.kind.information h.before h.item h.behind h.is_part
      ∙ not-down h.before h.item h.behind h.is_part a.down refl in
      ap (λ (e : Option Ending). attempted.outcome_by e new.state.down) (ap (λ (j : JobState). j.ending) h.stops.same ∙ h.stops.no_outcome)
      ∙ ap (λ (d : Option Why). attempted.outcome_by None d) down

module _ {D : Type 0} (g : Ghosts D) (lasts : (disk : D) → g.lasts disk disk) (on : (first second third : D) → g.lasts first second → g.lasts second third → g.lasts first third) where
  some-cut : (P : Type 0) (old new : NotesState) (disk disk_n : D) (commands : List NotesCommand) → P → DoesSeveral g P old new disk disk_n commands → commands ≡ [] → ⊥
  some-cut P old new disk disk_n commands failed does none =
      let few = (does.does.cut failed).fewer in
      let empty : length commands ≡ 0 = ap (λ (cs : List NotesCommand). length cs) none in
      omega (arith, few, empty)

  module _ (old new : WithNotes AttemptState D) (frame : FrameValue) (client : Client) (lists_are : old.notes.lists ≡ client.lists) (told : IsToldDownOf client.attempt) where
    -- what it stopped by, of this frame's commands
    abbrev Halted : Halt → Type 0
    Halted why =
        (done : List NotesCommand) × (cut : List NotesCommand) × StopsAt (stop_of why) client (hears frame) None [] done cut
        × CutsOff g (IsErrOf {T = Finished} (Err (stop_of why)) stop.Disk) old.notes new.notes old.disk new.disk done cut

    module _ (a : Attempted) (hears_it : attempt_for client frame ≡ Some a) where
      abbrev start : Attempted
      start = after_hearing client.window a frame

      abbrev Among : Halt → Type 0
      Among why = StopsAmong g start (packets_heard client.window a frame) old new why

      -- the commands of the packets before, those of this one, and those behind
      noted-all : (why : Halt) (h : Among why) → (more : List NotesCommand)
          × ((client_hearing client frame).noted ≡ (taking old.notes.lists start h.before).noted ++ ((job_row h.notes_then.lists (taking old.notes.lists start h.before).after.job h.item).commands ++ more))
      noted-all why h =
          let part = taking old.notes.lists start h.before in
          let front = noted-front old.notes.lists start h.before h.item h.behind h.stops.no_outcome in (
            front.0,
            ap (λ (o : Option Attempted). (hearing_by client frame o).noted) hears_it
                ∙ ap (λ (l : Lists). (taking l start (packets_heard client.window a frame)).noted) (sym lists_are)
                ∙ ap (λ (items : List Item). (taking old.notes.lists start items).noted) h.is_part
                ∙ front.1
                ∙ ap (λ (l : Lists). part.noted ++ ((job_row l part.after.job h.item).commands ++ front.0)) (sym ((h.done.does.done (λ never. never)).0 (inl refl))),
          )

      halted-among : (why : Halt) → Among why → Halted why
      halted-among halt.Disk h =
          let part = taking old.notes.lists start h.before in
          let cut : List NotesCommand = (job_row h.notes_then.lists part.after.job h.item).commands in
          let all = noted-all halt.Disk h in (
            part.noted,
            cut,
            (all.0, all.1, some-cut ⊤ h.notes_then new.notes h.disk_then new.disk cut tt h.stops.noted, refl, refl),
            record {
              notes_then = h.notes_then;
              disk_then = h.disk_then;
              first = h.done;
              second = Several-same g ⊤ (IsErrOf {T = Finished} (Err stop.Disk) stop.Disk) h.notes_then new.notes h.disk_then new.disk cut (λ _. refl) (λ _. tt) h.stops.noted;
            },
          )
      halted-among halt.OutOfMemory h =
          let part = taking old.notes.lists start h.before in
          let all_of : List NotesCommand = (job_row h.notes_then.lists part.after.job h.item).commands in
          let all = noted-all halt.OutOfMemory h in
          let first : List NotesCommand = take h.stops.noted.0 all_of in
          let behind : List NotesCommand = drop h.stops.noted.0 all_of in
          let does = Several-then g on ⊥ ⊥ old.notes h.notes_then new.notes old.disk h.disk_then new.disk part.noted first (λ never. never) h.done h.stops.noted.2 in (
            part.noted ++ first,
            [],
            (
              behind ++ all.0,
              all.1
                  ∙ ap (λ (cs : List NotesCommand). part.noted ++ (cs ++ all.0)) (sym (take-append-drop h.stops.noted.0 all_of))
                  ∙ ap (λ (cs : List NotesCommand). part.noted ++ cs) (append_assoc first behind all.0)
                  ∙ sym (append_assoc part.noted first (behind ++ all.0)),
              stopped-working client frame told a hears_it g old new halt.OutOfMemory h,
              refl,
              refl,
              refl,
            ),
            cuts-none g lasts (IsErrOf {T = Finished} (Err stop.OutOfMemory) stop.Disk) old.notes new.notes old.disk new.disk (part.noted ++ first) (λ e. cc e) does,
          )

  module _ (law : GoesLaw) (a b : AtDisk ClientStation D) (fit : IsFit g a) (frame : FrameValue) (moment : ℕ) (why : Halt) where
    pub event-halted : (past : Past D) (h : CameOf g past a) → StopsBy g h.now frame a.it.client b.it.client a.disk b.disk why → StoppedAt g (further past (node.hears frame moment ∷ []) []) (stop_of why) b
    event-halted past h stops =
        let goes = came-silent g past a h fit.nothing.silent in
        let stands = (law past.base past.job _ h.frames h.commands h.now h.just h.go_with (nothing-asked past.events) goes).stands in
        let told : IsToldDownOf h.now.attempt = subst (λ (o : Option Attempted). IsToldDownOf o) (sym stands.is_attempt) stands.told_down in
        let old = with_notes stops.was a.it.client.notes a.disk in
        let new = with_notes stops.attempt b.it.client.notes b.disk in
        let halted = halted-among old new frame h.now h.is.lists told stops.a stops.hears why stops.stops in
        record {
          done = h.commands ++ halted.0;
          cut = halted.1;
          reached = None;
          stops =
              record {
                stops =
                    record {
                      before = all_events past;
                      next = hears frame;
                      later = [];
                      events_are = asked-append past (node.hears frame moment ∷ []);
                      frames = h.frames;
                      commands = h.commands;
                      client_then = h.now;
                      goes = goes;
                      last = [];
                      more = halted.0;
                      stops = halted.2;
                      text_is = ap (λ (t : List ℕ). t ++ []) h.text_is;
                      done_is = refl;
                    };
                between = h.owes.between;
                in_order = h.owes.in_order;
              };
          cuts =
              cuts-then g on (IsErrOf {T = Finished} (Err (stop_of why)) stop.Disk) past.client.notes a.it.client.notes b.it.client.notes past.disk a.disk b.disk h.commands halted.0 halted.1 h.does
              halted.3;
          tells = ap outcome_in stops.is_attempt ∙ still-working h.now frame told stops.a stops.hears g old new why stops.stops;
          came = λ some. absurd (some refl);
        }
