-- The attempts of a client go with it, whatever reaches it.
use Rattle.std.proofs.Common.{◌≡◌, ℕ, List, [], ◌∷◌, map, Bool, true, false, Option, None, Some, refl, sym, ap, ◌∙◌}
use Rattle.std.proofs.Common.{subst}
use Rattle.std.specs.Prelude.{if◌then◌else◌}
use Rattle.ax25_link.specs.LinkStep as coming
use Rattle.client_notes.specs.Command.{NotesCommand}
use Rattle.client_notes.specs.Notes.{is_same_call}
use Rattle.ftl0_client.specs.Attempt.Hearing.{hearing}
use Rattle.ftl0_client.specs.Attempt.Taking.{Happened}
use Rattle.ftl0_client.specs.Client.{Client, ClientEvent, asks, attempt_for, heard_by, hears, ticks, with_attempt}
use Rattle.ftl0_client.specs.ClientStep.{ClientStep}
use Rattle.ftl0_client.specs.Entries.{HearingLaw}
use Rattle.ftl0_client.specs.Laws.{HasStep, MayStep, OneStepLaw, SomeStepLaw}
use Rattle.ftl0_client.specs.StepLaws.Steps.{StepLaw, StepsBy, answers_to, called_for, sabm_of}
use Rattle.air_world.proofs.attempts.Names.{slice_get, same_Some, CallSign, FrameValue, IsLawful, Transmission, delivering, fresh, LinkEnd, Window, same_call-decides, JobState, Attempted, ticking, with_end, OutcomeLaw, quietly, TickingLaw, entries_heard, entries_ticked, Attempt, IsAttempt, IsFromTo, ClientLaw, DeliversToClient, GoesWith, MayComeTo, MaySay, MaySayAt, IsLinkOf, to_client_delivered, with_newest, ClientDid, after_event, called_again, did_by, has_call, job_gone_on}
use Rattle.air_world.proofs.attempts.ClientAsks.{asked-attempt, passed-attempt}
use Rattle.air_world.proofs.attempts.ClientAttempt.{moved}
use Rattle.air_world.proofs.attempts.ClientHears.{frame-moves}
use Rattle.air_world.proofs.attempts.ClientJob.{SaysInRange, gone_on}
use Rattle.air_world.proofs.attempts.ClientLink.{StepOf}
use Rattle.air_world.proofs.attempts.ClientTicks.{tick-begins, tick-moves}
use Rattle.air_world.proofs.attempts.ListLemmas.{all-at}

-- the laws of a client that these use
pub record Below : Type 0 where
  pub step : StepLaw
  pub hearing : HearingLaw
  pub ticking : TickingLaw
  pub outcome : OutcomeLaw
  pub some : SomeStepLaw
  pub one : OneStepLaw

-- the attempts after an event, and that they go with the client
abbrev Goes : Client → ClientEvent → Client → List FrameValue → List Attempt → Type 0
Goes old event new frames marked =
    GoesWith new (after_event event (record { old = old; now = new; frames = frames }) marked)

-- by whichever attempt the client has then
abbrev GoesBy : Client → ClientEvent → Client → List FrameValue → List Attempt → Option Attempted → Type 0
GoesBy old event new frames marked before =
    GoesWith new (did_by event before new.attempt (record { old = old; now = new; frames = frames }) marked)

module _ (below : Below) (old new : Client) (event : ClientEvent) (noted : List NotesCommand)
    (frames : List FrameValue) where
  may-step : MayStep old → ClientStep old event noted frames new → MayStep new
  may-step may step =
      let has : HasStep old event = below.some old event may in
      let same = below.one old event noted has.noted frames has.frames new has.new step has.step in
      subst MayStep (sym same.client) has.may_step

-- ---- asking

module _ (below : Below) (old new : Client) (job : JobState) (noted : List NotesCommand) (frames : List FrameValue)
    (attempts marked : List Attempt) where
  asks-goes : GoesWith old attempts → MayComeTo (asks job) attempts marked → ClientStep old (asks job) noted frames new
      → Goes old (asks job) new frames marked
  asks-goes goes comes step =
      let asked = below.step.asked old new job noted frames step in
      let that : Client = with_attempt old (called_for old job) in
      let may : MayStep that = subst MayStep asked.new_is
      (may-step below old new (asks job) noted frames goes.may_step step) in
      let at : Goes old (asks job) that (sabm_of old ∷ []) attempts = record {
        window = goes.window;
        attempts_are = (asked-attempt old.window goes.window old.me old.server job comes.0, goes.attempts_are);
        windows = (refl, goes.windows);
        link = refl;
        may_step = may;
      } in
      subst (λ (n : Client). Goes old (asks job) n frames marked) (sym asked.new_is)
      (subst (λ (fs : List FrameValue). Goes old (asks job) that fs marked) (sym asked.frames_are)
      (subst (λ (m : List Attempt). Goes old (asks job) that (sabm_of old ∷ []) m) (sym comes.1) at))

-- ---- hearing and ticking

-- the client once its attempt became this, and its end of the link has sent all
abbrev stepped : Client → Happened → LinkEnd → Client
stepped old happened last = (heard_by old (record happened { after = with_end happened.after last })).after

-- a client without a link
no-link : (current : Option Attempt) (o : Option Attempted) → o ≡ None → IsLinkOf current o
no-link current None none = tt
no-link current (Some a) none = absurd (cc none)

step-of : (old new : Client) (a : Attempted) (came : coming.Coming) (happened : Happened) (noted : List NotesCommand)
    (frames : List FrameValue)
    → (steps : StepsBy old a came happened noted frames new)
    → StepOf old.window a.end came happened.after.end frames steps.last
step-of old new a came happened noted frames steps =
    record { doings = steps.doings; link = steps.link; ends = steps.ends }

module _ (below : Below) (old new : Client) (noted : List NotesCommand) (frames : List FrameValue) (a : Attempt)
    (older : List Attempt) (goes : GoesWith old (a ∷ older)) where
  is : IsAttempt old.me old.server a
  is = goes.attempts_are.0

  says-of : MaySay old a → SaysInRange old.lists a.client
  says-of may = record { asked = may.asked; go_with = may.go_with }

  -- ---- a frame

  module _ (place : ℕ) (t : Transmission) (lawful : IsLawful a.window a.by_server place t)
      (step : ClientStep old (hears t.frame) noted frames new) where
    abbrev delivered : List Attempt
    delivered = to_client_delivered place t a ∷ older

    abbrev list : List Transmission
    list = delivering a.by_server place t

    may : MayStep new
    may = may-step below old new (hears t.frame) noted frames goes.may_step step

    attempt-is : attempt_for old t.frame ≡ old.attempt
    attempt-is =
        let from = all-at (λ u. IsFromTo a.window old.server old.me u.frame) a.by_server place t is.stations.from_server
        lawful.sent in
        ap (λ (src : CallSign). if is_same_call src old.server then old.attempt else None) from.src_is
        ∙ ap (λ (b : Bool). if b then old.attempt else None) ((same_call-decides old.server old.server).1 refl)

    -- without a link
    passes : old.attempt ≡ None → Goes old (hears t.frame) new frames delivered
    passes none =
        let passed = below.step.passed old new t.frame noted frames step (attempt-is ∙ none) in
        let may_old : MayStep old = subst MayStep passed.new_is may in
        let at : GoesBy old (hears t.frame) old (answers_to old t.frame) delivered None = record {
          window = goes.window;
          attempts_are = (passed-attempt old.me old.server a is place t lawful, goes.attempts_are.1);
          windows = goes.windows;
          link =
              no-link (slice_get (did_by (hears t.frame) None old.attempt
              (record { old = old; now = old; frames = answers_to old t.frame }) delivered) 0) old.attempt none;
          may_step = may_old;
        } in
        subst (λ (n : Client). Goes old (hears t.frame) n frames delivered) (sym passed.new_is)
        (subst (λ (fs : List FrameValue). Goes old (hears t.frame) old fs delivered) (sym passed.frames_are)
        (subst (λ (o : Option Attempted). GoesBy old (hears t.frame) old (answers_to old t.frame) delivered o)
        (sym none) at))

    -- by its link
    module _ (before : Attempted) (same : old.attempt ≡ Some before) (link : a.client.attempted ≡ before)
        (says : SaysInRange old.lists a.client) where
      abbrev happened : Happened
      happened = hearing old.window old.lists before t.frame

      abbrev Moves : Window → Attempted → LinkEnd → Type 0
      Moves w b last =
          StepOf w b.end (coming.frame t.frame) (hearing w old.lists b t.frame).after.end frames last
          → IsAttempt old.me old.server
          (moved (gone_on (entries_heard w old.lists b t.frame) (hearing w old.lists b t.frame).after last a.client)
          frames list a)

      heard-moves : (last : LinkEnd) → Moves old.window before last
      heard-moves last =
          subst (λ (b : Attempted). Moves old.window b last) link
          (subst (λ (w : Window). Moves w a.client.attempted last) goes.windows.0
          (λ one. frame-moves below.hearing below.outcome old.me old.server old.lists a is says place t lawful last
          frames one))

      hears-goes : Goes old (hears t.frame) new frames delivered
      hears-goes =
          let steps = below.step.heard old new t.frame before noted frames step (attempt-is ∙ same) in
          let one = step-of old new before (coming.frame t.frame) happened noted frames steps in
          let that : Client = stepped old happened steps.last in
          let at : GoesBy old (hears t.frame) that frames delivered (Some before) = record {
            window = goes.window;
            attempts_are = (heard-moves steps.last one, goes.attempts_are.1);
            windows = goes.windows;
            link = refl;
            may_step = subst MayStep steps.new_is may;
          } in
          subst (λ (n : Client). Goes old (hears t.frame) n frames delivered) (sym steps.new_is)
          (subst (λ (o : Option Attempted). GoesBy old (hears t.frame) that frames delivered o) (sym same) at)

  -- ---- a tick

  module _ (step : ClientStep old ticks noted frames new) (before : Attempted) (same : old.attempt ≡ Some before)
      (link : a.client.attempted ≡ before)
      (says : SaysInRange old.lists a.client) where
    abbrev Step : Window → Attempted → LinkEnd → Type 0
    Step w b last = StepOf w b.end coming.tick (ticking b).end frames last

    ticked-moves : has_call frames ≡ false → (last : LinkEnd) → Step old.window before last
        → IsAttempt old.me old.server
        (moved (gone_on (entries_ticked before) (ticking before) last a.client) frames a.by_server a)
    ticked-moves none last =
        let Moves : Window → Attempted → Type 0 =
        λ w b. Step w b last → IsAttempt old.me old.server
        (moved (gone_on (entries_ticked b) (ticking b) last a.client) frames a.by_server a) in
        subst (Moves old.window) link
        (subst (λ (w : Window). Moves w a.client.attempted) goes.windows.0
        (λ one. tick-moves below.ticking below.outcome old.me old.server old.lists a is says last frames one none))

    -- the attempt that a further SABM begins
    abbrev anew : Window → Attempted → LinkEnd → Attempt
    anew w b last = record {
      window = w;
      client = record { attempted = with_end (ticking b) last; asked = a.client.asked; entries = [] };
      server = None;
      by_client = map fresh frames;
      by_server = [];
    }

    ticked-begins : has_call frames ≡ true → (last : LinkEnd) → Step old.window before last
        → IsAttempt old.me old.server (anew old.window before last)
    ticked-begins calls last =
        let Begins : Window → Attempted → Type 0 = λ w b. Step w b last → IsAttempt old.me old.server (anew w b last) in
        subst (Begins old.window) link
        (subst (λ (w : Window). Begins w a.client.attempted) goes.windows.0
        (λ one. tick-begins below.ticking below.outcome old.me old.server old.lists a is says last frames one
        calls))

    ticks-goes : Goes old ticks new frames (a ∷ older)
    ticks-goes =
        subst (λ (n : Client). Goes old ticks n frames (a ∷ older)) (sym steps.new_is)
        (subst (λ (o : Option Attempted). GoesBy old ticks that frames (a ∷ older) o) (sym same)
        (by (has_call frames) refl))
      where
        steps : StepsBy old before coming.tick (quietly (ticking before)) noted frames new
        steps = below.step.ticked old new before noted frames step same

        one : Step old.window before steps.last
        one = step-of old new before coming.tick (quietly (ticking before)) noted frames steps

        that : Client
        that = stepped old (quietly (ticking before)) steps.last

        may : MayStep that
        may = subst MayStep steps.new_is (may-step below old new ticks noted frames goes.may_step step)

        did : ClientDid
        did = record { old = old; now = that; frames = frames }

        now : Attempted
        now = with_end (ticking before) steps.last

        by : (calls : Bool) → has_call frames ≡ calls
            → GoesWith that (if calls then called_again did now (a ∷ older) else with_newest
            (job_gone_on did now (entries_ticked before)) (a ∷ older))
        by true calls = record {
          window = goes.window;
          attempts_are = (ticked-begins calls steps.last one, goes.attempts_are);
          windows = (refl, goes.windows);
          link = refl;
          may_step = may;
        }
        by false none = record {
          window = goes.window;
          attempts_are = (ticked-moves none steps.last one, goes.attempts_are.1);
          windows = goes.windows;
          link = refl;
          may_step = may;
        }

-- ---- whatever comes

module _ (below : Below) (old new : Client) (noted : List NotesCommand) (frames : List FrameValue) where
  -- what the newest attempt needs, if the client's link is its
  says-newest : (a : Attempt) (older : List Attempt) (before : Attempted)
      → ((b : Attempt) → Some a ≡ Some b → old.attempt ≡ Some b.client.attempted → MaySay old b)
      → old.attempt ≡ Some before → a.client.attempted ≡ before → SaysInRange old.lists a.client
  says-newest a older before says same link =
      let may = says a refl (same ∙ ap (λ (b : Attempted). Some b) (sym link)) in
      record { asked = may.asked; go_with = may.go_with }

  linked-to : (a : Attempt) (o : Option Attempted) (before : Attempted) → o ≡ Some before → IsLinkOf (Some a) o
      → a.client.attempted ≡ before
  linked-to a None before same link = absurd (cc same)
  linked-to a (Some now) before same link = link ∙ same_Some now before same

  hears-by : (attempts marked : List Attempt) (frame : FrameValue) → GoesWith old attempts
      → MaySayAt (hears frame) old attempts → DeliversToClient attempts frame marked
      → ClientStep old (hears frame) noted frames new → Goes old (hears frame) new frames marked
  hears-by [] marked frame goes says comes step = absurd (let no = comes.current in cc no)
  hears-by (a ∷ older) marked frame goes says comes step =
      subst (λ (f : FrameValue). Goes old (hears f) new frames marked) (sym comes.frame_is)
      (subst (λ (m : List Attempt). Goes old (hears comes.t.frame) new frames m) (sym comes.marked_is)
      (by old.attempt refl))
    where
      lawful : IsLawful a.window a.by_server comes.place comes.t
      lawful =
          subst (λ (b : Attempt). IsLawful b.window b.by_server comes.place comes.t)
          (sym (same_Some a comes.attempt comes.current)) comes.lawful

      heard : ClientStep old (hears comes.t.frame) noted frames new
      heard = subst (λ (f : FrameValue). ClientStep old (hears f) noted frames new) comes.frame_is step

      by : (o : Option Attempted) → old.attempt ≡ o
          → Goes old (hears comes.t.frame) new frames (to_client_delivered comes.place comes.t a ∷ older)
      by None none = passes below old new noted frames a older goes comes.place comes.t lawful heard none
      by (Some before) same =
          let link = linked-to a old.attempt before same goes.link in
          hears-goes below old new noted frames a older goes comes.place comes.t lawful heard before same link
          (says-newest a older before says same link)

  ticks-by : (attempts marked : List Attempt) → GoesWith old attempts → MaySayAt ticks old attempts → marked ≡ attempts
      → ClientStep old ticks noted frames new
      → Goes old ticks new frames marked
  ticks-by attempts marked goes says comes step =
      subst (λ (m : List Attempt). Goes old ticks new frames m) (sym comes) (by old.attempt refl)
    where
      with : (attempts : List Attempt) → GoesWith old attempts → MaySayAt ticks old attempts → (before : Attempted)
          → old.attempt ≡ Some before → Goes old ticks new frames attempts
      with [] goes says before same = absurd (subst (λ (o : Option Attempted). IsLinkOf None o) same goes.link)
      with (a ∷ older) goes says before same =
          let link = linked-to a old.attempt before same goes.link in
          ticks-goes below old new noted frames a older goes step before same link
          (says-newest a older before says same link)

      by : (o : Option Attempted) → old.attempt ≡ o → Goes old ticks new frames attempts
      by (Some before) same = with attempts goes says before same
      by None none =
          let idle = below.step.idle old new noted frames step none in
          subst (λ (n : Client). Goes old ticks n frames attempts) (sym idle.new_is)
          (subst (λ (o : Option Attempted). GoesBy old ticks old frames attempts o) (sym none) goes)

pub client-law : Below → ClientLaw
client-law below old new (asks job) noted frames attempts marked goes says comes step =
    asks-goes below old new job noted frames attempts marked goes comes step
client-law below old new (hears frame) noted frames attempts marked goes says comes step =
    hears-by below old new noted frames attempts marked frame goes says comes step
client-law below old new ticks noted frames attempts marked goes says comes step =
    ticks-by below old new noted frames attempts marked goes says comes step
