-- A frame that a client hears, and a tick: the client is then as it should be.
use Rattle.std.proofs.Common.{◌≡◌, ℕ, zero, suc, List, [], ◌∷◌, Bool, true, Option, None, Some, refl, sym, ap, subst}
use Rattle.std.proofs.Common.{◌∙◌}
use Rattle.std.specs.Prelude.{if◌then◌else◌}
use Rattle.client_notes.specs.Notes.{is_same_call}
use Rattle.client_notes.specs.Several as notes
use Rattle.ftl0_client.specs.Client.{hears}
use Rattle.ftl0_client.specs.Entries as job
use Rattle.air_world.proofs.Names.{slice_get, FrameValue, IsLawful, Transmission, frame as coming_frame, same_call-decides, NotesCommand, Lists, Attempted, hearing, with_end, AttemptStands, Client, attempt_for, ClientStep, JobEntry, StepsBy, StepsQuietly, answers_to, Attempt, IsAttempt, IsFromTo, DeliversToClient, GoesWith, Party, client_sends, newest, to_client_delivered, with_newest, ClientDid, after_event, did_by, job_gone_on, all-at, HasFacts, started_with, AreTasks, tasks-lists, Sound, ClientLaws, PartyAt, World}
use Rattle.air_world.proofs.ClientBasics.{HasLink, goes-with, has-link}
use Rattle.air_world.proofs.ClientMade.{IsClientMade}
use Rattle.air_world.proofs.ClientQuiet.{quiet-made, still-answered}
use Rattle.air_world.proofs.JobWent.{Went, client-made, facts-during, tasks-during}
use Rattle.air_world.proofs.Rebuild.{stands-at}
use Rattle.air_world.proofs.SayLemmas.{may-say-at}

-- if nothing is noted the notes stay
pub nothing-noted : (count : ℕ) (lists : Lists) (noted : List NotesCommand) → noted ≡ []
    → notes.after_first count lists noted ≡ lists
nothing-noted zero lists noted none = refl
nothing-noted (suc count) lists noted none = ap (λ commands. notes.after_first (suc count) lists commands) none

-- a transmission of the server in the client's current attempt may be delivered
pub record IsReceiving (old : World) (c : ℕ) (party : Party) (place : ℕ) (t : Transmission) : Type 0 where
  pub is : PartyAt old c party
  pub attempt : Attempt
  pub current : newest party ≡ Some attempt
  pub lawful : IsLawful attempt.window attempt.by_server place t

module _ (laws : ClientLaws) (old : World) (sound : Sound old) (c : ℕ) (party : Party) where
  abbrev pub did-of : Client → List FrameValue → ClientDid
  did-of now frames = record { old = party.client; now = now; frames = frames }

  -- the notes go with the job of the link
  pub its-stands : (is : PartyAt old c party) (link : Attempted) (has : party.client.attempt ≡ Some link)
      → AttemptStands (has-link old sound c party is link has).attempt.client.asked party.client.lists link
  its-stands is link has =
      let linked = has-link old sound c party is link has in
      let first = ap (λ (attempts : List Attempt). slice_get attempts 0) linked.attempts_are in
      subst (λ (it : Attempted). AttemptStands linked.attempt.client.asked party.client.lists it) linked.attempted_is
      (stands-at party (newest party) linked.attempt first (sound.parties c party is).job
      (has ∙ ap Some (sym linked.attempted_is)))

  module _ (place : ℕ) (t : Transmission) (coming : IsReceiving old c party place t) where
    abbrev pub received : List Attempt
    received = with_newest (to_client_delivered place t) party.attempts

    pub receives : DeliversToClient party.attempts t.frame received
    receives =
        record {
          attempt = coming.attempt;
          current = coming.current;
          place = place;
          t = t;
          lawful = coming.lawful;
          frame_is = refl;
          marked_is = refl;
        }

    src-is : t.frame.src ≡ party.client.server
    src-is =
        let attempt = all-at (IsAttempt party.client.me party.client.server) party.attempts 0 coming.attempt
        (sound.parties c party coming.is).attempts coming.current in
        let from = all-at (λ (t : Transmission). IsFromTo coming.attempt.window party.client.server party.client.me
        t.frame) coming.attempt.by_server place t attempt.stations.from_server coming.lawful.sent in
        from.src_is

    for-link : attempt_for party.client t.frame ≡ party.client.attempt
    for-link =
        let same : is_same_call t.frame.src party.client.server ≡ true =
        subst (λ call. is_same_call call party.client.server ≡ true) (sym src-is)
        ((same_call-decides party.client.server party.client.server).1 refl) in
        ap (λ (b : Bool). if b then party.client.attempt else None) same

    module _ (noted : List NotesCommand) (frames : List FrameValue) (now : Client)
        (step : ClientStep party.client (hears t.frame) noted frames now) where
      abbrev pub heard-party : Party
      heard-party = record party { client = now; attempts = after_event (hears t.frame) (did-of now frames) received }

      goes : GoesWith now (after_event (hears t.frame) (did-of now frames) received)
      goes =
          laws.client party.client now (hears t.frame) noted frames party.attempts received
          (goes-with old sound c party coming.is)
          (may-say-at old c party (hears t.frame) sound coming.is) receives step

      -- its link heard it
      module _ (link : Attempted) (has : party.client.attempt ≡ Some link) where
        steps : StepsBy party.client link (coming_frame t.frame)
            (hearing party.client.window party.client.lists link t.frame) noted frames now
        steps = laws.step.heard party.client now t.frame link noted frames step (for-link ∙ has)

        abbrev linked : HasLink old sound c party coming.is link
        linked = has-link old sound c party coming.is link has

        abbrev entries : List JobEntry
        entries = job.entries_heard party.client.window party.client.lists link t.frame

        abbrev attempted : Attempted
        attempted = with_end (hearing party.client.window party.client.lists link t.frame).after steps.last

        abbrev gone : Attempt
        gone = job_gone_on (did-of now frames) attempted entries (to_client_delivered place t linked.attempt)

        attempts-are : after_event (hears t.frame) (did-of now frames) received ≡ gone ∷ linked.older
        attempts-are =
            ap (λ (before : Option Attempted). did_by (hears t.frame) before now.attempt (did-of now frames) received)
            has
            ∙ ap (λ (after : Option Attempted). did_by (hears t.frame) (Some link) after (did-of now frames) received)
            (ap (λ (it : Client). it.attempt) steps.new_is)
            ∙ ap (λ (attempts : List Attempt). with_newest (job_gone_on (did-of now frames) attempted entries)
            (with_newest (to_client_delivered place t) attempts)) linked.attempts_are

        went-heard : Went laws old sound c party coming.is link has now
        went-heard =
            let law = laws.hearing party.client.window party.client.lists link t.frame in
            record {
              happened = hearing party.client.window party.client.lists link t.frame;
              last = steps.last;
              entries = entries;
              goes = law.2;
              noted = law.0.noted;
              stands =
                  (laws.stands linked.attempt.client.asked party.client.window party.client.lists link t.frame
                  (its-stands coming.is link has)).0;
              now_is = steps.new_is;
              gone = gone;
              client_is = refl;
              server_is = refl;
              goes_with = subst (λ attempts. GoesWith now attempts) attempts-are goes;
            }

        linked-made : IsClientMade old c party heard-party []
        unfolding went-heard
        linked-made =
            subst (λ attempts. IsClientMade old c party (record party { client = now; attempts = attempts }) [])
            (sym attempts-are)
            (client-made laws old sound c party coming.is link has now went-heard)

        -- what is true after the first of the commands
        pub linked-facts : (count : ℕ)
            → HasFacts old.server.store old.files
            (started_with party (notes.after_first count party.client.lists noted))
        unfolding went-heard
        linked-facts count =
            subst (λ commands. HasFacts old.server.store old.files
            (started_with party (notes.after_first count party.client.lists commands))) (sym steps.noted_is)
            (facts-during laws old sound c party coming.is link has now went-heard count)

        pub linked-tasks : (count : ℕ)
            → AreTasks old.files c (started_with party (notes.after_first count party.client.lists noted))
        unfolding went-heard
        linked-tasks count =
            subst (λ commands. AreTasks old.files c (started_with party
            (notes.after_first count party.client.lists commands))) (sym steps.noted_is)
            (tasks-during laws old sound c party coming.is link has now went-heard count)

      -- it has no link
      module _ (none : party.client.attempt ≡ None) where
        quiet : StepsQuietly (answers_to party.client t.frame) party.client noted frames now
        quiet = laws.step.passed party.client now t.frame noted frames step (for-link ∙ none)

        abbrev these : List Attempt
        these = with_newest (client_sends frames) received

        these-are : after_event (hears t.frame) (did-of now frames) received ≡ these
        these-are =
            ap (λ (before : Option Attempted). did_by (hears t.frame) before now.attempt (did-of now frames) received)
            none

        passed-made : IsClientMade old c party heard-party []
        passed-made =
            let with-old = subst (λ (it : Client). GoesWith it these) quiet.new_is
            (subst (λ attempts. GoesWith now attempts) these-are goes) in
            let made = quiet-made laws.stay old sound c party coming.is these
            (still-answered place t frames party.attempts) with-old in
            subst (λ attempts. IsClientMade old c party (record party { client = now; attempts = attempts }) [])
            (sym these-are)
            (subst (λ (it : Client). IsClientMade old c party (record party { client = it; attempts = these }) [])
            (sym quiet.new_is) made)

      pub heard-client : IsClientMade old c party heard-party []
      heard-client = by party.client.attempt refl
        where
          by : (o : Option Attempted) → party.client.attempt ≡ o → IsClientMade old c party heard-party []
          by None none = passed-made none
          by (Some link) has = linked-made link has

      -- the facts and the tasks of the client that starts again from its notes after the first of the commands
      pub heard-facts : (count : ℕ)
          → HasFacts old.server.store old.files (started_with party (notes.after_first count party.client.lists noted))
      heard-facts count = by party.client.attempt refl
        where
          by : (o : Option Attempted) → party.client.attempt ≡ o
              → HasFacts old.server.store old.files
              (started_with party (notes.after_first count party.client.lists noted))
          by None none =
              subst (λ lists. HasFacts old.server.store old.files (started_with party lists))
              (sym (nothing-noted count party.client.lists noted (quiet none).noted_is))
              (laws.stay.started old.server.store old.files party (sound.parties c party coming.is).facts)
          by (Some link) has = linked-facts link has count

      pub heard-tasks : (count : ℕ)
          → AreTasks old.files c (started_with party (notes.after_first count party.client.lists noted))
      heard-tasks count = by party.client.attempt refl
        where
          by : (o : Option Attempted) → party.client.attempt ≡ o
              → AreTasks old.files c (started_with party (notes.after_first count party.client.lists noted))
          by None none =
              tasks-lists old.files c party (started_with party (notes.after_first count party.client.lists noted)) refl
              refl
              (nothing-noted count party.client.lists noted (quiet none).noted_is) refl
              (sound.parties c party coming.is).tasks
          by (Some link) has = linked-tasks link has count
