-- A tick of a client: the client is then as it should be.
use Rattle.std.proofs.Common.{◌≡◌, ℕ, List, [], ◌∷◌, Bool, true, false, Option, None, Some, refl, sym, ap, subst, ◌∙◌}
use Rattle.std.proofs.Common.{append-nil}
use Rattle.std.specs.Prelude.{if◌then◌else◌}
use Rattle.ftl0_client.specs.Client.{ticks}
use Rattle.ftl0_client.specs.Entries as job
use Rattle.air_world.proofs.Names.{AllByRecursion, FrameValue, tick as coming_tick, NotesCommand, Attempted, ticking, with_end, AttemptStands, quietly, Client, ClientStep, StepsBy, StepsQuietly, sabm_of, Attempt, GoesWith, Party, with_newest, ClientDid, after_client_tick, after_event, beginning, called_again, did_by, has_call, job_gone_on, GoesOnWithTask, IsWork, Sound, ClientLaws, PartyAt, World}
use Rattle.air_world.proofs.ClientBasics.{HasLink, goes-with, has-link, its-attempt}
use Rattle.air_world.proofs.ClientBegun.{Begins, begun-made}
use Rattle.air_world.proofs.ClientHeard.{did-of, its-stands}
use Rattle.air_world.proofs.ClientMade.{IsClientMade}
use Rattle.air_world.proofs.ClientQuiet.{quiet-made, still-itself}
use Rattle.air_world.proofs.JobWent.{Went, client-made}
use Rattle.air_world.proofs.SayLemmas.{may-say-at}
use Rattle.air_world.proofs.Asked.{same-base}

module _ (laws : ClientLaws) (old : World) (sound : Sound old) (c : ℕ) (party : Party) (is : PartyAt old c party)
    (noted : List NotesCommand) (frames : List FrameValue) (now : Client)
    (step : ClientStep party.client ticks noted frames now) where
  abbrev did : ClientDid
  did = did-of laws old sound c party now frames

  abbrev pub ticked-party : Party
  ticked-party = record party { client = now; attempts = after_event ticks did party.attempts }

  goes : GoesWith now (after_event ticks did party.attempts)
  goes =
      laws.client party.client now ticks noted frames party.attempts party.attempts (goes-with old sound c party is)
      (may-say-at old c party ticks sound is) refl step

  -- it has no link
  module _ (none : party.client.attempt ≡ None) where
    quiet : StepsQuietly [] party.client noted frames now
    quiet = laws.step.idle party.client now noted frames step none

    these-are : after_event ticks did party.attempts ≡ party.attempts
    these-are = ap (λ (before : Option Attempted). did_by ticks before now.attempt did party.attempts) none

    idle-made : IsClientMade old c party ticked-party []
    idle-made =
        let with-old = subst (λ (it : Client). GoesWith it party.attempts) quiet.new_is
        (subst (λ attempts. GoesWith now attempts) these-are goes) in
        let made = quiet-made laws.stay old sound c party is party.attempts (still-itself party.attempts) with-old in
        subst (λ attempts. IsClientMade old c party (record party { client = now; attempts = attempts }) [])
        (sym these-are)
        (subst (λ (it : Client). IsClientMade old c party (record party { client = it; attempts = party.attempts }) [])
        (sym quiet.new_is) made)

  -- its link ticks
  module _ (link : Attempted) (has : party.client.attempt ≡ Some link) where
    steps : StepsBy party.client link coming_tick (quietly (ticking link)) noted frames now
    steps = laws.step.ticked party.client now link noted frames step has

    abbrev linked : HasLink old sound c party is link
    linked = has-link old sound c party is link has

    abbrev attempted : Attempted
    attempted = with_end (ticking link) steps.last

    stands : AttemptStands linked.attempt.client.asked party.client.lists (ticking link)
    stands =
        (laws.stands linked.attempt.client.asked party.client.window party.client.lists link (sabm_of party.client)
        (its-stands laws old sound c party is link has)).1

    ticked-are : (call : Bool) → has_call frames ≡ call
        → after_event ticks did party.attempts ≡ (if call then called_again did attempted
        (linked.attempt ∷ linked.older) else with_newest (job_gone_on did attempted (job.entries_ticked link))
        (linked.attempt ∷ linked.older))
    ticked-are call is_call =
        ap (λ (before : Option Attempted). did_by ticks before now.attempt did party.attempts) has
        ∙ ap (λ (after : Option Attempted). did_by ticks (Some link) after did party.attempts)
        (ap (λ (it : Client). it.attempt) steps.new_is)
        ∙ ap (λ (attempts : List Attempt). after_client_tick did link attempted attempts) linked.attempts_are
        ∙ ap
        (λ (call : Bool).
        if call
        then called_again did attempted (linked.attempt ∷ linked.older)
        else with_newest (job_gone_on did attempted (job.entries_ticked link)) (linked.attempt ∷ linked.older)) is_call

    -- its job goes on
    module _ (no_call : has_call frames ≡ false) where
      abbrev gone : Attempt
      gone = job_gone_on did attempted (job.entries_ticked link) linked.attempt

      went-ticked : Went laws old sound c party is link has now
      went-ticked =
          let law = laws.ticking party.client.lists link in
          record {
            happened = quietly (ticking link);
            last = steps.last;
            entries = job.entries_ticked link;
            goes = law.2;
            noted = law.0.noted;
            stands = stands;
            now_is = steps.new_is;
            gone = gone;
            client_is = refl;
            server_is = refl;
            goes_with = subst (λ attempts. GoesWith now attempts) (ticked-are false no_call) goes;
          }

      went-made : IsClientMade old c party ticked-party []
      unfolding went-ticked
      went-made =
          subst (λ attempts. IsClientMade old c party (record party { client = now; attempts = attempts }) [])
          (sym (ticked-are false no_call))
          (client-made laws old sound c party is link has now went-ticked)

    -- it calls again
    module _ (calls : has_call frames ≡ true) where
      abbrev again : Attempt
      again = beginning did attempted linked.attempt.client.asked

      again-are : after_event ticks did party.attempts ≡ again ∷ party.attempts
      again-are = ticked-are true calls ∙ ap (λ (attempts : List Attempt). again ∷ attempts) (sym linked.attempts_are)

      goes-again : GoesWith now (again ∷ party.attempts)
      goes-again = subst (λ attempts. GoesWith now attempts) again-are goes

      begins : Begins old c party party [] again now
      begins =
          let it = sound.parties c party is in
          let files = sym (append-nil old.files) in
          record {
            base_is = same-base old c party sound is;
            begins =
                record {
                  asked = (its-attempt old sound c party is link has).job.begun;
                  job = goes-again.attempts_are.0.job.reached;
                  entries = refl;
                  unserved = refl;
                };
            goes_on =
                (subst (λ attempts. AllByRecursion (GoesOnWithTask party) attempts) linked.attempts_are
                it.facts.tasks.goes_on).0;
            work =
                subst (λ files. IsWork files party linked.attempt.client.asked) files
                (subst (λ attempts. AllByRecursion (λ (a : Attempt). IsWork old.files party a.client.asked) attempts)
                linked.attempts_are it.works).0;
            stands = stands.job;
            now_is = steps.new_is;
            goes = goes-again;
          }

      again-made : IsClientMade old c party ticked-party []
      again-made =
          subst (λ attempts. IsClientMade old c party (record party { client = now; attempts = attempts }) [])
          (sym again-are)
          (begun-made laws old c party party [] again now begins)

    linked-made : IsClientMade old c party ticked-party []
    linked-made = by (has_call frames) refl
      where
        by : (call : Bool) → has_call frames ≡ call → IsClientMade old c party ticked-party []
        by true calls = again-made calls
        by false no_call = went-made no_call

  pub ticked-client : IsClientMade old c party ticked-party []
  ticked-client = by party.client.attempt refl
    where
      by : (o : Option Attempted) → party.client.attempt ≡ o → IsClientMade old c party ticked-party []
      by None none = idle-made none
      by (Some link) has = linked-made link has
