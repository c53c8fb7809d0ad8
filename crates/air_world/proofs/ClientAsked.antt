-- A client of which something is asked is as it should be.
use Rattle.std.proofs.Common.{◌≡◌, ℕ, List, [], ◌∷◌, Option, None, Some, refl, sym, ap, subst, ◌∙◌}
use Rattle.ftl0_client.specs.Client.{with_attempt}
use Rattle.air_world.proofs.Names.{slice_get, AllByRecursion, FrameValue, Sending, next_sending, IsWindow, Window, NotesCommand, Work, new_job, Attempted, Client, Refused, asks, IsSilent, sends_by, sends_of_attempt, sends_of_link, ClientStep, EndFits, StepsQuietly, called_for, sabm_of, Attempt, AreAttempts, GoesWith, Asked, IsLinkOf, Party, ClientDid, after_event, beginning, did_by, Sound, ClientLaws, PartyAt, World}
use Rattle.air_world.proofs.Asked.{MayBeAsked}
use Rattle.air_world.proofs.ClientBasics.{goes-with}
use Rattle.air_world.proofs.ClientBegun.{Begins, begun-made}
use Rattle.air_world.proofs.ClientMade.{IsClientMade}

-- whether a client has something to send doesn't depend on its notes, nor on what else is alike
still-silent : (one other : Client) → other.window ≡ one.window → other.attempt ≡ one.attempt → other.stray ≡ one.stray
    → IsSilent one → IsSilent other
still-silent one other window attempt stray silent = by one.stray other.stray stray refl silent
  where
    of-link : (a : Attempted) (o : Option Sending) → sends_of_link one a o ≡ None → sends_of_link other a o ≡ None
    of-link a None none = refl
    of-link a (Some sending) none = absurd cc

    of-attempt : (o : Option Attempted) → sends_of_attempt one o ≡ None → sends_of_attempt other o ≡ None
    of-attempt None none = refl
    of-attempt (Some a) none =
        subst (λ (w : Window). sends_of_link other a (next_sending w a.end) ≡ None) (sym window)
        (of-link a (next_sending one.window a.end) none)

    by : (first second : Option Refused) → second ≡ first → one.stray ≡ first → sends_by one first ≡ None
        → sends_by other other.stray ≡ None
    by None second same is none =
        ap (λ (o : Option Refused). sends_by other o) (stray ∙ is)
        ∙ of-attempt other.attempt (ap (λ (o : Option Attempted). sends_of_attempt one o) attempt ∙ none)
    by (Some refused) second same is none = absurd cc

module _ (laws : ClientLaws) (old : World) (sound : Sound old) (c : ℕ) (party : Party) (is : PartyAt old c party)
    (base : Party) (asked : List Asked) (wanted : Work)
    (may : MayBeAsked old c party base asked wanted) (noted : List NotesCommand) (frames : List FrameValue)
    (now : Client)
    (step : ClientStep base.client (asks (new_job wanted)) noted frames now) where
  abbrev did : ClientDid
  did = record { old = base.client; now = now; frames = frames }

  abbrev pub asked-party : Party
  asked-party = record base { client = now; attempts = after_event (asks (new_job wanted)) did party.attempts }

  base-goes : GoesWith base.client party.attempts
  base-goes =
      let it = goes-with old sound c party is in
      record {
        window = subst IsWindow (sym may.base_is.window) it.window;
        attempts_are =
            subst (λ server. AreAttempts base.client.me server party.attempts) (sym may.base_is.server)
            (subst (λ me. AreAttempts me party.client.server party.attempts) (sym may.base_is.me) it.attempts_are);
        windows =
            subst (λ w. AllByRecursion (λ (a : Attempt). a.window ≡ w) party.attempts) (sym may.base_is.window) it.windows;
        link = subst (λ link. IsLinkOf (slice_get party.attempts 0) link) (sym may.link) it.link;
        may_step =
            record {
              silent = still-silent party.client base.client may.base_is.window may.link may.stray it.may_step.silent;
              fits =
                  subst (λ link. EndFits base.client.window link) (sym may.link)
                  (subst (λ w. EndFits w party.client.attempt) (sym may.base_is.window) it.may_step.fits);
            };
      }

  goes : GoesWith now (after_event (asks (new_job wanted)) did party.attempts)
  goes =
      laws.client base.client now (asks (new_job wanted)) noted frames party.attempts party.attempts base-goes tt
      ((refl, may.begun), refl) step

  quiet : StepsQuietly (sabm_of base.client ∷ []) (with_attempt base.client (called_for base.client (new_job wanted)))
      noted frames now
  quiet = laws.step.asked base.client now (new_job wanted) noted frames step

  abbrev begun : Attempt
  begun = beginning did (called_for base.client (new_job wanted)) wanted

  begun-are : after_event (asks (new_job wanted)) did party.attempts ≡ begun ∷ party.attempts
  begun-are =
      ap (λ (after : Option Attempted). did_by (asks (new_job wanted)) base.client.attempt after did party.attempts)
      (ap (λ (it : Client). it.attempt) quiet.new_is)

  begins : Begins old c party base asked begun now
  begins = record {
    base_is = may.base_is;
    begins = record { asked = may.begun; job = refl; entries = refl; unserved = refl };
    goes_on = may.goes_on;
    work = may.work;
    stands =
        (laws.calling base.client.me base.client.server base.client.lists (new_job wanted)
        (refl, may.begun) may.go_with).job;
    now_is = quiet.new_is;
    goes = subst (λ attempts. GoesWith now attempts) begun-are goes;
  }

  pub asked-client : IsClientMade old c party asked-party asked
  asked-client =
      subst (λ attempts. IsClientMade old c party (record base { client = now; attempts = attempts }) asked)
      (sym begun-are)
      (begun-made laws old c party base asked begun now begins)
