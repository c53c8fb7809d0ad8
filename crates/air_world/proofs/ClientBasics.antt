-- What a client of a sound world brings to its events.
use Rattle.std.proofs.Common.{◌≡◌, ◌⊎◌, ℕ, List, ◌∷◌, Option, None, Some, refl, sym, ap, subst, ◌∙◌, inl, inr}
use Rattle.ax25_link.specs.declared.state.LinkState.TheVariants.{Calling, Down, Up}
use Rattle.air_world.proofs.Names.{slice_get, IsWindow, Lists, JobStands, Work, Attempted, AttemptStands, Attempt, IsAttempt, AreAttempts, GoesWith, IsLinkOf, Party, newest, ClientSide, IsJob, all-at, IsWorking, StandsBy, IsParty, Sound, PartyAt, World}
use Rattle.air_world.proofs.Served.{stands}
use Rattle.air_world.proofs.HeardMade.{first-of}

-- ---- links

-- the link is that of the current attempt
link-of : (o : Option Attempt) (it : Attempted) → IsLinkOf o (Some it)
    → (a : Attempt) × (o ≡ Some a) × (a.client.attempted ≡ it)
link-of None it is = absurd is
link-of (Some a) it is = (a, refl, is)

-- the notes go with the job, if its own is such
pub stands-job : (asked : Work) (lists : Lists) (side : ClientSide) → IsJob side
    → JobStands asked lists side.attempted.job → AttemptStands asked lists side.attempted
stands-job asked lists side job stands = record {
  job = stands;
  told_down = job.told_down;
  down_told = λ down none. by (job.working none) down;
}
  where
    by : (side.attempted.end.state ≡ Calling) ⊎ (side.attempted.end.state ≡ Up) → side.attempted.end.state ≡ Down → ⊥
    by (inl calling) down = absurd (let same : Calling ≡ Down = sym calling ∙ down in cc)
    by (inr up) down = absurd (let same : Up ≡ Down = sym up ∙ down in cc)

-- ---- a client

module _ (world : World) (sound : Sound world) (c : ℕ) (party : Party) (is : PartyAt world c party) where
  abbrev it : IsParty world c party
  it = sound.parties c party is

  pub goes-with : GoesWith party.client party.attempts
  goes-with = record {
    window =
        subst IsWindow (sym (all-at (λ (p : Party). p.client.window ≡ world.server.window) world.parties c party
        sound.stations.windows is)) sound.stations.window;
    attempts_are = it.attempts;
    windows = it.windows;
    link = it.link;
    may_step = it.may_step;
  }

  -- the link is that of the current attempt, whose job works
  pub record HasLink (link : Attempted) : Type 0 where
    pub attempt : Attempt
    pub older : List Attempt
    pub attempts_are : party.attempts ≡ attempt ∷ older
    pub attempted_is : attempt.client.attempted ≡ link

  pub has-link : (link : Attempted) → party.client.attempt ≡ Some link → HasLink link
  has-link link has =
      let of = link-of (newest party) link (subst (λ (o : Option Attempted). IsLinkOf (newest party) o) has it.link) in
      let first = first-of party.attempts of.0 of.1 in
      record { attempt = of.0; older = first.0; attempts_are = first.1; attempted_is = of.2 }

  module _ (link : Attempted) (has : party.client.attempt ≡ Some link) where
    abbrev linked : HasLink link
    linked = has-link link has

    pub its-attempt : IsAttempt party.client.me party.client.server linked.attempt
    its-attempt =
        (subst (λ attempts. AreAttempts party.client.me party.client.server attempts) linked.attempts_are it.attempts).0

    abbrev pub working : IsWorking world.server.store world.files c party
    working = record {
      stands = stands world sound c party is;
      attempt = linked.attempt;
      older = linked.older;
      attempts_are = linked.attempts_are;
      link = has ∙ ap Some (sym linked.attempted_is);
      job =
          subst (λ (o : Option Attempt). StandsBy party o)
          (ap (λ (attempts : List Attempt). slice_get attempts 0) linked.attempts_are) it.job;
      begun = its-attempt.job.begun;
      reached = its-attempt.job.reached;
      sound = sound.store;
      facts = it.facts;
    }
