-- An event of the server's that is cut keeps a sound world.
use Rattle.std.proofs.Common.{◌≡◌, ◌≢◌, ◌⊎◌, ℕ, zero, suc, take, ◌<◌, ◌^◌, List, [], Bool, true, false, Option, None, Some, refl, sym, ap, subst, ◌∙◌, inl, inr}
use Rattle.file_store.specs.Command.{after_all}
use Rattle.ftl0_server.specs.StepLaws.Steps.{HasStep, SomeStepLaw}
use Rattle.air_world.proofs.Names.{slice_get, cases_eq, same_Some, Transmission, is_call, hears as frame_comes, AreAllowed, Command, DropsNothing, after_first, Store, Connected, LeftLaw, Party, sessions_over, connection_of, HasFacts, LeftIn, StayLaw, IsSoundStore, server_commands, Sound, HearingLaws, PartyAt, World}
use Rattle.air_world.proofs.Marked.{IsComing, are-marked, delivered, none-marked}
use Rattle.air_world.proofs.Seats.{between, connection-none}
use Rattle.air_world.proofs.Served.{done-are, keeps, stands}
use Rattle.air_world.proofs.ServerCut.{cut, cut-sound}
use Rattle.air_world.proofs.ServerHeard.{seat-found}

pub take-none : {X : Type 0} (count : ℕ) → take {A = X} count [] ≡ []
take-none zero = refl
take-none (suc count) = refl

-- ---- a tick

module _ (left_law : LeftLaw) (stay_law : StayLaw) (old : World) (sound : Sound old) where
  pub tick-cut-sound : (left : Store) → left ≡ old.server.store
      → Sound (cut left_law old old sound (none-marked old sound) left)
  tick-cut-sound left same =
      cut-sound left_law old old sound (none-marked old sound) left (subst IsSoundStore (sym same) sound.store)
      (λ c was is. subst (λ store. HasFacts store old.files (sessions_over was)) (sym same)
      (stay_law.over old.server.store old.files was (sound.parties c was is).facts))
      stay_law

-- ---- a frame

-- What an event with these commands leaves of its client if it is cut. Each is allowed in its turn, and none gives a
-- file up.
pub record LeavesOwn (old : World) (party : Party) (commands : List Command) : Type 0 where
  pub during : (count : ℕ) → LeftIn old.files party old.server.store (after_first count old.server.store commands)
  pub allowed : AreAllowed old.server.store commands
  pub drops : DropsNothing commands

module _ (laws : HearingLaws) (some_step : SomeStepLaw) (left_law : LeftLaw) (old : World) (sound : Sound old) (c : ℕ)
    (party : Party) (place : ℕ) (t : Transmission)
    (coming : IsComing old c party place t) (moment : ℕ) (soon : moment < 2 ^ 32) where
  has : HasStep old.server (frame_comes t.frame moment) []
  has = some_step old.server (frame_comes t.frame moment) [] sound.may_step

  none : (commands : List Command) → commands ≡ [] → LeavesOwn old party commands
  none commands is =
      subst (LeavesOwn old party) (sym is)
      (record {
        during = λ count.
            subst (LeftIn old.files party old.server.store)
            (ap (λ these. after_all old.server.store these) (sym (take-none count)))
            (record {
              facts = laws.stay.over old.server.store old.files party (sound.parties c party coming.is).facts;
              store = sound.store;
              follows = record { commands = []; own = tt; does = (tt, refl) };
            });
        allowed = tt;
        drops = tt;
      })

  pub own-left : LeavesOwn old party (server_commands old (frame_comes t.frame moment))
  own-left =
      subst (LeavesOwn old party) has.step.done_is
      (by (is_call t.frame.kind.control) refl (connection_of old.server t.frame.src) refl)
    where
      by : (call : Bool) → is_call t.frame.kind.control ≡ call → (o : Option Connected)
          → connection_of old.server t.frame.src ≡ o → LeavesOwn old party has.gives.done
      by true calls o was =
          none has.gives.done (laws.heard.unheard old.server t.frame moment has.gives (between old sound) (inl calls) has.step).0
      by false is_packet None was =
          none has.gives.done (laws.heard.unheard old.server t.frame moment has.gives (between old sound)
          (inr (connection-none old.server t.frame.src (between old sound) was)) has.step).0
      by false is_packet (Some seat) was =
          let sits = seat-found laws old sound c party place t coming moment soon has.gives has.step seat was in
          let hears = laws.heard.heard old.server t.frame moment has.gives sits.0 seat
          (between old sound) is_packet sits.1 sits.2 has.step in
          let done = done-are laws.sessions old sound c party place t coming moment is_packet sits.0 seat sits.1
          sits.2 in
          let kept = keeps laws.sessions old sound c party place t coming moment is_packet sits.0 seat sits.1 sits.2
          false (λ up. absurd cc) in
          subst (LeavesOwn old party) (sym (hears.done_is ∙ done))
          (record { during = kept.during; allowed = kept.allowed; drops = kept.drops })

  module _ (count : ℕ) where
    abbrev pub left : Store
    left = after_first count old.server.store (server_commands old (frame_comes t.frame moment))

    facts-left : (number : ℕ) (was : Party) → PartyAt old number was → HasFacts left old.files (sessions_over was)
    facts-left number was is = by (cases_eq number c)
      where
        by : (number ≡ c) ⊎ (number ≢ c) → HasFacts left old.files (sessions_over was)
        by (inl own) =
            let same = same_Some party was (sym coming.is ∙ ap (λ i. slice_get old.parties i) (sym own) ∙ is) in
            subst (λ (p : Party). HasFacts left old.files (sessions_over p)) same (own-left.during count).facts
        by (inr other) =
            let differs : was.client.me ≢ party.client.me =
            λ same. other (sound.stations.distinct number c was party is coming.is same) in
            laws.stay.over left old.files was
            (laws.stay.other old.files number was party.client.me old.server.store left (stands old sound number was is)
            (stands old sound c party coming.is).call differs
            sound.store (own-left.during count).follows (sound.parties number was is).facts)

    pub frame-cut-sound : Sound
        (cut left_law old (delivered old sound c party place t coming) sound
        (are-marked old sound c party place t coming left_law) left)
    frame-cut-sound =
        cut-sound left_law old (delivered old sound c party place t coming) sound
        (are-marked old sound c party place t coming left_law) left (own-left.during count).store facts-left laws.stay
