-- What is promised of a stage's world holds in whatever a crash since then leaves of the server's disk, where the store
-- of each later world follows from the one before.
use Rattle.std.specs.Prelude.{◌∷◌}
use Rattle.std.proofs.Common.{inl, inr, sym, subst}
use Rattle.file_store_model.specs.IsStore.{IsStore}
use Rattle.file_store.specs.State.{StandsFor as StandsForStore}
use Rattle.air_world.specs.Files.Facts.{IsOfferKept}
use Rattle.air_world.specs.Offered.{Offered}
use Rattle.air_rehearsal.proofs.Names.{ℕ, List, [], refl, ⊤, AllByRecursion, Cuts, Ghosts, Follows, FollowsLaw, Store, HeadlineIn, HeadlineStays, Event, World, Follow, Stage, StartsAgain, last_stage, KeepsPromise, PromisedSince, StandsDuring, StandsNow, the_server}
use Rattle.air_rehearsal.proofs.Alike.{HasBlocks, server_alike}
use Rattle.air_rehearsal.proofs.ImagesThrough.{AllFit, StandsSomewhere, images_to_end}

-- the octets stand for a store that follows this one
abbrev pub FollowsIn : Store → List ℕ → Type 0
FollowsIn before image = (store : Store) × StandsForStore image store × Follows before store

-- each store follows the one before, and so does what stands while the event is under way
abbrev pub StoresFollow : {B : Type 0} → Stage B → List Event → List (Stage B) → Type 0
StoresFollow stage [] stages = ⊤
StoresFollow stage (event ∷ events) [] = ⊤
StoresFollow stage (event ∷ events) (next ∷ later) =
    Follows stage.world.server.store next.world.server.store
    × ((image : List ℕ) → StandsDuring the_server stage.world event image
    → FollowsIn stage.world.server.store image)
    × StoresFollow next events later

follows_same : (store : Store) → Follows store store
follows_same store = record { commands = []; calls = tt; does = (tt, refl) }

module _ {B : Type 0} (law : FollowsLaw) where
  follows_somewhere :
      (stage : Stage B) (events : List Event) (stages : List (Stage B)) → StoresFollow stage events stages
      → (image : List ℕ) → StandsSomewhere the_server stage events stages image
      → FollowsIn stage.world.server.store image
  follows_somewhere stage [] stages follow image stands =
      (stage.world.server.store, stands, follows_same stage.world.server.store)
  follows_somewhere stage (event ∷ events) [] follow image stands =
      (stage.world.server.store, stands, follows_same stage.world.server.store)
  follows_somewhere stage (event ∷ events) (next ∷ later) follow image stands = elim stands [
    | inl here ↦ (stage.world.server.store, here, follows_same stage.world.server.store)
    | inr more ↦ elim more [
      | inl during ↦ follow.1 image during
      | inr there ↦
          let it = follows_somewhere next events later follow.2 image there in (
            it.0,
            it.1,
            law.joined stage.world.server.store next.world.server.store it.0 follow.0 it.2,
          )
    ]
  ]

-- what is known of the world of a stage
pub record IsGoodWorld (world : World) : Type 0 where
  pub rules : IsStore world.server.store
  pub offers : (number offset : ℕ) → Offered world number offset → IsOfferKept world.server.store number offset
  pub headline : HeadlineIn world world.server.store

promised_of :
    (law : FollowsLaw) (stays : HeadlineStays) (world : World) (image : List ℕ) → IsGoodWorld world
    → FollowsIn world.server.store image → KeepsPromise world image
promised_of law stays world image good it =
    let keeps = law.entries world.server.store it.0 good.rules it.2 in
    (it.0, it.1, stays world world.server.store it.0 keeps good.offers good.headline)

module _ {B : Type 0} (g : Ghosts B) (cuts : Cuts B) (law : FollowsLaw) (stays : HeadlineStays) (disk_now : B) where
  promised_since :
      (stage : Stage B) (events : List Event) (stages : List (Stage B))
      → Follow g cuts the_server stage events stages → StandsNow g the_server stage.world stage.disk
      → HasBlocks stage.world → AllFit HasBlocks stages → StoresFollow stage events stages → IsGoodWorld stage.world
      → StartsAgain g the_server (last_stage stage stages).disk disk_now → PromisedSince g cuts disk_now stage
  promised_since stage events stages goes stands blocks all follow good again = λ image since.
      let somewhere = images_to_end g cuts the_server HasBlocks server_alike stage events stages disk_now goes blocks
      all stands again image since in
      promised_of law stays stage.world image good (follows_somewhere law stage events stages follow image somewhere)

  -- So it is of each stage, up to a disk from which the server started once more.
  pub promised_all :
      (stage : Stage B) (events : List Event) (stages : List (Stage B))
      → Follow g cuts the_server stage events stages → StandsNow g the_server stage.world stage.disk
      → AllFit HasBlocks (stage ∷ stages) → StoresFollow stage events stages → AllFit IsGoodWorld (stage ∷ stages)
      → StartsAgain g the_server (last_stage stage stages).disk disk_now
      → AllByRecursion (PromisedSince g cuts disk_now) (stage ∷ stages)
  promised_all stage [] stages goes stands all follow good again =
      let none = subst (λ (s : List (Stage B)). AllByRecursion (PromisedSince g cuts disk_now) s) (sym goes) tt in
      (promised_since stage [] stages goes stands all.0 all.1 follow good.0 again, none)
  promised_all stage (event ∷ events) stages goes stands all follow good again =
      let stages_are = goes.2 in
      let blocks = subst (λ (s : List (Stage B)). AllFit HasBlocks s) stages_are all.1 in
      let goods = subst (λ (s : List (Stage B)). AllFit IsGoodWorld s) stages_are good.1 in
      let follows = subst (λ (s : List (Stage B)). StoresFollow stage (event ∷ events) s) stages_are follow in
      let again_so = subst
      (λ (s : List (Stage B)). StartsAgain g the_server (last_stage stage s).disk disk_now) stages_are again in (
        promised_since stage (event ∷ events) stages goes stands all.0 all.1 follow good.0 again,
        subst (λ (s : List (Stage B)). AllByRecursion (PromisedSince g cuts disk_now) s) (sym stages_are)
            (promised_all goes.0 events goes.1 goes.4 goes.3.stands blocks follows.2 goods again_so),
      )
