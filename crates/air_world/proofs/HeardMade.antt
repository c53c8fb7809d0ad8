-- What a frame that the server hears makes of its client's facts.
use Rattle.std.proofs.Common.{◌≡◌, ◌⊎◌, ℕ, ◌≤◌, List, [], ◌∷◌, ◌++◌, Some, ap}
use Rattle.ftl0_server.specs.Entries as session
use Rattle.air_world.proofs.Names.{slice_get, AllByRecursion, same_Some, FollowsBy, AreComplete, SessionEntry, Stepped, Attempt, Party, HasFacts, GrantedAt, IsSoundStore, World}

-- what the frame makes of its client's facts, with these attempts, and of store and lists
pub record OwnMade (old : World) (party : Party) (gives : Stepped) (attempts : List Attempt) : Type 0 where
  pub facts : HasFacts gives.new.store old.files (record party { attempts = attempts })
  pub store : IsSoundStore gives.new.store
  pub lists : AreComplete gives.new.store gives.new.lists
  pub follows : FollowsBy party.client.me old.server.store gives.new.store
  pub grants :
      (at number : ℕ) → GrantedAt (record party { attempts = attempts }) at number
      → GrantedAt party at number ⊎ ((at ≡ 0) × (old.server.store.next ≤ number))

pub first-of : {X : Type 0} (xs : List X) (x : X) → slice_get xs 0 ≡ Some x → (older : List X) × (xs ≡ x ∷ older)
first-of [] x is = absurd cc
first-of (y ∷ ys) x is = (ys, ap (λ z. z ∷ ys) (same_Some y x is))

pub lost-second : (some more : List SessionEntry) → AllByRecursion session.IsNotLost (some ++ more) → AllByRecursion session.IsNotLost more
lost-second [] more all = all
lost-second (entry ∷ some) more all = lost-second some more all.1
