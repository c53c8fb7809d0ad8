-- The clients of a rehearsal and those of the world that they play, one by one.
use Rattle.std.specs.Prelude.{◌≡◌, ◌∷◌}
use Rattle.std.proofs.Common.{sym, ap, ◌∙◌}
use Rattle.air_world.specs.Attempts.Party.{Party}
use Rattle.air_rehearsal.proofs.Names.{ℕ, zero, suc, List, [], length, slice_get, slice_set, Some, refl, same_Some, KeepParties, KeepsAllButLanes, PlayParties, PlaysParty, Party as StoredParty}
use Rattle.air_rehearsal.proofs.PairLemmas.{pair-left, pair-right, pair-set}

-- the client of the world that the one at this place plays
pub played_at :
    (all : List StoredParty) (parties : List Party) (c : ℕ) (self : StoredParty) → PlayParties all parties
    → slice_get all c ≡ Some self → (party : Party) × (slice_get parties c ≡ Some party) × PlaysParty self party
played_at all parties c self plays is = pair-left PlaysParty all parties plays c self is

-- the one that plays the client of the world at this place
pub plays_at :
    (all : List StoredParty) (parties : List Party) (c : ℕ) (party : Party) → PlayParties all parties
    → slice_get parties c ≡ Some party → (self : StoredParty) × (slice_get all c ≡ Some self) × PlaysParty self party
plays_at all parties c party plays is = pair-right PlaysParty all parties plays c party is

-- one of them is another one
pub plays_set :
    (all : List StoredParty) (parties : List Party) (c : ℕ) (self : StoredParty) (party : Party)
    → PlayParties all parties → PlaysParty self party → PlayParties (slice_set all c self) (slice_set parties c party)
plays_set all parties c self party plays now = pair-set PlaysParty all parties plays c self party now

pub kept_count : (old new : List StoredParty) → KeepParties old new → length new ≡ length old
kept_count [] [] keeps = refl
kept_count [] (other ∷ others) keeps = absurd keeps
kept_count (party ∷ parties) [] keeps = absurd keeps
kept_count (party ∷ parties) (other ∷ others) keeps = ap suc (kept_count parties others keeps.1)

-- what the one at this place was
pub kept_from :
    (old new : List StoredParty) (c : ℕ) (now : StoredParty) → KeepParties old new → slice_get new c ≡ Some now
    → (was : StoredParty) × (slice_get old c ≡ Some was) × KeepsAllButLanes was now
kept_from old new c now keeps is = pair-right KeepsAllButLanes old new keeps c now is

-- two elements at one place are the same
pub one_at : {X : Type 0} (at : ℕ) (xs ys : List X) (x y : X) → slice_get xs at ≡ Some x → slice_get ys at ≡ Some y
    → xs ≡ ys → x ≡ y
one_at at xs ys x y is also same =
    same_Some x y (sym is ∙ ap (λ (l : List _). slice_get l at) same ∙ also)

-- the length of a list of which one element is another one
pub set_count : {X : Type 0} (xs : List X) (c : ℕ) (x : X) → length (slice_set xs c x) ≡ length xs
set_count [] c x = refl
set_count (first ∷ xs) zero x = refl
set_count (first ∷ xs) (suc c) x = ap suc (set_count xs c x)
