-- What the node's loops keep.
use Rattle.std.specs.Prelude.{◌≡◌, ◌∷◌, ◌++◌}
use Rattle.turn_loop.proofs.Names.{ℕ, List, [], length, Option, None, Some, AllByRecursion, Gains, HearsAll, IsOpen, Ghosts as AirGhosts, Turn, AtDisk, Course, Input, inputs_of, AreHandedOver, IsOpenBefore, LentParty, MomentsTaken, party_at, Halt, TurnTerms}

-- the loop over texts that are said
pub record IsSaying {P D A : Type 0} (course : Course P D Input) (air : AirGhosts A) (before now : A) (old new : AtDisk P D) : Type 0 where
  pub text : List ℕ
  pub text_said : Gains (air.said before) (air.said now) text
  pub owes : (start : AtDisk P D) (events : List Input) (why : Option Halt) (said : List ℕ) → course.owes start events why said old → course.owes start events why (said ++ text) new
  pub heard : air.heard now ≡ air.heard before
  pub reads : air.read_faults now ≡ air.read_faults before
  pub writes : air.write_faults now ≡ air.write_faults before

-- the last of the moments, if there is one
abbrev pub last_in : List ℕ → Option ℕ
last_in [] = None
last_in (moment ∷ []) = Some moment
last_in (moment ∷ next ∷ moments) = last_in (next ∷ moments)

-- the loop over turns, all of them open ones
pub record IsTurning {P D A C : Type 0} (course : Course P D Input) (air : AirGhosts A) (given : C → Option (List ℕ)) (old new : LentParty P D A C) (terms : TurnTerms) (last : Option ℕ) (count : ℕ) : Type 0 where
  pub turns : List Turn
  pub moments : List ℕ
  pub text : List ℕ
  pub turns_heard : HearsAll (air.heard old.air) (air.heard new.air) turns
  pub moments_given : MomentsTaken terms (given old.clock) (given new.clock) moments
  pub text_said : Gains (air.said old.air) (air.said new.air) text
  pub one_each : length moments ≡ length turns
  pub counted : length turns ≡ count
  pub all_open : AllByRecursion IsOpen turns
  pub last_is : last ≡ last_in moments
  pub goes : course.goes (party_at old) (inputs_of turns moments) text (party_at new)
  pub fit : course.is_fit (party_at new)
  pub open_before : IsOpenBefore AreHandedOver course (party_at old) turns moments text
  pub reads : air.read_faults new.air ≡ air.read_faults old.air
  pub writes : air.write_faults new.air ≡ air.write_faults old.air
