-- What the steps of a formatting leave of it where a crash comes.
use Rattle.std.specs.Prelude.{◌≡◌, ℕ, ◌+◌, ◌%◌, ◌<◌, ◌≤◌, List, ◌∷◌, ◌++◌, length, take, drop, slice_index}
use Rattle.file_journal.specs.Journal.{HasGates, even_selector}

-- octet 15 is made even
abbrev pub MakesEven : List ℕ → List ℕ → Type 0
MakesEven before now = now ≡ take 15 before ++ even_selector before ∷ drop 16 before

-- while octet 15 is made even
abbrev pub IsMakingEven : List ℕ → List ℕ → Type 0
IsMakingEven before image = (take 15 image ≡ take 15 before) × (length image ≡ length before)

-- behind 16 octets come the two gates, the first of them at this place
abbrev pub MakesGates : ℕ → List ℕ → List ℕ → Type 0
MakesGates gate before now = HasGates gate (take 16 before) now

-- while the two gates are written: there is at most one, or the first is closed
pub record IsMakingGates (gate : ℕ) (before image : List ℕ) : Type 0 where
  pub header : take 16 image ≡ take 16 before
  pub no_shorter : length before ≤ length image
  pub no_longer : length image ≤ gate + 2
  pub closed : gate + 1 < length image → slice_index image gate ≡ 0

-- while an interrupted formatting is done to its end: where the second gate stands, octet 15 is even
pub record IsFinishing (gate : ℕ) (before image : List ℕ) : Type 0 where
  pub interrupted : length before < gate + 2
  pub header : take 15 image ≡ take 15 before
  pub no_shorter : length before ≤ length image
  pub no_longer : length image ≤ gate + 2
  pub even : gate + 1 < length image → slice_index image 15 % 2 ≡ 0
  pub closed : gate + 1 < length image → slice_index image gate ≡ 0
