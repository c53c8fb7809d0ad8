-- What a shelf holds, and what its calls answer and change.
use Rattle.std.specs.Prelude.{◌≡◌, ◌≢◌, ℕ, ◌≤◌, ◌⊎◌, List, length, nat_le, Option, None, Some, IfSome, MatchOption, Result, Ok, Err, IfOk, if◌then◌else◌}
use Rattle.std.specs.Map.{lookup}
use Rattle.std.specs.Str.{bytes_eq}
use Rattle.px_base.specs.declared.shelf.ShelfRefusal.{ShelfRefusal}
use Rattle.px_base.specs.declared.shelf.ShelfRefusal.TheVariants as refusal
use Rattle.px_base.specs.Outside.{Rose}

-- what a load answers: content, or why there is none
abbrev pub LoadResult : Type 0
LoadResult = Result (List ℕ) ShelfRefusal

-- names, each with its content
abbrev pub Holding : Type 0
Holding = List (List ℕ × List ℕ)

-- the content of this name
abbrev pub content_of : Holding → List ℕ → Option (List ℕ)
content_of shelf name = lookup (bytes_eq name) shelf

-- what was loaded is of at most so many octets
abbrev pub IsWithin : ℕ → LoadResult → Type 0
IsWithin most result = IfOk result (λ content. length content ≤ most)

-- What a load of at most so many octets answers of this content, where nothing hinders it: `NoSuch` exactly where there
-- is none, and `TooLong` exactly where it is longer.
abbrev pub load_answer : Option (List ℕ) → ℕ → LoadResult
load_answer None most = Err refusal.NoSuch
load_answer (Some content) most = if nat_le (length content) most then Ok content else Err refusal.TooLong

-- a load answers of this content, or a fault or want of memory comes in the place of that answer
abbrev pub AnswersOf : Option (List ℕ) → ℕ → LoadResult → Type 0
AnswersOf content most result =
    (result ≡ load_answer content most) ⊎ (result ≡ Err refusal.Fault) ⊎ (result ≡ Err refusal.OutOfMemory)

-- Where all octets are told, a load answers of them.
abbrev pub AnswersOfAll : Option (List ℕ) → ℕ → LoadResult → Type 0
AnswersOfAll told most result = IfSome told (λ octets. AnswersOf (Some octets) most result)

-- Where it is told what is held, a load answers of the content of this name.
abbrev pub Loads : Option Holding → List ℕ → ℕ → LoadResult → Type 0
Loads held name most result = IfSome held (λ shelf. AnswersOf (content_of shelf name) most result)

-- A count never falls; a load answers `Fault` only where it rose in the call, and anything else only where it stayed.
pub record HasLoadCause (before now : ℕ) (result : LoadResult) : Type 0 where
  pub no_less : before ≤ now
  pub rose : result ≡ Err refusal.Fault → Rose before now
  pub same : (result ≡ Err refusal.Fault → ⊥) → now ≡ before

-- each name but this one has the content that it had
abbrev pub SameOthers : Holding → Holding → List ℕ → Type 0
SameOthers before now name = (other : List ℕ) → other ≢ name → content_of now other ≡ content_of before other

-- Where it is told what was held, it is told what is held now: this content under this name, all else as it was. Where
-- it isn't told, it isn't told now either.
abbrev pub Keeps : Option Holding → Option Holding → List ℕ → List ℕ → Type 0
Keeps before now name content =
    MatchOption before (now ≡ None)
    (λ old. (new : Holding) × (now ≡ Some new) × (content_of new name ≡ Some content) × SameOthers old new name)

-- The same with any content, or none, under this name.
abbrev pub KeepsOthers : Option Holding → Option Holding → List ℕ → Type 0
KeepsOthers before now name =
    MatchOption before (now ≡ None) (λ old. (new : Holding) × (now ≡ Some new) × SameOthers old new name)
