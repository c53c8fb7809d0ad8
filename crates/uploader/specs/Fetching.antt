-- How `fetch` ends.
use Rattle.std.specs.Prelude.{◌≡◌, ◌⊎◌, ℕ, List, [], Option, None, IfOk, IsErrAnd, MatchResult, Result, Ok, Err, ⊤}
use Rattle.px_base.specs.Shelves.{Holding, Keeps, KeepsOthers}
use Rattle.pfh_reader.specs.Faults.{fault_code}
use Rattle.turn_loop.specs.Lent.{Lent, Seen}
use Rattle.client_notes.specs.Laws.{after_all}
use Rattle.client_notes.specs.Notes.{Lists, got_of}
use Rattle.ftl0_client.specs.Work.TheVariants as work
use Rattle.ftl0_client.specs.Download.{new_download}
use Rattle.ftl0_client.specs.Table.{JobState, new_job}
use Rattle.ftl0_client.specs.Outcome.{Outcome}
use Rattle.ftl0_client.specs.Outcome.TheVariants as outcome
use Rattle.uploader.specs.declared.stop.SendStop.{SendStop}
use Rattle.uploader.specs.declared.stop.SendStop.TheVariants as stop
use Rattle.uploader.specs.declared.terms.ClientTerms.{ClientTerms}
use Rattle.uploader.specs.Carried.{Carries, IsUnrecovered, asked_of}

-- What is done with the got octets, by what became of the download: the shelf has them under the name, or could not
-- keep them; where it wasn't fetched the shelf isn't touched.
abbrev pub KeepsBy :
    {S : Type 0} → (S → Option Holding) → S → S → List ℕ → List ℕ → Result Outcome SendStop → Result ⊤ SendStop
    → Type 0
KeepsBy held shelf shelf_now name octets (Ok reached) result =
    MatchResult result (λ _. Keeps (held shelf) (held shelf_now) name octets)
    (λ why. (why ≡ stop.Shelf) × KeepsOthers (held shelf) (held shelf_now) name)
KeepsBy held shelf shelf_now name octets (Err why) result = (result ≡ Err why) × (shelf_now ≡ shelf)

-- which file is fetched, and kept under which name
pub record FileAsked : Type 0 where
  pub terms : ClientTerms
  pub number : ℕ
  pub name : List ℕ

abbrev pub file_asked : ClientTerms → ℕ → List ℕ → FileAsked
file_asked terms number name = record { terms = terms; number = number; name = name }

-- the download of a file, which was just asked
abbrev pub download_of : FileAsked → JobState
download_of file = new_job (work.Download (new_download file.terms.server file.number))

-- The file was downloaded, behind the octets that the notes had of it, as far as that came. Where it was fetched the
-- got octets, which are noted and have no fault, are kept.
pub record Fetches {A C D S : Type 0} (see : Seen D A C) (held : S → Option Holding) (old new : Lent D A C)
    (shelf shelf_now : S) (file : FileAsked) (result : Result ⊤ SendStop) : Type 0 where
  pub start : Lists
  pub came : Result Outcome SendStop
  pub carries : Carries see old new (asked_of file.terms start [] (download_of file)) came
  pub octets : List ℕ
  pub got : IfOk came (λ _. octets ≡ got_of (after_all start carries.run.done) file.terms.server file.number)
  pub fetched : IfOk came (λ reached. (reached ≡ outcome.Fetched file.number) × (fault_code octets ≡ None))
  pub keeps : KeepsBy held shelf shelf_now file.name octets came result

-- The notes weren't recovered, and the shelf wasn't touched; or the file was downloaded.
abbrev pub FetchEnds :
    {A C D S : Type 0} → Seen D A C → (S → Option Holding) → Lent D A C → Lent D A C → S → S → FileAsked
    → Result ⊤ SendStop → Type 0
FetchEnds see held old new shelf shelf_now file result =
    (IsErrAnd result (IsUnrecovered see.disk old new) × (shelf_now ≡ shelf))
    ⊎ Fetches see held old new shelf shelf_now file result
