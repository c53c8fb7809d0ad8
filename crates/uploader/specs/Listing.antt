-- How `list` ends.
use Rattle.std.specs.Prelude.{◌≡◌, ◌⊎◌, ℕ, List, [], true, Option, IfOk, IsErrAnd, MatchResult, Result, Ok, Err, ⊤}
use Rattle.px_base.specs.Outside.{Gains, GainsPrefix}
use Rattle.turn_loop.specs.Lent.{Lent, Seen}
use Rattle.client_notes.specs.Notes.{Lists}
use Rattle.ftl0_client.specs.Work.TheVariants as work
use Rattle.ftl0_client.specs.Directory.{new_directory}
use Rattle.ftl0_client.specs.Short.{are_short_headers}
use Rattle.ftl0_client.specs.Table.{JobState, new_job}
use Rattle.ftl0_client.specs.Outcome.{Outcome}
use Rattle.ftl0_client.specs.Outcome.TheVariants as outcome
use Rattle.uploader.specs.declared.stop.SendStop.{SendStop}
use Rattle.uploader.specs.declared.stop.SendStop.TheVariants as stop
use Rattle.uploader.specs.declared.terms.ClientTerms.{ClientTerms}
use Rattle.uploader.specs.Carried.{Carries, IsUnrecovered, asked_of}
use Rattle.uploader.specs.Lines.{listing_lines}

-- What is shown, by what became of the list: all lines of what came, or a front of them; where it isn't whole the
-- output isn't touched.
abbrev pub ShowsBy :
    {O : Type 0} → (O → Option (List ℕ)) → O → O → List ℕ → Result Outcome SendStop → Result ⊤ SendStop → Type 0
ShowsBy shown out out_now listing (Ok reached) result =
    MatchResult result (λ _. Gains (shown out) (shown out_now) (listing_lines listing))
    (λ why. (why ≡ stop.Out) × GainsPrefix (shown out) (shown out_now) (listing_lines listing))
ShowsBy shown out out_now listing (Err why) result = (result ≡ Err why) × (out_now ≡ out)

-- the files of which selection are listed
pub record FilesAsked : Type 0 where
  pub terms : ClientTerms
  pub tokens : List ℕ

abbrev pub files_asked : ClientTerms → List ℕ → FilesAsked
files_asked terms tokens = record { terms = terms; tokens = tokens }

-- the list of a selection, which was just asked
abbrev pub directory_of : List ℕ → JobState
directory_of tokens = new_job (work.Directory (new_directory tokens))

-- The files of the selection of these tokens were listed, as far as that came. Where the list came whole it is short
-- headers, one after another, and their lines are shown.
pub record ListsFiles {A C D O : Type 0} (see : Seen D A C) (shown : O → Option (List ℕ)) (old new : Lent D A C)
    (out out_now : O) (files : FilesAsked) (result : Result ⊤ SendStop) : Type 0 where
  pub start : Lists
  pub came : Result Outcome SendStop
  pub carries : Carries see old new (asked_of files.terms start [] (directory_of files.tokens)) came
  pub listed : IfOk came (λ reached. (reached ≡ outcome.Listed) × (are_short_headers carries.listing ≡ true))
  pub shows : ShowsBy shown out out_now carries.listing came result

-- The notes weren't recovered, or there was no memory for the tokens, and the output wasn't touched; or the files were
-- listed.
abbrev pub ListEnds :
    {A C D O : Type 0} → Seen D A C → (O → Option (List ℕ)) → Lent D A C → Lent D A C → O → O → FilesAsked
    → Result ⊤ SendStop → Type 0
ListEnds see shown old new out out_now files result =
    (IsErrAnd result (IsUnrecovered see.disk old new) × (out_now ≡ out))
    ⊎ ListsFiles see shown old new out out_now files result
