-- What the words ask a run to do, and what a run did of it.
use Rattle.std.specs.Prelude.{◌≡◌, ◌⊎◌, ℕ, List, Option, Some}
use Rattle.px_base.specs.Shelves.{Holding, content_of}
use Rattle.command_words.specs.declared.command.FileCommand.{FileCommand}
use Rattle.command_words.specs.declared.make.MakingRequest.{MakingRequest}
use Rattle.command_words.specs.declared.make.MakingRequest.TheVariants as making
use Rattle.command_words.specs.Asked.{AsksText}
use Rattle.command_words.specs.Words.{AsksClient, AsksFetch, AsksMake, AsksRehearse, IsBody, IsMake}
use Rattle.header_tool.specs.Made.{MakeValue, make_value}
use Rattle.pacsat_cli.specs.declared.status.Status.{Status}
use Rattle.pacsat_cli.specs.Bodies.{BodyRan}
use Rattle.pacsat_cli.specs.Files.{FileRan}
use Rattle.pacsat_cli.specs.Making.{IsPossible, MakeRan}

-- the words ask for the text of a file
abbrev pub AsksFile : List (List ℕ) → Type 0
AsksFile words = (command : FileCommand) × (name : List ℕ) × AsksText words command name

-- such a file may be made: its header isn't refused
abbrev pub MayMake : MakingRequest → Type 0
MayMake (making.Make request) = IsPossible (make_value request.header)
MayMake (making.Body request) = Unit

-- such a file was made and kept, or was not, and this is the status
abbrev pub MakingRan : MakingRequest → Option Holding → Option Holding → Status → Type 0
MakingRan (making.Make request) before now status =
    MakeRan (make_value request.header) request.body.now request.kept.now before now status
MakingRan (making.Body request) before now status = BodyRan request.name.now request.kept.now before now status

-- the words ask for a file that is kept on the shelf: one that is made, or one that is fetched
abbrev pub AsksKept : List (List ℕ) → Type 0
AsksKept words = AsksMake words ⊎ AsksFetch words

-- the words ask for something that is shown: the text of a file, or what comes of a client's command or of a rehearsal
abbrev pub AsksShown : List (List ℕ) → Type 0
AsksShown words = AsksFile words ⊎ (AsksClient words ⊎ AsksRehearse words)

-- where the words ask for the text of a file, it is shown so
abbrev pub RunsFile : {S O : Type 0} → List (List ℕ) → (S → Option Holding) → (O → Option (List ℕ)) → (O → ℕ) → S → O → O → Status → Type 0
RunsFile words held shown faults shelf before now status =
    (command : FileCommand) (name : List ℕ) → AsksText words command name
    → FileRan shown faults command (held shelf) name before now status

-- Where the words ask for the text of a file, and it is told what the shelf holds, this holds of the content of the name.
abbrev pub WhereHeld : List (List ℕ) → Option Holding → (FileCommand → Option (List ℕ) → Type 0) → Type 0
WhereHeld words held P =
    (command : FileCommand) (name : List ℕ) (shelf : Holding) → AsksText words command name → held ≡ Some shelf
    → P command (content_of shelf name)

-- where the words ask for a file that is made, it is made and kept so
abbrev pub RunsMake : {S : Type 0} → List (List ℕ) → (S → Option Holding) → S → S → Status → Type 0
RunsMake words held before now status =
    (body name : List ℕ) (spec : MakeValue) → IsMake words body name spec
    → MakeRan spec body name (held before) (held now) status

-- where they ask for the body of a file, it is kept so
abbrev pub RunsBody : {S : Type 0} → List (List ℕ) → (S → Option Holding) → S → S → Status → Type 0
RunsBody words held before now status =
    (name kept : List ℕ) → IsBody words name kept → BodyRan name kept (held before) (held now) status
