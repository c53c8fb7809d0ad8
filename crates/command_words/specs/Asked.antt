-- What a request is of the words.
use Rattle.std.specs.Prelude.{ℕ, List, ◌∷◌}
use Rattle.header_tool.specs.Made.{make_value}
use Rattle.command_words.specs.declared.client.ClientRequest.{ClientRequest}
use Rattle.command_words.specs.declared.client.ClientRequest.TheVariants as client
use Rattle.command_words.specs.declared.command.FileCommand.{FileCommand}
use Rattle.command_words.specs.declared.disk.DiskWord.TheVariants.{Named}
use Rattle.command_words.specs.declared.make.MakingRequest.{MakingRequest}
use Rattle.command_words.specs.declared.make.MakingRequest.TheVariants as making
use Rattle.command_words.specs.declared.rehearse.RehearseRequest.{RehearseRequest}
use Rattle.command_words.specs.declared.rehearse.RehearseRequest.TheVariants.{Drawn, Schedule}
use Rattle.command_words.specs.declared.request.Request.{Request}
use Rattle.command_words.specs.declared.request.Request.TheVariants.{Client, File, Making, Rehearse, Serve, Session}
use Rattle.command_words.specs.Clients.{HexText}
use Rattle.command_words.specs.Commands.{word_of}
use Rattle.command_words.specs.Disks.{IsDiskOf}
use Rattle.command_words.specs.Rehearsals.{DrawnText}
use Rattle.command_words.specs.Words.{IsAir, IsFetch, IsList, IsSend, IsServe, IsSession}
use Rattle.command_words.specs.Words.{IsBody, IsDrawn, IsMake, IsNamed, IsRehearsal, NameText}

-- the words ask a client for this
abbrev pub AsksClientFor : List (List ℕ) → ClientRequest → Type 0
AsksClientFor words (client.Send asked) = IsSend words asked.terms asked.name.now
AsksClientFor words (client.Fetch asked) = IsFetch words asked.terms asked.number asked.name.now
AsksClientFor words (client.List asked) =
    (tokens : List ℕ) × HexText asked.hex.now tokens × IsList words asked.terms tokens

-- the words ask for this command's text of the file of this name
abbrev pub AsksText : List (List ℕ) → FileCommand → List ℕ → Type 0
AsksText words command name = IsNamed (word_of command) words name

-- the words ask for this file, which is made of another one
abbrev pub AsksMakingFor : List (List ℕ) → MakingRequest → Type 0
AsksMakingFor words (making.Make asked) = IsMake words asked.body.now asked.kept.now (make_value asked.header)
AsksMakingFor words (making.Body asked) = IsBody words asked.name.now asked.kept.now

-- the words after `rehearse` ask for this: NAME alone for its schedule, and the options for rounds that are drawn
abbrev pub IsRehearseText : List (List ℕ) → RehearseRequest → Type 0
IsRehearseText others (Schedule name) = NameText name.now others
IsRehearseText others (Drawn seed count) = DrawnText seed count others

-- the words ask for this rehearsal
abbrev pub AsksRehearseFor : List (List ℕ) → RehearseRequest → Type 0
AsksRehearseFor words (Schedule name) = IsRehearsal words name.now
AsksRehearseFor words (Drawn seed count) = IsDrawn words seed count

-- the words ask for this
abbrev pub AsksFor : List (List ℕ) → Request → Type 0
AsksFor words (Session request) = IsSession words request
AsksFor words (Serve request) = IsServe words request
AsksFor words (Client request) = AsksClientFor words request
AsksFor words (File command name) = AsksText words command name.now
AsksFor words (Making request) = AsksMakingFor words request
AsksFor words (Rehearse request) = AsksRehearseFor words request

-- Behind a DISK that names a file, an AIR and this command, these words ask for this.
abbrev pub AsksBehind : List ℕ → List (List ℕ) → Request → Type 0
AsksBehind command others request =
    (disk air : List ℕ) → IsDiskOf disk Named → IsAir air → AsksFor (disk ∷ air ∷ command ∷ others) request
