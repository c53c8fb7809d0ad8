-- What the word COMMAND names.
use Rattle.std.specs.Prelude.{◌≡◌, ℕ, List, codes}
use Rattle.command_words.specs.declared.command.ClientCommand.{ClientCommand}
use Rattle.command_words.specs.declared.command.ClientCommand.TheVariants as client
use Rattle.command_words.specs.declared.command.CommandWord.{CommandWord}
use Rattle.command_words.specs.declared.command.CommandWord.TheVariants as word
use Rattle.command_words.specs.declared.command.FileCommand.{FileCommand}
use Rattle.command_words.specs.declared.command.FileCommand.TheVariants.{Check, Frames, Show}
use Rattle.command_words.specs.Words.{AsksFetch, AsksList, AsksSend}

-- the word of a command that shows a text of a file
abbrev pub word_of : FileCommand → List ℕ
word_of Frames = codes "frames"
word_of Show = codes "pfh-show"
word_of Check = codes "pfh-check"

-- the word of a client's command
abbrev pub client_word : ClientCommand → List ℕ
client_word client.Send = codes "send"
client_word client.Fetch = codes "fetch"
client_word client.List = codes "list"

-- the word names this
abbrev pub IsCommandOf : List ℕ → CommandWord → Type 0
IsCommandOf text word.Session = text ≡ codes "session"
IsCommandOf text word.Serve = text ≡ codes "serve"
IsCommandOf text (word.Client command) = text ≡ client_word command
IsCommandOf text (word.File command) = text ≡ word_of command
IsCommandOf text word.PfhMake = text ≡ codes "pfh-make"
IsCommandOf text word.PfhBody = text ≡ codes "pfh-body"
IsCommandOf text word.Rehearse = text ≡ codes "rehearse"

-- the words ask for what this client's command does
abbrev pub AsksBy : ClientCommand → List (List ℕ) → Type 0
AsksBy client.Send words = AsksSend words
AsksBy client.Fetch words = AsksFetch words
AsksBy client.List words = AsksList words
