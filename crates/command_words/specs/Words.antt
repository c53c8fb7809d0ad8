-- The command set: what each list of words asks for.
use Rattle.std.specs.Prelude.{◌≡◌, ◌≢◌, ℕ, ◌≤◌, ◌⊎◌, List, [], ◌∷◌, ◌++◌, length, Option, Contains, codes}
use Rattle.std.specs.List.{AllByRecursion}
use Rattle.px_base.specs.CallSign.{CallSign, CallText}
use Rattle.header_tool.specs.Made.{MakeValue}
use Rattle.command_words.specs.declared.disk.DiskWord.{DiskWord}
use Rattle.command_words.specs.declared.disk.DiskWord.TheVariants.{Named}
use Rattle.command_words.specs.declared.request.SessionRequest.{SessionRequest}
use Rattle.command_words.specs.declared.serve.ServeRequest.{ServeRequest}
use Rattle.command_words.specs.declared.terms.ClientTerms.{ClientTerms}
use Rattle.command_words.specs.Clients.{FetchText, ListText, SendText}
use Rattle.command_words.specs.Disks.{IsDiskOf}
use Rattle.command_words.specs.Grammar.{Line, line_places, line_value}
use Rattle.command_words.specs.Making.{MakeText}
use Rattle.command_words.specs.Numbers.{GivesNumber, IsNumberOr, NumberText, default_blocks, default_k, default_polls}
use Rattle.command_words.specs.Rehearsals.{DrawnText}

-- the commands
abbrev pub commands : List (List ℕ)
commands =
    codes "session" ∷ codes "serve" ∷ codes "send" ∷ codes "fetch" ∷ codes "list" ∷ codes "frames" ∷ codes "pfh-check"
    ∷ codes "pfh-show" ∷ codes "pfh-make" ∷ codes "pfh-body" ∷ codes "rehearse" ∷ []

-- Host and port: text without a colon, a colon, and the number of a port.
pub record IsHostPort (air : List ℕ) : Type 0 where
  pub host : List ℕ
  pub port : List ℕ
  pub number : ℕ
  pub written : air ≡ host ++ codes ":" ++ port
  pub some : 1 ≤ length host
  pub plain : AllByRecursion (λ c. c ≢ 58) host
  pub in_range : NumberText 1 65535 port number

-- standard input and output, or a host and port
abbrev pub IsAir : List ℕ → Type 0
IsAir air = (air ≡ codes "-") ⊎ IsHostPort air

-- the options of `session`
abbrev pub session_options : List (List ℕ)
session_options = codes "moment" ∷ codes "blocks" ∷ codes "polls" ∷ []

-- the options of `serve`
abbrev pub serve_options : List (List ℕ)
serve_options = codes "k" ∷ codes "blocks" ∷ codes "polls" ∷ []

-- The one place is a call, and the options give a number of blocks and one of polls.
pub record CallGiven (places : List (List ℕ)) (value : List ℕ → Option (List ℕ)) (call : CallSign) (blocks polls : ℕ)
    : Type 0 where
  pub call_text : List ℕ
  pub place : places ≡ call_text ∷ []
  pub called : CallText call call_text
  pub blocks_given : IsNumberOr default_blocks 1 65536 (value (codes "blocks")) blocks
  pub polls_given : IsNumberOr default_polls 1 18446744073709551615 (value (codes "polls")) polls

-- The words after `session` are CALLER and at most one value for each option, in any order; a moment may be missing.
pub record SessionText (others : List (List ℕ)) (caller : CallSign) (moment : Option ℕ) (blocks polls : ℕ)
    : Type 0 where
  pub line : Line session_options others 1
  pub given : CallGiven (line_places line) (line_value line) caller blocks polls
  pub moment_given : GivesNumber 0 4294967295 (line_value line (codes "moment")) moment

-- The numbers of `serve` are in their ranges.
pub record AreInRange (k blocks polls : ℕ) : Type 0 where
  pub some_k : 1 ≤ k
  pub most_k : k ≤ 7
  pub some_blocks : 1 ≤ blocks
  pub most_blocks : blocks ≤ 65536
  pub some_polls : 1 ≤ polls

-- The words after `serve` are ME and at most one value for each option, in any order. Their numbers are in their ranges,
-- which follows from what gives them.
pub record ServeText (others : List (List ℕ)) (me : CallSign) (k blocks polls : ℕ) : Type 0 where
  pub line : Line serve_options others 1
  pub given : CallGiven (line_places line) (line_value line) me blocks polls
  pub k_given : IsNumberOr default_k 1 7 (line_value line (codes "k")) k
  pub ranges : AreInRange k blocks polls

-- The words are DISK, which names this disk, AIR, this command, which needs an air, and others of which this holds.
pub record NeedsAir (command : List ℕ) (which : DiskWord) (P : List (List ℕ) → Type 0) (words : List (List ℕ))
    : Type 0 where
  pub disk : List ℕ
  pub air : List ℕ
  pub others : List (List ℕ)
  pub written : words ≡ disk ∷ air ∷ command ∷ others
  pub disk_named : IsDiskOf disk which
  pub air_form : IsAir air
  pub text : P others

-- the words are `DISK AIR session CALLER` and options, and ask for this session
abbrev pub IsSession : List (List ℕ) → SessionRequest → Type 0
IsSession words asked =
    NeedsAir (codes "session") asked.disk
    (λ others. SessionText others asked.caller asked.moment asked.blocks asked.polls) words

-- the words are `DISK AIR serve ME` and options, where DISK isn't `none`, and ask for this service
abbrev pub IsServe : List (List ℕ) → ServeRequest → Type 0
IsServe words asked =
    NeedsAir (codes "serve") Named (λ others. ServeText others asked.me asked.k asked.blocks asked.polls) words

-- the words are `DISK AIR send SERVER ME NAME` and options, where DISK isn't `none`
abbrev pub IsSend : List (List ℕ) → ClientTerms → List ℕ → Type 0
IsSend words terms name = NeedsAir (codes "send") Named (SendText terms name) words

-- the words are `DISK AIR fetch SERVER ME NUMBER NAME` and options, where DISK isn't `none`
abbrev pub IsFetch : List (List ℕ) → ClientTerms → ℕ → List ℕ → Type 0
IsFetch words terms number name = NeedsAir (codes "fetch") Named (FetchText terms number name) words

-- the words are `DISK AIR list SERVER ME HEX` and options, where DISK isn't `none`, and HEX is hexadecimal of these tokens
abbrev pub IsList : List (List ℕ) → ClientTerms → List ℕ → Type 0
IsList words terms tokens = NeedsAir (codes "list") Named (ListText terms tokens) words

-- the words ask for a file to be sent
abbrev pub AsksSend : List (List ℕ) → Type 0
AsksSend words = (terms : ClientTerms) × (name : List ℕ) × IsSend words terms name

-- the words ask for a file to be fetched
abbrev pub AsksFetch : List (List ℕ) → Type 0
AsksFetch words = (terms : ClientTerms) × (number : ℕ) × (name : List ℕ) × IsFetch words terms number name

-- the words ask for a list
abbrev pub AsksList : List (List ℕ) → Type 0
AsksList words = (terms : ClientTerms) × (tokens : List ℕ) × IsList words terms tokens

-- the words ask for one of these three
abbrev pub AsksClient : List (List ℕ) → Type 0
AsksClient words = AsksSend words ⊎ (AsksFetch words ⊎ AsksList words)

-- The words are DISK, AIR, this command, which needs neither of them, and others of which this holds.
pub record NeedsNeither (command : List ℕ) (P : List (List ℕ) → Type 0) (words : List (List ℕ)) : Type 0 where
  pub disk : List ℕ
  pub air : List ℕ
  pub others : List (List ℕ)
  pub written : words ≡ disk ∷ air ∷ command ∷ others
  pub air_form : (air ≡ codes "none") ⊎ IsAir air
  pub text : P others

-- The words after a command are a NAME alone.
pub record NameText (name : List ℕ) (others : List (List ℕ)) : Type 0 where
  pub line : Line [] others 1
  pub place : line_places line ≡ name ∷ []

-- the words are `DISK AIR`, this command and NAME
abbrev pub IsNamed : List ℕ → List (List ℕ) → List ℕ → Type 0
IsNamed command words name = NeedsNeither command (NameText name) words

-- the words are `DISK AIR frames NAME`
abbrev pub IsFrames : List (List ℕ) → List ℕ → Type 0
IsFrames words name = IsNamed (codes "frames") words name

-- the words are `DISK AIR pfh-check NAME`
abbrev pub IsCheck : List (List ℕ) → List ℕ → Type 0
IsCheck words name = IsNamed (codes "pfh-check") words name

-- the words are `DISK AIR pfh-show NAME`
abbrev pub IsShow : List (List ℕ) → List ℕ → Type 0
IsShow words name = IsNamed (codes "pfh-show") words name

-- the words are `DISK AIR pfh-make BODY NAME` and options, which say what the header is made of
abbrev pub IsMake : List (List ℕ) → List ℕ → List ℕ → MakeValue → Type 0
IsMake words body kept spec = NeedsNeither (codes "pfh-make") (MakeText body kept spec) words

-- The words after `pfh-body` are NAME and OUT alone.
pub record BodyText (name kept : List ℕ) (others : List (List ℕ)) : Type 0 where
  pub line : Line [] others 2
  pub places : line_places line ≡ name ∷ kept ∷ []

-- the words are `DISK AIR pfh-body NAME OUT`
abbrev pub IsBody : List (List ℕ) → List ℕ → List ℕ → Type 0
IsBody words name kept = NeedsNeither (codes "pfh-body") (BodyText name kept) words

-- the words ask for a file that is made of another one: of a body and a header, or the body of a file
abbrev pub AsksMake : List (List ℕ) → Type 0
AsksMake words =
    ((body kept : List ℕ) × (spec : MakeValue) × IsMake words body kept spec)
    ⊎ ((name kept : List ℕ) × IsBody words name kept)

-- the words ask for a file's header: to check it, to show it, to make it or to leave it out
abbrev pub AsksHeader : List (List ℕ) → Type 0
AsksHeader words = ((name : List ℕ) × IsCheck words name) ⊎ (((name : List ℕ) × IsShow words name) ⊎ AsksMake words)

-- the words are `DISK AIR rehearse NAME`
abbrev pub IsRehearsal : List (List ℕ) → List ℕ → Type 0
IsRehearsal words name = IsNamed (codes "rehearse") words name

-- the words are `DISK AIR rehearse --seed N --count N`
abbrev pub IsDrawn : List (List ℕ) → ℕ → ℕ → Type 0
IsDrawn words seed count = NeedsNeither (codes "rehearse") (DrawnText seed count) words

-- the words ask for a rehearsal: of the schedule of a name, or of rounds that are drawn
abbrev pub AsksRehearse : List (List ℕ) → Type 0
AsksRehearse words = ((name : List ℕ) × IsRehearsal words name) ⊎ ((seed count : ℕ) × IsDrawn words seed count)

-- the words are in the command set
abbrev pub InSet : List (List ℕ) → Type 0
InSet words =
    ((asked : SessionRequest) × IsSession words asked)
    ⊎ (((asked : ServeRequest) × IsServe words asked)
    ⊎ (AsksClient words ⊎ (((name : List ℕ) × IsFrames words name) ⊎ (AsksHeader words ⊎ AsksRehearse words))))

-- the words aren't in the command set
abbrev pub IsUsage : List (List ℕ) → Type 0
IsUsage words = InSet words → ⊥

-- the words name a command
abbrev pub NamesCommand : List (List ℕ) → Type 0
NamesCommand words =
    (disk air command : List ℕ) × (others : List (List ℕ)) × (words ≡ disk ∷ air ∷ command ∷ others)
    × Contains commands command
