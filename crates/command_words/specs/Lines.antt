-- What `clap` is asked: the words from COMMAND on, as those of a command with options and places of some names.
use Rattle.std.specs.Prelude.{◌≡◌, ℕ, List, [], ◌∷◌, ◌++◌, length, map, Option, Some, Contains, true, false, not, nat_lt, Bool, ◌&&◌, codes}
use Rattle.std.specs.List.{list_all, list_any}
use Rattle.std.specs.Option.{option_copied}
use Rattle.std.specs.Str.{bytes_eq}
use Rattle.clap.specs.Lexer.{has_byte}
use Rattle.clap.specs.Words.{App, Rule, first_value, found_of, new_rule, with_rule}
use Rattle.clap.specs.Simple.{new_shape}
use Rattle.clap.specs.declared.builder.action.ArgAction.TheVariants.{Set}
use Rattle.clap.specs.declared.parser.matches.ArgMatches.{ArgMatches}
use Rattle.command_words.specs.declared.body.BodyRequest.{BodyRequest}
use Rattle.command_words.specs.declared.line.MakeTexts.{MakeTexts}
use Rattle.command_words.specs.Clients.{client_options}
use Rattle.command_words.specs.Grammar.{Line, line_places, line_value}
use Rattle.command_words.specs.Making.{MakeOptions, make_options, options_given}
use Rattle.command_words.specs.Rehearsals.{rehearse_options}
use Rattle.command_words.specs.Words.{BodyText, serve_options, session_options}

-- an option with a value
abbrev pub option_of : List ℕ → Rule
option_of name = record (new_rule name) { long = Some name; action = Some Set }

-- with an option of each of these names more
abbrev pub options_added : App → List (List ℕ) → App
options_added app [] = app
options_added app (name ∷ names) = options_added (with_rule app (option_of name)) names

-- a place that has to be there
abbrev pub place_of : List ℕ → Rule
place_of name = record (new_rule name) { action = Some Set; required = true }

-- a command of this name with these rules
abbrev pub command_with : List ℕ → List Rule → App
command_with command rules = record {
  top = record (new_shape command) { rules = rules; disable_help_flag = true };
  subs = [];
}

-- a command of this name with places and options of these names
abbrev pub command_of : List ℕ → List (List ℕ) → List (List ℕ) → App
command_of command places names = command_with command (map place_of places ++ map option_of names)

-- the command `session`
abbrev pub session_app : App
session_app = command_of (codes "session") (codes "caller" ∷ []) session_options

-- the command `serve`
abbrev pub serve_app : App
serve_app = command_of (codes "serve") (codes "me" ∷ []) serve_options

-- the places of `send` and `list`
abbrev pub client_places : List (List ℕ)
client_places = codes "server" ∷ codes "me" ∷ codes "subject" ∷ []

-- the places of `fetch`
abbrev pub fetch_places : List (List ℕ)
fetch_places = codes "server" ∷ codes "me" ∷ codes "number" ∷ codes "name" ∷ []

-- the command `pfh-make`
abbrev pub make_app : App
make_app = command_of (codes "pfh-make") (codes "body" ∷ codes "kept" ∷ []) make_options

-- the command `pfh-body`
abbrev pub body_app : App
body_app = command_of (codes "pfh-body") (codes "name" ∷ codes "out" ∷ []) []

-- the command `rehearse`, where it names no schedule
abbrev pub drawn_app : App
drawn_app = command_of (codes "rehearse") [] rehearse_options

-- an option's name is some text without `=`, and no place's
abbrev pub is_option_name : List (List ℕ) → List ℕ → Bool
is_option_name places [] = false
is_option_name places (x ∷ name) = not (has_byte 61 (x ∷ name)) && not (list_any (λ place. bytes_eq place (x ∷ name)) places)

-- this is the name of one of these places
abbrev pub is_place : List (List ℕ) → List ℕ → Bool
is_place places name = list_any (λ place. bytes_eq place name) places

-- places of different names
abbrev pub are_apart : List (List ℕ) → Bool
are_apart [] = true
are_apart (place ∷ places) = not (is_place places place) && are_apart places

-- and fewer than can be counted
abbrev pub are_places : List (List ℕ) → Bool
are_places places = nat_lt (length places) 18446744073709551615 && are_apart places

-- the command is one with these places and options
pub record IsLine (app : App) (places names : List (List ℕ)) : Type 0 where
  pub command : List ℕ
  pub written : app ≡ command_of command places names
  pub placed : are_places places ≡ true
  pub apart : list_all (is_option_name places) names ≡ true

-- The words are such a line, and these are its texts.
pub record IsFound (places names words : List (List ℕ)) (matches : ArgMatches) : Type 0 where
  pub line : Line names words (length places)
  pub places_found : map (first_value (found_of matches)) places ≡ map (λ text. Some text) (line_places line)
  pub values_found : (name : List ℕ) → Contains names name → first_value (found_of matches) name ≡ line_value line name

-- Where the command is one with places and options, these are the texts of the words.
abbrev pub FindsLine : App → List (List ℕ) → ArgMatches → Type 0
FindsLine app words matches = (places names : List (List ℕ)) → IsLine app places names → IsFound places names words matches

-- Where the command is one with places and options, the words are no line of it.
abbrev pub RefusesLine : App → List (List ℕ) → Type 0
RefusesLine app words = (places names : List (List ℕ)) → IsLine app places names → Line names words (length places) → ⊥

-- The words after `session` give this place, and these values of the options.
pub record SessionLine (words : List (List ℕ)) (caller : List ℕ) (moment blocks polls : Option (List ℕ)) : Type 0 where
  pub line : Line session_options words 1
  pub place : line_places line ≡ caller ∷ []
  pub moment_given : line_value line (codes "moment") ≡ moment
  pub blocks_given : line_value line (codes "blocks") ≡ blocks
  pub polls_given : line_value line (codes "polls") ≡ polls

-- The words after `serve` give this place, and these values of the options.
pub record ServeLine (words : List (List ℕ)) (me : List ℕ) (k blocks polls : Option (List ℕ)) : Type 0 where
  pub line : Line serve_options words 1
  pub place : line_places line ≡ me ∷ []
  pub k_given : line_value line (codes "k") ≡ k
  pub blocks_given : line_value line (codes "blocks") ≡ blocks
  pub polls_given : line_value line (codes "polls") ≡ polls

-- a client's command of this name, with one place behind SERVER and ME
abbrev pub client_app : List ℕ → App
client_app command = command_of command client_places client_options

-- the command `fetch`
abbrev pub fetch_app : App
fetch_app = command_of (codes "fetch") fetch_places client_options

-- The words after a client's command give these places, and these values of the options.
pub record ClientLine (count : ℕ) (words places : List (List ℕ)) (k polls : Option (List ℕ)) : Type 0 where
  pub line : Line client_options words count
  pub places_are : line_places line ≡ places
  pub k_given : line_value line (codes "k") ≡ k
  pub polls_given : line_value line (codes "polls") ≡ polls

-- the values of the options of `pfh-make` that were read
abbrev pub options_read : MakeTexts → MakeOptions
options_read texts =
    record {
      name = option_copied texts.name;
      ext = option_copied texts.ext;
      file_type = option_copied texts.file_type;
      time = option_copied texts.time;
      source = option_copied texts.source;
      destination = option_copied texts.destination;
      title = option_copied texts.title;
    }

-- The words after `pfh-make` give these places, and these values of the options.
pub record MakeLine (texts : MakeTexts) (words : List (List ℕ)) : Type 0 where
  pub line : Line make_options words 2
  pub places : line_places line ≡ texts.body.now ∷ texts.kept.now ∷ []
  pub options : options_given (line_value line) ≡ options_read texts

-- The words after `pfh-body` are these places.
abbrev pub BodyLine : BodyRequest → List (List ℕ) → Type 0
BodyLine asked words = BodyText asked.name.now asked.kept.now words

-- The words after `rehearse` are no place, and give these values of the options.
pub record DrawnLine (words : List (List ℕ)) (seed count : Option (List ℕ)) : Type 0 where
  pub line : Line rehearse_options words 0
  pub seed_given : line_value line (codes "seed") ≡ seed
  pub count_given : line_value line (codes "count") ≡ count
