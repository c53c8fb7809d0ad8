-- What the clauses of `clap` say of the words from COMMAND on.
use Rattle.std.proofs.Common.{◌≡◌, true, List, [], ◌∷◌, length, map, drop, Option, None, Some, refl, sym, ap, ◌∙◌, string_bytes, codes, option_copied, option_map, Bor, Result, Err}
use Rattle.clap.specs.Matches.{first_value, found_of}
use Rattle.clap.specs.declared.parser.matches.ArgMatches.{ArgMatches}
use Rattle.clap.proofs.WalkLemmas.{first_value-rows}
use Rattle.command_words.specs.declared.request.Refusal.{Refusal}
use Rattle.command_words.proofs.Names.{slice_get, AllByRecursion, String, first_of, rows_of, App, HasMatchesOf, matches_of, takes, fault_of, is_simple_and_free, client_options, Line, body_app, IsFound, IsLine, are_apart, client_app, client_places, command_of, drawn_app, fetch_app, fetch_places, make_app, serve_app, session_app, make_options, rehearse_options, serve_options, session_options}
use Rattle.command_words.proofs.Uses.{Text, Uses, values}
use Rattle.command_words.proofs.Machine.{is_name-from}
use Rattle.command_words.proofs.Rules.{AreApart, rows}
use Rattle.command_words.proofs.ClapWalk.{IsFine}
use Rattle.command_words.proofs.ClapLine.{first_of-rows, line_finds_rows, line_free, line_reads, line_simple, line_takes}
use Rattle.command_words.proofs.Readings.{all_good, apart_names, apart_places, fine_words, line-run, line_places_are, line_value_is, run-line, uses_in}

-- the words after the first are the octets of texts
fine_after : {Z : Type 0} (line : List (String Z)) → AllByRecursion IsFine (drop 1 (map string_bytes line))
fine_after [] = tt
fine_after (word ∷ words) = fine_words words

module _ {Z : Type 0} (app : App) (ids names : List Text) (is : IsLine app ids names) (line : List (String Z)) where
  abbrev lines : List Text
  lines = map string_bytes line

  apart : AreApart names ids
  apart = apart_names names ids is.apart

  distinct : are_apart ids ≡ true
  distinct = apart_places ids is.placed

  pub free : is_simple_and_free app ≡ true
  free = ap is_simple_and_free is.written ∙ line_free is.command ids names

  -- words that are a line are taken
  pub takes_taken : Line names (drop 1 lines) (length ids) → takes app lines ≡ true
  takes_taken taken =
      let (read, given) = line-run names ids apart distinct (drop 1 lines) (all_good ids names is.apart) taken in
      ap (λ (a : App). takes a lines) is.written
      ∙ line_takes is.command ids names apart is.placed lines (uses_in names ids apart distinct taken) (fine_after line) read given

  first_found : (matches : ArgMatches) (all : Uses) (x : Text) → rows_of (found_of matches) ≡ rows all → first_value (found_of matches) x ≡ slice_get (values x all) 0
  first_found matches all x same = first_value-rows (found_of matches) x ∙ ap (first_of x) same ∙ first_of-rows x all

  -- words that were taken are a line, and what was found are its texts
  pub found_read : (matches : ArgMatches) → fault_of app lines ≡ [] → HasMatchesOf app lines matches → IsFound ids names (drop 1 lines) matches
  found_read matches none has =
      let (all, read, given) = line_reads is.command ids names apart is.placed lines (fine_after line) (ap (λ (a : App). fault_of a lines) (sym is.written) ∙ none) in
      let same : rows_of (found_of matches) ≡ rows all =
      (has (ap Rattle.clap.specs.Simple.is_simple is.written ∙ line_simple is.command ids names)).0
      ∙ ap (λ (a : App). matches_of a lines) is.written ∙ line_finds_rows is.command ids names apart is.placed lines all (fine_after line) read in
      let (taken, uses_are) = run-line names ids apart distinct (drop 1 lines) all read given in
      let first : (x : Text) → first_value (found_of matches) x ≡ slice_get (values x (uses_in names ids apart distinct taken)) 0 =
      λ x. first_found matches all x same ∙ ap (λ (uses : Uses). slice_get (values x uses) 0) (sym uses_are) in
      record {
        line = taken;
        places_found = line_places_are names ids apart distinct taken (first_value (found_of matches)) first;
        values_found = λ name known. first name ∙ line_value_is names ids apart distinct taken name (is_name-from names name known);
      }

-- ---- the commands

pub name_line : (command : Text) (app : App) → app ≡ command_of command (codes "name" ∷ []) [] → IsLine app (codes "name" ∷ []) []
name_line command app e = record { command = command; written = e; placed = refl; apart = refl }

pub session_line : (app : App) → app ≡ session_app → IsLine app (codes "caller" ∷ []) session_options
session_line app e = record { command = codes "session"; written = e; placed = refl; apart = refl }

pub serve_line : (app : App) → app ≡ serve_app → IsLine app (codes "me" ∷ []) serve_options
serve_line app e = record { command = codes "serve"; written = e; placed = refl; apart = refl }

pub client_line : (command : Text) (app : App) → app ≡ client_app command → IsLine app client_places client_options
client_line command app e = record { command = command; written = e; placed = refl; apart = refl }

pub fetch_line : (app : App) → app ≡ fetch_app → IsLine app fetch_places client_options
fetch_line app e = record { command = codes "fetch"; written = e; placed = refl; apart = refl }

pub make_line : (app : App) → app ≡ make_app → IsLine app (codes "body" ∷ codes "kept" ∷ []) make_options
make_line app e = record { command = codes "pfh-make"; written = e; placed = refl; apart = refl }

pub body_line : (app : App) → app ≡ body_app → IsLine app (codes "name" ∷ codes "out" ∷ []) []
body_line app e = record { command = codes "pfh-body"; written = e; placed = refl; apart = refl }

pub drawn_line : (app : App) → app ≡ drawn_app → IsLine app [] rehearse_options
drawn_line app e = record { command = codes "rehearse"; written = e; placed = refl; apart = refl }

-- the texts behind what is got
copied-map : (o : Option (Bor Text)) → option_copied o ≡ option_map (λ s. s.now) o
copied-map None = refl
copied-map (Some s) = refl

-- the value of an option is what is got
pub value_got : (value first : Option Text) (got : Option (Bor Text)) → first ≡ value → option_map (λ s. s.now) got ≡ first → value ≡ option_copied got
value_got value first got found same = sym found ∙ sym same ∙ sym (copied-map got)

-- a refusal that is handed on is the same one
pub handed_on : {T U : Type 0} {refusal cause : Refusal} → ◌≡◌ {A = Result T Refusal} (Err refusal) (Err cause) → ◌≡◌ {A = Result U Refusal} (Err refusal) (Err cause)
handed_on {refusal = refusal} {cause = cause} e = let same : refusal ≡ cause = cc in ap (λ (r : Refusal). Err r) same
