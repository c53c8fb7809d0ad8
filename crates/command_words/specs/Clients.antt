-- What the words after `send`, `fetch` and `list` ask for.
use Rattle.std.specs.Prelude.{◌≡◌, ℕ, ◌≤◌, List, [], ◌∷◌, length, Option, Ok, codes}
use Rattle.hex.specs.Hex.{decode_of}
use Rattle.px_base.specs.CallSign.{CallText}
use Rattle.command_words.specs.declared.terms.ClientTerms.{ClientTerms}
use Rattle.command_words.specs.Grammar.{Line, line_places, line_value}
use Rattle.command_words.specs.Numbers.{IsNumberOr, NumberText, default_k, default_polls}

-- the options of a client's commands
abbrev pub client_options : List (List ℕ)
client_options = codes "k" ∷ codes "polls" ∷ []

-- These texts give the terms of a client: they are its server's call and its own, and the values of its options, where these
-- are given.
pub record TermsText (server me : List ℕ) (k polls : Option (List ℕ)) (terms : ClientTerms) : Type 0 where
  pub server_called : CallText terms.server server
  pub me_called : CallText terms.me me
  pub k_given : IsNumberOr default_k 1 7 k terms.k
  pub polls_given : IsNumberOr default_polls 1 18446744073709551615 polls terms.polls

-- The numbers of a client's terms are in their ranges.
pub record AreTermsInRange (terms : ClientTerms) : Type 0 where
  pub some_k : 1 ≤ terms.k
  pub most_k : terms.k ≤ 7
  pub some_polls : 1 ≤ terms.polls

-- The words after a client's command are so many places, which are SERVER, ME and these further ones, and at most one value
-- for each option, in any order. The numbers of the terms that they give are in their ranges, which follows from what gives
-- them.
pub record ClientText (count : ℕ) (terms : ClientTerms) (further others : List (List ℕ)) : Type 0 where
  pub line : Line client_options others count
  pub server : List ℕ
  pub me : List ℕ
  pub places : line_places line ≡ server ∷ me ∷ further
  pub given : TermsText server me (line_value line (codes "k")) (line_value line (codes "polls")) terms
  pub ranges : AreTermsInRange terms

-- The words after `send` are SERVER, ME, NAME and options, and NAME has 1 to 64 octets.
pub record SendText (terms : ClientTerms) (name : List ℕ) (others : List (List ℕ)) : Type 0 where
  pub text : ClientText 3 terms (name ∷ []) others
  pub some : 1 ≤ length name
  pub few : length name ≤ 64

-- The words after `fetch` are SERVER, ME, NUMBER, NAME and options.
pub record FetchText (terms : ClientTerms) (number : ℕ) (name : List ℕ) (others : List (List ℕ)) : Type 0 where
  pub number_text : List ℕ
  pub text : ClientText 4 terms (number_text ∷ name ∷ []) others
  pub in_range : NumberText 1 4294967295 number_text number

-- The text is hexadecimal of these octets, two digits an octet, in either case; and they are at most 2,047.
pub record HexText (hex octets : List ℕ) : Type 0 where
  pub decoded : decode_of hex ≡ Ok octets
  pub few : length octets ≤ 2047

-- The words after `list` are SERVER, ME, HEX and options, and HEX is hexadecimal of these tokens.
pub record ListText (terms : ClientTerms) (tokens : List ℕ) (others : List (List ℕ)) : Type 0 where
  pub hex : List ℕ
  pub text : ClientText 3 terms (hex ∷ []) others
  pub hexed : HexText hex tokens
