-- What the words of `pfh-make` ask for.
use Rattle.std.specs.Prelude.{◌≡◌, ℕ, List, [], ◌∷◌, Option, None, Some, unwrap_or, codes}
use Rattle.header_tool.specs.Made.{MakeValue, spec_refusal}
use Rattle.command_words.specs.Grammar.{Line, line_places, line_value}
use Rattle.command_words.specs.Numbers.{IsNumberOr}

-- the options of `pfh-make`
abbrev pub make_options : List (List ℕ)
make_options =
    codes "name" ∷ codes "ext" ∷ codes "type" ∷ codes "time" ∷ codes "source" ∷ codes "destination" ∷ codes "title" ∷ []

-- their values, where they are given
pub record MakeOptions : Type 0 where
  pub name : Option (List ℕ)
  pub ext : Option (List ℕ)
  pub file_type : Option (List ℕ)
  pub time : Option (List ℕ)
  pub source : Option (List ℕ)
  pub destination : Option (List ℕ)
  pub title : Option (List ℕ)

abbrev pub options_given : (List ℕ → Option (List ℕ)) → MakeOptions
options_given value =
    record {
      name = value (codes "name");
      ext = value (codes "ext");
      file_type = value (codes "type");
      time = value (codes "time");
      source = value (codes "source");
      destination = value (codes "destination");
      title = value (codes "title");
    }

-- The options say what the header is made of. A name has to be given; an extension and a source that aren't given are empty,
-- a type and a time 0.
pub record MakeSays (options : MakeOptions) (spec : MakeValue) : Type 0 where
  pub name : options.name ≡ Some spec.name
  pub ext : unwrap_or options.ext [] ≡ spec.ext
  pub file_type : IsNumberOr 0 0 255 options.file_type spec.file_type
  pub time : IsNumberOr 0 0 4294967295 options.time spec.time
  pub source : unwrap_or options.source [] ≡ spec.source
  pub destination : options.destination ≡ spec.destination
  pub title : options.title ≡ spec.title

-- The words after `pfh-make` are BODY, NAME and at most one value for each option, in any order, and a header of what the
-- options say isn't refused.
pub record MakeText (body kept : List ℕ) (spec : MakeValue) (others : List (List ℕ)) : Type 0 where
  pub line : Line make_options others 2
  pub places : line_places line ≡ body ∷ kept ∷ []
  pub says : MakeSays (options_given (line_value line)) spec
  pub possible : spec_refusal spec ≡ None
