-- The words after COMMAND: options with their values, and places, in any order.
use Rattle.std.specs.Prelude.{◌≡◌, ℕ, ◌≤◌, List, [], ◌∷◌, ◌++◌, length, flat_map, Option, None, Some, unwrap_or, Contains, codes, slice_get, slice_index, if◌then◌else◌}
use Rattle.std.specs.List.{AllByRecursion}
use Rattle.std.specs.Str.{bytes_eq}

-- a word of two or more octets that begins with a hyphen
abbrev pub IsDashed : List ℕ → Type 0
IsDashed word = (2 ≤ length word) × (slice_index word 0 ≡ 45)

-- a place; an option with its value in the next word; an option with its value after `=`
pub data Part : Type 0 where
  place : List ℕ → Part
  spaced : List ℕ → List ℕ → Part
  joined : List ℕ → List ℕ → Part

-- the words of a part
abbrev pub words_of : Part → List (List ℕ)
words_of (place word) = word ∷ []
words_of (spaced name value) = (codes "--" ++ name) ∷ value ∷ []
words_of (joined name value) = (codes "--" ++ name ++ codes "=" ++ value) ∷ []

-- Options have one of these names. A word that begins with a hyphen, but for `-` itself, is no place, and is a value only
-- after `=`.
abbrev pub IsPart : List (List ℕ) → Part → Type 0
IsPart names (place word) = IsDashed word → ⊥
IsPart names (spaced name value) = Contains names name × (IsDashed value → ⊥)
IsPart names (joined name value) = Contains names name

-- nothing, or `--` and then places of any form
abbrev pub words_of_end : Option (List (List ℕ)) → List (List ℕ)
words_of_end None = []
words_of_end (Some places) = codes "--" ∷ places

-- The words are these parts one after another, and then this end.
pub record Reading (names words : List (List ℕ)) : Type 0 where
  pub parts : List Part
  pub end : Option (List (List ℕ))
  pub each : AllByRecursion (IsPart names) parts
  pub written : words ≡ flat_map words_of parts ++ words_of_end end

-- the place that a part is, if it is one
abbrev pub place_in : Part → List (List ℕ)
place_in (place word) = word ∷ []
place_in (spaced name value) = []
place_in (joined name value) = []

-- the value that a part gives the option of this name, if it does
abbrev pub value_in : List ℕ → Part → List (List ℕ)
value_in name (place word) = []
value_in name (spaced other value) = if bytes_eq other name then value ∷ [] else []
value_in name (joined other value) = if bytes_eq other name then value ∷ [] else []

-- the places, in order
abbrev pub places_of : {names words : List (List ℕ)} → Reading names words → List (List ℕ)
places_of reading = flat_map place_in reading.parts ++ unwrap_or reading.end []

-- the values of the options of this name, in order
abbrev pub values_of : {names words : List (List ℕ)} → Reading names words → List ℕ → List (List ℕ)
values_of reading name = flat_map (value_in name) reading.parts

-- The words have a reading with so many places, and at most one value for each name.
pub record Line (names words : List (List ℕ)) (count : ℕ) : Type 0 where
  pub reading : Reading names words
  pub counted : length (places_of reading) ≡ count
  pub single : (name : List ℕ) → length (values_of reading name) ≤ 1

-- its places, in order
abbrev pub line_places : {names words : List (List ℕ)} {count : ℕ} → Line names words count → List (List ℕ)
line_places line = places_of line.reading

-- the value that it gives the option of this name, where it gives one
abbrev pub line_value : {names words : List (List ℕ)} {count : ℕ} → Line names words count → List ℕ → Option (List ℕ)
line_value line name = slice_get (values_of line.reading name) 0
