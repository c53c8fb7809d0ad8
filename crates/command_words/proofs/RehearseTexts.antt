-- What the words of `rehearse` mean, and that they mean only that.
use Rattle.std.proofs.Common.{◌≡◌, ◌≤◌, ◌⊎◌, ℕ, List, [], ◌∷◌, ◌++◌, length, Option, None, Some, unwrap_or, refl, sym, ap, ◌∙◌, subst, arith, inl, inr, codes, true≢false}
use Rattle.command_words.specs.declared.rehearse.RehearseRequest.{RehearseRequest}
use Rattle.command_words.specs.declared.rehearse.RehearseRequest.TheVariants.{Drawn, Schedule}
use Rattle.command_words.proofs.Names.{flat_map, slice_get, AllByRecursion, AsksRehearseFor, IsRehearseText, IsDashed, IsPart, Line, Part, Reading, joined, line_value, place, place_in, spaced, value_in, words_of, words_of_end, DrawnLine, GivesNumber, NumberText, number_after, AreDrawable, DrawnText, rehearse_options, AsksRehearse, IsAir, NameText}
use Rattle.command_words.proofs.Uses.{Text}
use Rattle.command_words.proofs.Machine.{is_name-from}
use Rattle.command_words.proofs.Meanings.{neither_from, neither_text, of_line}
use Rattle.command_words.proofs.Decided.{Decided, line_decided, number_decided}

-- ---- the two options

-- an option's number
abbrev pub GivesSeed : Option Text → ℕ → Type 0
GivesSeed value seed = GivesNumber 0 18446744073709551615 value (Some seed)

abbrev pub GivesCount : Option Text → ℕ → Type 0
GivesCount value count = GivesNumber 1 1000 value (Some count)

-- the numbers that the options give are in their ranges
are_drawable : (seed_value count_value : Option Text) (seed count : ℕ) → GivesSeed seed_value seed → GivesCount count_value count → AreDrawable seed count
are_drawable seed_value count_value seed count (text, e, is) (other, f, also) =
    record { most_seed = is.most; some_count = also.least; most_count = also.most }

-- the numbers of the words, seen from any line of them
drawn_given : {others : List Text} {seed count : ℕ} → DrawnText seed count others → (line : Line rehearse_options others 0)
    → GivesSeed (line_value line (codes "seed")) seed × GivesCount (line_value line (codes "count")) count
drawn_given {seed = seed} {count = count} text line =
    of_line rehearse_options [] refl refl (λ places value. GivesSeed (value (codes "seed")) seed × GivesCount (value (codes "count")) count)
    text.line line (text.seed_given, text.count_given)

-- what a line gives is what its words mean,
pub drawn_agrees : {others : List Text} {seed_value count_value : Option Text} {seed count : ℕ} → DrawnLine others seed_value count_value → DrawnText seed count others
    → GivesSeed seed_value seed × GivesCount count_value count
drawn_agrees {seed = seed} {count = count} line text =
    let (seed_is, count_is) = drawn_given text line.line in
    (subst (λ (o : Option Text). GivesSeed o seed) line.seed_given seed_is, subst (λ (o : Option Text). GivesCount o count) line.count_given count_is)

-- and what they mean is what a line gives
pub drawn_from : {others : List Text} {seed_value count_value : Option Text} (seed count : ℕ) → DrawnLine others seed_value count_value
    → GivesSeed seed_value seed → GivesCount count_value count → DrawnText seed count others
drawn_from {seed_value = seed_value} {count_value = count_value} seed count line seed_is count_is = record {
  line = line.line;
  seed_given = subst (λ (o : Option Text). GivesSeed o seed) (sym line.seed_given) seed_is;
  count_given = subst (λ (o : Option Text). GivesCount o count) (sym line.count_given) count_is;
  ranges = are_drawable seed_value count_value seed count seed_is count_is;
}

-- an option gives one number
one_number : (low high : ℕ) (value : Option Text) (one other : ℕ) → GivesNumber low high value (Some one) → GivesNumber low high value (Some other) → one ≡ other
one_number low high value one other (text, e, is) (again, f, also) =
    let both : Some text ≡ Some again = sym e ∙ f in
    let same : text ≡ again = cc in
    is.value ∙ ap (number_after 0) same ∙ sym also.value

-- words ask for the rounds of one seed, and for one number of them
pub drawn_same : {others : List Text} {seed other count more : ℕ} → DrawnText seed count others → DrawnText other more others → (seed ≡ other) × (count ≡ more)
drawn_same {seed = seed} {other = other} {count = count} {more = more} one two =
    let (seed_is, count_is) = drawn_given two one.line in
    (one_number 0 18446744073709551615 _ seed other one.seed_given seed_is, one_number 1 1000 _ count more one.count_given count_is)

-- ---- a name, or the two options

-- a word that begins as an option does is no place, so no words begin with it that are a NAME alone
no_places : (x : ℕ) (rest : Text) (more : List Text) (parts : List Part) (end : Option (List Text)) → AllByRecursion (IsPart []) parts
    → (45 ∷ 45 ∷ x ∷ rest) ∷ more ≡ flat_map words_of parts ++ words_of_end end → ⊥
no_places x rest more [] None each e = absurd cc
no_places x rest more [] (Some places) each e = absurd cc
no_places x rest more (place word ∷ parts) end each e =
    let same : 45 ∷ 45 ∷ x ∷ rest ≡ word = cc in
    each.0 (subst IsDashed same (omega arith, refl))
no_places x rest more (spaced name value ∷ parts) end each e = let (k, inside, same) = each.0.0 in omega (arith, inside)
no_places x rest more (joined name value ∷ parts) end each e = let (k, inside, same) = each.0 in omega (arith, inside)

-- words without a place that give a value begin so
no_name : (parts : List Part) (end : Option (List Text)) (x : Text) → AllByRecursion (IsPart rehearse_options) parts
    → length (flat_map place_in parts ++ unwrap_or end []) ≡ 0 → 1 ≤ length (flat_map (value_in x) parts)
    → Reading [] (flat_map words_of parts ++ words_of_end end) → ⊥
no_name [] end x each none some reading = absurd (omega (arith, some))
no_name (place word ∷ parts) end x each none some reading = absurd (omega (arith, none))
no_name (spaced [] value ∷ parts) end x each none some reading = absurd (true≢false (sym (is_name-from rehearse_options [] each.0.0)))
no_name (spaced (y ∷ name) value ∷ parts) end x each none some reading = no_places y name _ reading.parts reading.end reading.each reading.written
no_name (joined [] value ∷ parts) end x each none some reading = absurd (true≢false (sym (is_name-from rehearse_options [] each.0)))
no_name (joined (y ∷ name) value ∷ parts) end x each none some reading = no_places y _ _ reading.parts reading.end reading.each reading.written

some_value : (texts : List Text) (text : Text) → slice_get texts 0 ≡ Some text → 1 ≤ length texts
some_value [] text e = absurd cc
some_value (first ∷ texts) text e = omega arith

-- the words after `rehearse` aren't both
pub name_drawn : {others : List Text} (name : Text) (seed count : ℕ) → NameText name others → DrawnText seed count others → ⊥
name_drawn name seed count named drawn =
    let reading = drawn.line.reading in
    let (text, e, is) = drawn.seed_given in
    no_name reading.parts reading.end (codes "seed") reading.each drawn.line.counted (some_value _ text e)
    (subst (Reading []) reading.written named.line.reading)

-- ---- decided

given_decided : (low high : ℕ) (value : Option Text) → Decided ((number : ℕ) × GivesNumber low high value (Some number))
given_decided low high None = inr (λ (number, (text, e, is)). absurd cc)
given_decided low high (Some text) = elim (number_decided low high text) [
  | inl (number, is) ↦ inl (number, (text, refl, is))
  | inr none ↦ inr (λ (number, (other, e, is)).
      let same : other ≡ text = cc in
      none (number, subst (λ (t : Text). NumberText low high t number) same is))
]

-- the words after `rehearse` give a seed and a number of rounds
abbrev GivesDrawn : List Text → Type 0
GivesDrawn others = (seed : ℕ) × (count : ℕ) × DrawnText seed count others

drawn_on : (others : List Text) (line : Line rehearse_options others 0) → Decided (GivesDrawn others)
drawn_on others line = elim (given_decided 0 18446744073709551615 (line_value line (codes "seed"))) [
  | inr none ↦ inr (λ (seed, count, text). none (seed, (drawn_given text line).0))
  | inl (seed, seed_is) ↦ elim (given_decided 1 1000 (line_value line (codes "count"))) [
    | inr none ↦ inr (λ (other, count, text). none (count, (drawn_given text line).1))
    | inl (count, count_is) ↦ inl (
      seed,
      count,
      record { line = line; seed_given = seed_is; count_given = count_is; ranges = are_drawable _ _ seed count seed_is count_is },
    )
  ]
]

pub drawn_decided : (others : List Text) → Decided (GivesDrawn others)
drawn_decided others = elim (line_decided rehearse_options [] refl refl others) [
  | inl line ↦ drawn_on others line
  | inr none ↦ inr (λ (seed, count, text). none text.line)
]

-- ---- what is asked for

-- words that ask for a rehearsal have an AIR of one of its forms,
pub rehearse_form : {d a : Text} {others : List Text} → AsksRehearse (d ∷ a ∷ codes "rehearse" ∷ others) → (a ≡ codes "none") ⊎ IsAir a
rehearse_form (inl (name, asks)) = (neither_text asks).1
rehearse_form (inr (seed, count, asks)) = (neither_text asks).1

-- and a NAME or the two options
pub rehearse_text : {d a : Text} {others : List Text} → AsksRehearse (d ∷ a ∷ codes "rehearse" ∷ others)
    → ((name : Text) → NameText name others → ⊥) → ((seed count : ℕ) → DrawnText seed count others → ⊥) → ⊥
rehearse_text (inl (name, asks)) no_name no_draws = no_name name (neither_text asks).0
rehearse_text (inr (seed, count, asks)) no_name no_draws = no_draws seed count (neither_text asks).0

-- AIR has one of its forms, and the words after the command ask for this: so the words do
pub rehearse_from : (d a : Text) (others : List Text) (request : RehearseRequest) → (a ≡ codes "none") ⊎ IsAir a → IsRehearseText others request
    → AsksRehearseFor (d ∷ a ∷ codes "rehearse" ∷ others) request
rehearse_from d a others (Schedule name) form text = neither_from d a others form text
rehearse_from d a others (Drawn seed count) form text = neither_from d a others form text
