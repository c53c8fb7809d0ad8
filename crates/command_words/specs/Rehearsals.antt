-- What the words after `rehearse` ask for, where they name no schedule.
use Rattle.std.specs.Prelude.{ℕ, ◌≤◌, List, [], ◌∷◌, Some, codes}
use Rattle.command_words.specs.Grammar.{Line, line_value}
use Rattle.command_words.specs.Numbers.{GivesNumber}

-- the options of `rehearse`
abbrev pub rehearse_options : List (List ℕ)
rehearse_options = codes "seed" ∷ codes "count" ∷ []

-- The numbers of drawn rounds are in their ranges.
pub record AreDrawable (seed count : ℕ) : Type 0 where
  pub most_seed : seed ≤ 18446744073709551615
  pub some_count : 1 ≤ count
  pub most_count : count ≤ 1000

-- The words after `rehearse` are the two options, each once, and no place. Their numbers are in their ranges, which
-- follows from what gives them.
pub record DrawnText (seed count : ℕ) (others : List (List ℕ)) : Type 0 where
  pub line : Line rehearse_options others 0
  pub seed_given : GivesNumber 0 18446744073709551615 (line_value line (codes "seed")) (Some seed)
  pub count_given : GivesNumber 1 1000 (line_value line (codes "count")) (Some count)
  pub ranges : AreDrawable seed count
