-- Lemmas on the turns of an air in memory.
use Rattle.std.proofs.Common.{◌≡◌, List, [], ◌∷◌, ◌++◌, Bool, true, false, refl}
use Rattle.px_base.specs.declared.air.Turn.{Turn}
use Rattle.px_base.specs.Forms.{has_fail, is_fail}
use Rattle.std.specs.Prelude.{◌||◌}

or_false : (a b : Bool) → (a || b) ≡ false → (a ≡ false) × (b ≡ false)
or_false true b h = absurd (cc)
or_false false b h = (refl, h)

or_left : (a b : Bool) → a ≡ false → b ≡ false → (a || b) ≡ false
or_left true b h k = absurd (cc)
or_left false b h k = k

-- where no turn of a list fails, none of its front does
pub has_fail-front : (turns : List Turn) (next : Turn) → has_fail (turns ++ next ∷ []) ≡ false → has_fail turns ≡ false
has_fail-front [] next h = refl
has_fail-front (t ∷ turns) next h =
    let both = or_false (is_fail t) (has_fail (turns ++ next ∷ [])) h in
    or_left (is_fail t) (has_fail turns) both.0 (has_fail-front turns next both.1)

-- nor does its last
pub has_fail-last : (turns : List Turn) (next : Turn) → has_fail (turns ++ next ∷ []) ≡ false → is_fail next ≡ false
has_fail-last [] next h = (or_false (is_fail next) false h).0
has_fail-last (t ∷ turns) next h =
    has_fail-last turns next (or_false (is_fail t) (has_fail (turns ++ next ∷ [])) h).1

-- what is known of turns that were heard with one more
pub ruleset heard_steps = (has_fail-front, has_fail-last)
