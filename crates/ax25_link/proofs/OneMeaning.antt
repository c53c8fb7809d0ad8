-- Each N(R) has one meaning.
use Rattle.std.proofs.Common.{◌≡◌, ℕ, ◌+◌, ◌-◌, ◌%◌, ◌<◌, ◌≤◌, refl, sym, ◌∙◌, ap, subst, arith, inl, inr}
use Rattle.ax25_link.proofs.Names.{cases_lt, mod_below, Window, IsWindow, LinkEnd, IsEnd, high, Meaning, good, stale, bad, StandsForNumber, Means, HasMeaning, distance, meaning_of, OneMeaningLaw}
use Rattle.ax25_link.proofs.Modulus.{mod_raised, distance_back, same_number}
use Rattle.ax25_link.proofs.MeaningLemmas.{meaning_at-good, meaning_at-stale, meaning_at-bad}

-- the number that N(R) stands for, with m added: at its distance above what is acknowledged, or m below that
stands_above : (w : Window) (end : LinkEnd) (nr : ℕ) → IsWindow w → distance w end.acked nr ≤ w.size
    → StandsForNumber w end.acked nr (end.acked + distance w end.acked nr + w.modulus)
stands_above w end nr window near =
    let fewer = window.fewer in
    record {
      lowest = omega arith;
      highest = omega arith;
      equal = mod_raised (end.acked + distance w end.acked nr) w.modulus (omega arith) ∙ distance_back end.acked nr w.modulus (omega arith);
    }

stands_below : (w : Window) (end : LinkEnd) (nr : ℕ) → IsWindow w → w.size < distance w end.acked nr
    → StandsForNumber w end.acked nr (end.acked + distance w end.acked nr)
stands_below w end nr window beyond =
    let fewer = window.fewer in
    let least : distance w end.acked nr < w.modulus = mod_below (nr + (w.modulus - end.acked % w.modulus)) w.modulus (omega arith) in
    record { lowest = omega arith; highest = omega (arith, least); equal = distance_back end.acked nr w.modulus (omega arith) }

has_meaning : (w : Window) (end : LinkEnd) (nr : ℕ) → IsWindow w → IsEnd w end → HasMeaning w end nr (meaning_of w end nr)
has_meaning w end nr window fits =
    let far = distance w end.acked nr in
    let order = fits.acked in
    let size = fits.window in
    let fewer = window.fewer in
    let least : far < w.modulus = mod_below (nr + (w.modulus - end.acked % w.modulus)) w.modulus (omega arith) in
    elim (cases_lt (high end - end.acked) far) [
      | inr near ↦
          subst (HasMeaning w end nr) (sym (meaning_at-good w end far near))
          (end.acked + far + w.modulus, stands_above w end nr window (omega arith), (refl, omega arith, omega arith))
      | inl beyond ↦
          elim (cases_lt w.size far) [
            | inl above ↦
                subst (HasMeaning w end nr) (sym (meaning_at-stale w end far beyond above))
                (end.acked + far, stands_below w end nr window above, omega (arith, least))
            | inr within ↦
                subst (HasMeaning w end nr) (sym (meaning_at-bad w end far beyond within))
                (end.acked + far + w.modulus, stands_above w end nr window within, omega arith)
          ]
    ]

-- a number has one meaning
same_meaning : (w : Window) (end : LinkEnd) (raised : ℕ) (a b : Meaning) → end.acked ≤ high end → Means w end raised a → Means w end raised b → a ≡ b
same_meaning w end raised (good x) (good y) order h g =
    let e = h.0 in let f = g.0 in let same : x ≡ y = omega (arith, e, f) in ap good same
same_meaning w end raised (good x) stale order h g = absurd (let e = h.0 in let l = h.1 in let y : ⊥ = omega (arith, e, l, g) in y)
same_meaning w end raised (good x) bad order h g = absurd (let e = h.0 in let l = h.2 in let y : ⊥ = omega (arith, e, l, g) in y)
same_meaning w end raised stale (good x) order h g = absurd (let e = g.0 in let l = g.1 in let y : ⊥ = omega (arith, e, l, h) in y)
same_meaning w end raised stale stale order h g = refl
same_meaning w end raised stale bad order h g = absurd (let y : ⊥ = omega arith in y)
same_meaning w end raised bad (good x) order h g = absurd (let e = g.0 in let l = g.2 in let y : ⊥ = omega (arith, e, l, h) in y)
same_meaning w end raised bad stale order h g = absurd (let y : ⊥ = omega arith in y)
same_meaning w end raised bad bad order h g = refl

-- N(R) stands for one number
one_number : (w : Window) (acked nr a b : ℕ) → IsWindow w → StandsForNumber w acked nr a → StandsForNumber w acked nr b → a ≡ b
one_number w acked nr a b window h g =
    let fewer = window.fewer in
    let low = h.lowest in
    let top = h.highest in
    let low_b = g.lowest in
    let top_b = g.highest in
    same_number a b w.modulus (h.equal ∙ sym g.equal) (omega arith) (omega arith)

pub one_meaning : OneMeaningLaw
one_meaning w end nr window fits =
    let here = has_meaning w end nr window fits in (
      here,
      λ meaning h.
          (let same = one_number w end.acked nr h.0 here.0 window h.1 here.1 in
          same_meaning w end here.0 meaning (meaning_of w end nr) fits.acked
          (subst (λ n. Means w end n meaning) same h.2) here.2),
    )
