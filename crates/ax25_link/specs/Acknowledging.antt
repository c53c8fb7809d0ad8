-- What a received N(R) says (AX.25 2.0, 2.3.2.4, 2.4.4.5).
use Rattle.std.specs.Prelude.{◌≡◌, ℕ, ◌+◌, ◌-◌, ◌%◌, ◌<◌, ◌≤◌, ◌==◌, Bool, true, false, ◌||◌, nat_le, nat_lt, if◌then◌else◌}
use Rattle.ax25_link.specs.Window.{Window}
use Rattle.ax25_link.specs.Ends.{LinkEnd, high}

-- This number of pieces is acknowledged in all; or N(R) is from before the last acknowledgement; or it acknowledges a
-- frame that was never sent.
pub data Meaning : Type 0 where
  good : ℕ → Meaning
  stale : Meaning
  bad : Meaning

-- N(R) stands for the one whole number from acked - (m - 1 - k) to acked + k that equals it modulo m. The number may be
-- below zero: it is given here with m added.
pub record StandsForNumber (w : Window) (acked nr raised : ℕ) : Type 0 where
  pub lowest : acked + w.modulus ≤ raised + (w.modulus - 1 - w.size)
  pub highest : raised ≤ acked + w.size + w.modulus
  pub equal : raised % w.modulus ≡ nr % w.modulus

-- The number is good from what is acknowledged to what was sent, stale below, and bad above.
abbrev pub Means : Window → LinkEnd → ℕ → Meaning → Type 0
Means w end raised (good x) = (raised ≡ x + w.modulus) × (end.acked ≤ x) × (x ≤ high end)
Means w end raised stale = raised < end.acked + w.modulus
Means w end raised bad = high end + w.modulus < raised

-- N(R) has this meaning
abbrev pub HasMeaning : Window → LinkEnd → ℕ → Meaning → Type 0
HasMeaning w end nr meaning = (raised : ℕ) × StandsForNumber w end.acked nr raised × Means w end raised meaning

-- how far N(R) is above what is acknowledged, modulo m
abbrev pub distance : Window → ℕ → ℕ → ℕ
distance w acked nr = (nr + (w.modulus - acked % w.modulus)) % w.modulus

-- the same computed: a distance up to the number of outstanding frames is good, one above k is stale, any other is bad
abbrev pub meaning_at : Window → LinkEnd → ℕ → Meaning
meaning_at w end far =
    if nat_le far (high end - end.acked) then good (end.acked + far) else if nat_lt w.size far then stale else bad

abbrev pub meaning_of : Window → LinkEnd → ℕ → Meaning
meaning_of w end nr = meaning_at w end (distance w end.acked nr)

-- with ticks and tries 0
abbrev pub with_timer_anew : LinkEnd → LinkEnd
with_timer_anew end = record end { count = 0; tries = 0 }

-- This number of pieces is acknowledged (2.4.4.5). The timer begins again if it is more than before, or if nothing is
-- outstanding then (2.4.7.1).
abbrev pub acknowledging : LinkEnd → ℕ → LinkEnd
acknowledging end x =
    if nat_lt end.acked x || (x == high end) then with_timer_anew (record end { acked = x }) else end

-- the end after an N(R) of this meaning is applied; a stale one is ignored
abbrev pub applying : LinkEnd → Meaning → LinkEnd
applying end (good x) = acknowledging end x
applying end stale = acknowledging end end.acked
applying end bad = end

abbrev pub is_good : Meaning → Bool
is_good (good x) = true
is_good stale = false
is_good bad = false

abbrev pub is_bad : Meaning → Bool
is_bad (good x) = false
is_bad stale = false
is_bad bad = true
