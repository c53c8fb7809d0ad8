-- How many I frames may be outstanding (AX.25 2.0, 2.3.2.4, 2.4.7.4).
use Rattle.std.specs.Prelude.{ℕ, ◌<◌, ◌≤◌}

-- how many sequence numbers there are, m, and how many I frames may be outstanding, k
pub record Window : Type 0 where
  pub modulus : ℕ
  pub size : ℕ

-- at least one frame may be outstanding, and fewer than there are numbers
pub record IsWindow (w : Window) : Type 0 where
  pub some : 1 ≤ w.size
  pub fewer : w.size < w.modulus

-- the window k of a link whose control octets have three bits for a sequence number (2.3.2)
abbrev pub window_of : ℕ → Window
window_of k = record { modulus = 8; size = k }

-- k is good for such a link
abbrev pub IsGoodK : ℕ → Type 0
IsGoodK k = IsWindow (window_of k)
