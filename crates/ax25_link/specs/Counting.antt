-- What small calls say of sequence numbers, counted modulo 8, and of the timer (AX.25 2.0, 2.3.2.4, 2.4.7).
use Rattle.std.specs.Prelude.{◌≡◌, ℕ, ◌+◌, ◌<◌, ◌≤◌, Bool, true, false}
use Rattle.ax25_link.specs.declared.timer.Timer.{Timer}
use Rattle.ax25_link.specs.declared.timer.Expiry.{Expiry}
use Rattle.ax25_link.specs.declared.timer.Expiry.TheVariants.{Waits, Asks, GivesUp}
use Rattle.ax25_link.specs.declared.window.Acknowledgement.{Acknowledgement}
use Rattle.ax25_link.specs.declared.window.Acknowledgement.TheVariants.{Good, Stale, Bad}

-- what an N(R) means that is this far above V(A), if this number of frames is outstanding and the window is k
abbrev pub IsJudged : Acknowledgement → ℕ → ℕ → ℕ → Type 0
IsJudged (Good count) far outstanding k = (count ≡ far) × (far ≤ outstanding)
IsJudged Stale far outstanding k = (outstanding < far) × (k < far)
IsJudged Bad far outstanding k = (outstanding < far) × (far ≤ k)

-- what a tick does to ticks and tries, if this number of ticks is the limit
abbrev pub HasTicked : Expiry → Timer → Timer → ℕ → Type 0
HasTicked Waits old new limit = (old.ticks + 1 < limit) × (new.ticks ≡ old.ticks + 1) × (new.tries ≡ old.tries)
HasTicked Asks old new limit =
    (limit ≤ old.ticks + 1) × (old.tries < 10) × (new.ticks ≡ 0) × (new.tries ≡ old.tries + 1)
HasTicked GivesUp old new limit = (limit ≤ old.ticks + 1) × (10 ≤ old.tries) × (new ≡ old)

abbrev pub is_good_number : Acknowledgement → Bool
is_good_number (Good count) = true
is_good_number Stale = false
is_good_number Bad = false

abbrev pub is_bad_number : Acknowledgement → Bool
is_bad_number (Good count) = false
is_bad_number Stale = false
is_bad_number Bad = true
