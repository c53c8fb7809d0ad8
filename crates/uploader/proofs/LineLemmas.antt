-- The lines of a list that are shown so far.
use Rattle.std.proofs.Common.{◌≡◌, ℕ, suc, ◌+◌, ◌-◌, ◌*◌, ◌/◌, ◌<◌, ◌≤◌, List, [], ◌++◌, length, take, drop, refl, sym, ap, ◌∙◌, subst, arith, append_assoc, append-nil}
use Rattle.uploader.proofs.Names.{Option, Result, Ok, Err, OnErr, Gains, GainsPrefix, Gains-trans, GainsPrefix-after, file_line, first_lines, short_len}

-- the lines of so many headers: one, and the others
pub lines-step : (n i : ℕ) (left : List ℕ) → i < n → first_lines (n - i) left ≡ file_line (take short_len left) ++ first_lines (n - (i + 1)) (drop short_len left)
unfolding first_lines
lines-step n i left within =
    let one : n - i ≡ suc (n - (i + 1)) = omega arith in
    ap (λ (k : ℕ). first_lines k left) one

pub lines-end : (left : List ℕ) → first_lines 0 left ≡ []
unfolding first_lines
lines-end left = refl

-- there are octets for a header as long as one is left of those that there are octets for
pub header-there : (octets left : List ℕ) (i : ℕ) → length left + 73 * i ≡ length octets → i < length octets / 73 → 73 ≤ length left
header-there octets left i all below = omega (arith, all, below)

-- These lines were shown, and those that are left are behind them.
pub record IsShowing {O : Type 0} (shown : O → Option (List ℕ)) (faults : O → ℕ) (old now : O) (all later : List ℕ) : Type 0 where
  pub text : List ℕ
  pub gains : Gains (shown old) (shown now) text
  pub whole : all ≡ text ++ later
  pub same_faults : faults now ≡ faults old

module _ {O : Type 0} (shown : O → Option (List ℕ)) (faults : O → ℕ) (old : O) (all : List ℕ) where
  -- one line more
  pub showing-more : (mid now : O) (line later left : List ℕ) → IsShowing shown faults old mid all left → left ≡ line ++ later → Gains (shown mid) (shown now) line → faults now ≡ faults mid
      → IsShowing shown faults old now all later
  showing-more mid now line later left h is gains same = record {
    text = h.text ++ line;
    gains = Gains-trans (shown old) (shown mid) (shown now) h.text line h.gains gains;
    whole = h.whole ∙ ap (λ (t : List ℕ). h.text ++ t) is ∙ sym (append_assoc h.text line later);
    same_faults = same ∙ h.same_faults;
  }

  -- a line that isn't shown whole
  pub showing-stops : (mid now : O) (line later left : List ℕ) → IsShowing shown faults old mid all left → left ≡ line ++ later → GainsPrefix (shown mid) (shown now) line
      → GainsPrefix (shown old) (shown now) all
  showing-stops mid now line later left h is gains =
      let whole : all ≡ h.text ++ (line ++ later) = h.whole ∙ ap (λ (t : List ℕ). h.text ++ t) is in
      subst (GainsPrefix (shown old) (shown now)) (sym whole) (GainsPrefix-after (shown old) (shown mid) (shown now) h.text line later h.gains gains)

  -- no line is left
  pub showing-end : (now : O) (left : List ℕ) → IsShowing shown faults old now all left → left ≡ [] → Gains (shown old) (shown now) all
  showing-end now left h none =
      let whole : h.text ≡ all = sym (h.whole ∙ ap (λ (t : List ℕ). h.text ++ t) none ∙ append-nil h.text) in
      subst (Gains (shown old) (shown now)) whole h.gains

-- what holds holds where there is an error
pub on_err : {T E P : Type 0} (result : Result T E) → P → OnErr result P
on_err (Ok value) p = tt
on_err (Err why) p = p
