-- The calls of the clients for which schedules are drawn.
use Rattle.std.specs.Prelude.{◌≡◌, ◌≢◌, ◌∷◌}
use Rattle.std.proofs.Common.{ap, arith, inr}
use Rattle.air_rehearsal.proofs.Names.{ℕ, List, [], get_or, IsTrue, true, refl, All-from_recursion, CallSign, CallText, IsBase, IsCall, OneCall, is_call_char, IsSchedule, drawn_calls}
use Rattle.air_rehearsal.proofs.DrivenLemmas.{drawn_schedule}

-- the call with this digit
abbrev pub drawn_call : ℕ → CallSign
drawn_call digit = record { chars = 84 ∷ digit ∷ 65 ∷ 65 ∷ 65 ∷ 32 ∷ []; ssid = 0 }

abbrev pub drawn_base : ℕ → List ℕ
drawn_base digit = 84 ∷ digit ∷ 65 ∷ 65 ∷ 65 ∷ []

is-base : (digit : ℕ) → is_call_char digit ≡ true → IsBase (drawn_base digit)
is-base digit is = (
  omega arith,
  omega arith,
  All-from_recursion (λ c. IsTrue (is_call_char c)) (drawn_base digit) (refl, (is, (refl, (refl, (refl, tt))))),
)

-- what is read of its characters is it
pub call-drawn :
    OneCall → (digit : ℕ) → is_call_char digit ≡ true → (call : CallSign) → CallText call (drawn_base digit)
    → call ≡ drawn_call digit
call-drawn law digit is call text =
    let own : CallText (drawn_call digit) (drawn_base digit) =
    (drawn_base digit, is-base digit is, refl, omega arith, inr (refl, refl)) in
    let same = law (drawn_base digit) call (drawn_call digit) text own in
    λ i. record { chars = same.0 i; ssid = same.1 i }

pub calls-drawn :
    {one two three : CallSign} → one ≡ drawn_call 49 → two ≡ drawn_call 50 → three ≡ drawn_call 51
    → one ∷ two ∷ three ∷ [] ≡ drawn_calls
calls-drawn first second third = λ i. first i ∷ second i ∷ third i ∷ []

is-call : (digit : ℕ) → is_call_char digit ≡ true → IsCall (drawn_call digit)
is-call digit is = record { spelled = (drawn_base digit, is-base digit is, refl); in_range = omega arith }

others : (digit other : ℕ) → digit ≢ other → drawn_call digit ≢ drawn_call other
others digit other not same = not (ap (λ (call : CallSign). get_or call.chars 1 0) same)

-- a schedule without an event for these clients is lawful
pub drawn-lawful : IsSchedule (drawn_schedule [])
drawn-lawful =
    record {
      some = omega arith;
      few = omega arith;
      most = omega arith;
      are_calls = (is-call 49 refl, (is-call 50 refl, (is-call 51 refl, tt)));
      distinct = (
        (others 49 50 (λ e. omega (arith, e)), (others 49 51 (λ e. omega (arith, e)), tt)),
        ((others 50 51 (λ e. omega (arith, e)), tt), (tt, tt)),
      );
      in_range = tt;
    }
