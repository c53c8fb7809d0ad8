-- What a poll finds if reading a stream answers so.
use Rattle.std.proofs.Common.{◌≡◌, ◌==◌, ℕ, zero, suc, ◌≤◌, List, [], ◌∷◌, length, if◌then◌else◌, Result, Ok, Err, IfOk, IsErr, OnErr, refl, ap, ◌∙◌, arith, Bool, false}
use Rattle.px_base.specs.declared.air.Polled.TheVariants as polled
use Rattle.px_base.specs.declared.air.Turn.TheVariants as turn
use Rattle.real_outside.proofs.Names.{false≢true, nat_tests, turn_of, AirDown, Polled, octets_read, turn_read, SystemError}

failed_turn : (result : Result Polled AirDown) (room : List ℕ) → IsErr result → turn_of result room ≡ turn.Fail
failed_turn (Ok found) room failed = absurd (false≢true failed)
failed_turn (Err down) room failed = refl

-- it is the turn of what the read gave
pub turn_is :
    (read : Result ℕ SystemError) (result : Result Polled AirDown) (room : List ℕ)
    → IfOk read (λ count. count ≤ length room)
    → IfOk read (λ count. result ≡ Ok (if count == 0 then polled.End else polled.Bytes count))
    → OnErr read (IsErr result)
    → turn_of result room ≡ turn_read (octets_read read room)
turn_is (Ok zero) result [] within ok err = ap (λ (r : Result Polled AirDown). turn_of r []) ok
turn_is (Ok zero) result (x ∷ room) within ok err = ap (λ (r : Result Polled AirDown). turn_of r (x ∷ room)) ok
turn_is (Ok (suc count)) result [] within ok err = absurd (omega arith)
turn_is (Ok (suc count)) result (x ∷ room) within ok err =
    let some : (suc count == 0) ≡ false = grind (arith, nat_tests) in
    ap (λ (r : Result Polled AirDown). turn_of r (x ∷ room)) ok
    ∙ ap (λ (none : Bool). turn_of (Ok (if none then polled.End else polled.Bytes (suc count))) (x ∷ room)) some
turn_is (Err refused) result room within ok err = failed_turn result room err
