-- What a poll finds if reading answers so.
use Rattle.std.proofs.Common.{◌≡◌, ℕ, zero, suc, ◌≤◌, List, [], ◌∷◌, length, Bool, true, false, if◌then◌else◌, Result}
use Rattle.std.proofs.Common.{Ok, Err, IfOk, IsErr, refl, ap, arith}
use Rattle.px_base.specs.declared.air.Turn.TheVariants as turn
use Rattle.real_outside.proofs.Names.{false≢true, turn_of, AirDown, Polled, octets_read, SystemError, IsPollAnswer, is_quiet, turn_for}

failed_turn : (result : Result Polled AirDown) (room : List ℕ) → IsErr result → turn_of result room ≡ turn.Fail
failed_turn (Ok found) room failed = absurd (false≢true failed)
failed_turn (Err down) room failed = refl

-- it is the turn of what the read gave
pub turn_is :
    (read : Result ℕ SystemError) (result : Result Polled AirDown) (room : List ℕ)
    → IfOk read (λ count. count ≤ length room)
    → IsPollAnswer read result
    → turn_of result room ≡ turn_for (octets_read read room)
turn_is (Ok zero) result [] within is = ap (λ (r : Result Polled AirDown). turn_of r []) (is.0 refl)
turn_is (Ok zero) result (x ∷ room) within is = ap (λ (r : Result Polled AirDown). turn_of r (x ∷ room)) (is.0 refl)
turn_is (Ok (suc count)) result [] within is = absurd (omega arith)
turn_is (Ok (suc count)) result (x ∷ room) within is =
    ap (λ (r : Result Polled AirDown). turn_of r (x ∷ room)) (is.1 (omega arith))
turn_is (Err failed) result room within is = by_kind (is_quiet failed.kind) refl
  where
    by_kind : (quiet : Bool) → is_quiet failed.kind ≡ quiet → turn_of result room ≡ (if is_quiet failed.kind then turn.Quiet else turn.Fail)
    by_kind true same = rw same (ap (λ (r : Result Polled AirDown). turn_of r room) (is.0 same))
    by_kind false same = rw same (failed_turn result room (is.1 same))
