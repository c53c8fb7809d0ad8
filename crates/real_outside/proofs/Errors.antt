-- Answers that are errors.
use Rattle.std.proofs.Common.{◌≡◌, false, Result, Ok, Err, IsErr, IsErrAnd, refl}
use Rattle.real_outside.proofs.Names.{false≢true, is_ok}

-- an answer that is an error isn't Ok
pub not_ok : {T E : Type 0} (answer : Result T E) → IsErr answer → is_ok answer ≡ false
not_ok (Ok value) failed = absurd (false≢true failed)
not_ok (Err error) failed = refl

-- an error that is handed on
pub handed_on :
    {T E : Type 0} (result : Result T E) (error : E) → IsErr result × IsErrAnd result (λ handed. handed ≡ error)
    → result ≡ Err error
handed_on (Ok value) error is = absurd is.1
handed_on (Err handed) error is = let same : handed ≡ error = is.1 in cc
