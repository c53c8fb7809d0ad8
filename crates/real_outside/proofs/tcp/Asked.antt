-- What reaches a connection, step by step.
use Rattle.std.proofs.Common.{List, Option, refl}
use Rattle.real_outside.proofs.Names.{Asks, asks_then, Then, ConnectionCall}

-- some calls have, and then others, said as one
pub asks_both :
    (P Q : List ConnectionCall → Type 0) (was between now : Option (List ConnectionCall))
    → Asks was between P → Asks between now Q → Asks was now (Then P Q)
asks_both P Q was between now first later =
    asks_then P Q (Then P Q) was between now (λ xs ys p q. (xs, ys, refl, p, q)) first later
