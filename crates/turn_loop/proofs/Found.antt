-- What is found in the octets of the frame that was ended last.
use Rattle.std.proofs.Common.{◌≡◌, ℕ, List, Option, Some, subst}
use Rattle.turn_loop.proofs.Names.{IfSome, FrameValue, Finds, StationValue}

pub found_in : (inside reader : StationValue) (octets : List ℕ) (frame : Option FrameValue) → inside ≡ reader → Some octets ≡ inside.ended → Finds inside.me octets frame → IfSome reader.ended (λ o. Finds reader.me o frame)
found_in inside reader octets frame same ended found =
    subst (λ (v : StationValue). IfSome v.ended (λ o. Finds v.me o frame)) same
    (subst (λ (e : Option (List ℕ)). IfSome e (λ o. Finds inside.me o frame)) ended found)
