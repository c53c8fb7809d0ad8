-- Lists of octets.
use Rattle.std.specs.Prelude.{◌≡◌, ℕ, ◌<◌, List, ◌++◌, All}

-- octets, as numbers
abbrev pub IsOctets : List ℕ → Type 0
IsOctets octets = All (λ octet. octet < 256) octets

-- this text is the front of the other
abbrev pub IsFront : List ℕ → List ℕ → Type 0
IsFront text all = (more : List ℕ) × (all ≡ text ++ more)
