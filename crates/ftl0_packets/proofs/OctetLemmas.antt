-- Lists of octets, as numbers.
use Rattle.std.proofs.Common.{ℕ, zero, suc, ◌<◌, List, [], ◌∷◌, ◌++◌, length, take, drop, slice_index, inl, inr, arith, lit<}
use Rattle.std.proofs.lemmas.List.Elements.{All-append, All-cons, All-drop, All-nil, All-take}
use Rattle.ftl0_packets.proofs.Names.{cases_lt, get_or_past, IsOctets}

-- an octet is one
abbrev pub IsOctet : ℕ → Type 0
IsOctet n = n < 256

-- the octet at any place, 0 past the end
pub octet_at : (octets : List ℕ) → IsOctets octets → (i : ℕ) → slice_index octets i < 256
octet_at octets h i =
    elim (cases_lt i (length octets)) [
      | inl below ↦ h i 0 below
      | inr past ↦ rw (get_or_past octets i 0 past) (lit< tt)
    ]

-- octets, since each place has one
pub octets_from : (octets : List ℕ) → ((i : ℕ) → slice_index octets i < 256) → IsOctets octets
octets_from [] h i d below = absurd (omega arith)
octets_from (x ∷ xs) h zero d below = h zero
octets_from (x ∷ xs) h (suc i) d below = octets_from xs (λ k. h (suc k)) i d (omega arith)

pub IsOctets-nil : IsOctets []
IsOctets-nil = All-nil IsOctet

pub IsOctets-cons : (x : ℕ) (xs : List ℕ) → x < 256 → IsOctets xs → IsOctets (x ∷ xs)
IsOctets-cons = All-cons IsOctet

pub IsOctets-append : (xs ys : List ℕ) → IsOctets xs → IsOctets ys → IsOctets (xs ++ ys)
IsOctets-append = All-append IsOctet

pub IsOctets-take : (n : ℕ) (octets : List ℕ) → IsOctets octets → IsOctets (take n octets)
IsOctets-take = All-take IsOctet

pub IsOctets-drop : (n : ℕ) (octets : List ℕ) → IsOctets octets → IsOctets (drop n octets)
IsOctets-drop = All-drop IsOctet
