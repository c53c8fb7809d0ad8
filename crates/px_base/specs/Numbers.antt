-- Numbers of several octets, least significant octet first (FTL0 1990 and PFH 1990 have all numbers so).
use Rattle.std.specs.Prelude.{ℕ, ◌+◌, ◌*◌, ◌/◌, ◌%◌, List, [], ◌∷◌, slice_index, sum}

-- the number of the two octets from this place on
abbrev pub le16 : List ℕ → ℕ → ℕ
le16 octets at = slice_index octets at + 256 * slice_index octets (at + 1)

-- the number of the four octets from this place on
abbrev pub le32 : List ℕ → ℕ → ℕ
le32 octets at =
    slice_index octets at + 256 * slice_index octets (at + 1) + 65536 * slice_index octets (at + 2)
    + 16777216 * slice_index octets (at + 3)

-- the two octets of a number
abbrev pub le16_octets : ℕ → List ℕ
le16_octets n = n % 256 ∷ n / 256 % 256 ∷ []

-- the four octets of a number
abbrev pub le32_octets : ℕ → List ℕ
le32_octets n = n % 256 ∷ n / 256 % 256 ∷ n / 65536 % 256 ∷ n / 16777216 % 256 ∷ []

-- the sum of all octets modulo 65,536, which checks a file's octets (PFH 1990, body_checksum and header_checksum)
abbrev pub sum16 : List ℕ → ℕ
sum16 octets = sum octets % 65536
