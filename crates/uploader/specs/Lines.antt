-- The lines of a list of files: one for each short header (PFH 1990, mandatory header).
use Rattle.std.specs.Prelude.{ℕ, zero, suc, ◌/◌, List, [], ◌++◌, length, take, drop, slice_range, codes, decimal}
use Rattle.hex.specs.Hex.{encode_lower}
use Rattle.px_base.specs.Numbers.{le32}

-- how many octets a short header has
abbrev pub short_len : ℕ
short_len = 73

-- The eleven octets of file_name and file_ext of a short header: the data of its second and third items.
abbrev pub name_of : List ℕ → List ℕ
name_of header = slice_range header 12 20 ++ slice_range header 23 26

-- The line of a short header: file_number and file_size, the data of its first and fourth items, in decimal, and the
-- name and extension in hexadecimal digits.
abbrev pub file_line : List ℕ → List ℕ
file_line header =
    codes "file " ++ decimal (le32 header 5) ++ codes " size " ++ decimal (le32 header 29)
    ++ codes " name " ++ encode_lower (name_of header) ++ codes "\n"

-- the lines of so many short headers, one after another
unfoldable pub first_lines : ℕ → List ℕ → List ℕ
first_lines zero octets = []
first_lines (suc n) octets = file_line (take short_len octets) ++ first_lines n (drop short_len octets)

-- the lines of a list that came, which is short headers, one after another
abbrev pub listing_lines : List ℕ → List ℕ
listing_lines octets = first_lines (length octets / short_len) octets
