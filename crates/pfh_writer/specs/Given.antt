-- A file without fault, and the sum that its header has once it is stamped.
use Rattle.std.specs.Prelude.{◌≡◌, ℕ, List, ◌++◌, map}
use Rattle.pfh_items.specs.declared.sums.Sums.{Sums}
use Rattle.pfh_items.specs.Faults.{IsFaultless, header_sum}
use Rattle.pfh_items.specs.Layout.{ItemValue}
use Rattle.pfh_items.specs.Stamp.{StampValue, stamped_item}

-- the file keeps all rules of headers
abbrev pub IsFaultlessFile : List ℕ → Type 0
IsFaultlessFile file = (items : List ItemValue) × (body : List ℕ) × IsFaultless items body file

-- header_checksum of a file with these items, once it is stamped
abbrev pub stamped_sum : StampValue → List ItemValue → ℕ
stamped_sum stamp items = header_sum (map (stamped_item stamp) items)

-- this is header_checksum of the file, once it is stamped
abbrev pub IsStampedSum : StampValue → List ℕ → ℕ → Type 0
IsStampedSum stamp file sum =
    (items : List ItemValue) (body : List ℕ) → IsFaultless items body file → sum ≡ stamped_sum stamp items

-- The octets are the header of a file that keeps all rules, and the sums are that file's.
abbrev pub IsHeaderOfSums : List ℕ → Sums → Type 0
IsHeaderOfSums header sums =
    (items : List ItemValue) × (body : List ℕ) × IsFaultless items body (header ++ body) × (sums.header_sum ≡ header_sum items)
