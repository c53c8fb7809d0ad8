-- What octets from a gate on begin with.
use Rattle.std.specs.Prelude.{◌≡◌, ◌≢◌, ℕ, ◌+◌, ◌<◌, ◌≤◌, List, length, drop, slice_index, false}
use Rattle.px_base.specs.Numbers.{le16}
use Rattle.file_journal.specs.Records.{starts_whole}
use Rattle.file_journal.specs.declared.record.Found.{Found}
use Rattle.file_journal.specs.declared.record.Found.TheVariants as found

-- an open gate, and a record of this kind and length with a gate behind it
pub record BeginsRecord (octets : List ℕ) (kind len : ℕ) : Type 0 where
  pub gate : slice_index octets 0 ≡ 1
  pub kind_is : kind ≡ slice_index octets 1
  pub len_is : len ≡ le16 octets 2
  pub most : len ≤ 600
  pub whole : 4 + len < length octets

abbrev pub IsFound : List ℕ → Found → Type 0
IsFound octets found.Closed = slice_index octets 0 ≢ 1
IsFound octets found.Damaged = (slice_index octets 0 ≡ 1) × (starts_whole (drop 1 octets) ≡ false)
IsFound octets (found.Record kind len) = BeginsRecord octets kind len
