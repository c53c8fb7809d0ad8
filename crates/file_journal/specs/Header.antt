-- The header of a store.
use Rattle.std.specs.Prelude.{◌≡◌, ◌≢◌, ℕ, ◌≤◌, List, take, slice_index, true, false, Option, IfSome, Result, IsErrOf}
use Rattle.px_base.specs.Numbers.{le32}
use Rattle.file_journal.specs.declared.faults.RecoverFault.{RecoverFault}
use Rattle.file_journal.specs.declared.faults.RecoverFault.TheVariants as fault
use Rattle.file_journal.specs.Journal.{is_block_number}

-- a store has so many blocks
pub record AreBlocks (blocks : ℕ) : Type 0 where
  pub some : 1 ≤ blocks
  pub most : blocks ≤ 65536

-- the octets begin with a header of this magic and block number
pub record HasHeader (magic : List ℕ) (blocks : ℕ) (octets : List ℕ) : Type 0 where
  pub magic_is : take 8 octets ≡ magic
  pub blocks_are : le32 octets 8 ≡ blocks
  pub is_number : is_block_number blocks ≡ true

-- the octets begin with these eight, which aren't the magic
pub record IsForeign (magic octets found : List ℕ) : Type 0 where
  pub found_is : found ≡ take 8 octets
  pub other : found ≢ magic

-- no store is answered of octets that begin with another magic, and these are the eight
abbrev pub IsForeignBy : {T : Type 0} → List ℕ → List ℕ → Result T RecoverFault → Type 0
IsForeignBy magic octets result = (found : List ℕ) → IsErrOf result (fault.NotAStore found) → IsForeign magic octets found

-- octet 15, where the content is told
abbrev pub HasSelector : Option (List ℕ) → ℕ → Type 0
HasSelector content selector = IfSome content (λ octets. selector ≡ slice_index octets 15)

-- the octets begin with this magic and no block number
pub record HasBadNumber (magic octets : List ℕ) : Type 0 where
  pub magic_is : take 8 octets ≡ magic
  pub is_bad : is_block_number (le32 octets 8) ≡ false
