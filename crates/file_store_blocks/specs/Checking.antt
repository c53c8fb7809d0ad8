-- How a file is checked before it is sealed.
use Rattle.std.specs.Prelude.{◌≡◌, ℕ, List, length, Option, Result, Ok, Err, None, Some, IfSome}
use Rattle.file_store_blocks.specs.Placed.{Placed}
use Rattle.file_store_blocks.specs.Seen.{octets_in, stamp_at}
use Rattle.file_store_blocks.specs.declared.file_check.CheckedHeader.{CheckedHeader}
use Rattle.file_store_blocks.specs.declared.file_check.FileCheck.{FileCheck}
use Rattle.file_store_blocks.specs.declared.stamp.Stamp.{Stamp}
use Rattle.disk_model.specs.Disk.{IsTold}
use Rattle.file_store_model.specs.Headers.{header_items, header_octets}
use Rattle.file_journal.specs.Layout.{blocks_on}
use Rattle.pfh_items.specs.Faults.{code_of, fault_code}
use Rattle.pfh_items.specs.Stamp.{StampValue}
use Rattle.pfh_items.specs.declared.fault.FileFault.{FileFault}
use Rattle.pfh_reader.specs.Feed.{HasFed}
use Rattle.pfh_reader.specs.declared.fault.HeaderFault.{HeaderFault}
use Rattle.pfh_writer.specs.Given.{stamped_sum}
use Rattle.pfh_writer.specs.Stamping.{HasStamped, StamperValue}
use Rattle.px_base.specs.Numbers.{sum16}

-- The octets that a check took: its checker was fed them, and its sum is that of what its stamper gave in their place,
-- with zeros for the sum of the header.
pub record HasChecked (stamp : StampValue) (check : FileCheck) (fed : List ℕ) : Type 0 where
  pub checked : HasFed check.checker fed
  pub given : List ℕ
  pub stamped : HasStamped check.stamper fed given
  pub stamp_is : check.stamper.stamp ≡ stamp
  pub blank : check.stamper.sum ≡ 0
  pub sum_is : check.sum ≡ sum16 given

-- The octets keep all rules of headers, and their header has this length, and with the stamp this sum.
pub record IsSealable (stamp : StampValue) (octets : List ℕ) (sum len : ℕ) : Type 0 where
  pub faultless : fault_code octets ≡ None
  pub sum_is : sum ≡ stamped_sum stamp (header_items octets)
  pub len_is : len ≡ length (header_octets octets)

-- what the check of these octets answers
abbrev pub AnswersCheck : StampValue → List ℕ → Result CheckedHeader HeaderFault → Type 0
AnswersCheck stamp octets (Ok header) = IsSealable stamp octets header.sum header.len
AnswersCheck stamp octets (Err fault) = fault_code octets ≡ Some fault.code

-- the code of a fault of headers
abbrev pub IsFaultCode : ℕ → Type 0
IsFaultCode code = (fault : FileFault) × (code ≡ code_of fault)

-- what a stamper is made for: its stamp, and the sum that it puts into the header
pub record StampSetting : Type 0 where
  pub stamp : StampValue
  pub sum : ℕ

-- The octets that a stamper was fed, and those that it gave in their place.
pub record HasPassed (setting : StampSetting) (stamper : StamperValue) (fed : List ℕ) : Type 0 where
  pub given : List ℕ
  pub stamped : HasStamped stamper fed given
  pub stamp_is : stamper.stamp ≡ setting.stamp
  pub sum_is : stamper.sum ≡ setting.sum

-- the stamp as a value
abbrev pub stamp_of : Stamp → StampValue
stamp_of stamp = record { number = stamp.number; by = stamp.by; moment = stamp.moment }

-- if the disk's content is observed, what the check of this file of a store found: with the stamp of this moment
abbrev pub ChecksFile : Option (List ℕ) → Option Placed → ℕ → CheckedHeader → Type 0
ChecksFile content file moment header =
    IsTold content
    → IfSome file (λ f. IsSealable (stamp_at moment f) (octets_in (blocks_on content) f) header.sum header.len)

-- if the disk's content is observed, the first rule that this file of a store breaks
abbrev pub HasFault : Option (List ℕ) → Option Placed → ℕ → Type 0
HasFault content file code =
    IsTold content → IfSome file (λ f. fault_code (octets_in (blocks_on content) f) ≡ Some code)
