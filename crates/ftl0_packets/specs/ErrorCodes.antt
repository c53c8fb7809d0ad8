-- The error codes (FTL0 1990, error codes).
use Rattle.std.specs.Prelude.{ℕ}
use Rattle.ftl0_packets.specs.declared.error_code.ErrorCode.{ErrorCode}
use Rattle.ftl0_packets.specs.declared.error_code.ErrorCode.TheVariants as error

-- the octet that says it
abbrev pub octet_of : ErrorCode → ℕ
octet_of error.IllFormedCmd = 1
octet_of error.BadContinue = 2
octet_of error.ServerFsys = 3
octet_of error.NoSuchFileNumber = 4
octet_of error.AlsoSelectionEmpty = 5
octet_of error.MandatoryFieldMissing = 6
octet_of error.NoPfh = 7
octet_of error.PoorlyFormedSel = 8
octet_of error.AlreadyLocked = 9
octet_of error.NoSuchDestination = 10
octet_of error.SelectionEmpty = 11
octet_of error.FileComplete = 12
octet_of error.NoRoom = 13
octet_of error.BadHeader = 14
octet_of error.HeaderCheck = 15
octet_of error.BodyCheck = 16
