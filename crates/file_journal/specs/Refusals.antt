-- The refusals of a journal as those of the state that it keeps.
use Rattle.file_journal.specs.declared.faults.RecoverFault.{RecoverFault}
use Rattle.file_journal.specs.declared.faults.RecoverFault.TheVariants as recovery
use Rattle.file_journal.specs.declared.faults.ApplyFault.{ApplyFault}
use Rattle.file_journal.specs.declared.faults.ApplyFault.TheVariants as apply
use Rattle.file_journal.specs.declared.faults.ReadFault.{ReadFault}
use Rattle.file_journal.specs.declared.faults.ReadFault.TheVariants as read
use Rattle.file_journal.specs.declared.faults.StoreFault.{StoreFault}
use Rattle.file_journal.specs.declared.faults.StoreFault.TheVariants as fault

-- why the journal isn't recovered
abbrev pub fault_of_recovery : RecoverFault → StoreFault
fault_of_recovery (recovery.NotAStore found) = fault.NotAStore found
fault_of_recovery (recovery.Damaged at) = fault.Damaged at
fault_of_recovery recovery.Disk = fault.Disk

-- why its records aren't read
abbrev pub fault_of_read : ReadFault → StoreFault
fault_of_read (read.Damaged at) = fault.Damaged at
fault_of_read read.Disk = fault.Disk
fault_of_read read.OutOfMemory = fault.OutOfMemory

-- why a record isn't applied
abbrev pub fault_of_apply : ApplyFault → ReadFault
fault_of_apply apply.Disk = read.Disk
fault_of_apply apply.OutOfMemory = read.OutOfMemory
