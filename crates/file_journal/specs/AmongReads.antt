-- What a run of calls does to a state that is kept, and to its disk, where reads come among its commands.
use Rattle.std.specs.Prelude.{ℕ, List}
use Rattle.disk_model.specs.declared.disk.Disk.{Ghosts}
use Rattle.disk_model.specs.Runs.{ChangesReads, CountsSome, PutsAmongReads}
use Rattle.file_journal.specs.Form.{Form}
use Rattle.file_journal.specs.Kept.{Course, DoesInTurn, KeptOn}

-- writes and syncs, which failed or didn't, and reads among them, of which so many failed at least, or none did
abbrev pub among_reads : {D : Type 0} → Ghosts D → Type 0 → ℕ → Course D
among_reads g failed missed =
    record {
      idle = ChangesReads g;
      puts = PutsAmongReads g failed;
      reads = λ old new. CountsSome (g.read_faults old) (g.read_faults new) missed;
    }

-- A state did these commands, and reads came before, between and behind them, of which so many failed at least, or none
-- did. Without commands the disk is as reads leave it.
abbrev pub DoesAmongReads :
    {D S C : Type 0} → Ghosts D → Form S C → Type 0 → ℕ → List C → KeptOn D S → KeptOn D S → Type 0
DoesAmongReads g form failed missed commands old new =
    DoesInTurn g form (among_reads g failed missed) failed commands old new
