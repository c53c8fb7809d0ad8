-- What a node is lent for a run, and what contracts see of it.
use Rattle.std.specs.Prelude.{ℕ, List, Option}
use Rattle.px_base.specs.declared.air.Air.{Ghosts as AirGhosts}
use Rattle.disk_model.specs.declared.disk.Disk.{Ghosts}

-- a disk, an air and a clock, at one moment
pub record Lent (D A C : Type 0) : Type 0 where
  pub disk : D
  pub air : A
  pub clock : C

abbrev pub lent : {D A C : Type 0} → D → A → C → Lent D A C
lent disk air clock = record { disk = disk; air = air; clock = clock }

-- What contracts see of them: of the disk and of the air all that these tell, of the clock which moments it gave.
pub record Seen (D A C : Type 0) : Type 1 where
  pub disk : Ghosts D
  pub air : AirGhosts A
  pub given : C → Option (List ℕ)

abbrev pub seen : {D A C : Type 0} → Ghosts D → AirGhosts A → (C → Option (List ℕ)) → Seen D A C
seen disk air given = record { disk = disk; air = air; given = given }
