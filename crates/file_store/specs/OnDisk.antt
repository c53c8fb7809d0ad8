-- What the commands of a call do to the disk, at every moment of it.
use Rattle.std.specs.Prelude.{◌≡◌, ℕ, List, length, map, replicate}
use Rattle.disk_model.specs.declared.disk.Disk.{Ghosts}
use Rattle.file_journal.specs.Commands as kept_commands
use Rattle.file_journal.specs.Kept as kept
use Rattle.file_journal.specs.Kept.{KeptOn, kept_on}
use Rattle.file_store_model.specs.Command.{Command, after_all, begin, drop_entry, grow, seal}
use Rattle.file_store_blocks.specs.PlacedFiles.{KeepsRests}
use Rattle.file_store_model.specs.Store.{Store}
use Rattle.file_store.specs.State.{StandsOn, StoreState, store_form, store_in, store_on}

-- the store after this number of these commands, the first ones
abbrev pub after_first : ℕ → Store → List Command → Store
after_first count store commands = kept_commands.after_first store_form count store commands

-- The image stands for the store after the first of these commands, for some number of them from one number to another.
abbrev pub MakesBetween : ℕ → ℕ → Store → List Command → List ℕ → Type 0
MakesBetween low high store commands image = kept_commands.MakesBetween store_form low high store commands image

-- the same for any number of them
abbrev pub MakesFirst : Store → List Command → List ℕ → Type 0
MakesFirst store commands image = kept_commands.MakesFirst store_form store commands image

-- Since the first n commands are done, n being one at least, no crash leaves fewer of them: since the moment that
-- `time` has of that number.
abbrev pub StayDone : {D : Type 0} → Ghosts D → (ℕ → ℕ) → ℕ → Store → List Command → D → Type 0
StayDone g time done store commands disk_now = kept_commands.StayDone g store_form time done store commands disk_now

-- the store on its disk, and the journal of its commands
abbrev pub kept_at : {D : Type 0} → Ghosts D → StoreState → D → KeptOn D Store
kept_at g self disk = kept_on (store_on g self disk) self.journal disk

-- A call of a store that hasn't failed did these commands, or the disk failed in one of them. Each took the calls of
-- the disk that the form of a store says; if the journal had no room for its record after those before it, at most
-- those more by which the records are written again. A crash since the call began leaves the store after the first of
-- them, for some number of them, and no fewer than were done when it came. Without commands the disk is untouched. If
-- it is known what the store's files hold, each command was allowed, and the store is the one after them. Nothing is
-- written past what a store of this number of blocks may take.
abbrev pub Does :
    {D : Type 0} → Ghosts D → Type 0 → StoreState → StoreState → D → D → List Command → Type 0
Does g failed old new disk disk_now commands =
    kept.Does g store_form failed commands (kept_at g old disk) (kept_at g new disk_now)

-- the command as far as memory shows: with zeros in place of the octets that become held
abbrev pub outlined_command : Command → Command
outlined_command (begin number caller file_length moment) = begin number caller file_length moment
outlined_command (grow number octets) = grow number (replicate (length octets) 0)
outlined_command (seal number moment) = seal number moment
outlined_command (drop_entry number) = drop_entry number

abbrev pub outlined_all : List Command → List Command
outlined_all commands = map outlined_command commands

-- So a call on the file of this number: what waits of other files stays. What memory shows is the store after these
-- commands, or after the first of them if the disk failed, whether it is known what the files hold or not.
pub record DoesTo {D : Type 0} (g : Ghosts D) (failed : Type 0) (old new : StoreState) (disk disk_now : D)
    (commands : List Command) (number : ℕ) : Type 0 where
  pub does : Does g failed old new disk disk_now commands
  pub stands_on : StandsOn g new disk_now
  pub part : (count : ℕ) × (store_in new ≡ after_first count (store_in old) (outlined_all commands))
  pub whole : ¬ failed → store_in new ≡ after_all (store_in old) (outlined_all commands)
  pub rests : KeepsRests old.files new.files number
