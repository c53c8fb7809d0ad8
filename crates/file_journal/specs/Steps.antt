-- The states that records make of a journal's store, and in which blocks of the disk their octets stand.
use Rattle.std.specs.Prelude.{◌≡◌, ◌⊎◌, ℕ, ◌+◌, ◌<◌, ◌≤◌, List, [], length, take, Option, None, Some, IfSome, ⊤}
use Rattle.std.specs.List.{AllByRecursion}
use Rattle.disk_model.specs.Disk.{IsTold}
use Rattle.disk_model.specs.declared.disk.Disk.{Ghosts}
use Rattle.file_journal.specs.Form.{Form, TellsItsNumber, record_calls}
use Rattle.file_journal.specs.Layout.{Blocks, HasBlocks, HoldSame, block_in, half_size}
use Rattle.file_journal.specs.Ledger.{Takes}
use Rattle.file_journal.specs.Position.{Position}
use Rattle.file_journal.specs.Records.{IsRecord, Record, records_text}
use Rattle.file_journal.specs.Walk.{KeepsStanding, Stands, see, stands_for, state}
use Rattle.file_journal.specs.declared.change.BlockPut.{BlockPut}
use Rattle.file_journal.specs.declared.layout.Layout.{Layout}
use Rattle.file_journal.specs.declared.layout.Layout.TheVariants as layout

-- The states that records make: the one before the first record, by the block number; and the one after a record, where
-- the state before it, with what the blocks hold, allows that record; and what holds of each state that records make.
-- What is kept of such a state is what a ledger goes on with: all but what only the reading of further records asks
-- for. It says the block number, and which blocks it uses; what some of them hold decided that it was reached. These
-- records make it anew.
pub record Steps (S K : Type 0) : Type 1 where
  pub fresh : ℕ → S
  pub step : Blocks → S → Record → Option S
  pub is_state : S → Type 0
  pub kept : S → K
  pub is_kept : K → Type 0
  pub number : K → ℕ
  pub uses : K → ℕ → Type 0
  pub decides : K → ℕ → Type 0
  pub anew : K → List Record

-- the steps of a state that uses no blocks, and is kept whole
abbrev pub growing_steps : {S : Type 0} → (ℕ → S) → (S → ℕ) → (S → Record → Option S) → Steps S S
growing_steps fresh number step =
    record {
      fresh = fresh;
      step = λ held. step;
      is_state = λ now. ⊤;
      kept = λ now. now;
      is_kept = λ now. ⊤;
      number = number;
      uses = λ now block. ⊥;
      decides = λ now block. ⊥;
      anew = λ now. [];
    }

-- what a ledger keeps of the state that it holds
abbrev pub kept_by : {S K L : Type 0} → Steps S K → (L → S) → L → K
kept_by steps held ledger = steps.kept (held ledger)

-- what octets of this magic and layout stand for as such a state
abbrev pub walked : {S K : Type 0} → Steps S K → List ℕ → Layout → ℕ → List ℕ → Stands S
walked steps magic layout blocks octets =
    stands_for steps.fresh (steps.step (block_in octets)) magic layout blocks octets

-- the octets are the journal's store, and stand for a state of which this is kept
abbrev pub StandsAs : {S K : Type 0} → Steps S K → Position → K → List ℕ → Type 0
StandsAs {S} steps position now octets =
    (state_there : S) × (walked steps position.magic position.layout position.blocks octets ≡ state state_there)
    × (steps.kept state_there ≡ now)

-- The records that make what is kept of a state anew have room in a half, with one more; they are records, and where
-- the blocks hold what they held they make a state of which the same is kept.
pub record MakesAnew {S K : Type 0} (steps : Steps S K) : Type 0 where
  pub are_records : (now : K) → steps.is_kept now → AllByRecursion IsRecord (steps.anew now)
  pub fits : (now : K) → steps.is_kept now → length (records_text (steps.anew now)) + 605 ≤ half_size (steps.number now)
  pub makes :
      (held : Blocks) (blocks : ℕ) (entries : List Record) (now : S) → AllByRecursion IsRecord entries
      → Takes (steps.step held) (steps.fresh blocks) entries now
      → (made : S) × Takes (steps.step held) (steps.fresh blocks) (steps.anew (steps.kept now)) made
      × (steps.kept made ≡ steps.kept now)

-- What blocks that a state doesn't use hold changes nothing of it: whether it is reached, and what it is seen as with
-- what the blocks hold. A form says of what is seen what the steps say of the states.
pub record IsSeenBy {S K V C : Type 0} (steps : Steps S K) (seen : Blocks → K → V) (form : Form V C) : Type 0 where
  pub standing :
      (blocks : ℕ) (octets : List ℕ)
      → form.standing blocks octets
      ≡ see (λ now. seen (block_in octets) (steps.kept now)) (walked steps form.magic form.layout blocks octets)
  pub own_number : TellsItsNumber form
  pub fresh_state : (blocks : ℕ) → steps.is_state (steps.fresh blocks)
  pub step_state :
      (held : Blocks) (before after : S) (entry : Record) → steps.is_state before
      → steps.step held before entry ≡ Some after → steps.is_state after
  pub kept_state : (now : S) → steps.is_state now → steps.is_kept (steps.kept now)
  pub fresh_number : HasBlocks form.layout → (blocks : ℕ) → steps.number (steps.kept (steps.fresh blocks)) ≡ blocks
  pub same_number :
      (held : Blocks) (before after : S) (entry : Record) → steps.step held before entry ≡ Some after
      → steps.number (steps.kept after) ≡ steps.number (steps.kept before)
  pub fresh_none : (blocks block : ℕ) → ¬ steps.uses (steps.kept (steps.fresh blocks)) block
  pub growing : form.layout ≡ layout.Growing → (now : K) (block : ℕ) → ¬ steps.uses now block
  pub within : (now : K) (block : ℕ) → steps.is_kept now → steps.uses now block → block < steps.number now
  pub decided : (now : K) (block : ℕ) → steps.is_kept now → steps.decides now block → steps.uses now block
  pub decided_on :
      (held : Blocks) (before after : S) (entry : Record) → steps.is_state before
      → steps.step held before entry ≡ Some after
      → (block : ℕ) → steps.decides (steps.kept before) block → steps.decides (steps.kept after) block
  pub same_step :
      (one other : Blocks) (before after : S) (entry : Record) → steps.is_state before
      → steps.step one before entry ≡ Some after → HoldSame (steps.decides (steps.kept after)) one other
      → steps.step other before entry ≡ Some after
  pub same_seen :
      (one other : Blocks) (now : K) → steps.is_kept now → HoldSame (steps.uses now) one other
      → seen other now ≡ seen one now
  pub anew : form.layout ≡ layout.Halves → MakesAnew steps

-- The journal keeps this of a state on its disk, which is one that records make; where there are blocks, as many as it
-- says.
pub record Holds {D S K : Type 0} (g : Ghosts D) (steps : Steps S K) (position : Position) (now : K) (disk : D)
    : Type 0 where
  pub keeps : KeepsStanding g position (StandsAs steps position now) disk
  pub reached : steps.is_kept now
  pub number : HasBlocks position.layout → position.blocks ≡ steps.number now

-- what a state is seen as is known without the disk, or the disk tells
abbrev pub Knows : {S C : Type 0} → Form S C → Option (List ℕ) → Type 0
Knows form content = (form.layout ≡ layout.Growing) ⊎ IsTold content

-- a block, and octets that are put there
pub record PutBlock : Type 0 where
  pub number : ℕ
  pub octets : List ℕ

-- a block and its octets as the code has them
abbrev pub put_of : BlockPut → PutBlock
put_of put = record { number = put.block; octets = put.octets.now }

-- what is put in a block before a record stands at its front
abbrev pub HasPut : Option PutBlock → Blocks → Type 0
HasPut put held = IfSome put (λ p. take (length p.octets) (held p.number) ≡ p.octets)

-- the calls of the disk for what is put in a block: a write and a sync
abbrev pub block_calls : Option PutBlock → ℕ
block_calls None = 0
block_calls (Some put) = 2

-- The block is one of a store with blocks, which this state doesn't use, and 1 to 512 octets are put there.
pub record MayPut {S K V C : Type 0} (form : Form V C) (steps : Steps S K) (now : K) (put : PutBlock) : Type 0 where
  pub has_blocks : HasBlocks form.layout
  pub there : put.number < steps.number now
  pub unused : ¬ steps.uses now put.number
  pub some : 1 ≤ length put.octets
  pub most : length put.octets ≤ 512

-- What a change of a kept state is: the command that it does to what the state is seen as; what is kept after it; what
-- it puts in a block before its record; and what the blocks have to hold for it.
pub record Turn (K C : Type 0) : Type 1 where
  pub command : C
  pub next : K
  pub puts : Option PutBlock
  pub lets : Blocks → Type 0

-- This record makes that change of what is kept of a state: where the blocks let it, the command is allowed, and once
-- they hold what it puts there, the record takes each state of which that is kept to one of which the next is, and that
-- is seen as what comes of the command. It takes the calls of the disk for one record and that block, and has the
-- octets that the command's record has.
pub record WritesTurn {S K V C : Type 0} (form : Form V C) (steps : Steps S K) (seen : Blocks → K → V) (now : K)
    (turn : Turn K C) (entry : Record) : Type 0 where
  pub allowed : (held : Blocks) → turn.lets held → form.allowed (seen held now) turn.command
  pub step :
      (held : Blocks) → turn.lets held → HasPut turn.puts held
      → (before : S) → steps.is_state before → steps.kept before ≡ now
      → (after : S) × (steps.step held before entry ≡ Some after) × (steps.kept after ≡ turn.next)
  pub sees :
      (held : Blocks) → turn.lets held → HasPut turn.puts held
      → seen held turn.next ≡ form.after (seen held now) turn.command
  pub reaches : steps.is_kept turn.next
  pub number : steps.number turn.next ≡ steps.number now
  pub calls : form.calls turn.command ≡ block_calls turn.puts + record_calls
  pub octets : form.octets turn.command ≡ 4 + length entry.content
