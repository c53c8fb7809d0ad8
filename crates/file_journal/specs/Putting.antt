-- What a change of a kept state puts on the disk, and how the journal goes on.
use Rattle.std.specs.Prelude.{◌≡◌, ◌⊎◌, ℕ, ◌+◌, ◌≤◌, List, [], ◌∷◌, length, false, true, IfSome}
use Rattle.disk_model.specs.declared.disk.Disk.{Ghosts}
use Rattle.file_journal.specs.Bounds.{StaysInHalves}
use Rattle.disk_model.specs.Runs.{EachImage, Leaves, Puts, TakesStep}
use Rattle.file_journal.specs.Form.{Form, StandsFor}
use Rattle.file_journal.specs.Kept.{Does, KeptOn, StandsAt, kept_on}
use Rattle.file_journal.specs.Layout.{Blocks, HoldSame, block_in, blocks_on}
use Rattle.file_journal.specs.Position.{HasRoom, IsSameJournal, Position}
use Rattle.file_journal.specs.Rewriting.{LeavesRewriting, Rewrites, rewritten}
use Rattle.file_journal.specs.Steps.{Steps}

-- But for its half and its place there the journal is as it was, and it has failed where the disk failed; the calls
-- were writes and syncs. In two halves nothing is written behind the store.
pub record GoesOn {D : Type 0} (g : Ghosts D) (failed : Type 0) (before now : Position) (old new : D)
    : Type 0 where
  pub journal : IsSameJournal before now
  pub fails : failed → now.failed ≡ true
  pub goes_on : ¬ failed → now.failed ≡ false
  pub puts : Puts g failed old new
  pub within : StaysInHalves g before.layout before.blocks old new

-- the image stands for one of these
abbrev pub StandsForEither : {S C : Type 0} → Form S C → S → S → List ℕ → Type 0
StandsForEither form now next image = StandsFor form now image ⊎ StandsFor form next image

-- The one state gives way to the other: a crash since the start leaves one of the two, and at the end the other, unless
-- the disk failed.
pub record TurnsInto {D S C : Type 0} (g : Ghosts D) (form : Form S C) (now next : S) (failed : Type 0) (old new : D)
    : Type 0 where
  pub since : Leaves g old new (λ _. StandsForEither form now next)
  pub done : ¬ failed → EachImage g new (StandsFor form next)

-- What is kept of a state stays: the journal goes on with it, the blocks that it uses hold what they held, and a crash
-- since the start leaves what is seen as it was.
pub record StaysKept {D S K V C : Type 0} (g : Ghosts D) (form : Form V C) (steps : Steps S K) (seen : Blocks → K → V)
    (failed : Type 0) (old new : KeptOn D K) : Type 0 where
  pub kept : new.now ≡ old.now
  pub stands_at : StandsAt g form steps new.journal new.now new.disk
  pub same : HoldSame (steps.uses old.now) (blocks_on (g.content old.disk)) (blocks_on (g.content new.disk))
  pub since : Leaves g old.disk new.disk (λ octets. StandsFor form (seen (block_in octets) old.now))
  pub goes : GoesOn g failed old.journal new.journal old.disk new.disk

-- what is kept of a state, as what it is seen as
abbrev pub seen_on : {D K V : Type 0} → Ghosts D → (Blocks → K → V) → KeptOn D K → KeptOn D V
seen_on g seen at = kept_on (seen (blocks_on (g.content at.disk)) at.now) at.journal at.disk

-- The records that make what is kept anew were written into the other half first: so far what is kept stays, and the
-- journal goes on behind them, where it has room for the command's record. That took a call of the disk for each of
-- them and four more, in which a crash leaves the records from before or these; and from there on the command is done,
-- or the disk failed in it.
pub record MadeRoom {D S K V C : Type 0} (g : Ghosts D) (form : Form V C) (steps : Steps S K) (seen : Blocks → K → V)
    (failed : Type 0) (command : C) (old new : KeptOn D K) : Type 0 where
  pub between : KeptOn D K
  pub stays : StaysKept g form steps seen ⊥ old between
  pub content : TakesStep g old.disk between.disk (Rewrites old.journal (steps.anew old.now))
  pub journal : between.journal ≡ rewritten old.journal (steps.anew old.now)
  pub calls :
      IfSome (g.content old.disk) (λ _. g.moment between.disk ≡ g.moment old.disk + (length (steps.anew old.now) + 4))
  pub since : LeavesRewriting g old.journal (steps.anew old.now) old.disk between.disk
  pub room : HasRoom between.journal (form.octets command)
  pub does : Does g form failed (command ∷ []) (seen_on g seen between) (seen_on g seen new)

-- The disk failed while they were written: what is kept stays. The journal has failed in its half, and no more calls
-- were made than that takes.
pub record MadeNoRoom {D S K V C : Type 0} (g : Ghosts D) (form : Form V C) (steps : Steps S K)
    (seen : Blocks → K → V) (failed : Type 0) (old new : KeptOn D K) : Type 0 where
  pub stopped : failed
  pub stays : StaysKept g form steps seen failed old new
  pub journal : new.journal ≡ record old.journal { failed = true }
  pub since : LeavesRewriting g old.journal (steps.anew old.now) old.disk new.disk
  pub at_most : g.moment new.disk ≤ g.moment old.disk + (length (steps.anew old.now) + 4)

-- how a command is put whose record has no room: room is made for it first, or the disk failed in that
abbrev pub MakesRoom :
    {D S K V C : Type 0} → Ghosts D → Form V C → Steps S K → (Blocks → K → V) → Type 0 → C → KeptOn D K → KeptOn D K
    → Type 0
MakesRoom g form steps seen failed command old new =
    ¬ HasRoom old.journal (form.octets command)
    → MadeRoom g form steps seen failed command old new ⊎ MadeNoRoom g form steps seen failed old new
