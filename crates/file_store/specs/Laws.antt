-- Laws of a store on a disk.
use Rattle.std.specs.Prelude.{◌≡◌, ◌↔◌, ℕ, ◌≤◌, List, length, Some, IfSome, IsTrue}
use Rattle.px_base.specs.Octets.{IsOctets}
use Rattle.disk_model.specs.Moments.{ChangesNothing}
use Rattle.disk_model.specs.declared.disk.Disk.{Ghosts}
use Rattle.disk_model.specs.Runs.{images_now}
use Rattle.file_journal.specs.Layout.{block_in}
use Rattle.file_store_model.specs.Command.{AreAllowed, Command}
use Rattle.file_store_model.specs.Info.{is_complete}
use Rattle.file_store_model.specs.IsStore.{IsStore}
use Rattle.file_store_model.specs.Store.{Entry, Store, complete, entry_of, holding_of_number, partial}
use Rattle.file_store_blocks.specs.Laws.{IsPlacedAfter}
use Rattle.file_store_model.specs.Like.{IsStoreLike}
use Rattle.file_store_blocks.specs.ReadStore.{ReadStore, Recorded}
use Rattle.file_store_blocks.specs.Seen.{seen}
use Rattle.file_store.specs.OnDisk.{MakesBetween}
use Rattle.file_store.specs.State.{IsKnown, IsReady, StandsFor, StandsOn, StoreState, store_in, store_on}
use Rattle.file_store.specs.Upload.{Upload, entry_for, kept_file}

-- The records of the octets say this, each of which the entries before it allow with what the blocks hold; these are
-- the entries after them, and with the octets that the blocks hold they are this store.
abbrev pub IsStoreAfter : List ℕ → Store → ReadStore → List Recorded → Type 0
IsStoreAfter octets files now records = IsPlacedAfter octets now records × (files ≡ seen (block_in octets) now.store)

-- octets stand for a store exactly when their records make it
abbrev pub StandingLaw : Type 0
StandingLaw =
    (octets : List ℕ) (files : Store) → IsOctets octets
    → StandsFor octets files
    ↔ ((now : ReadStore) × (records : List Recorded) × IsStoreAfter octets files now records)

-- in the store that the image stands for, the upload's entry is under way and holds at least as many octets as it says
abbrev pub HoldsIn : Upload → List ℕ → Type 0
HoldsIn up image =
    (files : Store) × (begun : ℕ) × (held : List ℕ) × StandsFor image files
    × (entry_of files up.number ≡ Some (entry_for up begun (partial held))) × (up.held ≤ length held)

-- the same of each image of a disk whose content is observed
abbrev pub HoldsInEach : {D : Type 0} → Ghosts D → Upload → D → Type 0
HoldsInEach g up disk = IfSome (g.content disk) (λ _. (image : List ℕ) → images_now g disk image → HoldsIn up image)

-- in the store that each image of a disk whose content is observed stands for, there is this entry
abbrev pub StandsInEach : {D : Type 0} → Ghosts D → ℕ → Entry → D → Type 0
StandsInEach g number entry disk =
    IfSome (g.content disk) (λ _. (image : List ℕ) → images_now g disk image
    → (files : Store) × StandsFor image files × (entry_of files number ≡ Some entry))

-- in the store that each image of a disk whose content is observed stands for, the upload's file is complete with these
-- octets
abbrev pub IsKeptInEach : {D : Type 0} → Ghosts D → Upload → List ℕ → ℕ → D → Type 0
IsKeptInEach g up octets moment disk =
    IfSome (g.content disk) (λ _. (image : List ℕ) → images_now g disk image
    → (files : Store) × (begun : ℕ) × StandsFor image files
    × (entry_of files up.number ≡ Some (entry_for up begun (complete octets moment))))

-- An entry that is complete stays as it is through any commands, each of which the store before it allows: so it is in
-- the store of each image that has the first of them, for whatever number.
abbrev pub ReceiptLaw : Type 0
ReceiptLaw =
    (store : Store) (commands : List Command) (low high number : ℕ) (entry : Entry) (image : List ℕ)
    → AreAllowed store commands → entry_of store number ≡ Some entry → IsTrue (is_complete entry.holding)
    → MakesBetween low high store commands image
    → (files : Store) × StandsFor image files × (entry_of files number ≡ Some entry)

-- A store that is on a disk is on it still if nothing changed except the arming or counts of faults.
abbrev pub ArmedLaw : {D : Type 0} → Ghosts D → Type 0
ArmedLaw {D} g =
    (self : StoreState) (old new : D) → ChangesNothing g.content g.images g.moment g.images_since old new
    → StandsOn g self old → StandsOn g self new

-- on the disk the upload's file is complete now: the octets that came, stamped
abbrev pub IsKeptOn : {D : Type 0} → Ghosts D → StoreState → StoreState → D → D → Upload → ℕ → Type 0
IsKeptOn g old new disk disk_now up moment =
    holding_of_number (store_on g new disk_now) up.number
    ≡ Some (complete (kept_file (store_on g old disk) old up moment) moment)

-- A store that hasn't failed is on its disk what memory shows, except for the octets of its files, and keeps the rules
-- of a store; if it isn't known what its files hold, it is what memory shows.
pub record ToldLaw {D : Type 0} (g : Ghosts D) (self : StoreState) (disk : D) : Type 0 where
  pub like : IsReady g self disk → IsKnown g disk → IsStoreLike (store_in self) (store_on g self disk)
  pub rules : IsReady g self disk → IsKnown g disk → IsStore (store_on g self disk)
  pub like_always : IsReady g self disk → IsStoreLike (store_in self) (store_on g self disk)
  pub rules_always : IsReady g self disk → IsStore (store_on g self disk)
  pub untold : IsReady g self disk → ¬ IsKnown g disk → store_on g self disk ≡ store_in self
