-- What is true of each store for which octets stand.
use Rattle.std.proofs.Common.{◌≡◌, ◌⊎◌, inl, inr, ℕ, ◌+◌, false, List, [], ◌∷◌, length, Option, None, Some, refl, ap, sym, ◌∙◌, subst}
use Rattle.file_store_blocks.specs.Laws.{AreAllowed, IsPlacedAfter, after_all}
use Rattle.file_journal.specs.Journal as journal
use Rattle.file_journal.specs.Journal.{Standing, journal_of}
use Rattle.file_journal.specs.Form.{Form, StandsFor}
use Rattle.file_journal.specs.Walk.{Stands, damaged_at, no_store, number_or, on_from, see, stands_for, stands_of, state, walk, walk_over}
use Rattle.file_journal.specs.declared.layout.Layout.{Layout}
use Rattle.file_journal.specs.declared.layout.Layout.TheVariants as layout
use Rattle.file_store_blocks.proofs.Names.{IfSome, IsTrue, IsTold, Ghosts, Store, IsOctets, IsPlaced, KeepsSeals, recorded_seals, PlacedStore, placed_form, placed_steps, nothing_is, step_state, CanRecord, placed_magic, read_step, record_of_recorded, recorded_in, read_placed, recorded_blocks, IsReadStore, ReadStore, Recorded, after_recorded, is_recordable, nothing_read, recorded_says, recorded_written, seen, StandsAt, Blocks, block_in, blocks_on, half_in, Position, Reading, Record, broken, whole, StandsAs, walked, Written, after_stands, stands_after, stepped, steps}

-- ---- what each step keeps is true of the state that octets give

module _ {S : Type 0} (step : S → Record → Option S) (P : S → Type 0) (keeps : (before after : S) (entry : Record) → P before → step before entry ≡ Some after → P after)
    (on : S → Stands S) (now : S) (ends : (s : S) → P s → on s ≡ state now → P now) where
  over_keeps : (before : S) (place : ℕ) (entries : List Record) → P before → walk_over step on before place entries ≡ state now → P now
  over_keeps before place [] has is = ends before has is
  over_keeps before place (entry ∷ entries) has is =
      by (step before entry) refl (λ s holds. over_keeps s (place + 4 + length entry.content) entries holds) is
    where
      by : (o : Option S) → step before entry ≡ o → ((s : S) → P s → walk_over step on s (place + 4 + length entry.content) entries ≡ state now → P now)
          → on_from place o (λ s. walk_over step on s (place + 4 + length entry.content) entries) ≡ state now → P now
      by None same later is = absurd (cc is)
      by (Some s) same later is = later s (keeps before s entry has same) is

module _ {S : Type 0} (step : S → Record → Option S) (P : S → Type 0) (keeps : (before after : S) (entry : Record) → P before → step before entry ≡ Some after → P after) (now : S) where
  walk_keeps : (before : S) (place : ℕ) (reading : Reading) → P before → walk step before place reading ≡ state now → P now
  walk_keeps before place (whole entries) has is =
      over_keeps step P keeps (λ s. state s) now (λ s holds same. let e : s ≡ now = cc same in subst P e holds) before place entries has is
  walk_keeps before place (broken entries at) has is =
      over_keeps step P keeps (λ s. damaged_at at) now (λ s holds same. absurd (cc same)) before place entries has is

-- the rules and the seals
abbrev Keeps : Blocks → ReadStore → Type 0
Keeps held read = IsReadStore read × KeepsSeals held read.store

step_keeps : (held : Blocks) (before now : ReadStore) (entry : Record) → Keeps held before → read_step held before entry ≡ Some now → Keeps held now
step_keeps held before now entry keeps is =
    let step = stepped (is_recordable held) (after_recorded held) before now (recorded_in entry) is in
    (step_state held before now entry is keeps.0, subst (λ (r : ReadStore). KeepsSeals held r.store) (sym step.3) (recorded_seals held before keeps.0 step.0 step.2 keeps.1))

pub standing_keeps : (blocks : ℕ) (octets : List ℕ) (now : ReadStore) → walked placed_steps placed_magic layout.Halves blocks octets ≡ state now
    → IsPlaced now.store × KeepsSeals (block_in octets) now.store
standing_keeps blocks octets now is = by (journal_of placed_magic layout.Halves octets) is
  where
    by : (store : Standing) → stands_of nothing_read (read_step (block_in octets)) layout.Halves (half_in layout.Halves octets) blocks store ≡ state now
        → IsPlaced now.store × KeepsSeals (block_in octets) now.store
    by (journal.no_store found) is = absurd (cc is)
    by journal.bad_number is = absurd (cc is)
    by (journal.store number reading) is =
        let first = nothing_read (number_or blocks number) in
        let all = walk_keeps (read_step (block_in octets)) (Keeps (block_in octets)) (step_keeps (block_in octets)) now first _ reading
        (nothing_is (number_or blocks number), tt) is in
        (read_placed now all.0, all.1)

-- the same of the state that is on a disk whose content is observed
pub kept_seals : {D : Type 0} (g : Ghosts D) (position : Position) (now : PlacedStore) (disk : D) → StandsAt g placed_form placed_steps position now disk → position.failed ≡ false
    → IsTold (g.content disk) → KeepsSeals (blocks_on (g.content disk)) now
kept_seals g position now disk at healthy told = by (g.content disk) told (at.holds.keeps.content healthy)
  where
    by : (o : Option (List ℕ)) → IsTold o → IfSome o (StandsAs placed_steps position now) → KeepsSeals (blocks_on o) now
    by None told stands = absurd (cc told)
    by (Some octets) told stands =
        let same : walked placed_steps placed_magic layout.Halves position.blocks octets ≡ state stands.0 =
        ap (λ (m : List ℕ). walked placed_steps m layout.Halves position.blocks octets) (sym at.magic_is)
        ∙ ap (λ (l : Layout). walked placed_steps position.magic l position.blocks octets) (sym at.layout_is)
        ∙ stands.1 in
        subst (KeepsSeals (block_in octets)) stands.2 (standing_keeps position.blocks octets stands.0 same).1

-- ---- octets stand for the store after the commands that their records are

-- the stores that records make, with what the blocks hold
abbrev held_form : Blocks → Form ReadStore Recorded
held_form held = record {
  magic = placed_magic;
  layout = layout.Halves;
  number = λ read. read.store.blocks;
  standing = λ blocks octets. stands_for nothing_read (read_step held) placed_magic layout.Halves blocks octets;
  allowed = λ read recorded. IsTrue (is_recordable held read recorded);
  after = after_recorded held;
  calls = λ recorded. 0;
  octets = λ recorded. 0;
}

-- what they say as records
abbrev placed_written : (held : Blocks) → Written (held_form held)
placed_written held = record {
  fresh = nothing_read;
  step = read_step held;
  standing = λ blocks octets. refl;
  IsWritable = CanRecord;
  record_of = record_of_recorded;
  command_of = recorded_in;
  reads = recorded_written;
  writes = λ entry recorded rules is. recorded_says entry recorded rules is;
  steps = λ before recorded entry. steps (is_recordable held) (after_recorded held) before recorded (recorded_in entry);
  stepped = λ before now entry. stepped (is_recordable held) (after_recorded held) before now (recorded_in entry);
}

-- records leave the number of blocks
all_blocks : (held : Blocks) (records : List Recorded) (read : ReadStore) → (after_all held read records).store.blocks ≡ read.store.blocks
all_blocks held [] read = refl
all_blocks held (recorded ∷ records) read = all_blocks held records (after_recorded held read recorded) ∙ recorded_blocks held read recorded

-- the block number of the octets, or none yet
number_is : (number : Option ℕ) (blocks : ℕ) → (number ≡ None) ⊎ (number ≡ Some blocks) → number_or blocks number ≡ blocks
number_is number blocks (inl none) = ap (number_or blocks) none
number_is number blocks (inr some) = ap (number_or blocks) some

is_number : (number : Option ℕ) (blocks : ℕ) → number_or blocks number ≡ blocks → (number ≡ None) ⊎ (number ≡ Some blocks)
is_number None blocks same = inl refl
is_number (Some n) blocks same = inr (ap (λ (k : ℕ). Some k) same)

module _ (octets : List ℕ) where
  abbrev held : Blocks
  held = block_in octets

  -- what octets stand for, as a store that is read
  abbrev walks : ℕ → Stands ReadStore
  walks blocks = walked placed_steps placed_magic layout.Halves blocks octets

  placed_stand : (now : ReadStore) (records : List Recorded) → IsPlacedAfter octets now records → walks now.store.blocks ≡ state now
  placed_stand now records is =
      let same : now.store.blocks ≡ number_or now.store.blocks is.number = sym (number_is is.number now.store.blocks is.is_number) in
      after_stands (held_form held) (placed_written held) octets now records
      (record {
        number = is.number;
        records = is.records_are;
        writable = is.writable;
        allowed = subst (λ (n : ℕ). AreAllowed held (nothing_read n) records) same is.allowed;
        after = is.after_is ∙ ap (λ (n : ℕ). after_all held (nothing_read n) records) same;
      })

  stand_placed : (now : ReadStore) → IsOctets octets → walks now.store.blocks ≡ state now → (records : List Recorded) × IsPlacedAfter octets now records
  stand_placed now are stands =
      let made = stands_after (held_form held) (placed_written held) octets now are stands in
      let start : ℕ = number_or now.store.blocks made.1.number in
      let same : start ≡ now.store.blocks = sym (ap (λ (r : ReadStore). r.store.blocks) made.1.after ∙ all_blocks held made.0 (nothing_read start)) in (
        made.0,
        record {
          number = made.1.number;
          is_number = is_number made.1.number now.store.blocks same;
          records_are = made.1.records;
          writable = made.1.writable;
          allowed = subst (λ (n : ℕ). AreAllowed held (nothing_read n) made.0) same made.1.allowed;
          after_is = made.1.after ∙ ap (λ (n : ℕ). after_all held (nothing_read n) made.0) same;
        },
      )

  -- what a store that is read is seen as
  abbrev sees : ReadStore → Store
  sees read = seen held read.store

  -- octets stand for what the store that is read is seen as
  pub placed_stands : (files : Store) (now : ReadStore) (records : List Recorded) → IsPlacedAfter octets now records → files ≡ seen held now.store → StandsFor placed_form files octets
  placed_stands files now records is seen_is =
      ap (λ (f : Store). see sees (walks f.blocks)) seen_is
      ∙ ap (see sees) (placed_stand now records is) ∙ ap state (sym seen_is)

  -- and what they stand for is what one is seen as
  pub stands_placed : (files : Store) → IsOctets octets → StandsFor placed_form files octets
      → (now : ReadStore) × (records : List Recorded) × IsPlacedAfter octets now records × (files ≡ seen held now.store)
  stands_placed files are stands = by (walks files.blocks) refl stands
    where
      by : (made : Stands ReadStore) → walks files.blocks ≡ made → see sees made ≡ state files
          → (now : ReadStore) × (records : List Recorded) × IsPlacedAfter octets now records × (files ≡ seen held now.store)
      by (no_store found) same is = absurd (cc is)
      by (damaged_at at) same is = absurd (cc is)
      by (state now) same is =
          let seen_is : seen held now.store ≡ files = cc is in
          let number : files.blocks ≡ now.store.blocks = ap (λ (f : Store). f.blocks) (sym seen_is) in
          let records = stand_placed now are (ap walks (sym number) ∙ same) in
          (now, records.0, records.1, sym seen_is)
