-- The records that rebuild a store, read from nothing on, give a store of which the same is kept, if its rules and its
-- seals are kept, and its numbers fit their octets.
use Rattle.std.proofs.Common.{◌≡◌, ◌⊎◌, ℕ, ◌+◌, ◌-◌, ◌*◌, ◌≤◌, ◌<◌, ◌==◌, min, Bool, cond, true, false}
use Rattle.std.proofs.Common.{List, [], ◌∷◌, ◌++◌, length, map, Option, None, Some, refl, ap, ap₂, sym, ◌∙◌, subst}
use Rattle.std.proofs.Common.{arith, inl, inr, nat_le, nat_lt, length-append, ◌||◌}
use Rattle.std.specs.Prelude.{IfSome, IsSome, IsTrue, find, is_none, sum_by}
use Rattle.std.specs.List.{AllByRecursion}
use Rattle.std.proofs.Math.Nat.{max-eq_left}
use Rattle.std.proofs.lemmas.Bool.{eq-eqb, le-leb, lt-ltb, ne_eqb}
use Rattle.std.proofs.lemmas.Bool.Decides.{leb_tells}
use Rattle.std.proofs.lemmas.List.{append_assoc, append-nil, length-map}
use Rattle.std.proofs.lemmas.List.Sums.{sum_by-append, sum_by-cons, sum_by_push}
use Rattle.file_store_blocks.specs.Anew.{anew_records, commands_in, commands_of, grows_in, seals_in, written}
use Rattle.file_store_blocks.specs.IsPlaced.{IsPlaced, IsPlacedFile, KeepsSeal, KeepsSeals, Rise}
use Rattle.file_store_blocks.specs.KeptLaws.{blocks_seen, header_found, rooms_files, room_at, times_at, times_files}
use Rattle.file_store_blocks.specs.Placed.{Placed, PlacedStore, Seal, has_number, placed_from}
use Rattle.file_store_blocks.specs.Placed.{runs_of}
use Rattle.file_store_blocks.specs.PlacedCommand.{PlacedCommand, begin, can_grow, can_seal, changed}
use Rattle.file_store_blocks.specs.PlacedCommand.{grow, grown, header_at, is_free, seal, seal_with}
use Rattle.file_store_blocks.specs.PlacedCommand.{sealed}
use Rattle.file_store_blocks.specs.PlacedRecords.{IsNumber, IsShort, IsWritable, read_step, record_of_placed}
use Rattle.file_store_blocks.specs.PlacedRecords.{record_of_recorded, recorded_in}
use Rattle.file_store_blocks.specs.ReadStore.{ReadStore, after_recorded, change, is_recordable, may_change}
use Rattle.file_store_blocks.specs.ReadStore.{next_is, nothing_read}
use Rattle.file_store_blocks.specs.SameLaws.{uses_below}
use Rattle.file_store_blocks.specs.Seen.{header_in, octets_in, seen, seen_entry, sum_with}
use Rattle.file_store_blocks.specs.TestLaws.{passes_found}
use Rattle.file_store_blocks.specs.RecordLaws.{recorded_written}
use Rattle.file_store_blocks.specs.BlockTable.Table.{times_of}
use Rattle.file_store_model.specs.Limits.{last_next, longest_file, most_entries}
use Rattle.file_store_model.specs.Store.{blocks_for, blocks_of}
use Rattle.file_journal.specs.Layout.{Blocks}
use Rattle.file_journal.specs.Ledger.{Takes}
use Rattle.file_journal.proofs.Offered.{steps}
use Rattle.pfh_items.specs.Faults.{fault_code}

-- ---- the last one of a list

-- all have numbers below this one
abbrev Below : ℕ → List Placed → Type 0
Below number files = AllByRecursion (λ f. f.number < number) files

find_last :
    (number : ℕ) (done : List Placed) (f : Placed) → Below number done → f.number ≡ number
    → find (has_number number) (done ++ f ∷ []) ≡ Some f
find_last number [] f below is = rw (eq-eqb f.number number is) refl
find_last number (d ∷ ds) f below is =
    rw (ne_eqb d.number number (λ e. omega (arith, e, below.0))) (find_last number ds f below.1 is)

changed_last :
    (number : ℕ) (makes : Placed → Placed) (done : List Placed) (f : Placed) → Below number done → f.number ≡ number
    → map (changed number makes) (done ++ f ∷ []) ≡ done ++ makes f ∷ []
changed_last number makes [] f below is = rw (eq-eqb f.number number is) refl
changed_last number makes (d ∷ ds) f below is =
    rw (ne_eqb d.number number (λ e. omega (arith, e, below.0)))
    (ap (λ (fs : List Placed). d ∷ fs) (changed_last number makes ds f below.1 is))

below_push :
    (number : ℕ) (done : List Placed) (f : Placed) → Below number done → number ≤ f.number
    → Below (f.number + 1) (done ++ f ∷ [])
below_push number [] f below le = (omega arith, tt)
below_push number (d ∷ ds) f below le = (omega (arith, below.0, le), below_push number ds f below.1 le)

-- what is true of each is true of the one in the middle
all_middle :
    {A : Type 0} (P : A → Type 0) (front : List A) (x : A) (rest : List A) → AllByRecursion P (front ++ x ∷ rest) → P x
all_middle P [] x rest all = all.0
all_middle P (y ∷ ys) x rest all = all_middle P ys x rest all.1

-- ---- numbers that fit the octets of their records

-- what is written of a file other than its number and length
pub record FitsOctets (file : Placed) : Type 0 where
  pub begun : IsNumber file.begun
  pub blocks : AllByRecursion IsNumber file.blocks
  pub mark : IfSome file.seal (λ s. IsNumber s.moment × IsShort s.sum)

-- the numbers of a store do
pub record FitsRecords (store : PlacedStore) : Type 0 where
  pub files : AllByRecursion FitsOctets store.entries
  pub next : store.next ≤ last_next

-- ---- how many octets the next block has

pub record IsUsed (left used : ℕ) : Type 0 where
  pub some : 1 ≤ used
  pub most : used ≤ 512
  pub rest : (left - 512) + used ≡ left
  pub fills : (used ≡ 512) ⊎ (used ≡ left)

pub is_used : (left : ℕ) → 1 ≤ left → IsUsed left (min 512 left)
is_used left some =
    elim (leb_tells 512 left) [
      | inl w ↦
          let is : min 512 left ≡ 512 = omega (arith, w.1) in
          subst (IsUsed left) (sym is)
          (record { some = omega arith; most = omega arith; rest = omega (arith, w.1); fills = inl refl })
      | inr w ↦
          let is : min 512 left ≡ left = omega (arith, w.1) in
          subst (IsUsed left) (sym is)
          (record { some = some; most = omega (arith, w.1); rest = omega (arith, w.1); fills = inr refl })
    ]

-- ---- a store whose rules and seals are kept, and whose numbers fit

module _ (held : Blocks) (store : PlacedStore) (is : IsPlaced store) (keeps : KeepsSeals held store)
    (fits : FitsRecords store) where
  -- these commands, written, take the one store that is read to the other
  abbrev Walks : ReadStore → List PlacedCommand → ReadStore → Type 0
  Walks before commands now = Takes (read_step held) before (written commands) now

  walks_first :
      (before middle now : ReadStore) (command : PlacedCommand) (commands : List PlacedCommand) → IsWritable command
      → IsTrue (may_change held before command) → after_recorded held before (change command) ≡ middle
      → Walks middle commands now → Walks before (command ∷ commands) now
  walks_first before middle now command commands writable ok same later = (
    middle,
    steps (is_recordable held) (after_recorded held) before (change command)
        (recorded_in (record_of_placed command)) (recorded_written (change command) writable) ok
        ∙ ap Some same,
    later,
  )

  walks_then :
      (before middle now : ReadStore) (commands later : List PlacedCommand) → Walks before commands middle
      → Walks middle later now → Walks before (commands ++ later) now
  walks_then before middle now [] later first then = subst (λ (r : ReadStore). Walks r later now) first then
  walks_then before middle now (command ∷ commands) later first then =
      (first.0, first.1, walks_then first.0 middle now commands later first.2 then)

  -- these files were made, and no other
  abbrev made : List Placed → ℕ → ReadStore
  made files least = record { store = placed_from files store.next store.blocks; least = least; first = false }

  -- one file, after those that were made
  module _ (done : List Placed) (f : Placed) (fs : List Placed) (all : store.entries ≡ done ++ f ∷ fs)
      (below : Below f.number done) (under : f.number < store.next) where
    -- what came of it so far
    abbrev part : List ℕ → ℕ → Placed
    part blocks count = record f { held = count; blocks = blocks; seal = None }

    abbrev came : List ℕ → ℕ → ReadStore
    came blocks count = made (done ++ part blocks count ∷ []) (f.number + 1)

    file_is : IsPlacedFile store.blocks f
    file_is =
        all_middle (IsPlacedFile store.blocks) done f fs
        (subst (λ (files : List Placed). AllByRecursion (IsPlacedFile store.blocks) files) all is.files)

    file_fits : FitsOctets f
    file_fits =
        all_middle FitsOctets done f fs
        (subst (λ (files : List Placed). AllByRecursion FitsOctets files) all fits.files)

    file_keeps : KeepsSeal held f
    file_keeps =
        all_middle (KeepsSeal held) done f fs
        (subst (λ (files : List Placed). AllByRecursion (KeepsSeal held) files) all keeps)

    number_fits : IsNumber f.number
    number_fits = omega (arith, under, fits.next)

    -- it is begun
    begins :
        (least : ℕ) (later : List PlacedCommand) (now : ReadStore) → least ≤ f.number → Walks (came [] 0) later now
        → Walks (made done least) (begin f.number f.caller f.length f.begun ∷ later) now
    begins least later now le then =
        let before = placed_from done f.number store.blocks in
        let low : nat_le least f.number ≡ true = le-leb _ _ le in
        let high : nat_le f.number store.next ≡ true = le-leb _ _ (omega (arith, under)) in
        let same : (f.number == f.number) ≡ true = eq-eqb _ _ refl in
        let short : nat_le f.length longest_file ≡ true = le-leb _ _ file_is.short in
        let few : nat_lt (length (map (seen_entry held) done)) most_entries ≡ true =
        lt-ltb _ _
        (omega (
          arith,
          is.few,
          length-map done (seen_entry held),
          ap (λ (files : List Placed). length files) all,
          length-append done (f ∷ fs),
        )) in
        let left : nat_lt f.number last_next ≡ true = lt-ltb _ _ (omega (arith, under, fits.next)) in
        let room : nat_le (blocks_of (seen held before) + blocks_for f.length) store.blocks ≡ true =
        le-leb _ _
        (omega (
          arith,
          is.rooms,
          blocks_seen held before,
          rooms_files done,
          rooms_files store.entries,
          ap (λ (files : List Placed). sum_by room_at files) all,
          sum_by-append room_at done (f ∷ fs),
          sum_by-cons room_at f fs,
        )) in
        let ok : IsTrue (may_change held (made done least) (begin f.number f.caller f.length f.begun)) =
        rw (low, high, same, short, few, left, room) refl in
        walks_first (made done least) (came [] 0) now (begin f.number f.caller f.length f.begun) later
        (number_fits, file_is.caller, omega (arith, file_is.short), file_fits.begun) ok
        (ap
        (λ (n : ℕ).
        record {
          store = placed_from (done ++ part [] 0 ∷ []) n store.blocks;
          least = f.number + 1;
          first = false;
        })
        (max-eq_left (omega (arith, under))))
        then

    -- no file has the block yet that the file has after these
    block_free :
        (front : List ℕ) (count block : ℕ) (rest : List ℕ) → f.blocks ≡ front ++ block ∷ rest
        → IsTrue (is_free (came front count).store block)
    block_free front count block rest blocks =
        let one : ℕ → ℕ = λ x. cond (x == block) 1 0 in
        let here : one block ≡ 1 = ap {B = ℕ} (λ (b : Bool). cond b 1 0) (eq-eqb block block refl) in
        let own : times_at block f ≡ sum_by one front + (1 + sum_by one rest) =
        ap (λ (bs : List ℕ). sum_by one bs) blocks
        ∙ omega (arith, sum_by-append one front (block ∷ rest), sum_by-cons one block rest, here) in
        let total : times_of block (runs_of store.entries)
        ≡ sum_by (times_at block) done + (times_at block f + sum_by (times_at block) fs) =
        times_files block store.entries ∙ ap (λ (files : List Placed). sum_by (times_at block) files) all
        ∙ omega (arith, sum_by-append (times_at block) done (f ∷ fs), sum_by-cons (times_at block) f fs) in
        let there : nat_lt block store.blocks ≡ true =
        lt-ltb _ _ (uses_below store block is (omega (arith, own, total))) in
        let none : times_of block (runs_of (done ++ part front count ∷ [])) ≡ 0 =
        omega (
          arith,
          times_files block (done ++ part front count ∷ []),
          sum_by_push (times_at block) done (part front count),
          is.once block,
          own,
          total,
        ) in
        rw (there, eq-eqb _ _ none) refl

    -- its blocks are filled
    grows :
        (front rest : List ℕ) (count left : ℕ) (later : List PlacedCommand) (now : ReadStore)
        → f.blocks ≡ front ++ rest → count + left ≡ f.held → length rest ≡ blocks_for left
        → (1 ≤ length rest → count ≡ 512 * length front) → Walks (came f.blocks f.held) later now
        → Walks (came front count) (grows_in f.number left rest ++ later) now
    grows front [] count left later now blocks sum need full then =
        let none : left ≡ 0 = omega (arith, need) in
        let same : count ≡ f.held = omega (arith, sum, none) in
        subst (λ (r : ReadStore). Walks r later now)
        (ap₂ (λ (bs : List ℕ) (n : ℕ). came bs n) (blocks ∙ append-nil front) (sym same)) then
    grows front (block ∷ rest) count left later now blocks sum need full then =
        let used = min 512 left in
        let u = is_used left (omega (arith, need)) in
        let full_is : count ≡ 512 * length front = full (omega arith) in
        let blocks_len : length f.blocks ≡ length front + length (block ∷ rest) =
        ap (λ (bs : List ℕ). length bs) blocks ∙ length-append front (block ∷ rest) in
        let one = part front count in
        let some : nat_le 1 used ≡ true = le-leb _ _ u.some in
        let most : nat_le used 512 ≡ true = le-leb _ _ u.most in
        let free = block_free front count block rest blocks in
        let found = find_last f.number done one below refl in
        let room : nat_le (count + used) f.length ≡ true = le-leb _ _ (omega (arith, u.rest, sum, file_is.fits)) in
        let fills : ((used == 512) || (count + used == f.length)) ≡ true =
        elim u.fills [
          | inl all_512 ↦ rw (eq-eqb used 512 all_512) refl
          | inr all_left ↦
              elim file_is.full [
                | inl whole ↦
                    fills_last (used == 512) (count + used == f.length)
                    (eq-eqb _ _ (omega (arith, all_left, whole, sum)))
                | inr blocks_full ↦
                    let is_block : used ≡ 512 =
                    omega (arith, all_left, blocks_full, blocks_len, sum, full_is, need, u.most) in
                    rw (eq-eqb used 512 is_block) refl
              ]
        ] in
        let can : IsTrue (can_grow one used) = rw (room, fills) refl in
        let passes = passes_found (came front count).store f.number (λ g. can_grow g used) one found ∙ can in
        let ok : IsTrue (may_change held (came front count) (grow f.number block used)) =
        rw (some, most, free, passes) refl in
        let next : f.blocks ≡ (front ++ block ∷ []) ++ rest =
        blocks ∙ sym (append_assoc front (block ∷ []) rest) in
        let same : after_recorded held (came front count) (change (grow f.number block used))
        ≡ came (front ++ block ∷ []) (count + used) =
        ap (λ (files : List Placed). made files (f.number + 1))
        (changed_last f.number (grown block used) done one below refl) in
        walks_first (came front count) (came (front ++ block ∷ []) (count + used)) now (grow f.number block used)
        (grows_in f.number (left - 512) rest ++ later) (
          number_fits,
          all_middle IsNumber front block rest
              (subst (λ (bs : List ℕ). AllByRecursion IsNumber bs) blocks file_fits.blocks),
          omega (arith, u.most),
        )
        ok same
        (grows (front ++ block ∷ []) rest (count + used) (left - 512) later now next (omega (arith, sum, u.rest))
        (omega (arith, need, u.rest, u.most))
        (λ more.
        omega (
          arith,
          more,
          need,
          u.rest,
          u.most,
          full_is,
          length-append front (block ∷ []),
          u.some,
        ))
        then)
      where
        fills_last : (a b : Bool) → b ≡ true → (a || b) ≡ true
        fills_last true b is_b = refl
        fills_last false b is_b = is_b

    -- it is sealed, if it has a seal
    seals :
        (now : ReadStore) → Walks (made (done ++ f ∷ []) (f.number + 1)) [] now
        → Walks (came f.blocks f.held) (seals_in f.number f.seal) now
    seals now then = by f.seal refl
      where
        by : (o : Option Seal) → f.seal ≡ o → Walks (came f.blocks f.held) (seals_in f.number o) now
        by None none =
            subst (λ (r : ReadStore). Walks r [] now)
            (ap (λ (o : Option Seal). made (done ++ (record f { seal = o }) ∷ []) (f.number + 1)) none) then
        by (Some mark) some =
            let one = part f.blocks f.held in
            let says =
            subst
            (λ (o : Option Seal). IfSome o (λ s.
            (fault_code (octets_in held f) ≡ None) × (s.sum ≡ sum_with s.moment f (octets_in held f))
            × (s.header ≡ header_in held f)))
            some file_keeps in
            let fit =
            subst (λ (o : Option Seal). IfSome o (λ s. IsNumber s.moment × IsShort s.sum)) some file_fits.mark in
            let whole : (f.held == f.length) ≡ true =
            eq-eqb _ _ (file_is.whole (subst (λ (o : Option Seal). IsSome o) (sym some) refl)) in
            let faultless : is_none (fault_code (octets_in held f)) ≡ true = ap (λ (o : Option ℕ). is_none o) says.0 in
            let sum : (mark.sum == sum_with mark.moment f (octets_in held f)) ≡ true = eq-eqb _ _ says.1 in
            let found = find_last f.number done one below refl in
            let can : IsTrue (can_seal held one mark.moment mark.sum) = rw (whole, faultless, sum) refl in
            let ok : IsTrue (may_change held (came f.blocks f.held) (seal f.number mark.moment mark.sum)) =
            passes_found (came f.blocks f.held).store f.number (λ g. can_seal held g mark.moment mark.sum) one found
            ∙ can in
            let header : header_at held (came f.blocks f.held).store f.number ≡ mark.header =
            header_found held (came f.blocks f.held).store f.number one found ∙ sym says.2 in
            let sealed_one : sealed mark one ≡ f = ap (λ (o : Option Seal). record f { seal = o }) (sym some) in
            walks_first (came f.blocks f.held) (made (done ++ f ∷ []) (f.number + 1)) now
            (seal f.number mark.moment mark.sum) []
            (number_fits, fit.0, fit.1) ok
            (ap (λ (files : List Placed). made files (f.number + 1))
            (ap (λ (n : ℕ). map (changed f.number (sealed (seal_with mark.moment mark.sum n))) (done ++ one ∷ []))
            header
            ∙ changed_last f.number (sealed mark) done one below refl
            ∙ ap (λ (g : Placed). done ++ g ∷ []) sealed_one))
            then

    -- so the file is made
    file_made :
        (least : ℕ) → least ≤ f.number
        → Walks (made done least) (commands_of f) (made (done ++ f ∷ []) (f.number + 1))
    file_made least le =
        begins least (grows_in f.number f.held f.blocks ++ seals_in f.number f.seal)
        (made (done ++ f ∷ []) (f.number + 1)) le
        (grows [] f.blocks 0 f.held (seals_in f.number f.seal) (made (done ++ f ∷ []) (f.number + 1)) refl (omega arith)
        file_is.count (λ some. refl) (seals (made (done ++ f ∷ []) (f.number + 1)) refl))

  -- and so are all
  files_made :
      (done files : List Placed) (least : ℕ) → store.entries ≡ done ++ files → Below least done
      → Rise least files store.next
      → (last : ℕ) × Walks (made done least) (commands_in files) (made store.entries last)
  files_made done [] least all below rise =
      (least, ap (λ (fs : List Placed). made fs least) (all ∙ append-nil done))
  files_made done (f ∷ fs) least all below rise =
      let here = file_made done f fs all (below_weaker least f.number done rise.0 below) rise.1 least rise.0 in
      let rest =
      files_made (done ++ f ∷ []) fs (f.number + 1) (all ∙ sym (append_assoc done (f ∷ []) fs))
      (below_push least done f below rise.0) rise.2 in (
        rest.0,
        walks_then (made done least) (made (done ++ f ∷ []) (f.number + 1)) (made store.entries rest.0)
            (commands_of f) (commands_in fs) here rest.1,
      )
    where
      below_weaker : (low high : ℕ) (files : List Placed) → low ≤ high → Below low files → Below high files
      below_weaker low high [] le b = tt
      below_weaker low high (d ∷ ds) le b = (omega (arith, le, b.0), below_weaker low high ds le b.1)

  -- The records that rebuild it do.
  pub makes_anew :
      (now : ReadStore) × Takes (read_step held) (nothing_read store.blocks) (anew_records store) now
      × (now.store ≡ store)
  makes_anew =
      let next = next_is store.next in
      let some : nat_le 1 store.next ≡ true = le-leb _ _ is.next in
      let files = files_made [] store.entries 1 refl tt is.numbers in (
        made store.entries files.0,
        (
          made [] 1,
          steps (is_recordable held) (after_recorded held) (nothing_read store.blocks) next
              (recorded_in (record_of_recorded next)) (recorded_written next (omega (arith, fits.next)))
              some,
          files.1,
        ),
        refl,
      )
