-- What the commands of one upload keep of the others, and what becomes of it.
use Rattle.std.proofs.Common.{◌≡◌, ◌≢◌, ℕ, ◌+◌, ◌-◌, ◌*◌, ◌/◌, ◌≤◌, List, [], ◌∷◌, ◌++◌, length, take, drop, replicate, Option, None, Some, inl, inr, refl, sym, ◌∙◌, ap, subst, arith, length-append, length-drop}
use Rattle.file_store_blocks.specs.Placed.{has_number}
use Rattle.file_store.proofs.Names.{find, option_and_then, option_map, eqb_tells, nat_tests, length-replicate, length-take-le, Ghosts, placed_of, KeepsRests, PlacedFile, PlacedFiles, entries_of, file_of, octets_or_none, rest_of, store_of, CallSign, Command, after, after_all, begin, grown, grows, IsStore, Store, entry_of, new_entry, partial, find-append_found, find-map-changed, find-push, find_past, grows-after, has_number as has_entry_number, ChangesEntry, KeepsOtherFiles, KeepsOthers, KeepsUploads, OnlyChanges, after_first, outlined_all, StandsOn, StoreState, rest_in, store_in, FillsBlock, FitsBytes, FitsWaiting, Holds, IsWholeWaiting, Upload, appended, appending, came, entry_for, new_upload, waiting, waiting_with, with_bytes}
use Rattle.file_store.proofs.GrowsLemmas.{AreGrows, grows-are, outlined-grows}
use Rattle.file_store.proofs.OnLemmas.{in_parked, stands_parked}
use Rattle.file_store.proofs.OnlyLemmas.{only-changes, only-complete, only-first, only-same}

pub appending-are : (self : StoreState) (up : Upload) (bytes : List ℕ) → AreGrows up.number (appending self up bytes)
appending-are self up bytes = grows-are up.number (length (with_bytes self up bytes) / 512) (with_bytes self up bytes)

-- ---- what a call keeps

pub only-uploads : (old new : StoreState) (number : ℕ) → OnlyChanges (store_in old) (store_in new) number → KeepsRests old.files new.files number → KeepsOthers old new number
only-uploads old new number only rests other ne h = record {
  begun = h.begun;
  held = h.held;
  entry = only.others other.number ne ∙ h.entry;
  count = h.count;
  rest = h.rest;
  out = rests other.number ne ∙ h.out;
  few = h.few;
  came = h.came;
}

pub only-keeps : {D : Type 0} (g : Ghosts D) (old new : StoreState) (disk_now : D) (up : Upload) → Holds old up → StandsOn g new disk_now → KeepsRests old.files new.files up.number
    → OnlyChanges (store_in old) (store_in new) up.number → KeepsOtherFiles g old new disk_now up.number
only-keeps g old new disk_now up h stands rests only = record {
  stands_on = stands;
  uploads = only-uploads old new up.number only rests;
  rests = rests;
  kept = only-complete up.number (store_in old) (store_in new) _ h.held h.entry refl only;
  entries = only-changes up.number (store_in old) (store_in new) only;
  only = only;
}

module _ {D : Type 0} (g : Ghosts D) (old new : StoreState) (disk_now : D) (commands : List Command) (up : Upload) (h : Holds old up) (are : AreGrows up.number commands)
    (part : (count : ℕ) × (store_in new ≡ after_first count (store_in old) (outlined_all commands))) where
  pub does-keeps : StandsOn g new disk_now → KeepsRests old.files new.files up.number → KeepsOtherFiles g old new disk_now up.number
  does-keeps stands rests = only-keeps g old new disk_now up h stands rests (only-first (store_in old) (store_in new) up.number commands are part)

pub changes-same : (number : ℕ) (before now : Store) → now ≡ before → ChangesEntry before now number
changes-same number before now same other entry found = (entry, ap (λ (s : Store). entry_of s other) (sym same) ∙ found, refl, λ ne. refl)

-- a call that changes no entry keeps them
pub keeps-parked : {D : Type 0} (g : Ghosts D) (old new : StoreState) (disk : D) (number : ℕ) → store_of new.files ≡ store_of old.files → new.journal ≡ old.journal → StandsOn g old disk
    → KeepsRests old.files new.files number → KeepsOtherFiles g old new disk number
keeps-parked g old new disk number same journal stands rests =
    let only = only-same number (store_in old) (store_in new) (in_parked old new same) in
    record {
      stands_on = stands_parked g old new disk same journal stands;
      uploads = only-uploads old new number only rests;
      rests = rests;
      kept = λ other entry found whole. ap (λ (s : Store). entry_of s other) (in_parked old new same) ∙ found;
      entries = only-changes number (store_in old) (store_in new) only;
      only = only;
    }

-- ---- octets that come

pub waiting-is : (self : StoreState) (up : Upload) (h : Holds self up) → waiting self up ≡ h.rest
waiting-is self up h = ap octets_or_none h.out

-- the upload's entry, and what waits of it
abbrev pub holds-fits : (self : StoreState) (up : Upload) (number : ℕ) → number ≡ up.number → Holds self up → FitsWaiting self number
holds-fits self up number same h =
    let count = h.count in
    let came = h.came in
    record {
      entry = entry_for up h.begun (partial h.held);
      is_entry = ap (λ (n : ℕ). entry_of (store_in self) n) same ∙ h.entry;
      held = h.held;
      partial_is = refl;
      rest = h.rest;
      out = ap (λ (n : ℕ). rest_in self n) same ∙ h.out;
      fits = omega arith;
    }

-- it has room for those that come too
pub bytes-fit : (self : StoreState) (up : Upload) (bytes : List ℕ) (number : ℕ) → number ≡ up.number → Holds self up → came self up + length bytes ≤ up.length → FitsBytes self number bytes
bytes-fit self up bytes number same h room =
    let sum = length-append h.rest bytes in
    record { waits = holds-fits self up number same h; few = h.few; fits = omega (arith, room, h.count, ap length (waiting-is self up h), sum) }

-- how many blocks they fill
pub blocks-come : (self : StoreState) (number : ℕ) (waits bytes : List ℕ) → waits ≡ octets_or_none (rest_in self number) → (length waits + length bytes) / 512 ≡ length (waiting_with self number bytes) / 512
blocks-come self number waits bytes same =
    ap (λ (n : ℕ). n / 512) (sym (length-append waits bytes)) ∙ ap (λ (w : List ℕ). length (w ++ bytes) / 512) same

-- the upload with the blocks that became held
pub appended-holds : (self new : StoreState) (up : Upload) (bytes : List ℕ) → Holds self up → came self up + length bytes ≤ up.length
    → store_in new ≡ after_all (store_in self) (outlined_all (appending self up bytes)) → rest_in new up.number ≡ Some (drop (512 * (length (with_bytes self up bytes) / 512)) (with_bytes self up bytes))
    → Holds new (appended self up bytes)
appended-holds self new up bytes h room made rest =
    let all : List ℕ = with_bytes self up bytes in
    let zeros : List ℕ = replicate (length all) 0 in
    let n : ℕ = length all / 512 in
    let front : List ℕ = take (512 * n) zeros in
    let long : length (waiting self up) ≡ length h.rest = ap length (waiting-is self up h) in
    let sum : length all ≡ length (waiting self up) + length bytes = length-append (waiting self up) bytes in
    let zeros_long : length zeros ≡ length all = length-replicate {A = ℕ} (length all) 0 in
    let front_long : length front ≡ 512 * n = length-take-le (512 * n) zeros (omega arith) in
    let left : length (drop (512 * n) all) ≡ length all - 512 * n = length-drop (512 * n) all in
    let grown_is : store_in new ≡ after_all (store_in self) (grows up.number n zeros) =
    made ∙ ap (after_all (store_in self)) (outlined-grows up.number n all) in
    record {
      begun = h.begun;
      held = h.held ++ front;
      entry = ap (λ (s : Store). entry_of s up.number) (grown_is ∙ grows-after up.number n zeros (store_in self)) ∙ find-map-changed up.number (grown front) (store_in self).entries _ h.entry;
      count = length-append h.held front ∙ ap (λ (k : ℕ). k + length front) h.count ∙ ap (λ (k : ℕ). up.held + k) front_long;
      rest = drop (512 * n) all;
      out = rest;
      few = omega arith;
      came = omega arith;
    }

-- ---- the end

-- all octets came
abbrev pub whole-waiting : (self : StoreState) (up : Upload) (number : ℕ) → number ≡ up.number → Holds self up → came self up ≡ up.length → IsWholeWaiting self number
whole-waiting self up number same h all =
    record { waits = holds-fits self up number same h; few = h.few; all = omega (arith, all, h.count, ap length (waiting-is self up h)) }

-- those that wait are all that the file lacks
pub whole-fills : (self : StoreState) (number count : ℕ) → IsWholeWaiting self number → 1 ≤ count → count ≡ length (octets_or_none (rest_in self number)) → FillsBlock self number count
whole-fills self number count whole some all =
    let long : length (octets_or_none (rest_in self number)) ≡ length whole.waits.rest = ap (λ (o : Option (List ℕ)). length (octets_or_none o)) whole.waits.out in
    let few = whole.few in
    let full = whole.all in
    record { waits = whole.waits; some = some; most = omega arith; all = omega arith; fills = inr (omega arith) }

-- ---- a file that was just begun

pub begun-entry : (store : Store) (caller : CallSign) (file_length moment : ℕ) → IsStore store
    → entry_of (after store (begin store.next caller file_length moment)) store.next ≡ Some (new_entry store.next caller file_length moment)
begun-entry store caller file_length moment is =
    find-push (has_entry_number store.next) store.entries _ (find_past store.next 1 store.next store.entries is.entries (omega arith)) (grind (arith, nat_tests))

find-files : (number : ℕ) (files : List PlacedFile) → find (has_number number) (entries_of files) ≡ option_map (λ f. f.entry) (file_of files number)
find-files number [] = refl
find-files number (f ∷ fs) =
    elim (eqb_tells f.entry.number number) [
      | inl w ↦ rw w.0 refl
      | inr w ↦ rw w.0 (find-files number fs)
    ]

-- no upload of a number without an entry is out
pub rest-none : (files : PlacedFiles) (number : ℕ) → placed_of (store_of files) number ≡ None → rest_of files number ≡ None
rest-none files number none = by (file_of files.files number) refl
  where
    by : (o : Option PlacedFile) → file_of files.files number ≡ o → rest_of files number ≡ None
    by None is = ap (option_and_then (λ (f : PlacedFile). f.rest)) is
    by (Some file) is =
        let there : placed_of (store_of files) number ≡ Some file.entry = find-files number files.files ∙ ap (option_map (λ (f : PlacedFile). f.entry)) is in
        absurd (cc (sym there ∙ none))

pub begun-holds : (self new : StoreState) (caller : CallSign) (file_length moment : ℕ) → IsStore (store_in self)
    → store_in new ≡ after (store_in self) (begin (store_in self).next caller file_length moment) → rest_in new (store_in self).next ≡ Some []
    → Holds new (new_upload (store_in self).next caller file_length)
begun-holds self new caller file_length moment is made rest = record {
  begun = moment;
  held = [];
  entry = ap (λ (s : Store). entry_of s (store_in self).next) made ∙ begun-entry (store_in self) caller file_length moment is;
  count = refl;
  rest = [];
  out = rest;
  few = omega arith;
  came = omega arith;
}

pub begun-uploads : (self new : StoreState) (caller : CallSign) (file_length moment : ℕ) → IsStore (store_in self)
    → store_in new ≡ after (store_in self) (begin (store_in self).next caller file_length moment) → KeepsRests self.files new.files (store_in self).next → KeepsUploads self new
begun-uploads self new caller file_length moment is made rests other h =
    let ne : other.number ≢ (store_in self).next = λ same.
    let none = find_past (store_in self).next 1 (store_in self).next (store_in self).entries is.entries (omega arith) in
    let there = subst (λ (n : ℕ). entry_of (store_in self) n ≡ Some (entry_for other h.begun (partial h.held))) same h.entry in
    cc (sym there ∙ none) in
    record {
      begun = h.begun;
      held = h.held;
      entry = ap (λ (s : Store). entry_of s other.number) made ∙ find-append_found (has_entry_number other.number) (store_in self).entries _ _ h.entry;
      count = h.count;
      rest = h.rest;
      out = rests other.number ne ∙ h.out;
      few = h.few;
      came = h.came;
    }
