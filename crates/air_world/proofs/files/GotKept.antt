-- What a client's notes keep as they note octets that it got of a file.
use Rattle.std.proofs.Common.{◌≡◌, ◌≢◌, ⊎_elim, ℕ, zero, suc, ◌+◌, ◌*◌, ◌/◌, ◌≤◌, ◌==◌, List, [], ◌∷◌, ◌++◌, length}
use Rattle.std.proofs.Common.{map, take, drop, refl, ap, sym, ◌∙◌, subst, ◌&&◌, Bool, true, false, None, Some, arith}
use Rattle.std.proofs.Common.{append_assoc, append-nil, length-append, take-append-drop}
use Rattle.ftl0_packets.proofs.SplitLemmas.{octets_front}
use Rattle.client_notes.specs.Command.{after, got as got_command}
use Rattle.client_notes.specs.Several as notes
use Rattle.air_world.proofs.files.Names.{concat, eqb_tells, nat_tests, drop-drop, nil_from_length, CallSign, IsFront, IsOctets, IsFaultless, fault_code, no_fault, no_front, no_fault-code, Store, file_of, file-complete, NotesCommand, after_all, GotFile, Lists, got_of, is_same_call, got-append, tasks_law, gots, last_got, unnoted, whole_gots, Asked, Party, AreFirstIfAny, HasFacts, HasNumber, got, IsSoundStore}
use Rattle.air_world.proofs.files.FileOctets.{octets-entry}
use Rattle.air_world.proofs.files.JobNotes.{NotesKept, NumberIn}
use Rattle.air_world.proofs.files.ShortOctets.{whole-fault}

-- ---- pieces that are noted, one after another

-- one Got of each
abbrev pub piece_gots : CallSign → ℕ → List (List ℕ) → List NotesCommand
piece_gots server number pieces = map (got_command server number) pieces

module _ (server : CallSign) (number : ℕ) where
  -- they are noted after those of before
  pub noted-after : (pieces : List (List ℕ)) (lists : Lists)
      → got_of (after_all lists (piece_gots server number pieces)) server number ≡ got_of lists server number ++ concat
      pieces
  noted-after [] lists = sym (append-nil (got_of lists server number))
  noted-after (piece ∷ pieces) lists =
      noted-after pieces (after lists (got_command server number piece))
      ∙ ap (λ (l : List ℕ). l ++ concat pieces) (got-append lists server number piece)
      ∙ append_assoc (got_of lists server number) piece (concat pieces)

  -- of no other file
  other-file : (other : ℕ) → other ≢ number → (b : Bool) → (b && (number == other)) ≡ false
  other-file other different false = refl
  other-file other different true = grind (arith, nat_tests, different)

  noted-other : (pieces : List (List ℕ)) (lists : Lists) (other : ℕ) → other ≢ number
      → got_of (after_all lists (piece_gots server number pieces)) server other ≡ got_of lists server other
  noted-other [] lists other different = refl
  noted-other (piece ∷ pieces) lists other different =
      noted-other pieces (after lists (got_command server number piece)) other different
      ∙ tasks_law.got lists (got_command server number piece) server other
      ∙ rw (other-file other different (is_same_call server server)) refl

  -- and no task changes
  noted-tasks : (pieces : List (List ℕ)) (lists : Lists)
      → (files : List GotFile) × (after_all lists (piece_gots server number pieces) ≡ record lists { got = files })
  noted-tasks [] lists = (lists.got, refl)
  noted-tasks (piece ∷ pieces) lists = noted-tasks pieces (after lists (got_command server number piece))

  -- the pieces of 512 octets, this number of them
  abbrev blocks : ℕ → List ℕ → List (List ℕ)
  blocks zero octets = []
  blocks (suc n) octets = take 512 octets ∷ blocks n (drop 512 octets)

  gots-pieces : (n : ℕ) (octets : List ℕ) → gots server number n octets ≡ piece_gots server number (blocks n octets)
  gots-pieces zero octets = refl
  gots-pieces (suc n) octets =
      ap (λ (l : List NotesCommand). got_command server number (take 512 octets) ∷ l) (gots-pieces n (drop 512 octets))

  blocks-all : (n : ℕ) (octets : List ℕ) → concat (blocks n octets) ++ drop (512 * n) octets ≡ octets
  blocks-all zero octets = refl
  blocks-all (suc n) octets =
      let step : 512 + 512 * n ≡ 512 * suc n = omega arith in
      append_assoc (take 512 octets) (concat (blocks n (drop 512 octets))) (drop (512 * suc n) octets)
      ∙ ap (λ (l : List ℕ). take 512 octets ++ (concat (blocks n (drop 512 octets)) ++ l))
      (ap (λ (k : ℕ). drop k octets) (sym step) ∙ sym (drop-drop (512 * n) 512 octets))
      ∙ ap (λ (l : List ℕ). take 512 octets ++ l) (blocks-all n (drop 512 octets)) ∙ take-append-drop 512 octets

  -- the commands of whole blocks, and of what is left
  pub whole-pieces : (octets : List ℕ)
      → (pieces : List (List ℕ)) × (whole_gots server number octets ≡ piece_gots server number pieces) × (concat
      pieces ++ unnoted octets ≡ octets)
  whole-pieces octets = (
    blocks (length octets / 512) octets,
    gots-pieces (length octets / 512) octets,
    blocks-all
        (length octets / 512) octets,
  )

  pub last-pieces : (octets : List ℕ)
      → (pieces : List (List ℕ)) × (last_got server number octets ≡ piece_gots server number pieces) × (concat
      pieces ≡ octets)
  last-pieces [] = ([], refl, refl)
  last-pieces (octet ∷ octets) = ((octet ∷ octets) ∷ [], refl, append-nil (octet ∷ octets))

  -- the first of them
  first-pieces : (count : ℕ) (pieces : List (List ℕ))
      → take count (piece_gots server number pieces) ≡ piece_gots server number (take count pieces)
  first-pieces zero pieces = refl
  first-pieces (suc count) [] = refl
  first-pieces (suc count) (piece ∷ pieces) =
      ap (λ (l : List NotesCommand). got_command server number piece ∷ l) (first-pieces count pieces)

first-front : (count : ℕ) (pieces : List (List ℕ)) → IsFront (concat (take count pieces)) (concat pieces)
first-front zero pieces = (concat pieces, refl)
first-front (suc count) [] = ([], refl)
first-front (suc count) (piece ∷ pieces) =
    let rest = first-front count pieces in
    (rest.0, ap (λ (l : List ℕ). piece ++ l) rest.1 ∙ sym (append_assoc piece (concat (take count pieces)) rest.0))

-- ---- prefixes of a complete file

append-none : (some more : List ℕ) → some ++ more ≡ some → more ≡ []
append-none some more is = nil_from_length more (omega (arith, ap length is, length-append some more))

none-behind : (some more : List ℕ) → some ++ more ≡ [] → some ≡ []
none-behind [] more is = refl
none-behind (x ∷ some) more is = absurd (cc)

-- what goes before the first of a file is its first, too
pub first-before : (store : Store) (number : ℕ) (some all : List ℕ) → IsFront some all → AreFirstIfAny store number all
    → AreFirstIfAny store number some
first-before store number some all front first any =
    let it = first (λ none. any (none-behind some front.0 (sym front.1 ∙ none))) in (
      it.0,
      it.1,
      (
        front.0 ++ it.2.0,
        it.2.1 ∙ ap (λ (l : List ℕ). l ++ it.2.0) front.1
            ∙ append_assoc some front.0 it.2.0,
      ),
    )

-- A prefix of a complete file that has no fault is the whole.
pub front-whole : (store : Store) (number : ℕ) (file front : List ℕ) → IsSoundStore store
    → file_of store number ≡ Some file → IsFront front file → fault_code front ≡ None → front ≡ file
front-whole store number file front sound is_file is_front none =
    let whole = file-complete store number file is_file in
    let octets : IsOctets file = subst IsOctets whole.1 (octets-entry store number sound) in
    let good : fault_code file ≡ None = ap fault_code (sym whole.1) ∙ whole-fault store number sound whole.0 in
    let all = (no_fault file octets).1 (no_fault-code file good) in
    let parts : IsOctets front = octets_front front is_front.0 (subst IsOctets is_front.1 octets) in
    let some = (no_fault front parts).1 (no_fault-code front none) in
    let more : is_front.0 ≡ [] = no_front all.0 some.0 all.1 some.1 front is_front.0
    (subst (IsFaultless all.0 all.1) is_front.1 all.2) some.2 in
    sym (is_front.1 ∙ ap (λ (l : List ℕ). front ++ l) more ∙ append-nil front)

-- what goes on after octets without a fault is these alone
pub fault-on : (store : Store) (number : ℕ) (some all : List ℕ) → IsSoundStore store → IsFront some all
    → AreFirstIfAny store number all → fault_code some ≡ None → fault_code all ≡ None
fault-on store number [] [] sound front first none = none
fault-on store number (x ∷ some) [] sound front first none = absurd (let f = front.1 in cc)
fault-on store number some (x ∷ all) sound front first none =
    let it = first (λ is. absurd (cc)) in
    let whole : some ≡ it.0 =
    front-whole store number it.0 some sound it.1
    (front.0 ++ it.2.0, it.2.1 ∙ ap (λ (l : List ℕ). l ++ it.2.0) front.1 ∙ append_assoc some front.0 it.2.0)
    none in
    let nothing : front.0 ++ it.2.0 ≡ [] = append-none some (front.0 ++ it.2.0)
    (sym (append_assoc some front.0 it.2.0) ∙ ap (λ (l : List ℕ). l ++ it.2.0) (sym front.1) ∙ sym it.2.1
    ∙ sym whole) in
    let same : (x ∷ all) ≡ some = front.1 ∙ ap (λ (l : List ℕ). some ++ l) (none-behind front.0 it.2.0 nothing)
    ∙ append-nil some in
    ap fault_code same ∙ none

-- ---- the notes

module _ (store : Store) (files : List Asked) (party : Party) (facts : HasFacts store files party)
    (sound : IsSoundStore store) (number : ℕ) where
  abbrev lists : Lists
  lists = party.client.lists

  abbrev server : CallSign
  server = party.client.server

  -- of this file, or of another one
  each-file : (Q : ℕ → Type 0) → Q number → ((other : ℕ) → other ≢ number → Q other) → (other : ℕ) → Q other
  each-file Q one others other =
      ⊎_elim (λ (w : ((other == number) ≡ true) × (other ≡ number)). subst Q (sym w.1) one)
      (λ (w : ((other == number) ≡ false) × (other ≢ number)). others other w.1)
      (eqb_tells other number)

  -- notes with the same tasks, and more octets after those of this file, are kept
  module _ (now : List GotFile) (octets : List ℕ)
      (here : got_of (record lists { got = now }) server number ≡ got party number ++ octets)
      (there : (other : ℕ) → other ≢ number → got_of (record lists { got = now }) server other ≡ got party other)
      (first : AreFirstIfAny store number (got party number ++ octets)) where
    abbrev new : Lists
    new = record lists { got = now }

    was-number : (task of : ℕ) → NumberIn new task of → HasNumber party task of
    was-number task of has =
        record { entry = has.entry; is_entry = has.is_entry; number_is = has.number_is; some = has.some }

    noted-kept : NotesKept store files party new
    noted-kept = record {
      tasks = record { each = λ task entry found. (entry, found, refl); as_many = refl };
      numbers =
          λ task of has. record {
            entry = has.entry;
            is_entry = has.is_entry;
            number_is = has.number_is;
            some = has.some;
          };
      numbered = λ task of file has is. facts.tasks.numbered task of file (was-number task of has) is;
      acknowledged = facts.tasks.acknowledged;
      front =
          each-file (λ n. AreFirstIfAny store n (got_of new server n))
          (subst (AreFirstIfAny store number) (sym here) first)
          (λ other different. subst (AreFirstIfAny store other) (sym (there other different))
          (facts.files_got.got_front other));
      fetched =
          each-file (λ n. fault_code (got party n) ≡ None → fault_code (got_of new server n) ≡ None)
          (λ none. ap fault_code here ∙ fault-on store number (got party number) (got party number ++ octets) sound
          (octets, refl) first none)
          (λ other different none. ap fault_code (there other different) ∙ none);
      longer =
          each-file (λ n. length (got party n) ≤ length (got_of new server n))
          (omega (arith, ap length here, length-append (got party number) octets))
          (λ other different. omega (arith, ap length (there other different)));
    }

  -- so they are once pieces of the file are noted
  pub pieces-kept : (pieces : List (List ℕ)) → AreFirstIfAny store number (got party number ++ concat pieces)
      → NotesKept store files party (after_all lists (piece_gots server number pieces))
  pieces-kept pieces first =
      let are = noted-tasks server number pieces lists in
      subst (NotesKept store files party) (sym are.1)
      (noted-kept are.0 (concat pieces)
      (ap (λ (l : Lists). got_of l server number) (sym are.1) ∙ noted-after server number pieces lists)
      (λ other different. ap (λ (l : Lists). got_of l server other) (sym are.1)
      ∙ noted-other server number pieces lists other different) first)

  -- or the first of them
  pub pieces-fronts : (pieces : List (List ℕ)) → AreFirstIfAny store number (got party number ++ concat pieces)
      → (count : ℕ)
      → NotesKept store files party (notes.after_first count lists (piece_gots server number pieces))
  pieces-fronts pieces first count =
      let front = first-front count pieces in
      let few : IsFront (got party number ++ concat (take count pieces)) (got party number ++ concat pieces) = (
        front.0,
        ap (λ (l : List ℕ). got party number ++ l) front.1
            ∙ sym (append_assoc (got party number) (concat (take count pieces)) front.0),
      ) in
      subst (λ (commands : List NotesCommand). NotesKept store files party (after_all lists commands))
      (sym (first-pieces server number count pieces))
      (pieces-kept (take count pieces)
      (first-before store number (got party number ++ concat (take count pieces))
      (got party number ++ concat pieces) few first))
