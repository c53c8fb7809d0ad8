-- What got octets make of the list of got files.
use Rattle.std.proofs.Common.{◌≡◌, ℕ, zero, suc, ◌+◌, ◌<◌, ◌≤◌, Bool, true, false, List, [], ◌∷◌, length, Some, get_or, refl, sym, ◌∙◌, ap, arith}
use Rattle.std.specs.Prelude.{◌&&◌}
use borrow.Author.Tests.{leb-true}
use Rattle.client_notes.proofs.Names.{IsTrue, find, nat_le, nat_lt, slice_get, position, set, get_or-set_same, length-set, set-get_or, set-set, take-append-le, take_all, position-Some, same_Some, slice_get-get_or, CallSign, longest_file, cut_to, changed_at, got, is_allowed, is_got_len, set_some, with_got, with_got_at, with_octets, GotFile, Lists, Task, got_of, is_file_of, octets_or_none}

-- the first element that passes, at its place
find_at : {X : Type 0} (p : X → Bool) (xs : List X) (i : ℕ) (d : X) → i < length xs → p (get_or xs i d) ≡ true → ((k : ℕ) → k < i → p (get_or xs k d) ≡ false) → find p xs ≡ Some (get_or xs i d)
find_at p [] i d below here before = absurd (omega arith)
find_at p (x ∷ xs) zero d below here before = rw here refl
find_at p (x ∷ xs) (suc i) d below here before =
    let first : p x ≡ false = before 0 (omega arith) in
    rw first (find_at p xs i d (omega arith) here (λ k h. before (suc k) (omega arith)))

module _ (server : CallSign) (number : ℕ) (octets : List ℕ) (files : List GotFile) (place : ℕ) (file : GotFile) (at : position (is_file_of server number) files ≡ Some place) (is : get_or files place file ≡ file) where
  pub place-within : place < length files
  place-within = (position-Some (is_file_of server number) files place file at).0

  -- what was got of the file
  pub got-there : octets_or_none (find (is_file_of server number) files) ≡ file.octets
  got-there =
      let found = position-Some (is_file_of server number) files place file at in
      ap octets_or_none (find_at (is_file_of server number) files place file found.0 found.1 found.2 ∙ ap (λ (f : GotFile). Some f) is)

  there : slice_get files place ≡ Some file
  there = slice_get-get_or files place file place-within ∙ ap (λ (f : GotFile). Some f) is

  -- the octets behind the others
  pub with-got : (now : GotFile) → now ≡ with_octets octets file → set files place now ≡ with_got server number octets files
  with-got now made =
      sym (ap (with_got_at server number octets files) at ∙ ap (set_some (with_octets octets) files place) there ∙ ap (λ (f : GotFile). set files place f) (sym made))

  cut-back : (now : GotFile) → now ≡ with_octets octets file → cut_to (length file.octets) now ≡ file
  cut-back now made =
      ap (cut_to (length file.octets)) made
      ∙ ap (λ (os : List ℕ). record file { octets = os })
      (take-append-le (length file.octets) file.octets octets (omega arith) ∙ take_all (length file.octets) file.octets (omega arith))

  -- and taken back
  pub back-got : (now : GotFile) → now ≡ with_octets octets file → changed_at place (cut_to (length file.octets)) (set files place now) ≡ files
  back-got now made =
      ap (set_some (cut_to (length file.octets)) (set files place now) place)
      (slice_get-get_or (set files place now) place now (let same = length-set files place now in omega (arith, place-within, same)) ∙ ap (λ (f : GotFile). Some f) (get_or-set_same files place now now place-within))
      ∙ set-set files place now (cut_to (length file.octets) now)
      ∙ ap (λ (f : GotFile). set files place f) (cut-back now made ∙ sym is)
      ∙ set-get_or files place file

-- the same file, however it is read
pub same-file : (files : List GotFile) (place : ℕ) (x y : GotFile) → place < length files → x ≡ get_or files place x → y ≡ get_or files place y → x ≡ y
same-file files place x y within one other =
    one ∙ same_Some _ _ (sym (slice_get-get_or files place x within) ∙ slice_get-get_or files place y within) ∙ sym other

-- the lists by their parts
abbrev pub lists_of : List Task → List GotFile → Lists
lists_of tasks files = record { tasks = tasks; got = files }

second : (a b : Bool) → (a && b) ≡ true → b ≡ true
second true b h = h
second false b h = absurd (cc)

-- octets that may be got fit the file
pub got-fits : (lists : Lists) (server : CallSign) (number : ℕ) (octets : List ℕ) → IsTrue (is_allowed lists (got server number octets)) → length (got_of lists server number) + length octets ≤ longest_file
got-fits lists server number octets ok =
    leb-true (length (got_of lists server number) + length octets) longest_file
    (second (nat_lt 0 number && is_got_len (length octets)) (nat_le (length (got_of lists server number) + length octets) longest_file) ok)
