-- What commands make of the octets got of a file.
use Rattle.std.proofs.Common.{◌≡◌, ℕ, ◌+◌, ◌<◌, ◌≤◌, Bool, true, false, not, List, [], ◌∷◌, ◌++◌, length, filter, Option, None, Some, get_or, refl, sym, ◌∙◌, ap, arith, eq-eqb}
use Rattle.std.proofs.lemmas.List.Sums.{position_or_len_is}
use Rattle.client_notes.proofs.Names.{IsTrue, find, nat_le, nat_lt, slice_get, bytes_eq, position, position_or_len, set, nat_tests, get_or-set_other, get_or-set_same, length-set, find-append, find_at, position-Some, same_Some, slice_get-get_or, slice_get_past, bytes_eq-Decides, CallSign, longest_file, after, forgot, got, got_file, is_allowed, with_got, with_got_at, with_octets, GotFile, Lists, got_of, is_file_of, is_same_call, octets_or_none}
use Rattle.client_notes.proofs.ListLemmas.{got-there, with-got}

-- where no element passes none is found
none-found : {X : Type 0} (p : X → Bool) (xs : List X) → position p xs ≡ None → find p xs ≡ None
none-found p xs is = by (nat_lt (position_or_len p xs) (length xs)) refl
  where
    by : (b : Bool) → nat_lt (position_or_len p xs) (length xs) ≡ b → find p xs ≡ None
    by true h = absurd (let some = rw h at is in cc)
    by false h = find_at p xs ∙ slice_get_past xs (position_or_len p xs) (grind (arith, nat_tests))

-- none is found where those that pass are left out
pub left_out : {X : Type 0} (p : X → Bool) (xs : List X) → find p (filter (λ x. not (p x)) xs) ≡ None
left_out p [] = refl
left_out {X = X} p (x ∷ xs) = by (p x) refl (left_out p xs)
  where
    by : (b : Bool) → p x ≡ b → find p (filter (λ (y : X). not (p y)) xs) ≡ None → find p (filter (λ (y : X). not (p y)) (x ∷ xs)) ≡ None
    by true is rest = rw is rest
    by false is rest = rw (is, is) rest

-- an element at a place, whatever stands for none
same_get_or : {X : Type 0} (xs : List X) (i : ℕ) (d e : X) → i < length xs → get_or xs i d ≡ get_or xs i e
same_get_or xs i d e within = same_Some _ _ (sym (slice_get-get_or xs i d within) ∙ slice_get-get_or xs i e within)

-- the same call
same-octets : (xs : List ℕ) → bytes_eq xs xs ≡ true
same-octets xs = (bytes_eq-Decides xs xs).1 refl

is-same : (call : CallSign) → is_same_call call call ≡ true
is-same call = rw (same-octets call.chars) (eq-eqb call.ssid call.ssid refl)

-- the file of a server and a number
is-its : (server : CallSign) (number : ℕ) (octets : List ℕ) → is_file_of server number (got_file server number octets) ≡ true
is-its server number octets = rw (is-same server) (eq-eqb number number refl)

module _ (server : CallSign) (number : ℕ) (octets : List ℕ) (files : List GotFile) where
  more-new : position (is_file_of server number) files ≡ None
      → octets_or_none (find (is_file_of server number) (files ++ got_file server number octets ∷ [])) ≡ octets_or_none (find (is_file_of server number) files) ++ octets
  more-new at =
      let none = none-found (is_file_of server number) files at in
      rw (find-append (is_file_of server number) files (got_file server number octets ∷ []), none, is-its server number octets) refl

  more-there : (place : ℕ) (file : GotFile) → position (is_file_of server number) files ≡ Some place → get_or files place file ≡ file
      → octets_or_none (find (is_file_of server number) (with_got server number octets files)) ≡ octets_or_none (find (is_file_of server number) files) ++ octets
  more-there place file at is =
      let test : GotFile → Bool = is_file_of server number in
      let now : GotFile = with_octets octets file in
      let some = position-Some test files place file at in
      let within : place < length files = some.0 in
      let passes : test file ≡ true = ap test (sym is) ∙ some.1 in
      let same : length (set files place now) ≡ length files = length-set files place now in
      let first : position_or_len test (set files place now) ≡ place =
      position_or_len_is test (set files place now) place file (omega arith)
      (λ k below. ap test (get_or-set_other files place k now file (omega arith)) ∙ some.2 k below)
      (λ _. ap test (get_or-set_same files place now file within) ∙ passes) in
      let found : find test (set files place now) ≡ Some now =
      find_at test (set files place now) ∙ ap (slice_get (set files place now)) first ∙ slice_get-get_or (set files place now) place file (omega arith) ∙ ap Some (get_or-set_same files place now file within) in
      ap (λ (fs : List GotFile). octets_or_none (find test fs)) (sym (with-got server number octets files place file at is now refl))
      ∙ ap octets_or_none found
      ∙ ap (λ (os : List ℕ). os ++ octets) (sym (got-there server number octets files place file at is))

  pub got-more : octets_or_none (find (is_file_of server number) (with_got server number octets files)) ≡ octets_or_none (find (is_file_of server number) files) ++ octets
  got-more = by (position (is_file_of server number) files) refl
    where
      by : (o : Option ℕ) → position (is_file_of server number) files ≡ o
          → octets_or_none (find (is_file_of server number) (with_got server number octets files)) ≡ octets_or_none (find (is_file_of server number) files) ++ octets
      by None at = ap (λ o. octets_or_none (find (is_file_of server number) (with_got_at server number octets files o))) at ∙ more-new at
      by (Some place) at =
          let some = position-Some (is_file_of server number) files place (got_file server number octets) at in
          let file : GotFile = get_or files place (got_file server number octets) in
          more-there place file at (sym (same_get_or files place (got_file server number octets) file some.0))

-- the octets got are those before, and these
pub got-append : (lists : Lists) (server : CallSign) (number : ℕ) (octets : List ℕ) → got_of (after lists (got server number octets)) server number ≡ got_of lists server number ++ octets
got-append lists server number octets = got-more server number octets lists.got

pub forgot-none : (lists : Lists) (server : CallSign) (number : ℕ) → got_of (after lists (forgot server number)) server number ≡ []
forgot-none lists server number = ap octets_or_none (left_out (is_file_of server number) lists.got)

-- octets that may be got
pub got-allowed : (lists : Lists) (server : CallSign) (number : ℕ) (octets : List ℕ) → 1 ≤ number → 1 ≤ length octets → length octets ≤ 512
    → length (got_of lists server number) + length octets ≤ longest_file → IsTrue (is_allowed lists (got server number octets))
got-allowed lists server number octets some least most fits =
    let first : nat_lt 0 number ≡ true = grind (arith, nat_tests) in
    let second : nat_le 1 (length octets) ≡ true = grind (arith, nat_tests) in
    let third : nat_le (length octets) 512 ≡ true = grind (arith, nat_tests) in
    let fourth : nat_le (length (got_of lists server number) + length octets) longest_file ≡ true = grind (arith, nat_tests) in
    rw (first, second, third, fourth) refl
