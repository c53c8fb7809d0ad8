-- The rows of UPLOAD_CMD, DATA and DATA_END, as the code meets them.
use Rattle.std.proofs.Common.{◌≡◌, ◌≢◌, ◌⊎◌, ℕ, ◌+◌, ◌-◌, ◌≤◌, ◌<◌, Bool, ◌&&◌, List, [], ◌∷◌, ◌++◌, length, refl, true, false, arith, length-append, sym, ap, ap₂, ◌∙◌, eq-eqb, inl, inr, Option, None, Some, true≢false, ◌==◌}
use Rattle.file_store.specs.BeginBar.TheVariants as bar
use Rattle.file_store.specs.Limits.{last_next, longest_file, most_entries}
use Rattle.ftl0_session.specs.Uploads.Session.{is_same_call, refused_row}
use Rattle.ftl0_session.proofs.Names.{Decides-eqb, nat_tests, eqb_tells, bytes_eq-Decides, find, Ok, nat_le, nat_lt, nat_eq, bytes_eq, CallSign, fault_code, data_end, data_part, ul_nak_resp, upload_cmd, Bars, BeginBar, MayBegin, can_begin, has_room, passes, is_complete, IsStore, Entry, Store, blocks_for, blocks_of, entry_of, octets_at, octets_of, partial, found-fits, has_number, StoreState, rest_in, Upload, aborting, command, continue_row, granted_row, is_all, is_theirs, receiving, resumed_row, row_by_read, session_row, taken_row, unread_row, whole_row, receiving_of}

-- ---- a new file

-- Command, a new file that may be begun
pub row-granted : (caller : CallSign) (moment : ℕ) (store : Store) (len : ℕ) → can_begin store len ≡ true
    → session_row caller moment store command (Ok (upload_cmd 0 len)) ≡ Some (granted_row caller moment store.next len)
unfolding session_row
row-granted caller moment store len can = rw can refl

-- and one that may not
pub row-barred : (caller : CallSign) (moment : ℕ) (store : Store) (len : ℕ) → can_begin store len ≡ false
    → session_row caller moment store command (Ok (upload_cmd 0 len)) ≡ Some (refused_row command 13)
unfolding session_row
row-barred caller moment store len can = rw can refl

four : (a b c d : Bool) → a ≡ true → b ≡ true → c ≡ true → d ≡ true → a && b && c && d ≡ true
four a b c d ea eb ec ed = rw (ea, eb, ec, ed) refl

not_first : (a b c d : Bool) → a ≡ false → a && b && c && d ≡ false
not_first a b c d ea = rw ea refl

not_second : (a b c d : Bool) → a ≡ true → b ≡ false → a && b && c && d ≡ false
not_second a b c d ea eb = rw (ea, eb) refl

not_third : (a b c d : Bool) → a ≡ true → b ≡ true → c ≡ false → a && b && c && d ≡ false
not_third a b c d ea eb ec = rw (ea, eb, ec) refl

not_fourth : (a b c d : Bool) → a ≡ true → b ≡ true → c ≡ true → d ≡ false → a && b && c && d ≡ false
not_fourth a b c d ea eb ec ed = rw (ea, eb, ec, ed) refl

module _ (store : Store) (len : ℕ) where
  short : len ≤ longest_file → nat_le len longest_file ≡ true
  short h = grind (arith, nat_tests)

  few : length store.entries < most_entries → nat_lt (length store.entries) most_entries ≡ true
  few h = grind (arith, nat_tests)

  left : store.next < last_next → nat_lt store.next last_next ≡ true
  left h = grind (arith, nat_tests)

  -- a file may be begun if no cause bars it
  pub may-can : IsStore store → MayBegin store len → can_begin store len ≡ true
  may-can is may =
      let blocks : blocks_of store ≤ store.blocks = is.blocks in
      let room : blocks_for len ≤ store.blocks - blocks_of store = may.room in
      let test : nat_le (blocks_of store + blocks_for len) store.blocks ≡ true = grind (arith, nat_tests) in
      four _ _ _ _ (short may.short) (few may.few) (left may.left) test

  -- and not if one does
  pub bars-cannot : (cause : BeginBar) → Bars cause store len → can_begin store len ≡ false
  bars-cannot bar.TooLong h =
      let past : longest_file < len = h in
      let test : nat_le len longest_file ≡ false = grind (arith, nat_tests) in
      not_first _ _ _ _ test
  bars-cannot bar.TooMany h =
      let many : most_entries ≤ length store.entries = h.1 in
      let test : nat_lt (length store.entries) most_entries ≡ false = grind (arith, nat_tests) in
      not_second _ _ _ _ (short h.0) test
  bars-cannot bar.NumbersGone h =
      let last : store.next ≡ last_next = h.2 in
      let test : nat_lt store.next last_next ≡ false = grind (arith, nat_tests) in
      not_third _ _ _ _ (short h.0) (few h.1) test
  bars-cannot (bar.NoRoom blocks free) h =
      let room : store.blocks - blocks_of store < blocks_for len = h.3 in
      let test : nat_le (blocks_of store + blocks_for len) store.blocks ≡ false = grind (arith, nat_tests) in
      not_fourth _ _ _ _ (short h.0) (few h.1) (left h.2) test

-- no entry has the number that comes next
pub below-next : (store : Store) (number : ℕ) (e : Entry) → IsStore store → entry_of store number ≡ Some e → number ≢ store.next
below-next store number e is found same =
    let below : number < store.next = (found-fits number 1 store.next store.entries e is.entries found).2 in
    absurd (omega (arith, same))

-- the entries after a file is begun
pub push-back : (entries : List Entry) (new : Entry) (number : ℕ) (e : Entry) → find (has_number number) (entries ++ new ∷ []) ≡ Some e
    → (find (has_number number) entries ≡ Some e) ⊎ ((number ≡ new.number) × (e ≡ new))
push-back [] new number e found =
    elim (eqb_tells new.number number) [
      | inl w ↦ inr (sym w.1, let f = rw w.0 at found in cc)
      | inr w ↦ absurd (let f = rw w.0 at found in cc)
    ]
push-back (x ∷ xs) new number e found =
    elim (eqb_tells x.number number) [
      | inl w ↦ inl (rw w.0 (rw w.0 at found))
      | inr w ↦
          let later : (find (has_number number) xs ≡ Some e) ⊎ ((number ≡ new.number) × (e ≡ new)) = push-back xs new number e (rw w.0 at found) in
          elim later [
            | inl here ↦ inl (rw w.0 here)
            | inr there ↦ inr there
          ]
    ]

-- ---- a file that goes on

-- Command, a file with a number
pub row-number : (caller : CallSign) (moment : ℕ) (store : Store) (number len : ℕ) → number ≢ 0
    → session_row caller moment store command (Ok (upload_cmd number len)) ≡ Some (continue_row caller number len (entry_of store number))
unfolding session_row
row-number caller moment store number len other =
    let test : nat_eq number 0 ≡ false = grind (arith, nat_tests) in rw test refl

both-decide : (a b : Bool) {P Q : Type 0} → (a ≡ true → P) × (P → a ≡ true) → (b ≡ true → Q) × (Q → b ≡ true) → (a && b ≡ true → P × Q) × (P × Q → a && b ≡ true)
both-decide true b first second = (λ h. (first.0 refl, second.0 h), λ pq. second.1 pq.1)
both-decide false b first second = (λ h. absurd (true≢false (sym h)), λ pq. absurd (true≢false (sym (first.1 pq.0))))

-- whether two calls are the same
pub same_call-decides : (one other : CallSign) → (is_same_call one other ≡ true → one ≡ other) × (one ≡ other → is_same_call one other ≡ true)
same_call-decides one other =
    let both = both-decide (bytes_eq one.chars other.chars) (one.ssid == other.ssid) (bytes_eq-Decides one.chars other.chars) (Decides-eqb one.ssid other.ssid) in (
      λ h. let parts = both.0 h in ap₂ (λ (chars : List ℕ) (ssid : ℕ). record { chars = chars; ssid = ssid }) parts.0 parts.1,
      λ same. both.1 (ap (λ (c : CallSign). c.chars) same, ap (λ (c : CallSign). c.ssid) same),
    )

-- whether an entry is of this caller and length
pub theirs-decides : (caller : CallSign) (len : ℕ) (e : Entry)
    → (is_theirs caller len e ≡ true → (e.caller ≡ caller) × (e.length ≡ len)) × ((e.caller ≡ caller) × (e.length ≡ len) → is_theirs caller len e ≡ true)
theirs-decides caller len e = both-decide (is_same_call e.caller caller) (e.length == len) (same_call-decides e.caller caller) (Decides-eqb e.length len)

never_true : (b : Bool) → (b ≡ true → ⊥) → b ≡ false
never_true true h = absurd (h refl)
never_true false h = refl

module _ (caller : CallSign) (moment : ℕ) (number len : ℕ) (some : number ≢ 0) where
  pub row-no_such : (store : Store) → entry_of store number ≡ None → session_row caller moment store command (Ok (upload_cmd number len)) ≡ Some (refused_row command 4)
  row-no_such store none = row-number caller moment store number len some ∙ ap (λ (o : Option Entry). Some (continue_row caller number len o)) none

  continued : (store : Store) (e : Entry) → entry_of store number ≡ Some e
      → session_row caller moment store command (Ok (upload_cmd number len)) ≡ Some (continue_row caller number len (Some e))
  continued store e found = row-number caller moment store number len some ∙ ap (λ (o : Option Entry). Some (continue_row caller number len o)) found

  pub row-bad : (store : Store) (e : Entry) → entry_of store number ≡ Some e → ((e.caller ≡ caller) × (e.length ≡ len) → ⊥)
      → session_row caller moment store command (Ok (upload_cmd number len)) ≡ Some (refused_row command 2)
  row-bad store e found others =
      let test : is_theirs caller len e ≡ false = never_true (is_theirs caller len e) (λ h. others ((theirs-decides caller len e).0 h)) in
      continued store e found ∙ rw test refl

  pub row-whole_already : (store : Store) (e : Entry) → entry_of store number ≡ Some e → e.caller ≡ caller → e.length ≡ len → is_complete e.holding ≡ true
      → session_row caller moment store command (Ok (upload_cmd number len)) ≡ Some (refused_row command 12)
  row-whole_already store e found by long whole =
      let test : is_theirs caller len e ≡ true = (theirs-decides caller len e).1 (by, long) in
      continued store e found ∙ rw (test, whole) refl

  pub row-resumed : (store : Store) (e : Entry) → entry_of store number ≡ Some e → e.caller ≡ caller → e.length ≡ len → is_complete e.holding ≡ false
      → session_row caller moment store command (Ok (upload_cmd number len)) ≡ Some (resumed_row number (length (octets_of e.holding)))
  row-resumed store e found by long partly =
      let test : is_theirs caller len e ≡ true = (theirs-decides caller len e).1 (by, long) in
      continued store e found ∙ rw (test, partly) refl

-- ---- the octets of a file

-- the entry of this number is under way, with these octets held
module _ (caller : CallSign) (moment : ℕ) (store : Store) (number : ℕ) (e : Entry) (held : List ℕ) (found : entry_of store number ≡ Some e) (partly : e.holding ≡ partial held) where
  passes-at : (test : Entry → Bool) (b : Bool) → test e ≡ b → passes test (entry_of store number) ≡ b
  passes-at test b h = ap (passes test) found ∙ h

  -- Receiving, DATA that the file has room for
  pub row-taken : (rest octets : List ℕ) → length held + (length rest + length octets) ≤ e.length
      → session_row caller moment store (receiving number rest) (Ok (data_part octets)) ≡ Some (taken_row number (rest ++ octets))
  unfolding session_row
  row-taken rest octets room =
      let enough : nat_le (length held + length (rest ++ octets)) e.length ≡ true = grind (arith, nat_tests, length-append) in
      let test : passes (λ x. has_room x.holding x.length (length (rest ++ octets))) (entry_of store number) ≡ true =
      passes-at (λ x. has_room x.holding x.length (length (rest ++ octets))) true (rw partly enough) in
      rw test refl

  -- and more DATA than that
  pub row-too_much : (rest octets : List ℕ) → e.length < length held + (length rest + length octets)
      → session_row caller moment store (receiving number rest) (Ok (data_part octets)) ≡ Some (record { state = aborting; commands = []; replies = ul_nak_resp 1 ∷ [] })
  unfolding session_row
  row-too_much rest octets past =
      let few : nat_le (length held + length (rest ++ octets)) e.length ≡ false = grind (arith, nat_tests, length-append) in
      let test : passes (λ x. has_room x.holding x.length (length (rest ++ octets))) (entry_of store number) ≡ false =
      passes-at (λ x. has_room x.holding x.length (length (rest ++ octets))) false (rw partly few) in
      rw test refl

  count-here : (rest : List ℕ) → length (octets_of e.holding) + length rest ≡ length held + length rest
  count-here rest = ap (λ (h : List ℕ). length h + length rest) (ap octets_of partly)

  all-here : (rest : List ℕ) → length held + length rest ≡ e.length → is_all (entry_of store number) rest ≡ true
  all-here rest all = passes-at (λ x. length (octets_of x.holding) + length rest == x.length) true (eq-eqb _ _ (count-here rest ∙ all))

  -- Receiving, DATA_END after all octets, if a read fails
  pub row-unread : (rest : List ℕ) → length held + length rest ≡ e.length → row_by_read caller moment store (receiving number rest) (Ok data_end) true ≡ Some (unread_row number rest)
  row-unread rest all = rw (all-here rest all) refl

  -- and if none does
  pub row-whole : (rest : List ℕ) (fault : Option ℕ) → length held + length rest ≡ e.length → fault_code (octets_at (entry_of store number) ++ rest) ≡ fault
      → session_row caller moment store (receiving number rest) (Ok data_end) ≡ Some (whole_row moment number rest fault)
  unfolding session_row
  row-whole rest fault all checked =
      rw (all-here rest all) (ap (λ (f : Option ℕ). Some (whole_row moment number rest f)) checked)

  -- and before them
  pub row-short : (rest : List ℕ) → length held + length rest < e.length
      → session_row caller moment store (receiving number rest) (Ok data_end) ≡ Some (record { state = command; commands = []; replies = ul_nak_resp 16 ∷ [] })
  unfolding session_row
  row-short rest few =
      let same = count-here rest in
      let not_all : (length (octets_of e.holding) + length rest == e.length) ≡ false = grind (arith, nat_tests) in
      let test : is_all (entry_of store number) rest ≡ false = passes-at (λ x. length (octets_of x.holding) + length rest == x.length) false not_all in
      rw test refl

-- the state in which an upload's octets come
pub receiving-at : (store : StoreState) (up : Upload) (number : ℕ) (rest : List ℕ) → up.number ≡ number → rest_in store up.number ≡ Some rest
    → receiving_of store up ≡ receiving number rest
receiving-at store up number rest same out = ap₂ receiving same (rw out refl)
