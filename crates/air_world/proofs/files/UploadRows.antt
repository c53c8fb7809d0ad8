-- The rows of an upload's packets.
use Rattle.std.proofs.Common.{◌≡◌, ◌⊎◌, inl, inr, ℕ, ◌+◌, ◌≤◌, ◌<◌, ◌==◌, Bool, true, false, not, List, ◌++◌, length}
use Rattle.std.proofs.Common.{refl, ap, sym, ◌∙◌, subst, arith, length-append, Option, None, Some}
use Rattle.std.specs.Prelude.{if◌then◌else◌}
use Rattle.ftl0_session.specs.Uploads.Session as upload
use Rattle.ftl0_session.specs.Uploads.Session.{refused_row, upload_row}
use Rattle.ftl0_session.specs.Uploads.Session.{whole_row}
use Rattle.ftl0_session.proofs.uploads.UploadRows.{theirs-decides}
use Rattle.air_world.proofs.files.Names.{Ok, nat_le, IsTrue, Decides-eqb, nat_tests, CallSign, data_end, data_part, upload_cmd, fault_code, can_begin, has_room, passes, IsCompleteIn, is_complete, Entry, Holding, Store, complete, entry_of, octets_at, octets_of, partial, UploadsLaw, CallerList, by_upload, command, receiving, session_row, begin_row, continue_row, data_row, end_row, granted_row, is_all, is_theirs, resumed_row, taken_row}

-- ---- the rows of the whole table

part-asked : (caller : CallSign) (moment : ℕ) (store : Store) (known file_length : ℕ)
    → upload.session_row caller moment store upload.command (Ok (upload_cmd known file_length)) ≡ Some
    (upload_row caller moment store known file_length)
unfolding upload.session_row
part-asked caller moment store known file_length = refl

part-taken : (caller : CallSign) (moment : ℕ) (store : Store) (number : ℕ) (rest octets : List ℕ)
    → upload.session_row caller moment store (upload.receiving number rest) (Ok (data_part octets)) ≡ Some
    (data_row store number rest octets)
unfolding upload.session_row
part-taken caller moment store number rest octets = refl

part-ended : (caller : CallSign) (moment : ℕ) (store : Store) (number : ℕ) (rest : List ℕ)
    → upload.session_row caller moment store (upload.receiving number rest) (Ok data_end) ≡ Some
    (end_row moment store number rest)
unfolding upload.session_row
part-ended caller moment store number rest = refl

module _ (law : UploadsLaw) (caller : CallSign) (moment : ℕ) (store : Store) (lists : List CallerList) where
  pub row-asked : (known file_length : ℕ)
      → session_row caller moment store lists command (Ok (upload_cmd known file_length)) false
      ≡ by_upload lists (upload_row caller moment store known file_length)
  row-asked known file_length =
      law caller moment store lists upload.command _ false _ (part-asked caller moment store known file_length)

  pub row-taken : (number : ℕ) (rest octets : List ℕ)
      → session_row caller moment store lists (receiving number rest) (Ok (data_part octets)) false
      ≡ by_upload lists (data_row store number rest octets)
  row-taken number rest octets =
      law caller moment store lists (upload.receiving number rest) _ false _
      (part-taken caller moment store number rest octets)

  pub row-ended : (number : ℕ) (rest : List ℕ)
      → session_row caller moment store lists (receiving number rest) (Ok data_end) false
      ≡ by_upload lists (end_row moment store number rest)
  row-ended number rest =
      law caller moment store lists (upload.receiving number rest) _ false _
      (part-ended caller moment store number rest)

-- ---- UPLOAD_CMD

-- The file of this number goes on: it is the caller's, of this length, and this number of octets of it is held.
pub record IsResumed (caller : CallSign) (store : Store) (known file_length : ℕ) (row : upload.Row) : Type 0 where
  pub some : 1 ≤ known
  pub entry : Entry
  pub is_entry : entry_of store known ≡ Some entry
  pub held : List ℕ
  pub holds : entry.holding ≡ partial held
  pub caller_is : entry.caller ≡ caller
  pub length_is : entry.length ≡ file_length
  pub row_is : row ≡ resumed_row known (length held)

-- It was begun with the next number.
pub record IsBegunBy (caller : CallSign) (moment : ℕ) (store : Store) (known file_length : ℕ)
    (row : upload.Row) : Type 0 where
  pub new : known ≡ 0
  pub may : can_begin store file_length ≡ true
  pub row_is : row ≡ granted_row caller moment store.next file_length

-- It was refused: with code 12 only if the file of the number is complete.
pub record IsRefusedBy (store : Store) (known : ℕ) (row : upload.Row) : Type 0 where
  pub code : ℕ
  pub small : code < 256
  pub row_is : row ≡ refused_row upload.command code
  pub complete : code ≡ 12 → IsCompleteIn store known

abbrev pub IsAskedBy : CallSign → ℕ → Store → ℕ → ℕ → upload.Row → Type 0
IsAskedBy caller moment store known file_length row =
    IsRefusedBy store known row ⊎ (IsBegunBy caller moment store known file_length row ⊎ IsResumed caller store known
    file_length row)

module _ (caller : CallSign) (moment : ℕ) (store : Store) (known file_length : ℕ) where
  abbrev Asked : upload.Row → Type 0
  Asked row = IsAskedBy caller moment store known file_length row

  refused-by : (code : ℕ) → code < 256 → (code ≡ 12 → IsCompleteIn store known)
      → Asked (refused_row upload.command code)
  refused-by code small whole = inl (record { code = code; small = small; row_is = refl; complete = whole })

  begins : known ≡ 0 → (b : Bool) → can_begin store file_length ≡ b
      → Asked (if b then granted_row caller moment store.next file_length else refused_row upload.command 13)
  begins new true may = inr (inl (record { new = new; may = may; row_is = refl }))
  begins new false may = refused-by 13 (omega arith) (λ same. absurd (let x : ⊥ = omega (arith, same) in x))

  goes-on-held : (entry : Entry) (holding : Holding) → 1 ≤ known → entry_of store known ≡ Some entry
      → entry.caller ≡ caller → entry.length ≡ file_length
      → entry.holding ≡ holding
      → Asked (if is_complete holding then refused_row upload.command 12 else resumed_row known
      (length (octets_of holding)))
  goes-on-held entry (partial held) some found by long is =
      inr (inr (record {
        some = some;
        entry = entry;
        is_entry = found;
        held = held;
        holds = is;
        caller_is = by;
        length_is = long;
        row_is = refl;
      }))
  goes-on-held entry (complete octets at) some found by long is =
      refused-by 12 (omega arith)
      (λ same. (entry, found, subst (λ (h : Holding). IsTrue (is_complete h)) (sym is) refl))

  goes-on-theirs : (entry : Entry) (b : Bool) → 1 ≤ known → entry_of store known ≡ Some entry
      → is_theirs caller file_length entry ≡ b
      → Asked (if not b then refused_row upload.command 2 else if is_complete entry.holding then refused_row
      upload.command 12 else resumed_row known (length (octets_of entry.holding)))
  goes-on-theirs entry true some found theirs =
      let both = (theirs-decides caller file_length entry).0 theirs in
      goes-on-held entry entry.holding some found both.0 both.1 refl
  goes-on-theirs entry false some found theirs =
      refused-by 2 (omega arith) (λ same. absurd (let x : ⊥ = omega (arith, same) in x))

  goes-on-by : (o : Option Entry) → 1 ≤ known → entry_of store known ≡ o
      → Asked (continue_row caller known file_length o)
  goes-on-by None some gone = refused-by 4 (omega arith) (λ same. absurd (let x : ⊥ = omega (arith, same) in x))
  goes-on-by (Some entry) some found = goes-on-theirs entry (is_theirs caller file_length entry) some found refl

  by-number : (b : Bool) → (known == 0) ≡ b
      → Asked (if b then begin_row caller moment store file_length else continue_row caller known file_length
      (entry_of store known))
  by-number true is = begins (grind (arith, nat_tests)) (can_begin store file_length) refl
  by-number false is = goes-on-by (entry_of store known) (grind (arith, nat_tests)) refl

  -- what UPLOAD_CMD gives
  pub asked-by : Asked (upload_row caller moment store known file_length)
  asked-by = by-number (known == 0) refl

-- ---- DATA and DATA_END

module _ (store : Store) (number : ℕ) (entry : Entry) (held rest : List ℕ) (found : entry_of store number ≡ Some entry)
    (holds : entry.holding ≡ partial held) where
  -- octets for which the file has room are taken
  pub data-taken : (octets : List ℕ) → length held + (length rest + length octets) ≤ entry.length
      → data_row store number rest octets ≡ taken_row number (rest ++ octets)
  data-taken octets room =
      let enough : nat_le (length held + length (rest ++ octets)) entry.length ≡ true =
      grind (arith, nat_tests, length-append) in
      let here : has_room entry.holding entry.length (length (rest ++ octets)) ≡ true = rw holds enough in
      let test : passes (λ e. has_room e.holding e.length (length (rest ++ octets))) (entry_of store number) ≡ true =
      ap (passes (λ e. has_room e.holding e.length (length (rest ++ octets)))) found ∙ here in
      rw test refl

  -- all octets of a file without fault came
  pub end-whole : (moment : ℕ) → length held + length rest ≡ entry.length → fault_code (held ++ rest) ≡ None
      → end_row moment store number rest ≡ whole_row moment number rest None
  end-whole moment all good =
      let octets : octets_at (entry_of store number) ≡ held = ap octets_at found ∙ ap octets_of holds in
      let count : length (octets_of entry.holding) + length rest ≡ entry.length =
      ap (λ (h : Holding). length (octets_of h) + length rest) holds ∙ all in
      let here : (length (octets_of entry.holding) + length rest == entry.length) ≡ true = (Decides-eqb _ _).1 count in
      let test : is_all (entry_of store number) rest ≡ true =
      ap (passes (λ e. length (octets_of e.holding) + length rest == e.length)) found ∙ here in
      let checked : fault_code (octets_at (entry_of store number) ++ rest) ≡ None =
      ap (λ (o : List ℕ). fault_code (o ++ rest)) octets ∙ good in
      rw test (ap (whole_row moment number rest) checked)
