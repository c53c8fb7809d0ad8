-- What is true of each row of the table of uploading is true of the row of a packet.
use Rattle.std.proofs.Common.{◌≡◌, ℕ, List, [], ◌∷◌, ◌++◌, length, refl, sym, ◌∙◌, subst, true≢false, Bool, true, false, not, Option, None, Some}
use Rattle.std.specs.Prelude.{if◌then◌else◌, ◌==◌}
use Rattle.pfh_items.specs.declared.fault.FileFault.{FileFault}
use Rattle.pfh_items.specs.declared.fault.FileFault.TheVariants.{NoHeader, NoEndItem, MissingItem, BadHeader, HeaderSum, BodySum}
use Rattle.ftl0_session.specs.Uploads.Session.{Row, State, error_row, refused_row}
use Rattle.ftl0_session.proofs.Names.{cond_both, not-false, none-some, same_Some, Ok, IfSome, option_map, option_or, CallSign, code_of, fault_code, first_fault, kind_of_item, Item, data_end, data_part, ul_nak_resp, upload_cmd, can_begin, has_room, passes, is_complete, Entry, Store, entry_of, octets_at, octets_of, aborting, begin_row, command, continue_row, granted_row, is_all, is_theirs, is_upload_kind, receiving, resumed_row, row_by_read, row_unread, session_row, silent_row, taken_row, unread_row, whole_row}

-- the code of a fault of a file isn't 3
pub fault-other : (o : Option FileFault) (code : ℕ) → option_map code_of o ≡ Some code → (code == 3) ≡ false
fault-other None code is = absurd (none-some code is)
fault-other (Some fault) code is = subst (λ (c : ℕ). (c == 3) ≡ false) (same_Some (code_of fault) code is) (by fault)
  where
    by : (f : FileFault) → (code_of f == 3) ≡ false
    by NoHeader = refl
    by NoEndItem = refl
    by MissingItem = refl
    by BadHeader = refl
    by HeaderSum = refl
    by BodySum = refl

-- P of each row that the table has over the store at the moment, whether a read fails or none does: of a file that is
-- begun, that goes on, that is refused or whose packet has error 1, of octets that are taken or too many, of a whole
-- file without fault, with one or that can't be read, of too few octets, and of DATA and DATA_END while the end of a
-- refused file is waited for.
pub record OfUploads (caller : CallSign) (moment : ℕ) (store : Store) (fails : Bool) (P : State → Item → Row → Type 0) : Type 0 where
  pub granted : (number len : ℕ) → can_begin store len ≡ true → P command (Ok (upload_cmd number len)) (granted_row caller moment store.next len)
  pub resumed :
      (number len : ℕ) (e : Entry) → entry_of store number ≡ Some e → is_theirs caller len e ≡ true → is_complete e.holding ≡ false
      → P command (Ok (upload_cmd number len)) (resumed_row number (length (octets_of e.holding)))
  pub refused : (state : State) (item : Item) (code : ℕ) → (code == 3) ≡ false → P state item (refused_row state code)
  pub taken :
      (n : ℕ) (rest octets : List ℕ) → passes (λ e. has_room e.holding e.length (length (rest ++ octets))) (entry_of store n) ≡ true
      → P (receiving n rest) (Ok (data_part octets)) (taken_row n (rest ++ octets))
  pub too_many :
      (n : ℕ) (rest octets : List ℕ)
      → P (receiving n rest) (Ok (data_part octets)) (record { state = aborting; commands = []; replies = ul_nak_resp 1 ∷ [] })
  pub whole :
      (n : ℕ) (rest : List ℕ) → fails ≡ false → is_all (entry_of store n) rest ≡ true → fault_code (octets_at (entry_of store n) ++ rest) ≡ None
      → P (receiving n rest) (Ok data_end) (whole_row moment n rest None)
  pub faulty : (n : ℕ) (rest : List ℕ) (code : ℕ) → (code == 3) ≡ false → P (receiving n rest) (Ok data_end) (whole_row moment n rest (Some code))
  pub unread : (n : ℕ) (rest : List ℕ) → fails ≡ true → is_all (entry_of store n) rest ≡ true → P (receiving n rest) (Ok data_end) (unread_row n rest)
  pub too_few : (n : ℕ) (rest : List ℕ) → P (receiving n rest) (Ok data_end) (record { state = command; commands = []; replies = ul_nak_resp 16 ∷ [] })
  pub waited : (octets : List ℕ) → P aborting (Ok (data_part octets)) (silent_row aborting)
  pub ended : P aborting (Ok data_end) (silent_row command)

module _ {caller : CallSign} {moment : ℕ} {store : Store} {fails : Bool} {P : State → Item → Row → Type 0} (each : OfUploads caller moment store fails P) where
  begins : (number len : ℕ) → P command (Ok (upload_cmd number len)) (begin_row caller moment store len)
  begins number len =
      cond_both (can_begin store len) _ _ (P command (Ok (upload_cmd number len))) (each.granted number len) (λ barred. each.refused command _ 13 refl)

  continues : (number len : ℕ) (o : Option Entry) → entry_of store number ≡ o → P command (Ok (upload_cmd number len)) (continue_row caller number len o)
  continues number len None is = each.refused command _ 4 refl
  continues number len (Some e) is =
      cond_both (not (is_theirs caller len e)) _ _ (P command (Ok (upload_cmd number len))) (λ others. each.refused command _ 2 refl)
      (λ theirs.
      cond_both (is_complete e.holding) _ _ (P command (Ok (upload_cmd number len))) (λ whole. each.refused command _ 12 refl)
      (each.resumed number len e is (not-false (is_theirs caller len e) theirs)))

  ends : (n : ℕ) (rest : List ℕ) → fails ≡ false → is_all (entry_of store n) rest ≡ true → (fault : Option ℕ) → fault_code (octets_at (entry_of store n) ++ rest) ≡ fault
      → P (receiving n rest) (Ok data_end) (whole_row moment n rest fault)
  ends n rest fine all None is = each.whole n rest fine all is
  ends n rest fine all (Some code) is = each.faulty n rest code (fault-other (first_fault (octets_at (entry_of store n) ++ rest)) code is)

  errors : (state : State) (item : Item) → IfSome (error_row state item) (P state item)
  errors state item = by (is_upload_kind (kind_of_item item))
    where
      by : (b : Bool) → IfSome (if b then Some (refused_row state 1) else None) (P state item)
      by true = each.refused state item 1 refl
      by false = tt

  -- if a file that is whole isn't read, or can be
  plain : (state : State) (item : Item) → (fails ≡ true → row_unread store state item ≡ None) → IfSome (session_row caller moment store state item) (P state item)
  unfolding session_row
  plain command (Ok (upload_cmd number len)) fine =
      cond_both (number == 0) _ _ (P command (Ok (upload_cmd number len))) (λ new. begins number len) (λ old. continues number len (entry_of store number) refl)
  plain (receiving n rest) (Ok (data_part octets)) fine =
      cond_both (passes (λ e. has_room e.holding e.length (length (rest ++ octets))) (entry_of store n)) _ _ (P (receiving n rest) (Ok (data_part octets)))
      (each.taken n rest octets) (λ full. each.too_many n rest octets)
  plain (receiving n rest) (Ok data_end) fine =
      cond_both (is_all (entry_of store n) rest) _ _ (P (receiving n rest) (Ok data_end)) (λ all. ends n rest (readable all fails fine) all (fault_code (octets_at (entry_of store n) ++ rest)) refl)
      (λ some. each.too_few n rest)
    where
      readable : is_all (entry_of store n) rest ≡ true → (b : Bool) → (b ≡ true → row_unread store (receiving n rest) (Ok data_end) ≡ None) → b ≡ false
      readable all true none = absurd (none-some (unread_row n rest) (sym (let given = none refl in rw all at given)))
      readable all false none = refl
  plain aborting (Ok (data_part octets)) fine = each.waited octets
  plain aborting (Ok data_end) fine = each.ended
  plain state item fine = errors state item

  unread-row : (state : State) (item : Item) (row : Row) → fails ≡ true → row_unread store state item ≡ Some row → P state item row
  unread-row (receiving n rest) (Ok data_end) row failed is = by (is_all (entry_of store n) rest) refl is
    where
      by : (b : Bool) → is_all (entry_of store n) rest ≡ b → (if b then Some (unread_row n rest) else None) ≡ Some row → P (receiving n rest) (Ok data_end) row
      by true all same = subst (P (receiving n rest) (Ok data_end)) (same_Some (unread_row n rest) row same) (each.unread n rest failed all)
      by false all same = absurd (none-some row same)
  unread-row state item row failed is = absurd (none-some row is)

  pub upload-case : (state : State) (item : Item) → IfSome (row_by_read caller moment store state item fails) (P state item)
  upload-case state item = by fails refl (row_unread store state item) refl
    where
      by : (b : Bool) → fails ≡ b → (o : Option Row) → row_unread store state item ≡ o
          → IfSome (option_or (if b then o else None) (session_row caller moment store state item)) (P state item)
      by false fine o is = plain state item (λ failed. absurd (true≢false (sym failed ∙ fine)))
      by true failed None is = plain state item (λ failed. is)
      by true failed (Some row) is = unread-row state item row failed is
