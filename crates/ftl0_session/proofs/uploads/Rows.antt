-- Which packets have a row, the rows of those that have no row of their own, and of those in Aborting.
use Rattle.std.proofs.Common.{◌≡◌, ℕ, List, [], ◌∷◌, refl, Bool, true, false, true≢false, sym, ap, ◌∙◌, Bor, subst, Option, None, Some}
use Rattle.std.specs.Prelude.{if◌then◌else◌}
use Rattle.ftl0_session.specs.Uploads.Asked.{IsAsked}
use Rattle.ftl0_session.specs.declared.uploads.asked.Asked.{Asked}
use Rattle.ftl0_session.specs.declared.uploads.asked.Asked.TheVariants as asked
use Rattle.ftl0_session.specs.declared.uploads.phase.Phase.TheVariants as phase
use Rattle.ftl0_session.specs.Uploads.Session.{Row, State, error_row, refused_row}
use Rattle.ftl0_session.proofs.Names.{⊤, Result, Ok, Err, IsErr, is_some, option_or, CallSign, Item, data_part, data_end, upload_cmd, ul_error_resp, IsStoreLike, Store, StoreState, store_in, Phase, DiskFault, RowsLaw, KeepsOtherCallers, kind_of_item, texts, aborting, command, is_upload_kind, receiving, row_by_read, row_unread, session_row, silent_row, NoOtherOut, PhaseIsHeld, number_of, state_of, AnsweredAlone, packet_of}

-- ---- which packets have a row

some-if : (b : Bool) (row : Row) → is_some (if b then Some row else None) ≡ b
some-if true row = refl
some-if false row = refl

pub rows : RowsLaw
unfolding session_row
rows caller moment store command (Ok (upload_cmd number len)) = refl
rows caller moment store (receiving n rest) (Ok (data_part octets)) = refl
rows caller moment store (receiving n rest) (Ok data_end) = refl
rows caller moment store aborting (Ok (data_part octets)) = refl
rows caller moment store aborting (Ok data_end) = refl
rows caller moment store state item = some-if (is_upload_kind (kind_of_item item)) (refused_row state 1)

some-of : (o : Option Row) → is_some o ≡ true → (row : Row) × (o ≡ Some row)
some-of None is = absurd (true≢false (sym is))
some-of (Some row) is = (row, refl)

none-of : (o : Option Row) → is_some o ≡ false → o ≡ None
none-of None is = refl
none-of (Some row) is = absurd (true≢false is)

-- a packet of uploading has one
pub row-some : (caller : CallSign) (moment : ℕ) (store : Store) (state : State) (item : Item) → is_upload_kind (kind_of_item item) ≡ true
    → (row : Row) × (session_row caller moment store state item ≡ Some row)
row-some caller moment store state item kind = some-of (session_row caller moment store state item) (rows caller moment store state item ∙ kind)

-- and any other has none
pub row-none : (caller : CallSign) (moment : ℕ) (store : Store) (state : State) (item : Item) → is_upload_kind (kind_of_item item) ≡ false
    → session_row caller moment store state item ≡ None
row-none caller moment store state item kind = none-of (session_row caller moment store state item) (rows caller moment store state item ∙ kind)

-- ---- rows, whether a read of the disk fails or none does

-- a file is read at no packet except DATA_END, which is of uploading
unread-none : (store : Store) (state : State) (item : Item) → is_upload_kind (kind_of_item item) ≡ false → row_unread store state item ≡ None
unread-none store (receiving n rest) (Ok data_end) kind = absurd (true≢false kind)
unread-none store state item kind = refl

-- a packet that isn't of uploading has none
pub by_read-none : (caller : CallSign) (moment : ℕ) (store : Store) (state : State) (item : Item) (fails : Bool) → is_upload_kind (kind_of_item item) ≡ false
    → row_by_read caller moment store state item fails ≡ None
by_read-none caller moment store state item true kind =
    ap (λ (o : Option Row). option_or o (session_row caller moment store state item)) (unread-none store state item kind) ∙ row-none caller moment store state item kind
by_read-none caller moment store state item false kind = row-none caller moment store state item kind

or-some : (o other : Option Row) (row : Row) → other ≡ Some row → (given : Row) × (option_or o other ≡ Some given)
or-some None other row is = (row, is)
or-some (Some given) other row is = (given, refl)

-- and a packet of uploading has one
pub by_read-some : (caller : CallSign) (moment : ℕ) (store : Store) (state : State) (item : Item) (fails : Bool) → is_upload_kind (kind_of_item item) ≡ true
    → (row : Row) × (row_by_read caller moment store state item fails ≡ Some row)
by_read-some caller moment store state item fails kind =
    let there = row-some caller moment store state item kind in
    or-some (if fails then row_unread store state item else None) (session_row caller moment store state item) there.0 there.1

-- if no file is read, it is the row for which no read fails
pub by_read-unread : (caller : CallSign) (moment : ℕ) (store : Store) (state : State) (item : Item) (fails : Bool) → row_unread store state item ≡ None
    → row_by_read caller moment store state item fails ≡ session_row caller moment store state item
by_read-unread caller moment store state item true none = ap (λ (o : Option Row). option_or o (session_row caller moment store state item)) none
by_read-unread caller moment store state item false none = refl

-- ---- rows

-- Aborting, DATA and DATA_END
pub row-aborting_data : (caller : CallSign) (moment : ℕ) (store : Store) (octets : List ℕ) → session_row caller moment store aborting (Ok (data_part octets)) ≡ Some (silent_row aborting)
unfolding session_row
row-aborting_data caller moment store octets = refl

pub row-aborting_end : (caller : CallSign) (moment : ℕ) (store : Store) → session_row caller moment store aborting (Ok data_end) ≡ Some (silent_row command)
unfolding session_row
row-aborting_end caller moment store = refl

-- the row of a packet is that of the one that it is
pub row-at : (caller : CallSign) (moment : ℕ) (store : Store) (state : State) (p q : Item) (row : Option Row) → p ≡ q → session_row caller moment store state q ≡ row → session_row caller moment store state p ≡ row
row-at caller moment store state p q row same is = ap (λ (i : Item). session_row caller moment store state i) same ∙ is

error-upload : (state : State) (item : Item) → is_upload_kind (kind_of_item item) ≡ true → error_row state item ≡ Some (refused_row state 1)
error-upload state item upload = rw upload refl

-- a malformed packet of uploading has error 1 in each state
row-malformed : (caller : CallSign) (moment : ℕ) (store : Store) (state : State) (item : Item) → IsErr item → is_upload_kind (kind_of_item item) ≡ true
    → session_row caller moment store state item ≡ Some (refused_row state 1)
unfolding session_row
row-malformed caller moment store state (Ok packet) malformed kind = absurd (true≢false (sym malformed))
row-malformed caller moment store command (Err packet) malformed kind = error-upload command (Err packet) kind
row-malformed caller moment store (receiving n rest) (Err packet) malformed kind = error-upload (receiving n rest) (Err packet) kind
row-malformed caller moment store aborting (Err packet) malformed kind = error-upload aborting (Err packet) kind

-- in Command, of a packet that is no UPLOAD_CMD
pub error-command : (caller : CallSign) (moment : ℕ) (store : Store) (item : Item) (a : Asked) → ((number len : ℕ) → a ≡ asked.Upload number len → ⊥) → IsAsked item a
    → session_row caller moment store command item ≡ Some (refused_row command 1)
unfolding session_row
error-command caller moment store item (asked.Upload number len) other is = absurd (other number len refl)
error-command caller moment store item (asked.Part octets) other is = rw is refl
error-command caller moment store item asked.End other is = rw is refl
error-command caller moment store item asked.Malformed other is = row-malformed caller moment store command item is.0 is.1

-- in a state in which an UPLOAD_CMD has error 1, of a packet that is neither DATA nor DATA_END
error-no_data : (caller : CallSign) (moment : ℕ) (store : Store) (state : State) (item : Item) (a : Asked)
    → ((number len : ℕ) → session_row caller moment store state (Ok (upload_cmd number len)) ≡ Some (refused_row state 1))
    → ((octets : Bor (List ℕ)) → a ≡ asked.Part octets → ⊥) → (a ≡ asked.End → ⊥) → IsAsked item a → session_row caller moment store state item ≡ Some (refused_row state 1)
error-no_data caller moment store state item (asked.Upload number len) upload no_part no_end is = row-at caller moment store state item _ _ is (upload number len)
error-no_data caller moment store state item (asked.Part octets) upload no_part no_end is = absurd (no_part octets refl)
error-no_data caller moment store state item asked.End upload no_part no_end is = absurd (no_end refl)
error-no_data caller moment store state item asked.Malformed upload no_part no_end is = row-malformed caller moment store state item is.0 is.1

-- so in Receiving
pub error-receiving : (caller : CallSign) (moment : ℕ) (store : Store) (n : ℕ) (rest : List ℕ) (item : Item) (a : Asked) → ((octets : Bor (List ℕ)) → a ≡ asked.Part octets → ⊥)
    → (a ≡ asked.End → ⊥) → IsAsked item a → session_row caller moment store (receiving n rest) item ≡ Some (refused_row (receiving n rest) 1)
unfolding session_row
error-receiving caller moment store n rest item a no_part no_end is = error-no_data caller moment store (receiving n rest) item a (λ number len. refl) no_part no_end is

-- and in Aborting
pub error-aborting : (caller : CallSign) (moment : ℕ) (store : Store) (item : Item) (a : Asked) → ((octets : Bor (List ℕ)) → a ≡ asked.Part octets → ⊥) → (a ≡ asked.End → ⊥) → IsAsked item a
    → session_row caller moment store aborting item ≡ Some (refused_row aborting 1)
unfolding session_row
error-aborting caller moment store item a no_part no_end is = error-no_data caller moment store aborting item a (λ number len. refl) no_part no_end is

-- ---- what a row without commands gives

-- what a call that leaves the store as it was leaves of other callers' files
pub others-same : (store : StoreState) (caller : CallSign) → KeepsOtherCallers store store caller
others-same store caller = record { uploads = λ up ne holds. holds; entries = λ number e ne found. (found, refl) }

-- A packet that leaves the store as it was, and whose row has no commands.
module _ (caller : CallSign) (moment : ℕ) (state : State) (item : Item) (store : StoreState) where
  pub alone-row : (next : Phase) (row : Row) (replies : List ℕ) → ((files : Store) → session_row caller moment files state item ≡ Some row) → row.commands ≡ [] → state_of store next ≡ row.state
      → replies ≡ texts row.replies → PhaseIsHeld store caller next → NoOtherOut store caller (number_of next)
      → AnsweredAlone (packet_of caller moment item) state store store replies (next, Ok tt)
  alone-row next row replies is none at text held only = record {
    answered = refl;
    gives = λ files like. (row, is files, none, at, text);
    files = refl;
    journal = refl;
    held = held;
    only = only;
    others = others-same store caller;
  }

  -- one that is refused with a code
  pub alone-refused : (here : Phase) (code : ℕ) (replies : List ℕ) (taken : Phase × Result ⊤ DiskFault) → ((files : Store) → session_row caller moment files state item ≡ Some (refused_row state code))
      → state_of store here ≡ state → taken ≡ (here, Ok tt) → replies ≡ texts (ul_error_resp code ∷ []) → PhaseIsHeld store caller here → NoOtherOut store caller (number_of here)
      → AnsweredAlone (packet_of caller moment item) state store store replies taken
  alone-refused here code replies taken row at is text held only =
      subst (λ (t : Phase × Result ⊤ DiskFault). AnsweredAlone (packet_of caller moment item) state store store replies t) (sym is)
      (alone-row here (refused_row state code) replies row refl at text held only)

-- An UPLOAD_CMD that is refused, over a store that stays.
pub upload-refused : (caller : CallSign) (moment : ℕ) (item : Item) (before now : StoreState) (code : ℕ) (replies : List ℕ) (taken : Phase × Result ⊤ DiskFault)
    → ((files : Store) → IsStoreLike (store_in before) files → session_row caller moment files command item ≡ Some (refused_row command code)) → now ≡ before → taken ≡ (phase.Command, Ok tt)
    → replies ≡ texts (ul_error_resp code ∷ []) → NoOtherOut before caller None → AnsweredAlone (packet_of caller moment item) command before now replies taken
upload-refused caller moment item before now code replies taken row same is text only =
    subst (λ (s : StoreState). AnsweredAlone (packet_of caller moment item) command before s replies taken) (sym same)
    (subst (λ (t : Phase × Result ⊤ DiskFault). AnsweredAlone (packet_of caller moment item) command before before replies t) (sym is)
    (record {
      answered = refl;
      gives = λ files like. (refused_row command code, row files like, refl, refl, text);
      files = refl;
      journal = refl;
      held = tt;
      only = only;
      others = others-same before caller;
    }))
