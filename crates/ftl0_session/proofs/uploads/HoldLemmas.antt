-- What a session that receives a file gives, over a store that holds its upload, whatever octets its files have.
use Rattle.std.proofs.Common.{◌≡◌, ℕ, ◌+◌, ◌≤◌, ◌<◌, List, [], ◌∷◌, ◌++◌, length, refl, ap, sym, ◌∙◌, subst, arith, inl, inr, Option, None, Some, true, false}
use Rattle.file_store.specs.Upload.{waiting}
use Rattle.ftl0_session.specs.Uploads.Session.{Row}
use Rattle.ftl0_session.proofs.Names.{leb_tells, Ok, CallSign, fault_code, texts, Item, data_end, data_part, ul_nak_resp, IsShort, IsTooMuch, last_grow, ChangesRest, KeepsOthers, IsStoreLike, StoreState, store_in, Entry, Store, entry_of, partial, Holds, Upload, came, ending, entry_for, octets_come, sealing, with_bytes, in_parked, like_entry, like_partial, like_same, Phase, aborting, command, row_by_read, session_row, taken_row, unread_row, whole_row, NoOtherOut, PhaseIsHeld, number_of, receiving_of, state_of, AnsweredAlone, LooksAtNone, packet_of}
use Rattle.ftl0_session.proofs.uploads.DoesLemmas.{more-at_end, one-row, some-at_end}
use Rattle.ftl0_session.proofs.uploads.OtherLemmas.{changes-same, only-none, others-kept}
use Rattle.ftl0_session.proofs.uploads.UploadRows.{row-short, row-taken, row-too_much, row-unread, row-whole}

-- what would be a contradiction if it were more is no more
pub no_more : (a b : ℕ) → (a < b → ⊥) → b ≤ a
no_more a b more = elim (leb_tells b a) [ inl p ↦ p.1 | inr q ↦ absurd (more q.1) ]

module _ (caller : CallSign) (before : StoreState) (up : Upload) (holds : Holds before up) where
  -- the entry is the caller's
  pub own-entry : up.caller ≡ caller → (e : Entry) → entry_of (store_in before) up.number ≡ Some e → e.caller ≡ caller
  own-entry by e found = (let one : Some (entry_for up holds.begun (partial holds.held)) ≡ Some e = sym holds.entry ∙ found in let same : entry_for up holds.begun (partial holds.held) ≡ e = cc in ap (λ (x : Entry). x.caller) (sym same) ∙ by)

  -- over a store that is so
  module _ (files : Store) (like : IsStoreLike (store_in before) files) (moment : ℕ) where
    abbrev own : Entry
    own = entry_for up holds.begun (partial holds.held)

    abbrev entry : Entry
    entry = (like_entry (store_in before) files like up.number own holds.entry).0

    found : entry_of files up.number ≡ Some entry
    found = (like_entry (store_in before) files like up.number own holds.entry).1

    abbrev held : List ℕ
    held = (like_partial own entry (like_entry (store_in before) files like up.number own holds.entry).2 holds.held refl).0

    partly : entry.holding ≡ partial held
    partly = (like_partial own entry (like_entry (store_in before) files like up.number own holds.entry).2 holds.held refl).1

    count : length held ≡ up.held
    count = sym (like_partial own entry (like_entry (store_in before) files like up.number own holds.entry).2 holds.held refl).2 ∙ holds.count

    long : up.length ≡ entry.length
    long = (like_entry (store_in before) files like up.number own holds.entry).2.length

    all-came : (IsShort before up → ⊥) → length held + length (waiting before up) ≡ entry.length
    all-came enough =
        let all : up.length ≤ came before up = no_more _ _ enough in
        let rest : length (waiting before up) ≡ length holds.rest = rw holds.out refl in
        let most : up.held + length holds.rest ≤ up.length = holds.came in
        omega (arith, count, long, all, rest, most)

    -- DATA for which the file has room
    pub taken : (octets : List ℕ) → (IsTooMuch before up octets → ⊥)
        → session_row caller moment files (receiving_of before up) (Ok (data_part octets)) ≡ Some (taken_row up.number (with_bytes before up octets))
    taken octets fits =
        let room : came before up + length octets ≤ up.length = no_more _ _ fits in
        row-taken caller moment files up.number entry held found partly (waiting before up) octets (omega (arith, room, count, long))

    -- and more than that
    pub too_much : (octets : List ℕ) → IsTooMuch before up octets
        → session_row caller moment files (receiving_of before up) (Ok (data_part octets)) ≡ Some (record { state = aborting; commands = []; replies = ul_nak_resp 1 ∷ [] })
    too_much octets past =
        let more : up.length < came before up + length octets = past in
        row-too_much caller moment files up.number entry held found partly (waiting before up) octets (omega (arith, more, count, long))

    -- DATA_END after all octets
    pub whole : (fault : Option ℕ) → (IsShort before up → ⊥) → fault_code (octets_come files before up) ≡ fault
        → session_row caller moment files (receiving_of before up) (Ok data_end) ≡ Some (whole_row moment up.number (waiting before up) fault)
    whole fault enough checked = row-whole caller moment files up.number entry held found partly (waiting before up) fault (all-came enough) checked

    -- if a read fails
    pub unread : (IsShort before up → ⊥) → row_by_read caller moment files (receiving_of before up) (Ok data_end) true ≡ Some (unread_row up.number (waiting before up))
    unread enough = row-unread caller moment files up.number entry held found partly (waiting before up) (all-came enough)

    -- and before them
    pub short : IsShort before up
        → session_row caller moment files (receiving_of before up) (Ok data_end) ≡ Some (record { state = command; commands = []; replies = ul_nak_resp 16 ∷ [] })
    short few =
        let less : came before up < up.length = few in
        row-short caller moment files up.number entry held found partly (waiting before up) (omega (arith, less, count, long))

  -- A packet at which the upload is parked.
  pub parked : (moment : ℕ) (item : Item) (now : StoreState) (next : Phase) (row : Row) (replies : List ℕ)
      → ((files : Store) → IsStoreLike (store_in before) files → session_row caller moment files (receiving_of before up) item ≡ Some row) → row.commands ≡ [] → state_of now next ≡ row.state
      → replies ≡ texts row.replies → number_of next ≡ None → PhaseIsHeld now caller next → up.caller ≡ caller → ChangesRest before.files now.files up.number None → now.journal ≡ before.journal
      → KeepsOthers before now up.number → NoOtherOut before caller (Some up.number) → AnsweredAlone (packet_of caller moment item) (receiving_of before up) before now replies (next, Ok tt)
  parked moment item now next row replies is none at text no_upload held by changes journal uploads only =
      let entries = changes-same up.number (store_in before) (store_in now) (in_parked before now changes.store_is) in
      record {
        answered = refl;
        gives = λ files like. (row, is files like, none, at, text);
        files = changes.store_is;
        journal = journal;
        held = held;
        only =
            subst (λ (o : Option ℕ). NoOtherOut now caller o) (sym no_upload) (only-none before now up.number caller entries changes.others only changes.here);
        others = others-kept before now up.number caller entries changes.others (own-entry by) uploads;
      }

-- the commands of the row of a whole file are those that seal it
pub whole-sealing : (files : Store) (before : StoreState) (up : Upload) (moment : ℕ) (fault : Option ℕ) → fault_code (octets_come files before up) ≡ fault
    → sealing files before up moment ≡ (whole_row moment up.number (waiting before up) fault).commands
whole-sealing files before up moment None checked = ap (λ (f : Option ℕ). last_grow up.number (waiting before up) ++ ending up.number moment f ∷ []) checked
whole-sealing files before up moment (Some code) checked = ap (λ (f : Option ℕ). last_grow up.number (waiting before up) ++ ending up.number moment f ∷ []) checked

-- there are some
pub sealing-some : (files : Store) (before : StoreState) (up : Upload) (moment : ℕ) → sealing files before up moment ≡ [] → ⊥
sealing-some files before up moment none = some-at_end (last_grow up.number (waiting before up)) (ending up.number moment (fault_code (octets_come files before up))) none

-- DATA_END after all octets: its row isn't the same if a read fails, so the file is looked at
pub end-looks : (caller : CallSign) (before : StoreState) (up : Upload) (holds : Holds before up) (moment : ℕ) (row : Row) → (IsShort before up → ⊥)
    → LooksAtNone (packet_of caller moment (Ok data_end)) (record { store = before; state = receiving_of before up }) row → ⊥
end-looks caller before up holds moment row enough looks =
    let files : Store = store_in before in
    let like = like_same files in
    let fault : Option ℕ = fault_code (octets_come files before up) in
    let both : Some (whole_row moment up.number (waiting before up) fault) ≡ Some (unread_row up.number (waiting before up)) =
    sym (whole caller before up holds files like moment fault enough refl) ∙ looks false ∙ sym (looks true) ∙ unread caller before up holds files like moment enough in
    let same : whole_row moment up.number (waiting before up) fault ≡ unread_row up.number (waiting before up) = one-row _ _ both in
    more-at_end (last_grow up.number (waiting before up)) (ending up.number moment fault) (whole-sealing files before up moment fault refl ∙ ap (λ (r : Row). r.commands) same)
