-- The upload of a whole file, packet by packet.
use Rattle.std.proofs.Common.{◌≡◌, ℕ, ◌+◌, ◌*◌, ◌/◌, ◌≤◌, List, [], ◌∷◌, ◌++◌, length, take, refl, ap, sym, ◌∙◌, arith, length-append, append_assoc, append-nil, None, Some, Option, eq-eqb}
use Rattle.pfh_writer.proofs.ClientLemmas.{kept_file}
use Rattle.ftl0_session.specs.Uploads.Continued.{ContinuedLaw}
use Rattle.ftl0_session.specs.Uploads.Laws.{AcknowledgedLaw, ResumedLaw, UnreadLaw, kept}
use Rattle.ftl0_session.specs.Uploads.Session.{Row}
use Rattle.ftl0_session.specs.Uploads.Uploaded.{BringsFile, UploadedLaw}
use Rattle.ftl0_session.proofs.Names.{Ok, take-append-drop, CallSign, Item, PacketValue, data_end, ul_ack_resp, ul_go_resp, fault_code, after, after_all, begin, grown, last_grow, seal, sealed, stamp_of, unfilled_block, whole_grows, IsStore, Entry, Holding, Store, entry_of, new_entry, octets_at, partial, after_all-append, find-map-changed, find-push, find_past, grows-after, has_number, last_grow-after, Event, CommandsOfLaw, commands_of, on_row, replies_to, store_after, receiving, session_row, taken_row, whole_row}
use Rattle.ftl0_session.proofs.uploads.UploadRows.{row-granted, row-resumed, row-taken, row-unread, row-whole}

-- the entry with these octets held
abbrev pub upto : Entry → List ℕ → Entry
upto e held = record e { holding = partial held }

-- an entry that is under way is that
pub upto-is : (e : Entry) (held : List ℕ) → e.holding ≡ partial held → e ≡ upto e held
upto-is e held partly = ap (λ (h : Holding). record e { holding = h }) partly

-- the last grow and the seal leave the entry complete, and its file stamped
pub sealed_entry : (store : Store) (number moment : ℕ) (held rest : List ℕ) (e : Entry) → entry_of store number ≡ Some (upto e held)
    → entry_of (after_all store (last_grow number rest ++ seal number moment ∷ [])) number ≡ Some (kept e (held ++ rest) moment)
sealed_entry store number moment held rest e found =
    ap (λ (s : Store). entry_of s number) (after_all-append (last_grow number rest) (seal number moment ∷ []) store)
    ∙ ap (λ (s : Store). entry_of (after s (seal number moment)) number) (last_grow-after number rest store)
    ∙ find-map-changed number (sealed moment) _ _ (find-map-changed number (grown rest) store.entries (upto e held) found)

-- how many octets become held of these
abbrev filled : List ℕ → ℕ
filled octets = 512 * (length octets / 512)

-- one DATA packet
more : (store : Store) (number : ℕ) (e : Entry) (held octets : List ℕ) → entry_of store number ≡ Some (upto e held)
    → entry_of (after_all store (whole_grows number octets)) number ≡ Some (upto e (held ++ take (filled octets) octets))
more store number e held octets found =
    ap (λ (s : Store). entry_of s number) (grows-after number (length octets / 512) octets store)
    ∙ find-map-changed number (grown (take (filled octets) octets)) store.entries (upto e held) found

-- all octets that came after it
more-octets : (held rest bytes : List ℕ) → (held ++ take (filled (rest ++ bytes)) (rest ++ bytes)) ++ unfilled_block (rest ++ bytes) ≡ (held ++ rest) ++ bytes
more-octets held rest bytes =
    append_assoc held (take (filled (rest ++ bytes)) (rest ++ bytes)) (unfilled_block (rest ++ bytes))
    ∙ ap (λ (os : List ℕ). held ++ os) (take-append-drop (filled (rest ++ bytes)) (rest ++ bytes))
    ∙ sym (append_assoc held rest bytes)

-- and after others too
joined-octets : (held rest piece later file all : List ℕ)
    → all ≡ ((held ++ take (filled (rest ++ piece)) (rest ++ piece)) ++ unfilled_block (rest ++ piece)) ++ later → file ≡ piece ++ later → all ≡ (held ++ rest) ++ file
joined-octets held rest piece later file all now parts =
    let first : ((held ++ take (filled (rest ++ piece)) (rest ++ piece)) ++ unfilled_block (rest ++ piece)) ++ later ≡ ((held ++ rest) ++ piece) ++ later =
    ap (λ (os : List ℕ). os ++ later) (more-octets held rest piece) in
    let second : ((held ++ rest) ++ piece) ++ later ≡ (held ++ rest) ++ file = append_assoc (held ++ rest) piece later ∙ ap (λ (os : List ℕ). (held ++ rest) ++ os) (sym parts) in
    now ∙ first ∙ second

-- After these parts the file has come so far, and nothing was replied.
record Sent (caller : CallSign) (store : Store) (number : ℕ) (e : Entry) (rest all : List ℕ) (parts : List Event) : Type 0 where
  now : Store
  held : List ℕ
  waits : List ℕ
  entry : entry_of now number ≡ Some (upto e held)
  octets : held ++ waits ≡ all
  replies : (events : List Event) → replies_to caller store (receiving number rest) (parts ++ events) ≡ replies_to caller now (receiving number waits) events
  store_is : (events : List Event) → store_after caller store (receiving number rest) (parts ++ events) ≡ store_after caller now (receiving number waits) events

-- one part, and then these
sent-then : (caller : CallSign) (event : Event) (parts : List Event) (store : Store) (number : ℕ) (e : Entry) (rest octets all those : List ℕ)
    → session_row caller event.moment store (receiving number rest) event.packet ≡ Some (taken_row number octets) → those ≡ all
    → Sent caller (after_all store (whole_grows number octets)) number e (unfilled_block octets) those parts → Sent caller store number e rest all (event ∷ parts)
sent-then caller event parts store number e rest octets all those has_row same ih = record {
  now = ih.now;
  held = ih.held;
  waits = ih.waits;
  entry = ih.entry;
  octets = ih.octets ∙ same;
  replies = λ events.
      ap (λ (o : Option Row). on_row o [] (λ r. r.replies ++ replies_to caller (after_all store r.commands) r.state (parts ++ events))) has_row
      ∙ ih.replies events;
  store_is = λ events.
      ap (λ (o : Option Row). on_row o store (λ r. store_after caller (after_all store r.commands) r.state (parts ++ events))) has_row
      ∙ ih.store_is events;
}

sent : (caller : CallSign) (parts : List Event) (file : List ℕ) (store : Store) (number : ℕ) (e : Entry) (held rest : List ℕ) → entry_of store number ≡ Some (upto e held)
    → BringsFile parts file → length held + length rest + length file ≤ e.length → Sent caller store number e rest ((held ++ rest) ++ file) parts
sent caller [] file store number e held rest found brings fits = record {
  now = store;
  held = held;
  waits = rest;
  entry = found;
  octets = sym (append-nil (held ++ rest)) ∙ ap (λ (os : List ℕ). (held ++ rest) ++ os) (sym brings);
  replies = λ events. refl;
  store_is = λ events. refl;
}
sent caller (event ∷ parts) file store number e held rest found brings fits =
    let now : Store = after_all store (whole_grows number (rest ++ brings.0)) in
    let held_now : List ℕ = held ++ take (filled (rest ++ brings.0)) (rest ++ brings.0) in
    let same = more-octets held rest brings.0 in
    let len_file : length file ≡ length brings.0 + length brings.1 = ap length brings.3 ∙ length-append brings.0 brings.1 in
    let len_now : length held_now + length (unfilled_block (rest ++ brings.0)) ≡ length held + length rest + length brings.0 =
    sym (length-append held_now (unfilled_block (rest ++ brings.0))) ∙ ap length same ∙ length-append (held ++ rest) brings.0 ∙ ap (λ (n : ℕ). n + length brings.0) (length-append held rest) in
    let ih = sent caller parts brings.1 now number e held_now (unfilled_block (rest ++ brings.0)) (more store number e held (rest ++ brings.0) found) brings.4 (omega arith) in
    let has_row : session_row caller event.moment store (receiving number rest) event.packet ≡ Some (taken_row number (rest ++ brings.0)) =
    ap (λ (item : Item). session_row caller event.moment store (receiving number rest) item) brings.2
    ∙ row-taken caller event.moment store number (upto e held) held found refl rest brings.0 (omega arith) in
    sent-then caller event parts store number e rest (rest ++ brings.0) ((held ++ rest) ++ file) _ has_row (joined-octets held rest brings.0 brings.1 file _ refl brings.3) ih

-- what DATA_END gives once all octets came
module _ (caller : CallSign) (store : Store) (number : ℕ) (e : Entry) (moment : ℕ) (held rest file : List ℕ) (found : entry_of store number ≡ Some (upto e held))
    (octets : held ++ rest ≡ file) (all : length file ≡ e.length) (good : fault_code file ≡ None) where
  pub end-row : session_row caller moment store (receiving number rest) (Ok data_end) ≡ Some (whole_row moment number rest None)
  end-row =
      let here : octets_at (entry_of store number) ≡ held = ap octets_at found in
      let len : length held + length rest ≡ length file = sym (length-append held rest) ∙ ap length octets in
      row-whole caller moment store number (upto e held) held found refl rest None (len ∙ all) (ap (λ (os : List ℕ). fault_code (os ++ rest)) here ∙ ap fault_code octets ∙ good)

  pub end-replies : replies_to caller store (receiving number rest) (record { moment = moment; packet = Ok data_end } ∷ []) ≡ ul_ack_resp ∷ []
  end-replies = ap (λ (o : Option Row). on_row o [] (λ r. r.replies ++ [])) end-row

  pub end-entry : entry_of (store_after caller store (receiving number rest) (record { moment = moment; packet = Ok data_end } ∷ [])) number ≡ Some (kept e file moment)
  end-entry =
      ap (λ (o : Option Row). entry_of (on_row o store (λ r. after_all store r.commands)) number) end-row
      ∙ sealed_entry store number moment held rest e found
      ∙ ap (λ (os : List ℕ). Some (kept e os moment)) octets

-- a file that was just begun
begun : (store : Store) (caller : CallSign) (file_length moment : ℕ) → IsStore store
    → entry_of (after_all store (begin store.next caller file_length moment ∷ [])) store.next ≡ Some (upto (new_entry store.next caller file_length moment) [])
begun store caller file_length moment is =
    find-push (has_number store.next) store.entries _ (find_past store.next 1 store.next store.entries is.entries (omega arith)) (eq-eqb store.next store.next refl)

-- ---- the laws

pub uploaded : UploadedLaw
uploaded caller store file parts begun_at moment call is can octets good brings =
    let e : Entry = new_entry store.next caller (length file) begun_at in
    let s = sent caller parts file (after_all store (begin store.next caller (length file) begun_at ∷ [])) store.next (new_entry store.next caller (length file) begun_at) [] []
    (begun store caller (length file) begun_at is) brings (omega arith) in
    let granted = row-granted caller begun_at store (length file) can in
    let end : List Event = record { moment = moment; packet = Ok data_end } ∷ [] in
    record {
      replies =
          ap (λ (o : Option Row). on_row o [] (λ r. r.replies ++ replies_to caller (after_all store r.commands) r.state (parts ++ end))) granted
          ∙ ap (λ (l : List PacketValue). ul_go_resp store.next 0 ∷ l)
          (s.replies end ∙ end-replies caller s.now store.next e moment s.held s.waits file s.entry s.octets refl good);
      entry =
          ap (λ (o : Option Row). entry_of (on_row o store (λ r. store_after caller (after_all store r.commands) r.state (parts ++ end))) store.next) granted
          ∙ ap (λ (t : Store). entry_of t store.next) (s.store_is end)
          ∙ end-entry caller s.now store.next e moment s.held s.waits file s.entry s.octets refl good;
      client = (kept_file (stamp_of moment (new_entry store.next caller (length file) begun_at)) file call good).1 octets;
    }

pub resumed : ResumedLaw
resumed caller moment store number entry held some under_way by =
    let partly : entry.holding ≡ partial held = under_way.1 in
    row-resumed caller moment number entry.length some store entry under_way.0 by refl (rw partly refl)
    ∙ rw partly refl

-- the last octets that wait are held
held_entry : (store : Store) (number : ℕ) (held rest : List ℕ) (e : Entry) → entry_of store number ≡ Some (upto e held)
    → entry_of (after_all store (last_grow number rest)) number ≡ Some (upto e (held ++ rest))
held_entry store number held rest e found =
    ap (λ (s : Store). entry_of s number) (last_grow-after number rest store)
    ∙ find-map-changed number (grown rest) store.entries (upto e held) found

pub unread : UnreadLaw
unread caller moment store number entry held rest under_way all =
    let found = under_way.0 ∙ ap Some (upto-is entry held under_way.1) in
    let whole = row-unread caller moment store number (upto entry held) held found refl rest all in
    (whole, (held_entry store number held rest entry found, refl))

pub acknowledged : AcknowledgedLaw
acknowledged caller moment store number entry held rest under_way all good =
    let found = under_way.0 ∙ ap Some (upto-is entry held under_way.1) in (
      whole_row moment number rest None,
      end-row caller store number entry moment held rest (held ++ rest) found refl (length-append held rest ∙ all) good,
      refl,
      refl,
      sealed_entry store number moment held rest entry found,
      λ call octets. (kept_file (stamp_of moment entry) (held ++ rest) call good).1 octets,
    )

pub continued : ContinuedLaw
continued caller store number entry held later parts asked moment some under_way by all good brings =
    let found = under_way.0 ∙ ap Some (upto-is entry held under_way.1) in
    let none : held ++ [] ≡ held = append-nil held in
    let fits : length held + length later ≡ entry.length = sym (length-append held later) ∙ all in
    let s = sent caller parts later store number entry held [] found brings (omega arith) in
    let octets : s.held ++ s.waits ≡ held ++ later = s.octets ∙ ap (λ (os : List ℕ). os ++ later) none in
    let row = resumed caller asked store number entry held some under_way by in
    let end : List Event = record { moment = moment; packet = Ok data_end } ∷ [] in
    record {
      replies =
          ap (λ (o : Option Row). on_row o [] (λ r. r.replies ++ replies_to caller (after_all store r.commands) r.state (parts ++ end))) row
          ∙ ap (λ (l : List PacketValue). ul_go_resp number (length held) ∷ l)
          (s.replies end ∙ end-replies caller s.now number entry moment s.held s.waits (held ++ later) s.entry octets all good);
      entry_now =
          ap (λ (o : Option Row). entry_of (on_row o store (λ r. store_after caller (after_all store r.commands) r.state (parts ++ end))) number) row
          ∙ ap (λ (t : Store). entry_of t number) (s.store_is end)
          ∙ end-entry caller s.now number entry moment s.held s.waits (held ++ later) s.entry octets all good;
    }

-- one event's commands, and then those of the others
commands-then : (caller : CallSign) (store : Store) (events : List Event)
    → ((row : Row) → store_after caller (after_all store row.commands) row.state events ≡ after_all (after_all store row.commands) (commands_of caller (after_all store row.commands) row.state events))
    → (o : Option Row)
    → on_row o store (λ row. store_after caller (after_all store row.commands) row.state events)
    ≡ after_all store (on_row o [] (λ row. row.commands ++ commands_of caller (after_all store row.commands) row.state events))
commands-then caller store events later None = refl
commands-then caller store events later (Some row) =
    later row ∙ sym (after_all-append row.commands (commands_of caller (after_all store row.commands) row.state events) store)

pub commands : CommandsOfLaw
commands caller store state [] = refl
commands caller store state (event ∷ events) =
    commands-then caller store events (λ row. commands caller (after_all store row.commands) row.state events)
    (session_row caller event.moment store state event.packet)
