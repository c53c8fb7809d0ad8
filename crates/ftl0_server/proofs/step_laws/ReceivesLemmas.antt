-- A file that is received stays the caller's: after each row, once what is due was queued, and after a frame.
use Rattle.std.proofs.Common.{◌≡◌, ℕ, suc, List, [], ◌∷◌, ◌++◌, length, refl, ap, sym, subst, ◌∙◌}
use Rattle.std.proofs.Common.{arith, Bool, true, Option, None, Some}
use Rattle.std.proofs.lemmas.Bool.{cond_both}
use Rattle.std.specs.Prelude.{◌/◌, ◌*◌}
use Rattle.packet_link.proofs.Queuing.{filling-keeps}
use Rattle.file_store_model.specs.IsStore.{IsStore}
use Rattle.file_store_model.proofs.Offered.{follows_law}
use Rattle.ftl0_session.specs.Downloads.Sending as due
use Rattle.ftl0_session.specs.Downloads.Table as download
use Rattle.ftl0_session.specs.Uploads.Session as upload
use Rattle.ftl0_session.proofs.uploads.UploadRows.{theirs-decides}
use Rattle.ftl0_server.proofs.step_laws.Names.{nat_tests, same_Some, take, option_map, CallSign, IsCall, FrameValue, after_push, Heard, Nothing, Opened, Reopened, Bytes, Closed, LinkEnd, free_octets, after_frame, heard_of, Window, texts, Item, packets_of, fits, AreOf, FollowsBy, IsOwnEntry, AreAllowed, Command, after, after_all, begin, whole_grows, Entry, Store, entry_of, new_entry, AreAllowed-split, after_all-append, find-push, find_past, grows-after, has_number, CallerList, Session, session_over, DuePacket, Row, State, download_part, downloading, due_at, in_session, session_row, state_by, Failure, read_fails, write_fails, OfUploads, if-there, session-case, upload-case, is_theirs, Connected, caller_of, hearing, parts_as, parts_of_frame, Progress, after_due, after_row, failing_at, giving_up, queued, queuing, taking, queued-keeps, ReceivesAfter, ReceivesBehind, ReceivesHeard, ReceivesLaw, ReceivesOwn}
use Rattle.ftl0_server.proofs.step_laws.RowLemmas.{commands_own, own-grow}

-- ---- after a row

-- while something is sent or listed no file is received
downloads-own : (caller : CallSign) (store : Store) (part : download.DownloadState)
    → ReceivesOwn caller store (downloading part)
downloads-own caller store download.ready = tt
downloads-own caller store part = tt

module _ (caller : CallSign) (moment : ℕ) (store : Store) where
  -- the file that is received after a row of uploading is the caller's
  abbrev Receives : upload.Row → Type 0
  Receives row = ReceivesOwn caller (after_all store row.commands) (state_by row.state download.ready)

  -- the file that is begun is the caller's, if no entry has the next number before
  begun-own : (len : ℕ) → IsStore store
      → IsOwnEntry caller (after store (begin store.next caller len moment)) store.next
  begun-own len is entry found =
      let new : Entry = new_entry store.next caller len moment in
      let there =
      find-push (has_number store.next) store.entries new
      (find_past store.next 1 store.next store.entries is.entries (omega arith)) (grind (arith, nat_tests)) in
      ap (λ (e : Entry). e.caller) (sym (same_Some new entry (sym there ∙ found)))

  -- one that goes on is the caller's, as its row looks
  resumed-own : (number len : ℕ) (e : Entry) → entry_of store number ≡ Some e → is_theirs caller len e ≡ true
      → IsOwnEntry caller store number
  resumed-own number len e is theirs entry found =
      let mine : e.caller ≡ caller = ((theirs-decides caller len e).0 theirs).0 in
      ap (λ (x : Entry). x.caller) (sym (same_Some e entry (sym is ∙ found))) ∙ mine

  grown-own : (n : ℕ) (octets : List ℕ) → IsOwnEntry caller store n
      → IsOwnEntry caller (after_all store (whole_grows n octets)) n
  grown-own n octets own =
      let count : ℕ = length octets / 512 in
      subst (λ (now : Store). IsOwnEntry caller now n) (sym (grows-after n count octets store))
      (own-grow caller n store (take (512 * count) octets) own)

  uploads-receive : (fails : Bool) → IsStore store
      → OfUploads caller moment store fails
      (λ part item row. ReceivesOwn caller store (state_by part download.ready) → Receives row)
  uploads-receive fails is = record {
    granted = λ number len can own. begun-own len is;
    resumed = λ number len e found theirs partly own. resumed-own number len e found theirs;
    refused = λ part item code other own. own;
    taken = λ n rest octets room own. grown-own n (rest ++ octets) own;
    too_many = λ n rest octets own. tt;
    whole = λ n rest fine all good own. tt;
    faulty = λ n rest code other own. tt;
    unread = λ n rest failed all own. tt;
    too_few = λ n rest own. tt;
    waited = λ octets own. tt;
    ended = λ own. tt;
  }

  row-receives : (lists : List CallerList) (state : State) (item : Item) (fails : Bool) → IsStore store
      → ReceivesOwn caller store state
      → ReceivesBehind caller store (session_row caller moment store lists state item fails)
  row-receives lists state item fails is =
      session-case caller moment store lists fails
      (λ at given row. ReceivesOwn caller store at → ReceivesBehind caller store row)
      (upload-case (uploads-receive fails is))
      (λ part packet.
      if-there (download.download_row caller store lists part packet fails) _
      (λ row own. downloads-own caller store row.state)) (λ at given own. own) state item

-- ---- once what is due was queued

-- a packet that is due leaves nothing that is received
due-own : (caller : CallSign) (store : Store) (o : Option due.DuePacket) (next : DuePacket)
    → option_map in_session o ≡ Some next → ReceivesOwn caller store next.state
due-own caller store None next is = absurd cc
due-own caller store (Some one) next is =
    subst (λ (sent : DuePacket). ReceivesOwn caller store sent.state) (same_Some (in_session one) next is)
    (downloads-own caller store one.state)

queued-own : (caller : CallSign) (store : Store) (failures : List Failure) (progress : Progress)
    → ReceivesAfter caller store progress → ReceivesAfter caller store (queued store failures progress)
queued-own caller store failures progress own =
    let made : Store = after_all store progress.done in
    cond_both progress.over progress (queuing (free_octets progress.end) made failures progress)
    (ReceivesAfter caller store) (λ over. own)
    (λ on.
    filling-keeps (λ (at : Progress). at.end) (λ (at : Progress). due_at made at.state failures at.part) after_due
    (ReceivesAfter caller store)
    (λ at next is before.
    due-own caller (after_all store at.done)
    (due.next_due made (download_part at.state) (read_fails failures at.part)) next is)
    (free_octets progress.end) progress own)

-- ---- after a frame

-- what commands of a caller, each of them allowed, make of a store that keeps its rules keeps them
row-rules : (caller : CallSign) (store : Store) (commands : List Command) → IsStore store → IsCall caller
    → AreOf caller store commands → AreAllowed store commands → IsStore (after_all store commands)
row-rules caller store commands is call own allowed =
    let now : Store = after_all store commands in
    let by : FollowsBy caller store now = record { commands = commands; own = own; does = (allowed, refl) } in
    (follows_law.entries store now is (follows_law.others caller store now is call by).0).rules

-- if the commands of the parts are allowed, the file that is received after them is the caller's
abbrev IsKept : CallSign → Store → Progress → Type 0
IsKept caller store progress = AreAllowed store progress.done → ReceivesAfter caller store progress

module _ (caller : CallSign) (moment : ℕ) (call : IsCall caller) (failures : List Failure) where
  taking-own : (session : Session) (end : LinkEnd) (items : List Item) (part : ℕ) → IsStore session.store
      → ReceivesOwn caller session.store session.state
      → IsKept caller session.store (taking caller moment session end items failures part)
  taking-own session end [] part is own = λ allowed. own
  taking-own session end (item ∷ items) part is own =
      let fails : Bool = read_fails failures part in
      let row : Row = session_row caller moment session.store session.lists session.state item fails in
      let next : Session = session_over (after_all session.store row.commands) row.lists row.state in
      let later : Progress = taking caller moment next (after_push end (texts row.replies)) items failures (suc part) in
      let behind : ReceivesBehind caller session.store row =
      row-receives caller moment session.store session.lists session.state item fails is own in
      let commands : AreOf caller session.store row.commands =
      commands_own caller moment session.store session.lists session.state item fails own in
      cond_both (write_fails failures part) (failing_at end session.state session.lists row part) _
      (IsKept caller session.store) (λ failed allowed. tt)
      (λ written.
      cond_both (fits end (texts row.replies)) (after_row row later) (giving_up end row part)
      (IsKept caller session.store)
      (λ enough allowed.
      subst (λ (now : Store). ReceivesOwn caller now later.state)
      (sym (after_all-append row.commands later.done session.store))
      (taking-own next (after_push end (texts row.replies)) items (suc part)
      (row-rules caller session.store row.commands is call commands
      (AreAllowed-split row.commands later.done session.store allowed).0) behind
      (AreAllowed-split row.commands later.done session.store allowed).1))
      (λ few allowed. behind))

module _ (moment : ℕ) (store : Store) (lists : List CallerList) (c : Connected) (failures : List Failure)
    (is : IsStore store) (call : IsCall (caller_of c)) (own : ReceivesOwn (caller_of c) store c.state) where
  parts-own : (told : Heard) (end : LinkEnd) (octets : List ℕ)
      → IsKept (caller_of c) store (parts_as told moment store lists c end octets failures)
  parts-own Nothing end octets = λ allowed. own
  parts-own Opened end octets = λ allowed. own
  parts-own Reopened end octets = λ allowed. tt
  parts-own Bytes end octets =
      taking-own (caller_of c) moment call failures (session_over store lists c.state) end
      (packets_of (c.rest ++ octets)) 0 is own
  parts-own (Closed why) end octets = λ allowed. own

  heard-own : (w : Window) (frame : FrameValue)
      → AreAllowed store (hearing w moment store lists c frame failures).done
      → ReceivesHeard (caller_of c) store (hearing w moment store lists c frame failures)
  heard-own w frame allowed =
      let parts : Progress = parts_of_frame w moment store lists c frame failures in
      queued-own (caller_of c) store failures parts
      (parts-own (heard_of w c.end frame) (after_frame w c.end frame) frame.kind.information
      (subst (AreAllowed store) (queued-keeps store failures parts).done allowed))

pub receives-law : ReceivesLaw
receives-law = record {
  rows = λ caller moment store lists state item fails. row-receives caller moment store lists state item fails;
  queued = queued-own;
  heard = λ w moment store lists c frame failures is call allowed own.
      heard-own moment store lists c failures is call own w frame allowed;
}
