-- An event that reports no read that failed is what it is when none fails.
use Rattle.std.proofs.Common.{◌≡◌, ⊎_elim, ℕ, zero, suc, ◌+◌, ◌≤◌, List, [], ◌∷◌, ◌++◌, Bool, true, false, ◌||◌, Option, None, Some, refl, sym, ap, ◌∙◌, arith}
use Rattle.std.specs.Prelude.{if◌then◌else◌}
use Rattle.std.proofs.Math.Bool.{or-false}
use Rattle.ftl0_session.specs.Uploads.Session as upload
use Rattle.ftl0_session.proofs.WorkingLemmas.{writes-behind, writes-unlisted}
use Rattle.ftl0_server.proofs.step_laws.Names.{Ok, nat_le, slice_get, none-some, same_Some, CallSign, FrameValue, after_push, Heard, Bytes, LinkEnd, free_octets, after_frame, heard_of, Window, texts, Item, data_end, packets_of, enough_free, fits, on_due, after_all, Store, entry_of, CallerList, Session, session_over, DuePacket, Row, by_upload, failed_reads_told, next_due, row_at, session_row, upload_part, Failure, NoReadFails, failed_reads, read_fails, write_fails, is_all, Connected, caller_of, hearing, parts_as, parts_of_frame, progressed, rest_of_frame, Progress, after_due, after_row, failing_at, giving_up, queued, queuing, taking, taking_row, Server, heard_at, hearing_at, hearing_by, happening, Slot, connected, place_of, NodeEvent, hears, ticks, MissesLaw, DueReadsLaw, ReadsLaw, failed_due, failed_row}

-- none of both, if there are none together
both-none : (some more : ℕ) → some + more ≡ 0 → (some ≡ 0) × (more ≡ 0)
both-none some more none = (omega arith, omega arith)

-- the session after a row
abbrev behind_row : Session → Row → Session
behind_row session row = session_over (after_all session.store row.commands) row.lists row.state

-- the row of a file that can't be read reports one failed read
unread-told : (store : Store) (part : upload.State) (item : Item) (row : upload.Row) → upload.row_unread store part item ≡ Some row → failed_reads_told row.replies ≡ 1
unread-told store (upload.receiving n rest) (Ok data_end) row is = by (is_all (entry_of store n) rest) is
  where
    by : (b : Bool) → (if b then Some (upload.unread_row n rest) else None) ≡ Some row → failed_reads_told row.replies ≡ 1
    by true same = ap (λ (r : upload.Row). failed_reads_told r.replies) (sym (same_Some (upload.unread_row n rest) row same))
    by false same = absurd (none-some row same)
unread-told store part item row is = absurd (none-some row is)

-- The same writes fail by both, and by the second no read.
record AreAlike (some others : List Failure) : Type 0 where
  pub writes : (part : ℕ) → write_fails some part ≡ write_fails others part
  pub reads : NoReadFails others

module _ (rows : ReadsLaw) (due : DueReadsLaw) (some others : List Failure) (alike : AreAlike some others) where
  -- ---- packets

  module _ (caller : CallSign) (moment : ℕ) where
    -- the row of a packet that doesn't report a failed read is the one when none fails
    row-by : (session : Session) (item : Item) (fails : Bool)
        → failed_reads_told (session_row caller moment session.store session.lists session.state item fails).replies ≡ 0
        → session_row caller moment session.store session.lists session.state item fails ≡ session_row caller moment session.store session.lists session.state item false
    row-by session item false none = refl
    row-by session item true none =
        ⊎_elim (λ same. same)
        (λ told.
        ⊎_elim
        (λ (failed : made ≡ failed_row session.lists session.state).
        absurd (let one : failed_reads_told (failed_row session.lists session.state).replies ≡ 0 = ap (λ (row : Row). failed_reads_told row.replies) (sym failed) ∙ none in omega (arith, one)))
        (λ (one : (row : upload.Row) × (unread ≡ Some row) × (made ≡ by_upload session.lists row)).
        absurd (let one_told : failed_reads_told one.0.replies ≡ 1 = unread-told session.store (upload_part session.state) item one.0 one.1 in
        let none_told : failed_reads_told one.0.replies ≡ 0 = ap (λ (row : Row). failed_reads_told row.replies) (sym one.2) ∙ none in omega (arith, one_told, none_told))) told)
        (rows caller moment session.store session.lists session.state item)
      where
        made : Row
        made = session_row caller moment session.store session.lists session.state item true

        unread : Option upload.Row
        unread = upload.row_unread session.store (upload_part session.state) item

    row-alike : (session : Session) (item : Item) (part : ℕ) → failed_reads_told (row_at caller moment session.store session.lists session.state item some part).replies ≡ 0
        → row_at caller moment session.store session.lists session.state item some part ≡ row_at caller moment session.store session.lists session.state item others part
    row-alike session item part none =
        row-by session item (read_fails some part) none ∙ ap (λ (fails : Bool). session_row caller moment session.store session.lists session.state item fails) (sym (alike.reads part))

    -- what a row makes, by whether a write fails and whether its replies fit
    abbrev by_tests : Session → LinkEnd → ℕ → Row → Bool → Bool → Progress → Progress
    by_tests session end part row failed enough later =
        if failed then failing_at end session.state session.lists row part
        else if enough then after_row row later
        else giving_up end row part

    tests-alike : (session : Session) (end : LinkEnd) (part : ℕ) (row : Row) (failed enough : Bool) (later other : Progress) → (later.missed ≡ 0 → later ≡ other)
        → (by_tests session end part row failed enough later).missed ≡ 0
        → (by_tests session end part row failed enough later ≡ by_tests session end part row failed enough other) × (failed_reads_told row.replies ≡ 0)
    tests-alike session end part row true enough later other each none = (refl, none)
    tests-alike session end part row false true later other each none =
        let both = both-none (failed_reads_told row.replies) later.missed none in
        (ap (after_row row) (each both.1), both.0)
    tests-alike session end part row false false later other each none = (refl, none)

    taking-alike : (session : Session) (end : LinkEnd) (items : List Item) (part : ℕ) → (taking caller moment session end items some part).missed ≡ 0
        → taking caller moment session end items some part ≡ taking caller moment session end items others part
    taking-alike session end [] part none = refl
    taking-alike session end (item ∷ items) part none =
        let row : Row = row_at caller moment session.store session.lists session.state item some part in
        let later : List Failure → Row → Progress = λ failures r. taking caller moment (behind_row session r) (after_push end (texts r.replies)) items failures (suc part) in
        let made = tests-alike session end part row (write_fails some part) (fits end (texts row.replies)) (later some row) (later others row)
        (taking-alike (behind_row session row) (after_push end (texts row.replies)) items (suc part)) none in
        made.0
        ∙ ap (λ (r : Row). taking_row end session.state session.lists part (write_fails some part) (later others r) r) (row-alike session item part made.1)
        ∙ ap (λ (failed : Bool). taking_row end session.state session.lists part failed (later others (row_at caller moment session.store session.lists session.state item others part))
        (row_at caller moment session.store session.lists session.state item others part)) (alike.writes part)

  -- ---- what is due

  module _ (store : Store) where
    -- no fewer are reported after what was queued
    more-by : (progress : Progress) (enough : Bool) (next : Option DuePacket) (later : DuePacket → Progress) → ((one : DuePacket) → progress.missed ≤ (later one).missed)
        → progress.missed ≤ (if enough then on_due next progress later else progress).missed
    more-by progress true None later each = omega arith
    more-by progress true (Some one) later each = each one
    more-by progress false next later each = omega arith

    queuing-more : (count : ℕ) (failures : List Failure) (progress : Progress) → progress.missed ≤ (queuing count store failures progress).missed
    queuing-more zero failures progress = omega arith
    queuing-more (suc more) failures progress =
        more-by progress (nat_le enough_free (free_octets progress.end)) (next_due store progress.state (read_fails failures progress.part))
        (λ one. queuing more store failures (after_due one progress)) (λ one. let rest = queuing-more more failures (after_due one progress) in omega (arith, rest))

    module _ (progress : Progress) (later other : DuePacket → Progress) (each : (one : DuePacket) → (later one).missed ≡ 0 → later one ≡ other one)
        (told : (later failed_due).missed ≡ 0 → ⊥) where
      due-same : (next : Option DuePacket) → (on_due next progress later).missed ≡ 0 → on_due next progress later ≡ on_due next progress other
      due-same None none = refl
      due-same (Some one) none = each one none

      due-by : (enough fails : Bool) → (if enough then on_due (next_due store progress.state fails) progress later else progress).missed ≡ 0
          → (if enough then on_due (next_due store progress.state fails) progress later else progress)
          ≡ (if enough then on_due (next_due store progress.state false) progress other else progress)
      due-by false fails none = refl
      due-by true false none = due-same (next_due store progress.state false) none
      due-by true true none =
          ⊎_elim
          (λ (same : next_due store progress.state true ≡ next_due store progress.state false).
          due-same (next_due store progress.state true) none ∙ ap (λ (next : Option DuePacket). on_due next progress other) same)
          (λ (fault : next_due store progress.state true ≡ Some failed_due). absurd (told (ap (λ (next : Option DuePacket). (on_due next progress later).missed) (sym fault) ∙ none)))
          (due store progress.state)

    queuing-alike : (count : ℕ) (progress : Progress) → (queuing count store some progress).missed ≡ 0 → queuing count store some progress ≡ queuing count store others progress
    queuing-alike zero progress none = refl
    queuing-alike (suc more) progress none =
        let later : List Failure → DuePacket → Progress = λ failures one. queuing more store failures (after_due one progress) in
        let told : (later some failed_due).missed ≡ 0 → ⊥ =
        λ h. (let rest : progress.missed + 1 ≤ (later some failed_due).missed = queuing-more more some (after_due failed_due progress) in omega (arith, rest, h)) in
        due-by progress (later some) (later others) (λ one. queuing-alike more (after_due one progress)) told (nat_le enough_free (free_octets progress.end)) (read_fails some progress.part) none
        ∙ ap (λ (fails : Bool). if nat_le enough_free (free_octets progress.end) then on_due (next_due store progress.state fails) progress (later others) else progress)
        (sym (alike.reads progress.part))

  -- ---- an event

  module _ (store : Store) (progress : Progress) where
    abbrev queued_by : List Failure → Bool → Progress
    queued_by failures over = if over then progress else queuing (free_octets progress.end) (after_all store progress.done) failures progress

    queued-more : (over : Bool) → progress.missed ≤ (queued_by some over).missed
    queued-more true = omega arith
    queued-more false = queuing-more (after_all store progress.done) (free_octets progress.end) some progress

    queued-alike : (over : Bool) → (queued_by some over).missed ≡ 0 → queued_by some over ≡ queued_by others over
    queued-alike true none = refl
    queued-alike false none = queuing-alike (after_all store progress.done) (free_octets progress.end) progress none

  parts-alike : (told : Heard) (moment : ℕ) (store : Store) (lists : List CallerList) (c : Connected) (after : LinkEnd) (octets : List ℕ)
      → (parts_as told moment store lists c after octets some).missed ≡ 0 → parts_as told moment store lists c after octets some ≡ parts_as told moment store lists c after octets others
  parts-alike Bytes moment store lists c after octets none = taking-alike (caller_of c) moment (session_over store lists c.state) after (packets_of (c.rest ++ octets)) 0 none
  parts-alike told moment store lists c after octets none = refl

  hearing-alike : (w : Window) (moment : ℕ) (store : Store) (lists : List CallerList) (c : Connected) (frame : FrameValue) → (hearing w moment store lists c frame some).missed ≡ 0
      → hearing w moment store lists c frame some ≡ hearing w moment store lists c frame others
  hearing-alike w moment store lists c frame none =
      let progress : Progress = parts_of_frame w moment store lists c frame some in
      let few : progress.missed ≤ (queued store some progress).missed = queued-more store progress progress.over in
      let fewer : progress.missed ≡ 0 = omega (arith, few, none) in
      let parts = parts-alike (heard_of w c.end frame) moment store lists c (after_frame w c.end frame) frame.kind.information fewer in
      ap (progressed (rest_of_frame w c frame)) (queued-alike store progress progress.over none ∙ ap (queued store others) parts)

  at-alike : (server : Server) (frame : FrameValue) (moment place : ℕ) (slot : Option Slot) → (hearing_at server frame moment some place slot).missed ≡ 0
      → hearing_at server frame moment some place slot ≡ hearing_at server frame moment others place slot
  at-alike server frame moment place (Some (connected c)) none = ap (heard_at server place) (hearing-alike server.window moment server.store server.lists c frame none)
  at-alike server frame moment place slot none = refl

  by-alike : (server : Server) (frame : FrameValue) (moment : ℕ) (place : Option ℕ) → (hearing_by server frame moment some place).missed ≡ 0
      → hearing_by server frame moment some place ≡ hearing_by server frame moment others place
  by-alike server frame moment None none = refl
  by-alike server frame moment (Some place) none = at-alike server frame moment place (slice_get server.slots place) none

  event-alike : (server : Server) (event : NodeEvent) → (happening server event some).missed ≡ 0 → happening server event some ≡ happening server event others
  event-alike server (hears frame moment) none = by-alike server frame moment (place_of frame.src server.slots) none
  event-alike server (ticks moment) none = refl

pub misses-law : ReadsLaw → DueReadsLaw → MissesLaw
misses-law rows due server event writes parts reads none =
    event-alike rows due (writes ++ failed_reads parts) writes
    (record {
      writes = λ part. writes-behind writes (failed_reads parts) part ∙ ap (λ (b : Bool). write_fails writes part || b) (writes-unlisted parts part) ∙ or-false (write_fails writes part);
      reads = reads;
    }) server event none
