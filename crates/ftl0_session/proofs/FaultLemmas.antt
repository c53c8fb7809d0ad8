-- Which code 3 a row of the whole table has, and what is sent next.
use Rattle.std.proofs.Common.{◌≡◌, ◌≢◌, ℕ, List, [], ◌∷◌, length, refl, ap, sym, ◌∙◌, subst, take, eq-eqb, true≢false, Bool, true, false, ◌&&◌, Option, None, Some}
use Rattle.std.specs.Prelude.{if◌then◌else◌, ◌==◌}
use Rattle.ftl0_session.specs.Uploads.Laws.{FaultCodeLaw as UploadCodeLaw}
use Rattle.ftl0_session.specs.Uploads.Session as upload
use Rattle.ftl0_session.proofs.Names.{IfSome, AllByRecursion, option_map, IfSome_then, none-some, CallSign, kind_of_item, Item, PacketValue, data_end, data_part, dl_aborted_resp, dl_completed_resp, dl_error_resp, select_resp, ul_ack_resp, ul_error_resp, ul_go_resp, ul_nak_resp, CallerList, Store, told_weaker, IsNoFault, is_upload_kind, DownloadState, DueFaultLaw, FaultCodeLaw, State, download_part, error_by, in_session, next_due, failed_reads_told, tells_failed_read, upload_part}
use Rattle.ftl0_session.proofs.uploads.CaseLemmas.{upload-case}
use Rattle.ftl0_session.specs.Downloads.Sending as due
use Rattle.ftl0_session.specs.Downloads.Table as download
use Rattle.ftl0_session.proofs.downloads.ReplyLemmas.{row_replies}
use Rattle.ftl0_session.specs.Table.{session_row}
use Rattle.ftl0_session.proofs.CaseLemmas.{session-case}
use Rattle.ftl0_session.proofs.RowLemmas.{upload_part-free}

-- if no read fails, none of these replies reports one
abbrev pub Silent : List PacketValue → Type 0
Silent replies = failed_reads_told replies ≡ 0

-- ---- rows of downloading

-- the code of a refusal
abbrev code_in : PacketValue → ℕ
code_in (ul_error_resp code) = code
code_in (ul_nak_resp code) = code
code_in (dl_error_resp code) = code
code_in reply = 0

told-by : (reply : PacketValue) → (code_in reply == 3) ≡ false → tells_failed_read reply ≡ false
told-by (dl_error_resp code) other = other
told-by (ul_nak_resp code) other = other
told-by reply other = refl

-- replies that report a failed read only if one failed, and no failed write
pub record Keeps (fails : Bool) (replies : List PacketValue) : Type 0 where
  pub reads : fails ≡ false → Silent replies
  pub writes : AllByRecursion IsNoFault replies

keeps-none : (fails : Bool) → Keeps fails []
keeps-none fails = record { reads = λ fine. refl; writes = tt }

keeps-fault : (fails : Bool) → fails ≡ true → Keeps fails (dl_error_resp 3 ∷ [])
keeps-fault fails failed = record { reads = λ fine. absurd (true≢false (sym failed ∙ fine)); writes = ((λ same. cc same, λ same. cc same), tt) }

-- one whose code isn't 3
keeps-one : (fails : Bool) (reply : PacketValue) → (code_in reply == 3) ≡ false → Keeps fails (reply ∷ [])
keeps-one fails reply other = record { reads = λ fine. rw (told-by reply other) refl; writes = ((λ same. never (ap code_in same), λ same. never (ap code_in same)), tt) }
  where
    never : code_in reply ≢ 3
    never same = true≢false (sym (eq-eqb (code_in reply) 3 same) ∙ other)

pub part-keeps : (caller : CallSign) (store : Store) (lists : List CallerList) (part : DownloadState) (packet : PacketValue) (fails : Bool)
    → IfSome (download.download_row caller store lists part packet fails) (λ row. Keeps fails row.replies)
part-keeps caller store lists part packet fails =
    row_replies fails (Keeps fails) (keeps-none fails) (λ code. keeps-one fails (dl_error_resp code)) (keeps-fault fails) (λ count. keeps-one fails (select_resp count) refl)
    (keeps-one fails dl_aborted_resp refl) (keeps-one fails dl_completed_resp refl) caller store lists part packet

-- ---- the whole table

-- A row reports a failed read only if one failed, never replies UL_ERROR_RESP 3, and UL_NAK_RESP 3 only if there is
-- this row of a file that can't be read.
record KeepsBy (fails : Bool) (unread : Option upload.Row) (replies : List PacketValue) : Type 0 where
  reads : fails ≡ false → Silent replies
  writes : (fails ≡ true → unread ≡ None) → AllByRecursion IsNoFault replies
  errors : AllByRecursion (λ reply. reply ≢ ul_error_resp 3) replies

each : {P Q : PacketValue → Type 0} → ((reply : PacketValue) → P reply → Q reply) → (replies : List PacketValue) → AllByRecursion P replies → AllByRecursion Q replies
each weaker [] all = tt
each weaker (reply ∷ replies) all = (weaker reply all.0, each weaker replies all.1)

keeps-by : (fails : Bool) (unread : Option upload.Row) (replies : List PacketValue) → Keeps fails replies → KeepsBy fails unread replies
keeps-by fails unread replies keeps = record { reads = keeps.reads; writes = λ none. keeps.writes; errors = each (λ reply fine. fine.0) replies keeps.writes }

-- ---- rows of uploading

module _ (caller : CallSign) (moment : ℕ) (store : Store) (fails : Bool) where
  abbrev KeepsIn : upload.State → Item → upload.Row → Type 0
  KeepsIn state item row = KeepsBy fails (upload.row_unread store state item) row.replies

  silent : (unread : Option upload.Row) → KeepsBy fails unread []
  silent unread = keeps-by fails unread [] (keeps-none fails)

  replied : (unread : Option upload.Row) (reply : PacketValue) → (code_in reply == 3) ≡ false → KeepsBy fails unread (reply ∷ [])
  replied unread reply other = keeps-by fails unread (reply ∷ []) (keeps-one fails reply other)

  uploads-keep : (state : upload.State) (item : Item) → IfSome (upload.row_by_read caller moment store state item fails) (KeepsIn state item)
  uploads-keep = upload-case (record {
    granted = λ number len can. replied _ (ul_go_resp store.next 0) refl;
    resumed = λ number len e found theirs partly. replied _ (ul_go_resp number _) refl;
    refused = λ state item code other. replied _ (ul_error_resp code) other;
    taken = λ n rest octets room. silent _;
    too_many = λ n rest octets. replied _ (ul_nak_resp 1) refl;
    whole = λ n rest fine all good. replied _ ul_ack_resp refl;
    faulty = λ n rest code other. replied _ (ul_nak_resp code) other;
    unread = λ n rest failed all. record {
      reads = λ fine. absurd (true≢false (sym failed ∙ fine));
      writes = λ none. absurd (none-some (upload.unread_row n rest) (sym (let never = none failed in rw all at never)));
      errors = (λ same. cc same, tt);
    };
    too_few = λ n rest. replied _ (ul_nak_resp 16) refl;
    waited = λ octets. silent _;
    ended = silent _;
  })

pub uploads-silent : (caller : CallSign) (moment : ℕ) (store : Store) (state : upload.State) (item : Item) → IfSome (upload.session_row caller moment store state item) (λ row. Silent row.replies)
uploads-silent caller moment store state item =
    IfSome_then (upload.session_row caller moment store state item) (uploads-keep caller moment store false state item) (λ row keeps. keeps.reads refl)

pub upload_codes : UploadCodeLaw
upload_codes caller moment store state item =
    IfSome_then (upload.session_row caller moment store state item) (uploads-keep caller moment store false state item) (λ row keeps. keeps.writes (λ never. absurd (true≢false (sym never))))

-- ---- the rows of both

error-keeps : (fails b : Bool) → Keeps fails (error_by b ∷ [])
error-keeps fails true = keeps-one fails (ul_error_resp 1) refl
error-keeps fails false = keeps-one fails (dl_error_resp 1) refl

row-keeps : (caller : CallSign) (moment : ℕ) (store : Store) (lists : List CallerList) (state : State) (item : Item) (fails : Bool)
    → KeepsBy fails (upload.row_unread store (upload_part state) item) (session_row caller moment store lists state item fails).replies
row-keeps caller moment store lists state item fails =
    session-case caller moment store lists fails (λ at given row. KeepsBy fails (upload.row_unread store (upload_part at) given) row.replies)
    (λ part given.
    subst (λ (p : upload.State). IfSome (upload.row_by_read caller moment store part given fails) (λ row. KeepsBy fails (upload.row_unread store p given) row.replies))
    (sym (upload_part-free part)) (uploads-keep caller moment store fails part given))
    (λ part packet. IfSome_then (download.download_row caller store lists part packet fails) (part-keeps caller store lists part packet fails) (λ row keeps. keeps-by fails _ row.replies keeps))
    (λ at given. keeps-by fails _ (error_by (is_upload_kind (kind_of_item given)) ∷ []) (error-keeps fails (is_upload_kind (kind_of_item given)))) state item

pub fault_codes : FaultCodeLaw
fault_codes caller moment store lists state item =
    let fine = row-keeps caller moment store lists state item false in
    let failed = row-keeps caller moment store lists state item true in
    record {
      reads = fine.reads refl;
      writes = fine.writes (λ never. absurd (true≢false (sym never)));
      errors = failed.errors;
      naks = λ none. each (λ reply kept. kept.1) _ (failed.writes (λ fails. none));
    }

-- ---- what is sent next

-- what is sent next reports a failed read only if one failed, and no failed write
record KeepsOne (fails : Bool) (packet : PacketValue) : Type 0 where
  reads : fails ≡ false → tells_failed_read packet ≡ false
  writes : IsNoFault packet

due_either : (fails b : Bool) (first second : due.DuePacket) → (b ≡ true → KeepsOne fails first.packet) → KeepsOne fails second.packet → KeepsOne fails (if b then first else second).packet
due_either fails true first second a c = a refl
due_either fails false first second a c = c

both-first : (a b : Bool) → (a && b) ≡ true → a ≡ true
both-first true b is = refl
both-first false b is = absurd (true≢false (sym is))

-- code 3 only if a read fails
packet-keeps : (store : Store) (state : DownloadState) (fails : Bool) → KeepsOne fails (due.due_packet store state fails).packet
packet-keeps store state fails =
    let failed : due.DuePacket = record { packet = dl_error_resp 3; state = download.ready } in
    let sent : due.DuePacket = record { packet = data_part (take due.most_data (due.octets_due store state)); state = due.state_after due.most_data state } in
    due_either fails (length (due.octets_due store state) == 0) (record { packet = data_end; state = due.state_at_end state }) (if fails && due.is_read state then failed else sent)
    (λ end. record { reads = λ fine. refl; writes = (λ same. cc same, λ same. cc same) })
    (due_either fails (fails && due.is_read state) failed sent
    (λ both. record { reads = λ fine. absurd (true≢false (sym (both-first fails (due.is_read state) both) ∙ fine)); writes = (λ same. cc same, λ same. cc same) })
    (record { reads = λ fine. refl; writes = (λ same. cc same, λ same. cc same) }))

due-keeps : (store : Store) (state : State) (fails : Bool) → IfSome (next_due store state fails) (λ next. KeepsOne fails next.packet)
due-keeps store state fails = by (due.is_due (download_part state))
  where
    by : (b : Bool) → IfSome (option_map in_session (if b then Some (due.due_packet store (download_part state) fails) else None)) (λ next. KeepsOne fails next.packet)
    by true = packet-keeps store (download_part state) fails
    by false = tt

pub due_codes : DueFaultLaw
due_codes store state = (
  told_weaker (next_due store state false) _ _ (λ next is keeps. keeps.reads refl) (due-keeps store state false),
  λ fails. told_weaker (next_due store state fails) _ _ (λ next is keeps. keeps.writes) (due-keeps store state fails),
)
