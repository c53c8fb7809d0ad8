-- Laws of the whole table, by those of uploading.
use Rattle.std.proofs.Common.{◌++◌, refl, ap, ◌∙◌, sym, subst}
use Rattle.ftl0_session.specs.Uploads.Laws.{kept}
use Rattle.ftl0_session.specs.Uploads.Session as upload
use Rattle.ftl0_session.proofs.Names.{Ok, true, false, data_end, ready, Acknowledges, AcknowledgedLaw, AcknowledgedStandsLaw, GrantedLaw, HoldsAll, ResumedLaw, StandsAcknowledged, UnreadLaw, UploadsLaw, Row, state_by}
use Rattle.ftl0_session.proofs.uploads.AckLemmas.{acknowledged_stands as upload_stands}
use Rattle.ftl0_session.proofs.uploads.UploadRows.{row-granted as upload_granted}
use Rattle.ftl0_session.proofs.uploads.Rows.{by_read-unread}
use Rattle.ftl0_session.proofs.uploads.Uploads.{acknowledged as upload_acknowledged, resumed as upload_resumed, unread as upload_unread}
use Rattle.ftl0_session.proofs.RowLemmas.{row-upload, upload-free}

pub uploads : UploadsLaw
uploads caller moment store lists part item fails row is =
    row-upload caller moment store lists (state_by part ready) item fails row (upload-free caller moment store part item fails ∙ is)

pub granted : GrantedLaw
granted caller moment store lists file_length fails can =
    uploads caller moment store lists upload.command _ fails (upload.granted_row caller moment store.next file_length)
    (by_read-unread caller moment store upload.command _ fails refl ∙ upload_granted caller moment store file_length can)

pub resumed : ResumedLaw
resumed caller moment store lists number entry held fails some under_way by =
    uploads caller moment store lists upload.command _ fails _
    (by_read-unread caller moment store upload.command _ fails refl ∙ upload_resumed caller moment store number entry held some under_way by)

pub acknowledged : AcknowledgedLaw
acknowledged caller moment store lists number entry held rest under_way all good =
    let given = upload_acknowledged caller moment store number entry held rest under_way all good in
    subst (λ (row : Row). Acknowledges store lists number entry (held ++ rest) moment row)
    (sym (uploads caller moment store lists (upload.receiving number rest) (Ok data_end) false given.0 given.1))
    (record {
      state = ap (λ (part : upload.State). state_by part ready) given.2;
      lists_stay = refl;
      replies = given.3;
      entry_now = given.4;
      client = given.5;
    })

pub unread : UnreadLaw
unread caller moment store lists number entry held rest under_way all =
    let given = upload_unread caller moment store number entry held rest under_way all in
    subst (λ (row : Row). HoldsAll store lists number entry (held ++ rest) row)
    (sym (uploads caller moment store lists (upload.receiving number rest) (Ok data_end) true (upload.unread_row number rest) given.0))
    (record { state = refl; lists_stay = refl; replies = refl; under_way = given.1 })

pub acknowledged_stands : AcknowledgedStandsLaw
acknowledged_stands caller start store lists commands moment number entry held rest is whole =
    let given = upload_stands caller start store commands moment number entry held rest is whole in
    subst (λ (row : Row). StandsAcknowledged row start commands number (kept entry (held ++ rest) moment))
    (sym (uploads caller moment store lists (upload.receiving number rest) (Ok data_end) false given.row given.is_row))
    (record { replies = given.replies; some = given.some; stands = given.stands })
