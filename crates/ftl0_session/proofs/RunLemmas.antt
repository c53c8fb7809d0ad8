-- A session over events.
use Rattle.std.proofs.Common.{◌≡◌, ℕ, List, [], ◌∷◌, ◌++◌, map, refl, ap, sym, ◌∙◌, subst, Option, None}
use Rattle.ftl0_session.specs.Uploads.Run.{state_after}
use Rattle.ftl0_session.specs.Uploads.Session as upload
use Rattle.ftl0_session.proofs.Names.{Command, after, after_all, Store, Failure, read_fails, commands_of, on_row, replies_to, store_after, ready, CommandsLaw, RunsOver, UploadRunLaw, as_event, event_row, session_over, by_upload, due_at, state_by}
use Rattle.ftl0_session.proofs.uploads.Rows.{row-some}
use Rattle.ftl0_session.proofs.RowLemmas.{row-upload, upload-free}

-- commands one after another
all-append : (a b : List Command) (store : Store) → after_all store (a ++ b) ≡ after_all (after_all store a) b
all-append [] b store = refl
all-append (command ∷ a) b store = all-append a b (after store command)

pub commands : CommandsLaw
commands caller store lists state [] said done now lists_now next runs = runs.2 ∙ ap (λ (cs : List Command). after_all store cs) (sym runs.1)
commands caller store lists state (event ∷ events) said done now lists_now next (row, sent, state_then, more, others, is, sends, said_is, done_is, runs) =
    commands caller (after_all store row.commands) row.lists state_then events more others now lists_now next runs
    ∙ sym (all-append row.commands others store) ∙ ap (λ (cs : List Command). after_all store cs) (sym done_is)

-- nothing is due of a session that does nothing of downloading
none-due : (store : Store) (part : upload.State) (failures : List Failure) (number : ℕ) → due_at store (state_by part ready) failures number ≡ None
none-due store upload.command failures number = refl
none-due store (upload.receiving file rest) failures number = refl
none-due store upload.aborting failures number = refl

pub upload_run : UploadRunLaw
upload_run caller store lists part [] all = (refl, refl, refl, refl, refl)
upload_run caller store lists part (event ∷ events) all =
    let has = row-some caller event.moment store part event.packet all.0 in
    let row : upload.Row = has.0 in
    let later = upload_run caller (after_all store row.commands) lists row.state events all.1 in
    let is : event_row caller store lists (state_by part ready) (as_event event) ≡ by_upload lists row =
    row-upload caller event.moment store lists (state_by part ready) event.packet (read_fails [] 0) row (upload-free caller event.moment store part event.packet (read_fails [] 0) ∙ has.1) in
    let replies : replies_to caller store part (event ∷ events) ≡ row.replies ++ replies_to caller (after_all store row.commands) row.state events =
    ap (λ (o : Option upload.Row). on_row o [] (λ r. r.replies ++ replies_to caller (after_all store r.commands) r.state events)) has.1 in
    let done : commands_of caller store part (event ∷ events) ≡ row.commands ++ commands_of caller (after_all store row.commands) row.state events =
    ap (λ (o : Option upload.Row). on_row o [] (λ r. r.commands ++ commands_of caller (after_all store r.commands) r.state events)) has.1 in
    let store_is : store_after caller store part (event ∷ events) ≡ store_after caller (after_all store row.commands) row.state events =
    ap (λ (o : Option upload.Row). on_row o store (λ r. store_after caller (after_all store r.commands) r.state events)) has.1 in
    let state_is : state_after caller store part (event ∷ events) ≡ state_after caller (after_all store row.commands) row.state events =
    ap (λ (o : Option upload.Row). on_row o part (λ r. state_after caller (after_all store r.commands) r.state events)) has.1 in
    let P : Store → upload.State → Type 0 = λ s p. RunsOver caller (session_over (after_all store row.commands) lists (state_by row.state ready)) (map as_event events) (replies_to caller (after_all store row.commands) row.state events) (commands_of caller (after_all store row.commands) row.state events) (session_over s lists (state_by p ready)) in
    let first = subst (λ (s : Store). P s (state_after caller (after_all store row.commands) row.state events)) (sym store_is) later in
    let all_of = subst (λ (p : upload.State). P (store_after caller store part (event ∷ events)) p) (sym state_is) first in (
      by_upload lists row,
      [],
      state_by row.state ready,
      replies_to caller (after_all store row.commands) row.state events,
      commands_of caller (after_all store row.commands) row.state events,
      is,
      (refl, none-due (after_all store row.commands) row.state [] 1),
      replies,
      done,
      all_of,
    )
