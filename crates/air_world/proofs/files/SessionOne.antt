-- One entry of a session of an upload keeps the client's facts.
use Rattle.std.proofs.Common.{◌≡◌, inl, inr, ℕ, List, [], ◌∷◌, ◌++◌, length, refl, ap, sym, ◌∙◌, subst, append-nil, Bool, true}
use Rattle.ftl0_session.specs.Table.{Row}
use Rattle.ftl0_server.specs.Entries as session
use Rattle.ftl0_server.specs.Entries.{row_of}
use Rattle.ftl0_client_job.specs.declared.work.Work.TheVariants as work
use Rattle.air_world.specs.Files.UploadDialogue.{ended}
use Rattle.air_world.specs.Files.UploadDialogue.{refused}
use Rattle.air_world.proofs.files.Names.{Ok, AllByRecursion, Fits, Item, ul_error_resp, ul_go_resp, upload_cmd, AreAllowed, Command, DropsNothing, after_first, Store, ListsStayLaw, AreComplete, AcknowledgedLaw, UploadsLaw, Session, SessionEntry, after_row, CallerLaw, Work, Upload, Attempt, ServerTookFront, Asked, Party, octets_of_data, ServerSide, said_by_client, Serves, HasFacts, coming_by, AreNewGrants, IsOne, IsServed, IsUploadOf, LeftIn, SessionGoes, SessionKeeps, SessionLawOf, session_gone, with_attempt, AnsweredFirst, Receiving, ServesUpload, answered_in, receives, unasked}
use Rattle.air_world.proofs.files.ApartLemmas.{HasSideFacts}
use Rattle.air_world.proofs.files.EntryLemmas.{answered-more, answers-cases, answers-still, coming-gone, said-more}
use Rattle.air_world.proofs.files.EntryLemmas.{with_entry}
use Rattle.air_world.proofs.files.GoneOnLemmas.{facts-gone_on}
use Rattle.air_world.proofs.files.SideLemmas.{EntryDoes, RowDoes, done, gone_attempt, left-all, row-all, row-left, side-kept}
use Rattle.air_world.proofs.files.SideLemmas.{side-new, silent-true}
use Rattle.air_world.proofs.files.UploadEntry.{upload-does, upload-none-due}
use Rattle.air_world.proofs.files.UploadServed.{serves-upload}

module _ (files : List Asked) (c : ℕ) (party : Party) (before : Session) (served : IsServed files c party before)
    (lists_law : ListsStayLaw)
    (item : Item) (row : Row) (does : RowDoes files party before item row) where
  abbrev now : Session
  now = after_row before row

  lists-now : AreComplete now.store now.lists
  lists-now =
      subst (AreComplete now.store) (sym does.lists)
      (lists_law before.store now.store before.lists
      (row-all files c party before served item row does).keeps.complete served.lists)

  -- what a power cut leaves of an entry with these commands
  left-now : (entries : List SessionEntry) → session.commands_in entries ≡ row.commands → (count : ℕ)
      → LeftIn files party before.store (after_first count before.store (session.commands_in entries))
  left-now entries same count =
      subst (λ (commands : List Command). LeftIn files party before.store (after_first count before.store commands))
      (sym same)
      (row-left files c party before served item row does count)

  -- an entry whose row this is
  module _ (x : SessionEntry) (up : Bool) where
    abbrev gone : ServerSide
    gone = with_entry served.side x row.state up

    -- the facts of the client, by those of the session with the entry
    facts-now : AllByRecursion (λ p. octets_of_data p ≡ []) (session.packets_said x)
        → HasSideFacts now.store (done files c party before served gone)
        (gone_attempt files c party before served gone) gone
        → HasFacts now.store files (done files c party before served gone)
    facts-now quiet its =
        facts-gone_on files party before.store now.store
        (row-all files c party before served item row does) served.attempt served.older served.side
        gone served.attempts_are served.is_side served.older_over served.facts its
        (ap (coming_by served.attempt) served.is_side ∙ coming-gone served.side x row.state up served.attempt quiet)
        (λ number file_length grants. answers-still served.side x row.state up (Ok (upload_cmd 0 file_length))
        (ul_go_resp number 0) grants)

    keeps-now : (same : session.commands_in (x ∷ []) ≡ row.commands)
        (fits : AllByRecursion Fits (session.packets_said x))
        → HasFacts now.store files (done files c party before served gone)
        → AreNewGrants before.store.next served.side (x ∷ [])
        → SessionKeeps files party
        (with_attempt party (session_gone (x ∷ []) now.state up served.attempt served.side) served.older) before now
        (x ∷ [])
        served.side
    keeps-now same fits facts new = record {
      facts = facts;
      store = (left-all files c party before served item row does).store;
      lists = lists-now;
      follows = (left-all files c party before served item row does).follows;
      allowed = subst (AreAllowed before.store) (sym same) does.commands.allowed;
      drops = subst DropsNothing (sym same) does.commands.drops;
      during = left-now (x ∷ []) same;
      grants = new;
      fits = subst (AllByRecursion Fits) (sym (append-nil (session.packets_said x))) fits;
    }

-- ---- an entry whose replies were queued

took-keeps : (files : List Asked) (c : ℕ) (party : Party) (before : Session) (served : IsServed files c party before)
    (lists_law : ListsStayLaw)
    (item : Item) (row : Row) (up : Bool) → EntryDoes files c party before served item row
    → SessionKeeps files party
    (with_attempt party (session_gone (session.took item row ∷ []) row.state up served.attempt served.side)
    served.older) before (after_row before row)
    (session.took item row ∷ []) served.side
took-keeps files c party before served lists_law item row up e =
    let x : SessionEntry = session.took item row in
    keeps-now files c party before served lists_law item row e.does x up (append-nil row.commands) e.does.fits
    (facts-now files c party before served lists_law item row e.does x up e.does.quiet (e.sides up))
    (λ number file_length grants.
    elim (answers-cases served.side x row.state up (Ok (upload_cmd 0 file_length)) (ul_go_resp number 0) grants) [
      | inl were ↦ inl were
      | inr are ↦ inr (e.does.new number file_length are)
    ])

-- ---- an entry whose replies didn't fit

last-lost : (entries : List SessionEntry) (item : Item) (row : Row)
    → AllByRecursion session.IsNotLost (entries ++ session.lost item row ∷ []) → ⊥
last-lost [] item row all = all.0
last-lost (entry ∷ entries) item row all = last-lost entries item row all.1

first-lost : (known file_length : ℕ) (side : ServerSide) (item : Item) (row : Row) (up : Bool) (stage : Receiving)
    → AnsweredFirst known file_length side stage
    → AnsweredFirst known file_length (with_entry side (session.lost item row) row.state up) stage
first-lost known file_length side item row up unasked first = tt
first-lost known file_length side item row up (refused code) first =
    answers-still side (session.lost item row) row.state up (Ok (upload_cmd known file_length))
    (ul_error_resp code) first
first-lost known file_length side item row up (receives number offset parts) first =
    answers-still side (session.lost item row) row.state up (Ok (upload_cmd known file_length))
    (ul_go_resp number offset) first
first-lost known file_length side item row up (ended number offset parts word) first =
    answers-still side (session.lost item row) row.state up (Ok (upload_cmd known file_length))
    (ul_go_resp number offset) first

serves-lost : (known : ℕ) (file : List ℕ) (side : ServerSide) (item : Item) (row : Row) (up : Bool)
    → ServesUpload known file side
    → ServesUpload known file (with_entry side (session.lost item row) row.state up)
serves-lost known file side item row up was = record {
  stage = was.stage;
  items = answered-more side.entries (session.lost item row) ∙ append-nil (answered_in side.entries) ∙ was.items;
  said = said-more side.entries (session.lost item row) ∙ append-nil (session.said_in side.entries) ∙ was.said;
  state = λ all. absurd (last-lost side.entries item row all);
  offered = was.offered;
  first = first-lost known (length file) side item row up was.stage was.first;
}

lost-keeps : (files : List Asked) (c : ℕ) (party : Party) (before : Session) (served : IsServed files c party before)
    (lists_law : ListsStayLaw)
    (at : Upload) → served.attempt.client.asked ≡ work.Upload at → (item : Item) (row : Row) (up : Bool)
    → (up ≡ true → ⊥)
    → EntryDoes files c party before served item row
    → SessionKeeps files party
    (with_attempt party (session_gone (session.lost item row ∷ []) row.state up served.attempt served.side)
    served.older) before (after_row before row)
    (session.lost item row ∷ []) served.side
lost-keeps files c party before served lists_law at asked_is item row up down e =
    let x : SessionEntry = session.lost item row in
    let gone : ServerSide = with_entry served.side x row.state up in
    let store : Store = (after_row before row).store in
    let p : Party = done files c party before served gone in
    let a : Attempt = gone_attempt files c party before served gone in
    let serves : Serves store served.attempt.client.asked gone =
    subst (λ (doing : Work). Serves store doing gone) (sym asked_is)
    (serves-lost at.known at.file served.side item row up (serves-upload files c party before served at asked_is)) in
    let its =
    side-new store p a served.side x row.state up (side-kept files c party before served item row e.does gone)
    (silent-true store p a served.side x row.state up refl (λ it answer is. is))
    (λ number rest is_up. absurd (down is_up)) (λ is_up. absurd (down is_up)) serves in
    keeps-now files c party before served lists_law item row e.does x up (append-nil row.commands) tt
    (facts-now files c party before served lists_law item row e.does x up tt its)
    (λ number file_length grants.
    elim (answers-cases served.side x row.state up (Ok (upload_cmd 0 file_length)) (ul_go_resp number 0) grants) [
      | inl were ↦ inl were
      | inr are ↦ absurd are
    ])

-- ---- any entry

module _ (uploads_law : UploadsLaw) (acknowledged_law : AcknowledgedLaw) (caller_law : CallerLaw)
    (lists_law : ListsStayLaw)
    (files : List Asked) (c : ℕ) (party : Party) (moment : ℕ) (before : Session)
    (served : IsServed files c party before)
    (at : Upload) (asked_is : served.attempt.client.asked ≡ work.Upload at) (up : Bool) where
  abbrev Keeps : Session → List SessionEntry → Type 0
  Keeps now entries =
      SessionKeeps files party (with_attempt party
      (session_gone entries now.state up served.attempt served.side) served.older) before now entries
      served.side

  does-row : (x : SessionEntry) (item : Item) (row : Row) → session.items_of x ≡ item ∷ []
      → row ≡ row_of party.client.me moment before item
      → ServerTookFront served.attempt (record served.side { entries = served.side.entries ++ x ∷ [] })
      → AllByRecursion Fits (said_by_client served.attempt.client) → EntryDoes files c party before served item row
  does-row x item row takes row_is front fits =
      subst (EntryDoes files c party before served item) (sym row_is)
      (upload-does uploads_law acknowledged_law caller_law files c party moment before served at asked_is x item takes
      front fits)

  one-keeps : (x : SessionEntry) (now : Session)
      → SessionGoes party moment before now (x ∷ []) up served.attempt served.side → Keeps now (x ∷ [])
  one-keeps (session.took item row) now goes =
      subst (λ (s : Session). Keeps s (session.took item row ∷ [])) (sym goes.goes.1)
      (took-keeps files c party before served lists_law item row up
      (does-row (session.took item row) item row refl goes.goes.0 goes.front goes.client_fits))
  one-keeps (session.lost item row) now goes =
      subst (λ (s : Session). Keeps s (session.lost item row ∷ [])) (sym goes.goes.2)
      (lost-keeps files c party before served lists_law at asked_is item row up (λ is_up. (goes.none_lost is_up).0)
      (does-row (session.lost item row) item row refl goes.goes.0 goes.front goes.client_fits))
  one-keeps (session.queued due) now goes =
      absurd
      (let none = upload-none-due uploads_law acknowledged_law caller_law files c party moment before served at
      asked_is in
      let both = sym none ∙ goes.goes.0 in
      cc)

pub session-of-upload : UploadsLaw → AcknowledgedLaw → CallerLaw → ListsStayLaw → SessionLawOf IsUploadOf IsOne
session-of-upload uploads_law acknowledged_law caller_law lists_law files c party moment before now entries up served
    kind one =
    subst
    (λ (es : List SessionEntry).
    SessionGoes party moment before now es up served.attempt served.side
    → SessionKeeps files party
    (with_attempt party (session_gone es now.state up served.attempt served.side) served.older) before now es
    served.side)
    (sym one.1) (one-keeps uploads_law acknowledged_law caller_law lists_law files c party moment before served kind.0
    kind.1 up one.0 now)
