-- UPLOAD_CMD to a session of an upload: a file that goes on; and each of its rows.
use Rattle.std.proofs.Common.{◌≡◌, inl, inr, ℕ, ◌≤◌, ◌<◌, ◌^◌, List, [], ◌∷◌, length, refl, ap, sym, ◌∙◌, subst, arith}
use Rattle.std.proofs.Common.{false, Some}
use Rattle.ftl0_session.specs.Table.{Row}
use Rattle.ftl0_session.specs.Uploads.Session as upload
use Rattle.ftl0_server.specs.Entries as session
use Rattle.ftl0_client_job.specs.declared.work.Work.TheVariants as work
use Rattle.air_world.proofs.files.Names.{same_Some, CallSign, IsFront, ul_go_resp, FitsLength, Entry, Holding, Store, entry_of, octets_of, partial, found-fits, UploadsLaw, Session, by_upload, command, receiving, session_row, SessionEntry, Upload, Asked, Party, ServerSide, GoesOnWithTask, HasNumber, Receives, IsFileAt, IsServed, unasked}
use Rattle.air_world.proofs.files.EntryLemmas.{with_entry}
use Rattle.air_world.proofs.files.SideLemmas.{EntryDoes, RowDoes, done, gone_attempt, idle-does, idle_row, newest-client}
use Rattle.air_world.proofs.files.SideLemmas.{side-kept, side-new}
use Rattle.air_world.proofs.files.UploadAsked.{alone-is, asked-begun, asked-refused, asking, cmd-number, due-receiving}
use Rattle.air_world.proofs.files.UploadAsked.{none-acked, receives-offer, serves-as, serves-offer}
use Rattle.air_world.proofs.files.UploadRows.{IsAskedBy, IsResumed, asked-by, row-asked}
use Rattle.air_world.proofs.files.UploadServed.{Stage, asks-upload, file-of-upload}

-- what is held of a file on its way is a prefix of it
pub held-front : (store : Store) (number : ℕ) (file held : List ℕ) (caller : CallSign) (entry : Entry)
    → IsFileAt store number file caller
    → entry_of store number ≡ Some entry → entry.holding ≡ partial held → IsFront held file
held-front store number file held caller entry (inl gone) found holds = absurd (cc)
held-front store number file held caller entry (inr (inl w)) found holds =
    let same : w.entry ≡ entry = same_Some w.entry entry (sym w.is_entry ∙ found) in
    let both : partial w.held ≡ partial held = sym w.holds ∙ (ap (λ (e : Entry). e.holding) same ∙ holds) in
    let octets : w.held ≡ held = cc in
    subst (λ (front : List ℕ). IsFront front file) octets w.front
held-front store number file held caller entry (inr (inr k)) found holds =
    let same : k.entry ≡ entry = same_Some k.entry entry (sym k.is_entry ∙ found) in
    let both = sym k.whole ∙ (ap (λ (e : Entry). e.holding) same ∙ holds) in
    absurd (let x : ⊥ = cc in x)

held-short : (held : List ℕ) (entry : Entry) → entry.holding ≡ partial held → FitsLength entry.holding entry.length
    → length held ≤ entry.length
held-short held entry holds fits = subst (λ (h : Holding). FitsLength h entry.length) holds fits

module _ (files : List Asked) (c : ℕ) (party : Party) (before : Session) (served : IsServed files c party before)
    (at : Upload) (asked_is : served.attempt.client.asked ≡ work.Upload at)
    (is : Stage files c party before served at asked_is unasked) where
  module _ (row : upload.Row) (r : IsResumed party.client.me before.store at.known (length at.file) row)
      (small : at.known < 2 ^ 32) where
    abbrev count : ℕ
    count = length r.held

    abbrev on_row : Row
    on_row = idle_row before (receiving at.known []) (ul_go_resp at.known count ∷ [])

    fits-here : FitsLength r.entry.holding r.entry.length × (r.entry.length ≤ 4194304) × (at.known < before.store.next)
    fits-here =
        found-fits at.known 1 before.store.next before.store.entries r.entry served.store.is_store.entries r.is_entry

    few-held : count < 2 ^ 32
    few-held = let short = held-short r.held r.entry r.holds fits-here.0 in omega (arith, short, fits-here.1)

    on-does : RowDoes files party before (asking files c party before served at asked_is is) on_row
    on-does =
        idle-does files c party before served (asking files c party before served at asked_is is)
        (receiving at.known []) (ul_go_resp at.known count ∷ [])
        ((small, few-held), tt) (refl, tt)
        (λ number file_length item says.
        let same = cmd-number (asking files c party before served at asked_is is) at.known 0
        (length at.file) file_length refl item in
        absurd (let x : ⊥ = omega (arith, same.0, r.some) in x))

    held-of-file : IsFront r.held at.file
    held-of-file =
        let has : HasNumber party at.task at.known =
        newest-client files c party before served
        (GoesOnWithTask party) served.facts.tasks.goes_on at.task at.known at.file
        (asks-upload files c party before served at asked_is) r.some in
        held-front before.store at.known at.file r.held party.client.me r.entry
        (served.facts.tasks.numbered at.task at.known at.file has
        (file-of-upload files c party before served at asked_is)).stands r.is_entry r.holds

    pub asked-on : EntryDoes files c party before served (asking files c party before served at asked_is is) on_row
    asked-on = record {
      does = on-does;
      sides = λ up.
          let x : SessionEntry = session.took (asking files c party before served at asked_is is) on_row in
          let now : ServerSide = with_entry served.side x (receiving at.known []) up in
          side-new before.store (done files c party before served now)
          (gone_attempt files c party before served now) served.side x (receiving at.known []) up
          (side-kept files c party before served (asking files c party before served at asked_is is) on_row on-does now)
          (record {
            grants = λ number file_length answer.
                let same = cmd-number (asking files c party before served at asked_is is) at.known 0
                (length at.file) file_length refl answer.0 in
                absurd (let x : ⊥ = omega (arith, same.0, r.some) in x);
            offers = λ number offset has.
                let same = alone-is (ul_go_resp at.known count) (ul_go_resp number offset) has in
                let it : at.known ≡ number = cc in
                let from : count ≡ offset = cc in (
                  subst (λ (n : ℕ). n < before.store.next) it fits-here.2,
                  λ entry there.
                      let mine : entry_of before.store at.known ≡ Some entry =
                      subst (λ (n : ℕ). entry_of before.store n ≡ Some entry) (sym it) there in
                      let held : octets_of entry.holding ≡ r.held =
                      ap (λ (e : Entry). octets_of e.holding) (same_Some entry r.entry (sym mine ∙ r.is_entry))
                      ∙ ap octets_of r.holds in
                      let as_many : length (octets_of entry.holding) ≡ count =
                      ap (λ (octets : List ℕ). length octets) held in
                      omega (arith, as_many, from),
                );
            acks =
                λ number acks. absurd (none-acked files c party before served at asked_is is at.known count on_row up
                refl number acks);
            tells = λ number file_length answer. absurd (let no = answer.1 in cc);
          })
          (λ number rest is_up state.
          let it : at.known ≡ number = cc in
          let none : [] ≡ rest = cc in
          subst (λ (rs : List ℕ). Receives before.store (done files c party before served now)
          (gone_attempt files c party before served now) now number rs) none
          (subst (λ (n : ℕ). Receives before.store (done files c party before served now)
          (gone_attempt files c party before served now) now n []) it
          (receives-offer files c party before served at asked_is is at.known count on_row up refl before.store r.entry
          r.held r.is_entry r.holds r.caller_is
          r.length_is refl held-of-file)))
          (λ is_up. due-receiving before.store served.side x at.known [] up)
          (serves-as files c party before served at asked_is is on_row (receiving at.known []) up before.store
          (serves-offer files c party before served at asked_is is at.known count on_row up refl
          (record { new = λ zero. absurd (let x : ⊥ = omega (arith, zero, r.some) in x); same = λ some. refl })));
    }

  -- whichever row it has
  pub asked-does : UploadsLaw → (moment : ℕ) → at.known < 2 ^ 32
      → EntryDoes files c party before served (asking files c party before served at asked_is is)
      (session_row party.client.me moment before.store before.lists command
      (asking files c party before served at asked_is is) false)
  asked-does law moment small =
      let caller : CallSign = party.client.me in
      let all : upload.Row = upload.upload_row caller moment before.store at.known (length at.file) in
      subst (EntryDoes files c party before served (asking files c party before served at asked_is is))
      (sym (row-asked law caller moment before.store before.lists at.known (length at.file)))
      (by all (asked-by caller moment before.store at.known (length at.file)))
    where
      by : (row : upload.Row) → IsAskedBy party.client.me moment before.store at.known (length at.file) row
          → EntryDoes files c party before served (asking files c party before served at asked_is is)
          (by_upload before.lists row)
      by row (inl refuses) =
          subst (λ (u : upload.Row). EntryDoes files c party before served
          (asking files c party before served at asked_is is) (by_upload before.lists u))
          (sym refuses.row_is) (asked-refused files c party before served at asked_is is refuses.code refuses.small
          refuses.complete)
      by row (inr (inl begins)) =
          subst (λ (u : upload.Row). EntryDoes files c party before served
          (asking files c party before served at asked_is is) (by_upload before.lists u))
          (sym begins.row_is) (asked-begun files c party before served at asked_is is moment begins.new begins.may)
      by row (inr (inr goes_on)) =
          subst (λ (u : upload.Row). EntryDoes files c party before served
          (asking files c party before served at asked_is is) (by_upload before.lists u))
          (sym goes_on.row_is) (asked-on row goes_on small)
