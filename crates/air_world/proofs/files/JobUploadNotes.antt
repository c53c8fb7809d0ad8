-- What a packet that a job takes of the upload of a file keeps of its client's notes.
use Rattle.std.proofs.Common.{◌≡◌, ℕ, ◌≤◌, Bool, true, false, List, [], ◌∷◌, ◌++◌, length, Option, None, Some, Ok, inl}
use Rattle.std.proofs.Common.{inr, refl, sym, ◌∙◌, ap, subst, suc, zero, arith}
use Rattle.std.specs.Prelude.{◌==◌, if◌then◌else◌}
use Rattle.ftl0_server.specs.Entries as session
use Rattle.client_notes.specs.Command.{after, refused}
use Rattle.client_notes.specs.Several as notes
use Rattle.client_notes.specs.declared.progress.Progress.TheVariants as progress
use Rattle.ftl0_client_job.specs.declared.work.Work.TheVariants as work
use Rattle.air_world.proofs.files.Names.{IsTrue, same_Some, CallSign, PacketValue, ul_go_resp, upload_cmd, IsCompleteIn, is_complete as holds_whole, Entry, Holding, Store, entry_of, partial, NotesCommand, acked, numbered, Lists, Task, UploadPhase, HasTask, Upload, new_upload, refusal_of, Attempt, Has, OneIs, Asked, IsFileOf, Party, Answers, Grants, IsTaken, Offers, SaysComplete, IsGreeting, ServerSide, said_by_client, said_by_server, some-at, HasFacts, HasNumber, IsBegun, IsGrantKept, IsNumbered, IsOfferKept, IsFileAt, IsKept, IsTaskKept, ServesUpload}
use Rattle.air_world.proofs.files.JobNotes.{NotesKept, kept-same, kept-task}
use Rattle.air_world.proofs.files.JobStep.{of_attempts}
use Rattle.air_world.proofs.files.JobTook.{offer-answers, whole}
use Rattle.air_world.proofs.files.JobUploadRows.{upload_at}

-- ---- the first of some commands

module _ (store : Store) (files : List Asked) (party : Party) (facts : HasFacts store files party) where
  pub fronts-none : (count : ℕ) → NotesKept store files party (notes.after_first count party.client.lists [])
  fronts-none zero = kept-same store files party facts
  fronts-none (suc count) = kept-same store files party facts

  pub fronts-one : (command : NotesCommand) → NotesKept store files party (after party.client.lists command)
      → (count : ℕ)
      → NotesKept store files party (notes.after_first count party.client.lists (command ∷ []))
  fronts-one command kept zero = kept-same store files party facts
  fronts-one command kept (suc zero) = kept
  fronts-one command kept (suc (suc count)) = kept

-- ---- a file that is complete is kept

partial-not : (entry : Entry) (held : List ℕ) → entry.holding ≡ partial held → IsTrue (holds_whole entry.holding) → ⊥
partial-not entry held is whole =
    let no : IsTrue false = subst (λ (h : Holding). IsTrue (holds_whole h)) is whole in cc no

pub kept-whole : (store : Store) (number : ℕ) (file : List ℕ) (caller : CallSign) → IsFileAt store number file caller
    → IsCompleteIn store number → IsKept store number file caller
kept-whole store number file caller (inl none) whole =
    absurd (let no : None ≡ Some whole.0 = sym none ∙ whole.1 in cc no)
kept-whole store number file caller (inr (inl way)) whole =
    absurd (let same : way.entry ≡ whole.0 = same_Some way.entry whole.0 (sym way.is_entry ∙ whole.1) in
    partial-not whole.0 way.held (ap (λ (e : Entry). e.holding) (sym same) ∙ way.holds) whole.2)
kept-whole store number file caller (inr (inr kept)) whole = kept

pub upload-same : (x y : Upload) → work.Upload x ≡ work.Upload y → x ≡ y
upload-same x y same = cc

-- What is known when a job that uploads takes a packet: what was asked, the task, its file, and the session.
pub record Uploading (store : Store) (files : List Asked) (base : Party) (a : Attempt) (older : List Attempt)
    (upload : Upload) (side : ServerSide)
    : Type 0 where
  pub asked : a.client.asked ≡ work.Upload (new_upload upload.task upload.known upload.file)
  pub facts : HasFacts store files (of_attempts base a older)
  pub is_file : IsFileOf files (of_attempts base a older) upload.task upload.file
  pub is_side : a.server ≡ Some side
  pub greets : IsGreeting side.greeting
  pub serves : ServesUpload upload.known upload.file side
  pub heard : (packet : PacketValue) → OneIs (IsTaken (whole packet)) a.client.entries
      → Has (said_by_server side) packet
  pub told : (packet : PacketValue) → Has (session.items_in side.entries) (whole packet)
      → Has (said_by_client a.client) packet

module _ (store : Store) (files : List Asked) (base : Party) (a : Attempt) (older : List Attempt) (upload : Upload)
    (side : ServerSide)
    (it : Uploading store files base a older upload side) where
  abbrev party : Party
  party = of_attempts base a older

  abbrev task : ℕ
  task = upload.task

  abbrev known : ℕ
  known = upload.known

  abbrev file : List ℕ
  file = upload.file

  abbrev lists : Lists
  lists = base.client.lists

  -- ---- what the session's facts are

  pub granted : (number file_length : ℕ) → Grants side number file_length → IsGrantKept store party a number file_length
  granted =
      some-at (λ side. (number file_length : ℕ) → Grants side number file_length
      → IsGrantKept store party a number file_length) a.server side it.facts.sessions.granted.0
      it.is_side

  complete_is : (number : ℕ) → SaysComplete side number → IsCompleteIn store number
  complete_is =
      some-at (λ side. (number : ℕ) → SaysComplete side number → IsCompleteIn store number) a.server side
      it.facts.sessions.complete.0 it.is_side

  offered : (number offset : ℕ) → Offers side number offset → IsOfferKept store number offset
  offered =
      some-at (λ side. (number offset : ℕ) → Offers side number offset → IsOfferKept store number offset) a.server side
      it.facts.sessions.offered.0
      it.is_side

  -- the offer of a new upload is a grant
  pub new-granted : (number offset : ℕ) → known ≡ 0 → Offers side number offset
      → Grants side number (length file) × (offset ≡ 0)
  new-granted number offset new offers =
      let both = offer-answers known file side it.greets it.serves number offset offers in
      let zero_is : offset ≡ 0 = both.1.new new in (
        subst (λ (k : ℕ). Answers side (Ok (upload_cmd k (length file))) (ul_go_resp number 0)) new
            (subst (λ (k : ℕ). Answers side (Ok (upload_cmd known (length file))) (ul_go_resp number k)) zero_is
            both.0),
        zero_is,
      )

  pub grant-some : (number offset : ℕ) → known ≡ 0 → Offers side number offset → 1 ≤ number
  grant-some number offset new offers = (granted number (length file) (new-granted number offset new offers).0).some

  -- the file of the task is this one
  one-file : (other : List ℕ) → IsFileOf files party task other → other ≡ file
  one-file other is = same_Some other file (sym is ∙ it.is_file)

  -- the number of a new upload, once it is noted
  numbered-by : (number offset : ℕ) → known ≡ 0 → Offers side number offset → (HasNumber party task number → ⊥)
      → (other : List ℕ) → IsFileOf files party task other
      → IsNumbered store party task number other
  numbered-by number offset new offers without other is =
      let grants = (new-granted number offset new offers).0 in
      let grant = granted number (length file) grants in
      let asks : work.Upload (new_upload grant.task 0 grant.file) ≡ work.Upload (new_upload task known file) =
      sym grant.asks ∙ it.asked in
      let same_task : grant.task ≡ task = ap (λ (u : Upload). u.task) (upload-same _ _ asks) in
      let begun = grant.begun (λ has. without (subst (λ (t : ℕ). HasNumber party t number) same_task has)) in
      subst (λ (f : List ℕ). IsNumbered store party task number f) (sym (one-file other is))
      (record {
        below = (offered number offset offers).0;
        stands = by (entry_of store number) refl begun;
        granted =
            inl (
              file,
              side,
              subst (λ (k : ℕ). a.client.asked ≡ work.Upload (new_upload task k file)) new it.asked,
              it.is_side,
              grants,
            );
      })
    where
      by : (o : Option Entry) → entry_of store number ≡ o
          → ((entry : Entry) → entry_of store number ≡ Some entry → IsBegun party.client.me (length file) entry)
          → IsFileAt store number file party.client.me
      by None none begun = inl none
      by (Some entry) some begun =
          let is = begun entry some in
          inr (inl (record {
            entry = entry;
            is_entry = some;
            caller_is = is.caller_is;
            length_is = is.length_is;
            held = [];
            holds = is.nothing;
            front = (file, refl);
          }))

  -- ---- the notes after each packet

  module _ (p : UploadPhase) (has : HasTask lists (upload_at task known file p)) where
    -- the number that the notes have of the task is the upload's
    has-number : (number : ℕ) (other : List ℕ) → 1 ≤ number → has.entry.number ≡ number
        → IsFileOf files party task other → IsNumbered store party task number other
    has-number number other some is of =
        it.facts.tasks.numbered task number other
        (record { entry = has.entry; is_entry = has.is_entry; number_is = is; some = some }) of

    -- it is acknowledged, and its file is complete
    pub kept-acked : (number : ℕ) → has.entry.number ≡ number → 1 ≤ number → SaysComplete side number
        → NotesKept store files party (after lists (acked task))
    kept-acked number is some says =
        kept-task store files party it.facts task has.entry has.is_entry
        (λ (t : Task). record t { progress = progress.Acked }) refl (λ least. refl) has-number
        (λ given acked_is given_is.
        let same : number ≡ given = sym is ∙ given_is in
        subst (λ (n : ℕ). IsTaskKept files store party task n) same (
          file,
          it.is_file,
          kept-whole store number file party.client.me
              (has-number number file some is it.is_file).stands (complete_is number says),
        ))

    kept-refused : (code : ℕ) → NotesKept store files party (after lists (refused task code))
    kept-refused code =
        kept-task store files party it.facts task has.entry has.is_entry
        (λ (t : Task). record t { progress = progress.Refused code }) refl (λ least. refl) has-number
        (λ given acked_is given_is. absurd (cc acked_is))

    pub kept-refusal : (code count : ℕ)
        → NotesKept store files party (notes.after_first count lists (refusal_of task code ++ []))
    kept-refusal code count = by (code == 3)
      where
        by : (b : Bool)
            → NotesKept store files party
            (notes.after_first count lists ((if b then [] else refused task code ∷ []) ++ []))
        by true = fronts-none store files party it.facts count
        by false = fronts-one store files party it.facts (refused task code) (kept-refused code) count

    -- it has the number that it was offered
    pub kept-numbered : (number offset : ℕ) → known ≡ 0 → has.entry.number ≡ 0 → Offers side number offset
        → NotesKept store files party (after lists (numbered task number))
    kept-numbered number offset new unnumbered offers =
        kept-task store files party it.facts task has.entry has.is_entry
        (λ (t : Task). record t { number = number }) refl
        (λ some. absurd (omega (arith, unnumbered, some)))
        (λ given other some is of.
        subst (λ (n : ℕ). IsNumbered store party task n other) is
        (numbered-by number offset new offers without other of))
        (λ given acked_is given_is. absurd
        (let going = has.going in let no : progress.Going ≡ progress.Acked = sym going ∙ acked_is in cc no))
      where
        without : HasNumber party task number → ⊥
        without other =
            let same : other.entry ≡ has.entry = same_Some other.entry has.entry (sym other.is_entry ∙ has.is_entry) in
            let zero_is : other.entry.number ≡ 0 = ap (λ (t : Task). t.number) same ∙ unnumbered in
            let is = other.number_is in
            let some = other.some in
            omega (arith, zero_is, is, some)
