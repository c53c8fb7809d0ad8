-- What each packet that a job takes of the upload of a file, by how far it has come, leaves of its client's notes.
use Rattle.std.proofs.Common.{◌≡◌, ◌≢◌, ℕ, ◌≤◌, Bool, true, false, not, List, [], ◌∷◌, ◌++◌, length, None, Ok, inl, inr}
use Rattle.std.proofs.Common.{refl, ◌∙◌, subst, arith}
use Rattle.std.specs.Prelude.{◌==◌, ◌&&◌, if◌then◌else◌}
use Rattle.client_notes.specs.Several as notes
use Rattle.ftl0_client_job.specs.declared.phases.UploadPhase.TheVariants as phase
use Rattle.air_world.proofs.files.Names.{nat_tests, PacketValue, data_end, ul_error_resp, ul_go_resp, ul_nak_resp, upload_cmd, Store, NotesCommand, acked, numbered, after_all, Lists, Task, task-after, UploadPhase, HasTask, Row, Upload, may_go, upload_row, Attempt, Has, OneIs, Asked, Party, Answers, AsksUpload, IsTaken, ServerSide, said_by_client, said_by_server, HasNumber}
use Rattle.air_world.proofs.files.JobNotes.{NotesKept, NumberIn}
use Rattle.air_world.proofs.files.JobStep.{of_attempts}
use Rattle.air_world.proofs.files.JobTook.{offer-behind, one-offer, refusal-answers, whole, word-behind}
use Rattle.air_world.proofs.files.JobUploadNotes.{Uploading, fronts-none, fronts-one, grant-some, kept-acked, kept-numbered}
use Rattle.air_world.proofs.files.JobUploadNotes.{kept-refusal}
use Rattle.air_world.proofs.files.JobUploadRows.{IsNoOffer, UploadCases, upload-cases, upload_at}
use Rattle.air_world.proofs.files.JobUploadCame.{CameTo, no-end}

module _ (store : Store) (files : List Asked) (base : Party) (a : Attempt) (older : List Attempt) (upload : Upload)
    (side : ServerSide)
    (it : Uploading store files base a older upload side) where
  abbrev party : Party
  party = of_attempts base a older

  abbrev task : ℕ
  task = upload.task

  abbrev known : ℕ
  known = upload.known

  abbrev file : List ℕ
  file = upload.file

  abbrev lists : Lists
  lists = base.client.lists

  -- the notes after each prefix of these commands
  abbrev Fronts : List NotesCommand → Type 0
  Fronts commands = (count : ℕ) → NotesKept store files party (notes.after_first count lists (commands ++ []))

  -- ---- each prefix of a row's commands keeps the notes

  abbrev KeepsNotes : UploadPhase → PacketValue → Row Upload → Type 0
  KeepsNotes p packet row =
      CameTo p known file a.client.entries → HasTask lists (upload_at task known file p)
      → Has (said_by_server side) packet → Fronts row.commands

  go-notes : (b : Bool) (number offset : ℕ) → (known == 0) ≡ b → HasTask lists (upload_at task known file phase.Go)
      → Has (said_by_server side) (ul_go_resp number offset)
      → Fronts (if b then numbered task number ∷ [] else [])
  go-notes false number offset new has said count = fronts-none store files party it.facts count
  go-notes true number offset new has said count =
      let zero_is : known ≡ 0 = grind (arith, nat_tests) in
      fronts-one store files party it.facts (numbered task number)
      (kept-numbered store files base a older upload side it phase.Go has number offset zero_is
      (has.number ∙ zero_is) said) count

  -- code 12 of a file that goes on
  complete-parts : (code : ℕ) → (not (known == 0) && (code == 12)) ≡ true → (1 ≤ known) × (code ≡ 12)
  complete-parts code is = (grind (arith, nat_tests), grind (arith, nat_tests))

  note-cases : UploadCases task known file KeepsNotes
  note-cases = record {
    strange_rows = λ p packet kind none came has said count. fronts-none store files party it.facts count;
    login = λ moment flags came has said count. fronts-none store files party it.facts count;
    go = λ number offset may came has said count. go-notes (known == 0) number offset refl has said count;
    complete = λ code is came has said count.
        let parts = complete-parts code is in
        let answer = refusal-answers known file side it.greets it.serves code said in
        let twelve = subst (λ (c : ℕ). Answers side (Ok (upload_cmd known (length file))) (ul_error_resp c)) parts.1
        answer in
        fronts-one store files party it.facts (acked task)
        (kept-acked store files base a older upload side it phase.Go has known has.number parts.0
        (inr (length file, twelve))) count;
    refused_go =
        λ code came has said count. kept-refusal store files base a older upload side it phase.Go has code count;
    broken_off =
        λ number place code came has said count. kept-refusal store files base a older upload side it
        (phase.Sending number place) has code count;
    ack = λ number came has said count.
        fronts-one store files party it.facts (acked task)
        (kept-acked store files base a older upload side it (phase.Ack number) has number has.number came.some
        (inl ((came.offset, it.heard (ul_go_resp number came.offset) came.took), said))) count;
    refused_ack =
        λ number code came has said count. kept-refusal store files base a older upload side it
        (phase.Ack number) has code count;
  }

  pub keeps-notes : (p : UploadPhase) (packet : PacketValue)
      → KeepsNotes p packet (upload_row (upload_at task known file p) packet)
  keeps-notes p packet = upload-cases task known file KeepsNotes note-cases p packet

  -- ---- the number of a new upload is noted

  abbrev NotesNumber : UploadPhase → PacketValue → Row Upload → Type 0
  NotesNumber p packet row =
      CameTo p known file a.client.entries → HasTask lists (upload_at task known file p)
      → Has (said_by_server side) packet → (number : ℕ)
      → packet ≡ ul_go_resp number 0 → known ≡ 0 → NumberIn (after_all lists (row.commands ++ [])) task number

  -- it was taken before, and noted
  noted-before : (n o number : ℕ) → OneIs (IsTaken (whole (ul_go_resp n o))) a.client.entries
      → Has (said_by_server side) (ul_go_resp number 0) → known ≡ 0
      → NumberIn lists task number
  noted-before n o number took said new =
      let same = one-offer known file side it.greets it.serves n o number 0 (it.heard (ul_go_resp n o) took) said in
      let taken =
      subst (λ (k : ℕ). OneIs (IsTaken (whole (ul_go_resp number k))) a.client.entries) same.1
      (subst (λ (k : ℕ). OneIs (IsTaken (whole (ul_go_resp k o))) a.client.entries) same.0 took) in
      let asks = subst (λ (k : ℕ). AsksUpload a task k file) new it.asked in
      let has : HasNumber party task number = it.facts.tasks.noted.0 task number file asks taken in
      record { entry = has.entry; is_entry = has.is_entry; number_is = has.number_is; some = has.some }

  strange-noted : (p : UploadPhase) (packet : PacketValue) → IsNoOffer (upload_at task known file p) p packet
      → CameTo p known file a.client.entries
      → Has (said_by_server side) packet → (number : ℕ) → packet ≡ ul_go_resp number 0 → known ≡ 0
      → NumberIn lists task number
  strange-noted phase.Login packet none came said number same new =
      absurd
      (subst (λ (l : List PacketValue). Has l (upload_cmd known (length file))) came
      (it.told (upload_cmd known (length file))
      (offer-behind known file side it.greets it.serves number 0
      (subst (λ (x : PacketValue). Has (said_by_server side) x) same said))))
  strange-noted phase.Go packet none came said number same new =
      let some = grant-some store files base a older upload side it number 0 new
      (subst (λ (x : PacketValue). Has (said_by_server side) x) same said) in
      let no : may_go (upload_at task 0 file phase.Go) number 0 ≡ false =
      subst (λ (k : ℕ). may_go (upload_at task k file phase.Go) number 0 ≡ false) new (none number 0 refl same) in
      absurd (grind (arith, nat_tests))
  strange-noted (phase.Sending n place) packet none came said number same new =
      noted-before n came.offset number came.took
      (subst (λ (x : PacketValue). Has (said_by_server side) x) same said) new
  strange-noted (phase.Ack n) packet none came said number same new =
      noted-before n came.offset number came.took
      (subst (λ (x : PacketValue). Has (said_by_server side) x) same said) new

  go-noted : (b : Bool) (n offset number : ℕ) → (known == 0) ≡ b → HasTask lists (upload_at task known file phase.Go)
      → Has (said_by_server side) (ul_go_resp n offset)
      → ul_go_resp n offset ≡ ul_go_resp number 0 → known ≡ 0
      → NumberIn (after_all lists ((if b then numbered task n ∷ [] else []) ++ [])) task number
  go-noted false n offset number new has said same zero_is = absurd (grind (arith, nat_tests))
  go-noted true n offset number new has said same zero_is =
      let is : n ≡ number = cc in
      let change : Task → Task = λ (t : Task). record t { number = n } in
      record {
        entry = change has.entry;
        is_entry = task-after lists task change has.entry has.is_entry;
        number_is = is;
        some = subst (λ (k : ℕ). 1 ≤ k) is (grant-some store files base a older upload side it n offset zero_is said);
      }

  noted-cases : UploadCases task known file NotesNumber
  noted-cases = record {
    strange_rows =
        λ p packet kind none came has said number same new. strange-noted p packet none came said number same new;
    login = λ moment flags came has said number same new. absurd (cc same);
    go = λ n offset may came has said number same new. go-noted (known == 0) n offset number refl has said same new;
    complete = λ code is came has said number same new. absurd (cc same);
    refused_go = λ code came has said number same new. absurd (cc same);
    broken_off = λ n place code came has said number same new. absurd (cc same);
    ack = λ n came has said number same new. absurd (cc same);
    refused_ack = λ n code came has said number same new. absurd (cc same);
  }

  pub notes-number : (p : UploadPhase) (packet : PacketValue)
      → NotesNumber p packet (upload_row (upload_at task known file p) packet)
  notes-number p packet = upload-cases task known file NotesNumber noted-cases p packet

  -- ---- with the outcome nothing is said

  abbrev SaysNothing : UploadPhase → PacketValue → Row Upload → Type 0
  SaysNothing p packet row =
      CameTo p known file a.client.entries → Has (said_by_server side) packet → row.ending ≢ None → row.replies ≡ []

  -- UL_ACK_RESP and UL_NAK_RESP can't come before DATA_END
  no-word : (number place code : ℕ) → CameTo (phase.Sending number place) known file a.client.entries
      → Has (said_by_server side) (ul_nak_resp code) → ⊥
  no-word number place code came said = by (subst (λ (l : List PacketValue). Has l data_end) came.said ends)
    where
      ends : Has (said_by_client a.client) data_end
      ends =
          it.told data_end (word-behind known file side it.greets it.serves (ul_nak_resp code) (inr (code, refl)) said)

      by : Has (upload_cmd known (length file) ∷ came.packets) data_end → ⊥
      by (inl same) = absurd (cc same)
      by (inr there) = no-end file came.packets came.offset place came.goes there

  silent-cases : UploadCases task known file SaysNothing
  silent-cases = record {
    strange_rows = λ p packet kind none came said over. refl;
    login = λ moment flags came said over. absurd (over refl);
    go = λ number offset may came said over. refl;
    complete = λ code is came said over. refl;
    refused_go = λ code came said over. refl;
    broken_off = λ number place code came said over. absurd (no-word number place code came said);
    ack = λ number came said over. refl;
    refused_ack = λ number code came said over. refl;
  }

  pub says-nothing : (p : UploadPhase) (packet : PacketValue)
      → SaysNothing p packet (upload_row (upload_at task known file p) packet)
  says-nothing p packet = upload-cases task known file SaysNothing silent-cases p packet
