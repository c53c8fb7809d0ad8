-- A session of an upload with the packet that comes next, and whose the file is that it receives.
use Rattle.std.proofs.Common.{◌≡◌, ℕ, suc, zero, ◌≤◌, List, [], ◌∷◌, ◌++◌, length, map, drop, refl, ap, sym, ◌∙◌, subst}
use Rattle.std.proofs.Common.{arith, append_assoc}
use Rattle.ftl0_server.specs.Entries as session
use Rattle.ftl0_client_job.specs.declared.work.Work.TheVariants as work
use Rattle.air_world.specs.Files.UploadDialogue.{Sending}
use Rattle.air_world.specs.Files.UploadDialogue.{asked, sending_said}
use Rattle.air_world.specs.Files.UploadDialogue.{sends, silent}
use Rattle.air_world.proofs.files.Names.{Ok, Item, PacketValue, ul_go_resp, upload_cmd, Session, SessionEntry, Work, IsNotBegun, Upload, Attempt, ServerTookFront, Has, Asked, IsFileOf, Party, AsksUpload, Took, ClientSide, said_by_client, Says, Serves, GoesOnWithTask, HasNumber, NotesGrant, IsServed, IsWork, IsOfferFor, IsOfferedBy, IsSendingFile, Receiving, SaysUpload, ServesUpload, data_items, received_items, receives, unasked}
use Rattle.air_world.proofs.files.EntryLemmas.{items-more}
use Rattle.air_world.proofs.files.SideLemmas.{newest-client, newest-side}
use Rattle.air_world.proofs.files.UploadNext.{IsNextIn, SaidNext, TookOffered, answered-all, next-in, next-said, offers-in}
use Rattle.air_world.proofs.files.UploadNext.{took-said}
use Rattle.air_world.proofs.files.JobTook.{IsOffer}

-- ---- the exchange so far

module _ (files : List Asked) (c : ℕ) (party : Party) (before : Session) (served : IsServed files c party before)
    (at : Upload) (asked_is : served.attempt.client.asked ≡ work.Upload at) where
  pub serves-upload : ServesUpload at.known at.file served.side
  serves-upload =
      subst (λ (doing : Work). Serves before.store doing served.side) asked_is
      (newest-side files c party before served
      (λ a side. Serves before.store a.client.asked side) served.facts.sessions.serves)

  pub says-upload : SaysUpload at.known at.file served.attempt.client
  says-upload =
      subst (λ (doing : Work). Says doing served.attempt.client) asked_is
      (newest-client files c party before served (λ a. Says a.client.asked a.client) served.facts.sessions.says)

  -- the work is that of the task's file, as it was asked
  pub asks-upload : AsksUpload served.attempt at.task at.known at.file
  asks-upload = asked_is ∙ ap work.Upload (subst IsNotBegun asked_is served.begun)

  pub file-of-upload : IsFileOf files party at.task at.file
  file-of-upload =
      subst (IsWork files party) asked_is
      (newest-client files c party before served (λ a. IsWork files party a.client.asked) served.stands.works)

  pub took-offered : TookOffered served.attempt.client serves-upload.stage
  took-offered number offset took =
      offers-in at.known serves-upload.stage served.side.greeting number offset served.greets serves-upload.offered
      (subst (λ (said : List PacketValue). Has (served.side.greeting ∷ said) (ul_go_resp number offset))
      serves-upload.said
      (took-said served.attempt served.side (ul_go_resp number offset) served.heard took))

  -- what was taken
  pub items-taken : session.items_in served.side.entries ≡ received_items at.known (length at.file) serves-upload.stage
  items-taken = sym (answered-all served.side.entries served.none_lost) ∙ serves-upload.items

  -- an entry took this packet after them
  pub front-next : (x : SessionEntry) (item : Item) → session.items_of x ≡ item ∷ []
      → (front : ServerTookFront served.attempt (record served.side { entries = served.side.entries ++ x ∷ [] }))
      → map Ok (said_by_client served.attempt.client) ≡ session.items_in served.side.entries ++ item ∷ front.0
  front-next x item is front =
      front.1
      ∙ ap (λ (items : List Item). items ++ front.0)
      (items-more served.side.entries x ∙ ap (λ (items : List Item). session.items_in served.side.entries ++ items) is)
      ∙ append_assoc (session.items_in served.side.entries) (item ∷ []) front.0

  pub upload-next : (x : SessionEntry) (item : Item) → session.items_of x ≡ item ∷ []
      → ServerTookFront served.attempt (record served.side { entries = served.side.entries ++ x ∷ [] })
      → IsNextIn at.known (length at.file) serves-upload.stage item
  upload-next x item is front =
      next-in at.known at.file served.attempt.client serves-upload.stage says-upload.stage item front.0 took-offered
      says-upload.sends_file
      (ap (λ (said : List PacketValue). map Ok said) (sym says-upload.said) ∙ front-next x item is front
      ∙ ap (λ (items : List Item). items ++ item ∷ front.0) items-taken)

  pub upload-said : (x : SessionEntry) (item : Item) → session.items_of x ≡ item ∷ []
      → (front : ServerTookFront served.attempt (record served.side { entries = served.side.entries ++ x ∷ [] }))
      → SaidNext (session.items_in served.side.entries) front.0 item (said_by_client served.attempt.client)
  upload-said x item is front =
      next-said (session.items_in served.side.entries) front.0 item (said_by_client served.attempt.client)
      (front-next x item is front)

-- a client to which nothing was offered has said nothing after UPLOAD_CMD
nothing-behind : (known : ℕ) (file : List ℕ) (side : ClientSide) (sending : Sending) → TookOffered side unasked
    → IsSendingFile file side sending
    → drop 1 (sending_said known (length file) sending) ≡ []
nothing-behind known file side silent took sends_file = refl
nothing-behind known file side asked took sends_file = refl
nothing-behind known file side (sends number offset packets) took sends_file = absurd (took number offset sends_file.0)

-- one that has said something after UPLOAD_CMD took an offer
took-some : (known : ℕ) (file : List ℕ) (side : ClientSide) (sending : Sending) (parts : List (List ℕ)) (item : Item)
    (more : List Item)
    → IsSendingFile file side sending
    → map Ok (sending_said known (length file) sending) ≡ (Ok
    (upload_cmd known (length file)) ∷ data_items parts) ++ item ∷ more
    → (number : ℕ) × (offset : ℕ) × Took side (ul_go_resp number offset)
took-some known file side silent parts item more sends_file front = absurd (cc)
took-some known file side asked [] item more sends_file front = absurd (cc)
took-some known file side asked (part ∷ parts) item more sends_file front = absurd (cc)
took-some known file side (sends number offset packets) parts item more sends_file front =
    (number, offset, sends_file.0)

-- the task has the number that was offered, once the client took the offer
number-noted : (known task number offset : ℕ) (file : List ℕ) (party : Party) (a : Attempt) → NotesGrant party a
    → GoesOnWithTask party a
    → AsksUpload a task known file → IsOfferFor known number offset → Took a.client (ul_go_resp number offset)
    → HasNumber party task number
number-noted zero task number offset file party a noted goes_on asks offer took =
    noted task number file asks (subst (λ (o : ℕ). Took a.client (ul_go_resp number o)) (offer.new refl) took)
number-noted (suc known) task number offset file party a noted goes_on asks offer took =
    let some : 1 ≤ suc known = omega arith in
    subst (HasNumber party task) (sym (offer.same some)) (goes_on task (suc known) file asks some)

module _ (files : List Asked) (c : ℕ) (party : Party) (before : Session) (served : IsServed files c party before)
    (at : Upload) (asked_is : served.attempt.client.asked ≡ work.Upload at) where
  abbrev pub Stage : Receiving → Type 0
  Stage stage = (serves-upload files c party before served at asked_is).stage ≡ stage

  pub unasked-alone : Stage unasked → drop 1 (said_by_client served.attempt.client) ≡ []
  unasked-alone is =
      let says = says-upload files c party before served at asked_is in
      ap (λ (said : List PacketValue). drop 1 said) says.said
      ∙ nothing-behind at.known at.file served.attempt.client says.stage
      (subst (TookOffered served.attempt.client) is (took-offered files c party before served at asked_is))
      says.sends_file

  -- while a file is received the task has its number
  pub received-number : (number offset : ℕ) (parts : List (List ℕ)) → Stage (receives number offset parts)
      → (x : SessionEntry) (item : Item)
      → session.items_of x ≡ item ∷ [] → ServerTookFront served.attempt
      (record served.side { entries = served.side.entries ++ x ∷ [] })
      → HasNumber party at.task number
  received-number number offset parts is x item takes front =
      let says = says-upload files c party before served at asked_is in
      let serves = serves-upload files c party before served at asked_is in
      let whole : map Ok (sending_said at.known (length at.file) says.stage)
      ≡ (Ok (upload_cmd at.known (length at.file)) ∷ data_items parts) ++ item ∷ front.0 =
      ap (λ (said : List PacketValue). map Ok said) (sym says.said)
      ∙ front-next files c party before served at asked_is x item takes front
      ∙ ap (λ (items : List Item). items ++ item ∷ front.0)
      (items-taken files c party before served at asked_is ∙ ap (received_items at.known (length at.file)) is) in
      let took = took-some at.known at.file served.attempt.client says.stage parts item front.0 says.sends_file whole in
      let same : IsOffer (receives number offset parts) took.0 took.1 =
      subst (TookOffered served.attempt.client) is
      (took-offered files c party before served at asked_is) took.0 took.1 took.2 in
      let offer : IsOfferFor at.known number offset = subst (IsOfferedBy at.known) is serves.offered in
      let mine : Took served.attempt.client (ul_go_resp number offset) =
      subst (λ (o : ℕ). Took served.attempt.client (ul_go_resp number o)) (sym same.1)
      (subst (λ (n : ℕ). Took served.attempt.client (ul_go_resp n took.1)) (sym same.0) took.2) in
      number-noted at.known at.task number offset at.file party served.attempt
      (newest-client files c party before served (NotesGrant party) served.facts.tasks.noted)
      (newest-client files c party before served (GoesOnWithTask party) served.facts.tasks.goes_on)
      (asks-upload files c party before served at asked_is) offer mine
