-- Whatever comes next to a session of an upload, its entry does what it has to.
use Rattle.std.proofs.Common.{◌≡◌, inl, inr, ℕ, suc, zero, ◌<◌, ◌^◌, List, [], ◌∷◌, ◌++◌, length, drop, refl, ap, sym}
use Rattle.std.proofs.Common.{◌∙◌, subst, false, None}
use Rattle.ftl0_server.specs.Entries as session
use Rattle.ftl0_server.specs.Entries.{row_of}
use Rattle.ftl0_client_job.specs.declared.work.Work.TheVariants as work
use Rattle.air_world.specs.Files.UploadDialogue.{ended, refused}
use Rattle.air_world.proofs.files.Names.{Ok, AllByRecursion, Fits, Item, PacketValue, data_end, data_part, upload_cmd, AcknowledgedLaw, UploadsLaw, Session, State, next_due, receiving, session_row, SessionEntry, CallerLaw, Upload, ServerTookFront, Asked, Party, said_by_client, HasNumber, IsServed, GoesOnWith, IsReceivingState, Receiving, receives, unasked}
use Rattle.air_world.proofs.files.SideLemmas.{EntryDoes}
use Rattle.air_world.proofs.files.UploadContinued.{asked-does}
use Rattle.air_world.proofs.files.UploadData as data_lemmas
use Rattle.air_world.proofs.files.UploadEnd as end_lemmas
use Rattle.air_world.proofs.files.UploadNext.{IsNextIn, SaidNext, goes-first}
use Rattle.air_world.proofs.files.UploadReceived.{is-good, place_come, receiving-state, takes}
use Rattle.air_world.proofs.files.UploadServed.{Stage, received-number, serves-upload, upload-next, upload-said}

fits-behind : (n : ℕ) (said : List PacketValue) → AllByRecursion Fits said → AllByRecursion Fits (drop n said)
fits-behind zero [] fits = tt
fits-behind (suc n) [] fits = tt
fits-behind zero (p ∷ said) fits = fits
fits-behind (suc n) (p ∷ said) fits = fits-behind n said fits.1

module _ (uploads_law : UploadsLaw) (acknowledged_law : AcknowledgedLaw) (caller_law : CallerLaw)
    (files : List Asked) (c : ℕ) (party : Party) (moment : ℕ) (before : Session)
    (served : IsServed files c party before)
    (at : Upload) (asked_is : served.attempt.client.asked ≡ work.Upload at) where
  abbrev IsStage : Receiving → Type 0
  IsStage stage = Stage files c party before served at asked_is stage

  abbrev Does : Item → Type 0
  Does item = EntryDoes files c party before served item (row_of party.client.me moment before item)

  -- the state of the session, by its stage
  state-in : (stage : Receiving) → IsStage stage → IsReceivingState stage before.state
  state-in stage is =
      subst (IsReceivingState stage) (sym served.state_is)
      (subst (λ s. IsReceivingState s served.side.connected.state) is
      ((serves-upload files c party before served at asked_is).state served.none_lost))

  -- nothing is due
  pub none-due : (stage : Receiving) → IsStage stage → next_due before.store before.state false ≡ None
  none-due unasked is = ap (λ (s : State). next_due before.store s false) (state-in unasked is)
  none-due (refused code) is = ap (λ (s : State). next_due before.store s false) (state-in (refused code) is)
  none-due (receives number offset parts) is =
      ap (λ (s : State). next_due before.store s false) (state-in (receives number offset parts) is).1
  none-due (ended number offset parts word) is =
      ap (λ (s : State). next_due before.store s false) (state-in (ended number offset parts word) is)

  module _ (x : SessionEntry) (item : Item) (takes_it : session.items_of x ≡ item ∷ [])
      (front : ServerTookFront served.attempt (record served.side { entries = served.side.entries ++ x ∷ [] }))
      (fits : AllByRecursion Fits (said_by_client served.attempt.client)) where
    abbrev said : SaidNext (session.items_in served.side.entries) front.0 item (said_by_client served.attempt.client)
    said = upload-said files c party before served at asked_is x item takes_it front

    next : (stage : Receiving) → IsStage stage → IsNextIn at.known (length at.file) stage item
    next stage is =
        subst (λ s. IsNextIn at.known (length at.file) s item) is
        (upload-next files c party before served at asked_is x item takes_it front)

    -- UPLOAD_CMD
    known-small : item ≡ Ok (upload_cmd at.known (length at.file)) → at.known < 2 ^ 32
    known-small is =
        let it : said.packet ≡ upload_cmd at.known (length at.file) = let both = sym said.is_item ∙ is in cc in
        let all = subst (AllByRecursion Fits) said.here
        (fits-behind (length (session.items_in served.side.entries)) (said_by_client served.attempt.client) fits) in
        let one : Fits (upload_cmd at.known (length at.file)) = subst Fits it all.0 in
        one.0

    asks : IsStage unasked → Does item
    asks is =
        let item_is = next unasked is in
        subst (λ (it : Item). Does it) (sym item_is)
        (subst
        (λ (s : State).
        EntryDoes files c party before served (Ok (upload_cmd at.known (length at.file)))
        (session_row party.client.me moment before.store before.lists s
        (Ok (upload_cmd at.known (length at.file))) false))
        (sym (state-in unasked is))
        (asked-does files c party before served at asked_is is uploads_law moment (known-small item_is)))

    -- DATA and DATA_END
    module _ (number offset : ℕ) (parts : List (List ℕ)) (is : IsStage (receives number offset parts)) where
      abbrev rest : List ℕ
      rest = (receiving-state files c party before served at asked_is number offset parts is).0

      receiving-now : before.state ≡ receiving number rest
      receiving-now =
          served.state_is ∙ (receiving-state files c party before served at asked_is number offset parts is).1

      has-number : HasNumber party at.task number
      has-number = received-number files c party before served at asked_is number offset parts is x item takes_it front

      abbrev from : ℕ
      from = place_come files c party before served at asked_is number offset parts is

      goes : GoesOnWith at.file from (said.packet ∷ said.rest)
      goes =
          subst (GoesOnWith at.file from) said.here
          (takes files c party before served at asked_is number offset parts is).goes_on

      -- by the row of the state, and of the packet
      by-row : (it : Item) → item ≡ it
          → EntryDoes files c party before served it
          (session_row party.client.me moment before.store before.lists (receiving number rest) it false)
          → Does item
      by-row it same does =
          subst (λ (i : Item). Does i) (sym same)
          (subst (λ (s : State). EntryDoes files c party before served it
          (session_row party.client.me moment before.store before.lists s it false))
          (sym receiving-now) does)

      takes-data : (octets : List ℕ) → said.packet ≡ data_part octets → Does item
      takes-data octets is_data =
          let same : item ≡ Ok (data_part octets) = said.is_item ∙ ap (λ (p : PacketValue). Ok p) is_data in
          let on = subst (λ (p : PacketValue). GoesOnWith at.file from (p ∷ said.rest)) is_data goes in
          let those : SaidNext (session.items_in served.side.entries) front.0 (Ok (data_part octets))
          (said_by_client served.attempt.client) =
          record {
            packet = said.packet;
            is_item = sym same ∙ said.is_item;
            rest = said.rest;
            here = said.here;
            behind = said.behind;
            others = said.others;
          } in
          by-row (Ok (data_part octets)) same
          (subst (EntryDoes files c party before served (Ok (data_part octets)))
          (sym (data_lemmas.row-is files c party before served at asked_is number offset parts is has-number octets on.0
          uploads_law moment))
          (data_lemmas.data-entry files c party before served at asked_is number offset parts is has-number octets on.0
          front.0 those on.1 uploads_law caller_law
          moment (is-good files c party before served at asked_is number offset parts is).octets))

      takes-end : said.packet ≡ data_end → Does item
      takes-end is_end =
          let same : item ≡ Ok data_end = said.is_item ∙ ap (λ (p : PacketValue). Ok p) is_end in
          let on = subst (λ (p : PacketValue). GoesOnWith at.file from (p ∷ said.rest)) is_end goes in
          by-row (Ok data_end) same
          (subst (EntryDoes files c party before served (Ok data_end))
          (sym (end_lemmas.row-is files c party before served at asked_is number offset parts is has-number moment on.0
          uploads_law caller_law acknowledged_law))
          (end_lemmas.end-entry files c party before served at asked_is number offset parts is has-number moment on.0
          uploads_law caller_law acknowledged_law))

      takes-next : Does item
      takes-next =
          elim (goes-first at.file from said.packet said.rest goes) [
            | inl part ↦ takes-data part.0 part.1
            | inr last ↦ takes-end last
          ]

    by-stage : (stage : Receiving) → IsStage stage → Does item
    by-stage unasked is = asks is
    by-stage (refused code) is = absurd (next (refused code) is)
    by-stage (receives number offset parts) is = takes-next number offset parts is
    by-stage (ended number offset parts word) is = absurd (next (ended number offset parts word) is)

    -- its row does what it has to, and the session with it has its facts
    pub upload-does : Does item
    upload-does = by-stage (serves-upload files c party before served at asked_is).stage refl

  pub upload-none-due : next_due before.store before.state false ≡ None
  upload-none-due = none-due (serves-upload files c party before served at asked_is).stage refl
