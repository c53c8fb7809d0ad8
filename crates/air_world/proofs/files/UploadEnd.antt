-- DATA_END to a session that receives a file.
use Rattle.std.proofs.Common.{◌≡◌, ◌≢◌, ◌⊎◌, inl, inr, ℕ, ◌+◌, List, [], ◌∷◌, ◌++◌, length, take, refl, ap, ap₂, sym}
use Rattle.std.proofs.Common.{◌∙◌, subst, arith, length-append, Bool, false, None}
use Rattle.pfh_items.specs.Stamp.{stamped}
use Rattle.file_store.specs.Command.{after_all}
use Rattle.ftl0_session.specs.Laws.{Acknowledges}
use Rattle.ftl0_session.specs.Table.{Row}
use Rattle.ftl0_session.specs.Uploads.Laws.{kept}
use Rattle.ftl0_session.specs.Uploads.Session as upload
use Rattle.ftl0_server.specs.Entries as session
use Rattle.ftl0_client_job.specs.declared.work.Work.TheVariants as work
use Rattle.air_world.specs.Files.UploadDialogue.{ended}
use Rattle.air_world.proofs.files.Names.{IsTrue, Ok, AllByRecursion, take_all, same_Some, CallSign, IsCall, IsOctets, Item, PacketValue, data_end, ul_ack_resp, ul_go_resp, upload_cmd, fault_code, AreOf, BringsOctets, DropsNothing, IsCompleteIn, is_complete, after_first, Entry, Holding, Store, complete, entry_of, partial, found-number, AcknowledgedLaw, UploadsLaw, Session, by_upload, command, receiving, session_row, SessionEntry, CallerLaw, Work, Upload, Has, Asked, Party, Offers, ServerSide, said_by_server, Serves, HasNumber, IsFileAt, IsKept, IsServed, AnsweredFirst, IsOfferedBy, ServesUpload, received_items, receives, receiving_said, IsGoodFile}
use Rattle.air_world.proofs.files.EntryLemmas.{answered-more, answers-still, said-more, says-cases, with_entry}
use Rattle.air_world.proofs.files.GrowingLemmas.{ended-first, ended-store, ending-allowed, ending_commands, front-entry}
use Rattle.air_world.proofs.files.GrowingLemmas.{front-others, sealed-others, sealed_store, with_front}
use Rattle.air_world.proofs.files.OwnerLemmas.{one-file, own-number}
use Rattle.air_world.proofs.files.SideLemmas.{EntryDoes, RowDoes, done, gone_attempt, side-kept, side-new}
use Rattle.air_world.proofs.files.UploadAsked.{alone-is, due-command}
use Rattle.air_world.proofs.files.UploadData.{front-of, waiting-octets}
use Rattle.air_world.proofs.files.UploadNext.{offers-in}
use Rattle.air_world.proofs.files.JobTook.{IsOffer}
use Rattle.air_world.proofs.files.UploadReceived.{TakesFile, is-good, place_come, takes, waiting}
use Rattle.air_world.proofs.files.UploadRows.{end-whole, row-ended}
use Rattle.air_world.proofs.files.UploadServed.{Stage, file-of-upload, serves-upload}

last-brings : (number : ℕ) (rest : List ℕ) (moment : ℕ) → IsOctets rest
    → AllByRecursion BringsOctets (ending_commands number rest moment)
last-brings number [] moment are = (tt, tt)
last-brings number (octet ∷ octets) moment are = (are, (tt, tt))

last-drops : (number : ℕ) (rest : List ℕ) (moment : ℕ) → DropsNothing (ending_commands number rest moment)
last-drops number [] moment = (tt, tt)
last-drops number (octet ∷ octets) moment = (tt, (tt, tt))

module _ (files : List Asked) (c : ℕ) (party : Party) (before : Session) (served : IsServed files c party before)
    (at : Upload) (asked_is : served.attempt.client.asked ≡ work.Upload at) (number offset : ℕ) (parts : List (List ℕ))
    (is : Stage files c party before served at asked_is (receives number offset parts))
    (has : HasNumber party at.task number)
    (moment : ℕ) where
  abbrev pub rest : List ℕ
  rest = waiting files c party before served at asked_is number offset parts is

  abbrev pub from : ℕ
  from = place_come files c party before served at asked_is number offset parts is

  abbrev file_taken : TakesFile before.store party.client.me served.attempt served.side at.file number from rest
  file_taken = takes files c party before served at asked_is number offset parts is

  abbrev good : IsGoodFile at.file
  good = is-good files c party before served at asked_is number offset parts is

  abbrev pub last : Item
  last = Ok data_end

  abbrev pub end_row : Row
  end_row =
      record {
        state = command;
        lists = before.lists;
        commands = ending_commands number rest moment;
        replies = ul_ack_resp ∷ [];
      }

  module _ (whole : from ≡ length at.file) (uploads_law : UploadsLaw) (caller_law : CallerLaw)
      (acknowledged_law : AcknowledgedLaw) where
    -- what is held and what waits is the file
    is-file : file_taken.held ++ rest ≡ at.file
    is-file = file_taken.came ∙ take_all from at.file (omega (arith, whole))

    counted : length file_taken.held + length rest ≡ file_taken.entry.length
    counted = sym (length-append file_taken.held rest) ∙ ap length is-file ∙ sym file_taken.length_is

    faultless : fault_code (file_taken.held ++ rest) ≡ None
    faultless = ap fault_code is-file ∙ good.faultless

    pub row-is : session_row party.client.me moment before.store before.lists (receiving number rest) last
        false ≡ end_row
    row-is =
        row-ended uploads_law party.client.me moment before.store before.lists number rest
        ∙ ap (λ (row : upload.Row). by_upload before.lists row)
        (end-whole before.store number file_taken.entry file_taken.held rest file_taken.is_entry file_taken.holds moment
        counted faultless)

    own-commands : AreOf party.client.me before.store (ending_commands number rest moment)
    own-commands =
        subst (λ (row : Row). AreOf party.client.me before.store row.commands) row-is
        (caller_law party.client.me moment before.store before.lists (receiving number rest) last false
        (λ entry found.
        ap (λ (e : Entry). e.caller) (same_Some entry file_taken.entry (sym found ∙ file_taken.is_entry))
        ∙ file_taken.caller_is))

    acknowledged : Acknowledges before.store before.lists number file_taken.entry (file_taken.held ++ rest) moment
        end_row
    acknowledged =
        subst (Acknowledges before.store before.lists number file_taken.entry (file_taken.held ++ rest) moment) row-is
        (acknowledged_law party.client.me moment before.store before.lists number file_taken.entry file_taken.held rest
        (file_taken.is_entry, file_taken.holds) counted faultless)

    abbrev store_now : Store
    store_now = after_all before.store (ending_commands number rest moment)

    -- the entry is complete with the file then
    is-kept : IsKept store_now number at.file party.client.me
    is-kept =
        let entry : Entry = file_taken.entry in
        let numbered : entry.number ≡ number = found-number number before.store.entries entry file_taken.is_entry in
        subst (λ (f : List ℕ). IsKept store_now number f party.client.me) is-file
        (record {
          entry = kept entry (file_taken.held ++ rest) moment;
          is_entry = acknowledged.entry_now;
          caller_is = file_taken.caller_is;
          moment = moment;
          whole =
              ap₂ (λ (n : ℕ) (by : CallSign). complete (stamped (record { number = n; by = by; moment = moment })
              (file_taken.held ++ rest)) moment)
              numbered file_taken.caller_is;
          keeps =
              acknowledged.client (subst IsCall (sym file_taken.caller_is) served.stands.call)
              (subst IsOctets (sym is-file) good.octets);
        })

    under-way : (k : ℕ) → IsFileAt (with_front before.store number rest k) number at.file party.client.me
    under-way k =
        inr (inl (record {
          entry = record file_taken.entry { holding = partial (file_taken.held ++ take k rest) };
          is_entry =
              front-entry before.store number file_taken.entry file_taken.held file_taken.is_entry file_taken.holds rest
              k;
          caller_is = file_taken.caller_is;
          length_is = file_taken.length_is;
          held = file_taken.held ++ take k rest;
          holds = refl;
          front = front-of file_taken.held rest at.file from k file_taken.came;
        }))

    -- after each of the commands
    abbrev store_at : ℕ → Store
    store_at count = after_first count before.store (ending_commands number rest moment)

    end-others : (count other : ℕ) → other ≢ number → entry_of (store_at count) other ≡ entry_of before.store other
    end-others count other differs = by (ended-first before.store number rest moment count)
      where
        by : ((k : ℕ) × (store_at count ≡ with_front before.store number rest k)) ⊎ (store_at count ≡ sealed_store
            before.store number rest moment)
            → entry_of (store_at count) other ≡ entry_of before.store other
        by (inl front) =
            ap (λ (s : Store). entry_of s other) front.1 ∙ front-others before.store number rest front.0 other differs
        by (inr all) =
            ap (λ (s : Store). entry_of s other) all ∙ sealed-others before.store number rest moment other differs

    end-file : (count : ℕ) → IsFileAt (store_at count) number at.file party.client.me
    end-file count = by (ended-first before.store number rest moment count)
      where
        by : ((k : ℕ) × (store_at count ≡ with_front before.store number rest k)) ⊎ (store_at count ≡ sealed_store
            before.store number rest moment)
            → IsFileAt (store_at count) number at.file party.client.me
        by (inl front) =
            subst (λ (s : Store). IsFileAt s number at.file party.client.me) (sym front.1) (under-way front.0)
        by (inr all) =
            subst (λ (s : Store). IsFileAt s number at.file party.client.me)
            (ended-store before.store number rest moment ∙ sym all) (inr (inr is-kept))

    end-does : RowDoes files party before last end_row
    end-does = record {
      commands = record {
        own = own-commands;
        allowed =
            ending-allowed before.store number file_taken.entry file_taken.held file_taken.is_entry file_taken.holds
            rest moment file_taken.few counted faultless;
        brings =
            last-brings number rest moment
            (waiting-octets file_taken.held rest at.file from file_taken.came good.octets);
        drops = last-drops number rest moment;
      };
      lists = refl;
      fits = (tt, tt);
      quiet = (refl, tt);
      n = number;
      others = end-others;
      file = λ count task that has_that is_that.
          let same = one-file before.store files party served.facts served.once at.task task number at.file that has
          (file-of-upload files c party before served at asked_is) has_that is_that in
          subst (λ (f : List ℕ). IsFileAt (store_at count) number f party.client.me) same (end-file count);
      own =
          own-number before.store files party served.facts served.once at.task number at.file has
          (file-of-upload files c party before served at asked_is);
      new = λ n file_length answer. absurd (let no = answer.0 in cc);
    }

    -- ---- the session after it

    abbrev took_it : SessionEntry
    took_it = session.took last end_row

    abbrev gone : Bool → ServerSide
    gone up = with_entry served.side took_it command up

    serves-end : (up : Bool) → ServesUpload at.known at.file (gone up)
    serves-end up =
        let was = serves-upload files c party before served at asked_is in
        record {
          stage = ended number offset parts ul_ack_resp;
          items =
              answered-more served.side.entries took_it
              ∙ ap (λ (items : List Item). items ++ last ∷ [])
              (was.items ∙ ap (received_items at.known (length at.file)) is);
          said =
              said-more served.side.entries took_it
              ∙ ap (λ (packets : List PacketValue). packets ++ ul_ack_resp ∷ []) (was.said ∙ ap receiving_said is);
          state = λ none_lost. refl;
          offered = (subst (IsOfferedBy at.known) is was.offered, inl refl);
          first =
              answers-still served.side took_it command up (Ok (upload_cmd at.known (length at.file)))
              (ul_go_resp number offset)
              (subst (AnsweredFirst at.known (length at.file) served.side) is was.first);
        }

    is-complete : IsCompleteIn store_now number
    is-complete =
        (is-kept.entry, is-kept.is_entry, subst (λ (h : Holding). IsTrue (is_complete h)) (sym is-kept.whole) refl)

    -- what it offered is the number of this file
    offered-it : (n from_place : ℕ) → Has (said_by_server served.side) (ul_go_resp n from_place) → number ≡ n
    offered-it n from_place offers =
        let was = serves-upload files c party before served at asked_is in
        let said : Has (served.side.greeting ∷ receiving_said was.stage) (ul_go_resp n from_place) =
        subst (λ (packets : List PacketValue). Has (served.side.greeting ∷ packets) (ul_go_resp n from_place)) was.said
        offers in
        let both : IsOffer (receives number offset parts) n from_place =
        subst (λ stage. IsOffer stage n from_place) is
        (offers-in at.known was.stage served.side.greeting n from_place served.greets was.offered said) in
        both.0

    acknowledges-it : (up : Bool) (n from_place : ℕ) → Offers (gone up) n from_place → IsCompleteIn store_now n
    acknowledges-it up n from_place offers =
        by (says-cases served.side took_it command up (ul_go_resp n from_place) offers)
      where
        by : Has (said_by_server served.side) (ul_go_resp n from_place) ⊎ Has (ul_ack_resp ∷ [])
            (ul_go_resp n from_place) → IsCompleteIn store_now n
        by (inl before) = subst (IsCompleteIn store_now) (offered-it n from_place before) is-complete
        by (inr now) = absurd (let same = alone-is ul_ack_resp (ul_go_resp n from_place) now in cc)

    pub end-entry : EntryDoes files c party before served last end_row
    end-entry = record {
      does = end-does;
      sides = λ up.
          side-new store_now (done files c party before served (gone up))
          (gone_attempt files c party before served (gone up)) served.side took_it command up
          (side-kept files c party before served last end_row end-does (gone up))
          (record {
            grants = λ n file_length answer. absurd (let no = answer.0 in cc);
            offers = λ n from_place says. absurd (let same = alone-is ul_ack_resp (ul_go_resp n from_place) says in cc);
            acks = λ n acks. inr (acknowledges-it up n acks.0.0 acks.0.1);
            tells = λ n file_length answer. absurd (let no = answer.0 in cc);
          })
          (λ n those is_up state. absurd (cc))
          (λ is_up. due-command store_now served.side took_it up)
          (subst (λ (doing : Work). Serves store_now doing (gone up)) (sym asked_is) (serves-end up));
    }
