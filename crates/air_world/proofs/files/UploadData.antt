-- DATA to a session that receives a file.
use Rattle.std.proofs.Common.{◌≡◌, inl, inr, ℕ, suc, zero, ◌+◌, ◌-◌, ◌*◌, ◌/◌, ◌≤◌, ◌<◌, min, List, [], ◌∷◌, ◌++◌}
use Rattle.std.proofs.Common.{length, take, drop, refl, ap, sym, ◌∙◌, subst, arith, append-nil, append_assoc}
use Rattle.std.proofs.Common.{length-append, length-take, length-drop, take-add, take-append-drop, Bool, false}
use Rattle.file_store.specs.Command.{after_all}
use Rattle.ftl0_session.specs.Table.{Row}
use Rattle.ftl0_session.specs.Uploads.Session as upload
use Rattle.ftl0_server.specs.Entries as session
use Rattle.ftl0_client_job.specs.declared.work.Work.TheVariants as work
use Rattle.air_world.proofs.files.Names.{Ok, AllByRecursion, drop_at, length-take-le, map-append, All-drop, All-take, same_Some, IsFront, IsOctets, Item, data_part, ul_go_resp, upload_cmd, AreOf, BringsOctets, DropsNothing, grows, unfilled_block, whole_grows, after_first, Entry, Store, entry_of, partial, grows-after, UploadsLaw, Session, by_upload, receiving, session_row, SessionEntry, CallerLaw, Work, Upload, Asked, Party, octets_come, said_behind_server, ServerSide, said_by_client, Serves, HasNumber, Receives, IsFileAt, IsServed, AnsweredFirst, GoesOnWith, IsOfferedBy, ServesUpload, received_items, receives, receiving_said}
use Rattle.air_world.proofs.files.EntryLemmas.{answered-more, answers-still, said-more, says-still, with_entry}
use Rattle.air_world.proofs.files.GrowingLemmas.{front-entry, front-others, grows-allowed-here, grows-first, with_front}
use Rattle.air_world.proofs.files.OwnerLemmas.{one-file, own-number}
use Rattle.air_world.proofs.files.SideLemmas.{EntryDoes, RowDoes, done, gone_attempt, side-kept, side-new, silent-true}
use Rattle.air_world.proofs.files.UploadAsked.{due-receiving}
use Rattle.air_world.proofs.files.UploadNext.{SaidNext}
use Rattle.air_world.proofs.files.UploadReceived.{TakesFile, behind-then, come-then, place_come, takes, waiting}
use Rattle.air_world.proofs.files.UploadRows.{data-taken, row-taken}
use Rattle.air_world.proofs.files.UploadServed.{Stage, asks-upload, file-of-upload, serves-upload}

-- ---- lists

-- the next octets of a list from a place on are no more than there are
pub next-within : (octets file : List ℕ) (place : ℕ) → octets ≡ take (length octets) (drop place file)
    → place ≤ length file
    → place + length octets ≤ length file
next-within octets file place is within =
    let count : length octets ≡ min (length octets) (length file - place) =
    ap length is ∙ length-take (length octets) (drop place file)
    ∙ ap (λ (n : ℕ). min (length octets) n) (length-drop place file) in
    omega (arith, count, within)

-- with the octets that come next what came is a prefix still
came-next : (held rest octets file : List ℕ) (place : ℕ) → held ++ rest ≡ take place file
    → octets ≡ take (length octets) (drop place file)
    → held ++ (rest ++ octets) ≡ take (place + length octets) file
came-next held rest octets file place came is =
    sym (append_assoc held rest octets) ∙ ap (λ (front : List ℕ). front ++ octets) came
    ∙ ap (λ (more : List ℕ). take place file ++ more) is ∙ sym (take-add place (length octets) file)

-- what is held with the first of what waits is a prefix of the file
pub front-of : (held all file : List ℕ) (place k : ℕ) → held ++ all ≡ take place file
    → IsFront (held ++ take k all) file
front-of held all file place k came = (
  drop k all ++ drop place file,
  sym (take-append-drop place file) ∙ ap (λ (front : List ℕ). front ++ drop place file) (sym came)
      ∙ ap (λ (octets : List ℕ). (held ++ octets) ++ drop place file) (sym (take-append-drop k all))
      ∙ ap (λ (front : List ℕ). front ++ drop place file) (sym (append_assoc held (take k all) (drop k all)))
      ∙ append_assoc (held ++ take k all) (drop k all) (drop place file),
)

-- what waits are octets of the file
pub waiting-octets : (held all file : List ℕ) (place : ℕ) → held ++ all ≡ take place file → IsOctets file → IsOctets all
waiting-octets held all file place came octets =
    subst IsOctets (drop_at held all (length held) refl)
    (All-drop (λ octet. octet < 256) (length held) (held ++ all)
    (subst IsOctets (sym came) (All-take (λ octet. octet < 256) place file octets)))

pub grows-bring : (number n : ℕ) (octets : List ℕ) → IsOctets octets
    → AllByRecursion BringsOctets (grows number n octets)
grows-bring number zero octets are = tt
grows-bring number (suc n) octets are = (
  All-take (λ octet. octet < 256) 512 octets are,
  grows-bring number n (drop 512 octets)
      (All-drop (λ octet. octet < 256) 512 octets are),
)

-- and none of them gives a file up
grows-drop : (number n : ℕ) (octets : List ℕ) → DropsNothing (grows number n octets)
grows-drop number zero octets = tt
grows-drop number (suc n) octets = (tt, grows-drop number n (drop 512 octets))

-- ---- the row

module _ (files : List Asked) (c : ℕ) (party : Party) (before : Session) (served : IsServed files c party before)
    (at : Upload) (asked_is : served.attempt.client.asked ≡ work.Upload at) (number offset : ℕ) (parts : List (List ℕ))
    (is : Stage files c party before served at asked_is (receives number offset parts))
    (has : HasNumber party at.task number)
    (octets : List ℕ) where
  abbrev pub part : Item
  part = Ok (data_part octets)

  abbrev pub rest : List ℕ
  rest = waiting files c party before served at asked_is number offset parts is

  abbrev pub from : ℕ
  from = place_come files c party before served at asked_is number offset parts is

  abbrev file_taken : TakesFile before.store party.client.me served.attempt served.side at.file number from rest
  file_taken = takes files c party before served at asked_is number offset parts is

  abbrev pub all : List ℕ
  all = rest ++ octets

  abbrev pub data_row : Row
  data_row =
      record {
        state = receiving number (unfilled_block all);
        lists = before.lists;
        commands = whole_grows number all;
        replies = [];
      }

  module _ (next : octets ≡ take (length octets) (drop from at.file)) where
    room : from + length octets ≤ length at.file
    room = next-within octets at.file from next file_taken.within

    came : file_taken.held ++ all ≡ take (from + length octets) at.file
    came = came-next file_taken.held rest octets at.file from file_taken.came next

    -- as many octets as have come
    counted : length file_taken.held + (length rest + length octets) ≡ from + length octets
    counted =
        sym (ap (λ (n : ℕ). length file_taken.held + n) (length-append rest octets))
        ∙ sym (length-append file_taken.held all) ∙ ap length came
        ∙ length-take-le (from + length octets) at.file room

    fitting : length file_taken.held + (length rest + length octets) ≤ file_taken.entry.length
    fitting = omega (arith, counted, room, file_taken.length_is)

    pub row-is : UploadsLaw → (moment : ℕ)
        → session_row party.client.me moment before.store before.lists (receiving number rest) part false ≡ data_row
    row-is law moment =
        row-taken law party.client.me moment before.store before.lists number rest octets
        ∙ ap (λ (row : upload.Row). by_upload before.lists row)
        (data-taken before.store number file_taken.entry file_taken.held rest file_taken.is_entry file_taken.holds
        octets fitting)

    own-commands : UploadsLaw → CallerLaw → (moment : ℕ) → AreOf party.client.me before.store (whole_grows number all)
    own-commands law caller_law moment =
        subst (λ (row : Row). AreOf party.client.me before.store row.commands) (row-is law moment)
        (caller_law party.client.me moment before.store before.lists (receiving number rest) part false
        (λ entry found.
        ap (λ (e : Entry). e.caller) (same_Some entry file_taken.entry (sym found ∙ file_taken.is_entry))
        ∙ file_taken.caller_is))

    -- the entry on its way to the file, with the first of these octets held too
    under-way : (k : ℕ) → IsFileAt (with_front before.store number all k) number at.file party.client.me
    under-way k =
        inr (inl (record {
          entry = record file_taken.entry { holding = partial (file_taken.held ++ take k all) };
          is_entry =
              front-entry before.store number file_taken.entry file_taken.held file_taken.is_entry file_taken.holds all
              k;
          caller_is = file_taken.caller_is;
          length_is = file_taken.length_is;
          held = file_taken.held ++ take k all;
          holds = refl;
          front = front-of file_taken.held all at.file (from + length octets) k came;
        }))

    data-does : UploadsLaw → CallerLaw → (moment : ℕ) → IsOctets at.file → RowDoes files party before part data_row
    data-does law caller_law moment are = record {
      commands = record {
        own = own-commands law caller_law moment;
        allowed =
            grows-allowed-here before.store number file_taken.entry file_taken.held file_taken.is_entry file_taken.holds
            all
            (subst (λ (n : ℕ). length file_taken.held + n ≤ file_taken.entry.length)
            (sym (length-append rest octets)) fitting);
        brings =
            grows-bring number (length all / 512) all
            (waiting-octets file_taken.held all at.file (from + length octets) came are);
        drops = grows-drop number (length all / 512) all;
      };
      lists = refl;
      fits = tt;
      quiet = tt;
      n = number;
      others = λ count other differs.
          let front = grows-first before.store number all count in
          ap (λ (s : Store). entry_of s other) front.1 ∙ front-others before.store number all front.0 other differs;
      file = λ count task that has_that is_that.
          let front = grows-first before.store number all count in
          let same = one-file before.store files party served.facts served.once at.task task number at.file that has
          (file-of-upload files c party before served at asked_is) has_that is_that in
          subst (λ (f : List ℕ). IsFileAt (after_first count before.store (whole_grows number all)) number f
          party.client.me) same
          (subst (λ (s : Store). IsFileAt s number at.file party.client.me) (sym front.1) (under-way front.0));
      own =
          own-number before.store files party served.facts served.once at.task number at.file has
          (file-of-upload files c party before served at asked_is);
      new = λ number file_length answer. absurd (let no = answer.0 in cc);
    }

    -- ---- the session after it

    abbrev behind : List ℕ
    behind = unfilled_block all

    abbrev took_it : SessionEntry
    took_it = session.took part data_row

    abbrev gone : Bool → ServerSide
    gone up = with_entry served.side took_it (receiving number behind) up

    abbrev store_now : Store
    store_now = after_all before.store (whole_grows number all)

    serves-data : (up : Bool) → ServesUpload at.known at.file (gone up)
    serves-data up =
        let was = serves-upload files c party before served at asked_is in
        record {
          stage = receives number offset (parts ++ octets ∷ []);
          items =
              answered-more served.side.entries took_it
              ∙ ap (λ (items : List Item). items ++ part ∷ [])
              (was.items ∙ ap (received_items at.known (length at.file)) is)
              ∙ ap (λ (items : List Item). Ok (upload_cmd at.known (length at.file)) ∷ items)
              (sym (map-append (λ (os : List ℕ). Ok (data_part os)) parts (octets ∷ [])));
          said =
              said-more served.side.entries took_it ∙ append-nil (session.said_in served.side.entries) ∙ was.said
              ∙ ap receiving_said is;
          state = λ none_lost. (behind, refl);
          offered = subst (IsOfferedBy at.known) is was.offered;
          first =
              answers-still served.side took_it (receiving number behind) up (Ok (upload_cmd at.known (length at.file)))
              (ul_go_resp number offset)
              (subst (AnsweredFirst at.known (length at.file) served.side) is was.first);
        }

    module _ (more : List Item)
        (said : SaidNext (session.items_in served.side.entries) more part (said_by_client served.attempt.client))
        (goes : GoesOnWith at.file (from + length octets) said.rest) where
      receives-data : (up : Bool)
          → Receives store_now (done files c party before served (gone up))
          (gone_attempt files c party before served (gone up)) (gone up) number behind
      receives-data up =
          let q : ℕ = 512 * (length all / 512) in
          let come : octets_come (gone up) ≡ octets_come served.side + length octets =
          come-then served.attempt served.side part took_it refl (receiving number behind) up in
          let on : file_taken.offset + octets_come (gone up) ≡ from + length octets =
          omega (arith, come, file_taken.place_is) in
          record {
            task = at.task;
            known = at.known;
            file = at.file;
            asks = asks-upload files c party before served at asked_is;
            entry = record file_taken.entry { holding = partial (file_taken.held ++ take q all) };
            is_entry =
                ap (λ (s : Store). entry_of s number) (grows-after number (length all / 512) all before.store)
                ∙ front-entry before.store number file_taken.entry file_taken.held file_taken.is_entry file_taken.holds
                all q;
            held = file_taken.held ++ take q all;
            holds = refl;
            caller_is = file_taken.caller_is;
            length_is = file_taken.length_is;
            few = let left : length behind ≡ length all - q = length-drop q all in omega (arith, left);
            offset = file_taken.offset;
            offers =
                says-still served.side took_it (receiving number behind) up
                (ul_go_resp number file_taken.offset) file_taken.offers;
            came =
                append_assoc file_taken.held (take q all) behind
                ∙ ap (λ (os : List ℕ). file_taken.held ++ os) (take-append-drop q all) ∙ came
                ∙ ap (λ (n : ℕ). take n at.file) (sym on);
            within = omega (arith, on, room);
            goes_on =
                subst (λ (n : ℕ). GoesOnWith at.file n (said_behind_server (gone up) served.attempt.client)) (sym on)
                (subst (GoesOnWith at.file (from + length octets))
                (sym (behind-then served.attempt served.side part took_it refl
                (receiving number behind) up more said))
                goes);
          }

      pub data-entry : UploadsLaw → CallerLaw → (moment : ℕ) → IsOctets at.file
          → EntryDoes files c party before served part data_row
      data-entry law caller_law moment are =
          let does = data-does law caller_law moment are in
          record {
            does = does;
            sides = λ up.
                side-new store_now (done files c party before served (gone up))
                (gone_attempt files c party before served (gone up)) served.side took_it
                (receiving number behind) up (side-kept files c party before served part data_row does (gone up))
                (silent-true store_now (done files c party before served (gone up))
                (gone_attempt files c party before served (gone up)) served.side took_it
                (receiving number behind) up refl (λ item answer is_answer. let no = is_answer.1 in cc))
                (λ n those is_up state.
                let same : number ≡ n = cc in
                let octets_same : behind ≡ those = cc in
                subst
                (λ (rs : List ℕ). Receives store_now (done files c party before served (gone up))
                (gone_attempt files c party before served (gone up)) (gone up) n rs)
                octets_same
                (subst
                (λ (k : ℕ). Receives store_now (done files c party before served (gone up))
                (gone_attempt files c party before served (gone up)) (gone up) k behind)
                same (receives-data up)))
                (λ is_up. due-receiving store_now served.side took_it number behind up)
                (subst (λ (doing : Work). Serves store_now doing (gone up)) (sym asked_is) (serves-data up));
          }
