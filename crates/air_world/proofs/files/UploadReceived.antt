-- A file that a session receives, by the upload of its attempt, and the packet that comes next of it.
use Rattle.std.proofs.Common.{◌≡◌, ℕ, suc, ◌+◌, ◌≤◌, ◌<◌, List, [], ◌∷◌, ◌++◌, length, take, drop, refl, ap, sym, ◌∙◌}
use Rattle.std.proofs.Common.{subst, arith, append-nil, length-append, slice_get, Bool, Option, None, Some}
use Rattle.ftl0_server.specs.Entries as session
use Rattle.ftl0_client_job.specs.declared.work.Work.TheVariants as work
use Rattle.air_world.proofs.files.Names.{AllByRecursion, option_and_then, option_map, flat_map-append, CallSign, Item, Entry, Store, entry_of, partial, Session, State, receiving, SessionEntry, Upload, new_upload, Attempt, Asked, IsFileOf, Party, upload_of, AsksUpload, Offers, octets_come, octets_of_item, octets_taken, said_behind_server, ServerSide, said_by_client, each-at, has-at, Receives, IsServed, GoesOnWith, IsReceivingState, receives, IsGoodFile}
use Rattle.air_world.proofs.files.ApartLemmas.{ReceiveFact}
use Rattle.air_world.proofs.files.EntryLemmas.{items-more, with_entry}
use Rattle.air_world.proofs.files.SideLemmas.{newest-side}
use Rattle.air_world.proofs.files.UploadNext.{SaidNext}
use Rattle.air_world.proofs.files.UploadServed.{Stage, asks-upload, file-of-upload, serves-upload}

-- The session receives this file under this number: what is held and what waits is its prefix, up to this place, and
-- what the client has said after that goes on with it.
pub record TakesFile (store : Store) (me : CallSign) (a : Attempt) (side : ServerSide) (file : List ℕ)
    (number place : ℕ) (rest : List ℕ)
    : Type 0 where
  pub entry : Entry
  pub is_entry : entry_of store number ≡ Some entry
  pub held : List ℕ
  pub holds : entry.holding ≡ partial held
  pub caller_is : entry.caller ≡ me
  pub length_is : entry.length ≡ length file
  pub few : length rest < 512
  pub offset : ℕ
  pub offers : Offers side number offset
  pub place_is : place ≡ offset + octets_come side
  pub came : held ++ rest ≡ take place file
  pub within : place ≤ length file
  pub goes_on : GoesOnWith file place (said_behind_server side a.client)

same-upload : (a : Attempt) (task known other that : ℕ) (file those : List ℕ) → AsksUpload a task known file
    → AsksUpload a other that those
    → those ≡ file
same-upload a task known other that file those one two =
    let both : work.Upload (new_upload other that those) ≡ work.Upload (new_upload task known file) = sym two ∙ one in
    let uploads : new_upload other that those ≡ new_upload task known file = cc in
    ap (λ (at : Upload). at.file) uploads

takes-file : (store : Store) (party : Party) (a : Attempt) (side : ServerSide) (file : List ℕ) (number : ℕ)
    (rest : List ℕ)
    → (r : Receives store party a side number rest) → r.file ≡ file
    → TakesFile store party.client.me a side file number (r.offset + octets_come side) rest
takes-file store party a side file number rest r same =
    subst (λ (f : List ℕ). TakesFile store party.client.me a side f number (r.offset + octets_come side) rest) same
    (record {
      entry = r.entry;
      is_entry = r.is_entry;
      held = r.held;
      holds = r.holds;
      caller_is = r.caller_is;
      length_is = r.length_is;
      few = r.few;
      offset = r.offset;
      offers = r.offers;
      place_is = refl;
      came = r.came;
      within = r.within;
      goes_on = r.goes_on;
    })

-- the file of a task is one of those that were asked
pub good-file : (files : List Asked) (party : Party) (task : ℕ) (file : List ℕ)
    → AllByRecursion (λ asked. IsGoodFile asked.file) files
    → IsFileOf files party task file → IsGoodFile file
good-file files party task file good is = by (upload_of party task) refl is
  where
    at : (place : ℕ) (o : Option Asked) → slice_get files place ≡ o
        → option_map (λ (asked : Asked). asked.file) o ≡ Some file → IsGoodFile file
    at place None there is_file = absurd (cc)
    at place (Some asked) there is_file =
        let same : asked.file ≡ file = cc in
        subst IsGoodFile same (each-at (λ it. IsGoodFile it.file) files asked good (has-at files place asked there))

    by : (o : Option ℕ) → upload_of party task ≡ o
        → option_map (λ (asked : Asked). asked.file) (option_and_then (slice_get files) o) ≡ Some file → IsGoodFile file
    by None there is_file = absurd (cc)
    by (Some place) there is_file = at place (slice_get files place) refl is_file

-- ---- how far it is after one more packet

module _ (a : Attempt) (side : ServerSide) (item : Item) (x : SessionEntry) (takes : session.items_of x ≡ item ∷ [])
    (state : State) (up : Bool) where
  items-then : session.items_in (with_entry side x state up).entries ≡ session.items_in side.entries ++ item ∷ []
  items-then = items-more side.entries x ∙ ap (λ (items : List Item). session.items_in side.entries ++ items) takes

  pub come-then : octets_come (with_entry side x state up) ≡ octets_come side + length (octets_of_item item)
  come-then =
      ap (λ (items : List Item). length (octets_taken items)) items-then
      ∙ ap length (flat_map-append octets_of_item (session.items_in side.entries) (item ∷ []))
      ∙ length-append (octets_taken (session.items_in side.entries)) (octets_of_item item ++ [])
      ∙ ap (λ (octets : List ℕ). octets_come side + length octets) (append-nil (octets_of_item item))

  pub behind-then : (more : List Item)
      (said : SaidNext (session.items_in side.entries) more item (said_by_client a.client))
      → said_behind_server (with_entry side x state up) a.client ≡ said.rest
  behind-then more said =
      let count : length (session.items_in side.entries ++ item ∷ []) ≡ suc (length (session.items_in side.entries)) =
      length-append (session.items_in side.entries) (item ∷ []) ∙ omega arith in
      ap (λ (items : List Item). drop (length items) (said_by_client a.client)) items-then
      ∙ ap (λ (n : ℕ). drop n (said_by_client a.client)) count ∙ said.behind

-- ---- what a session that receives has

module _ (files : List Asked) (c : ℕ) (party : Party) (before : Session) (served : IsServed files c party before)
    (at : Upload) (asked_is : served.attempt.client.asked ≡ work.Upload at) (number offset : ℕ) (parts : List (List ℕ))
    (is : Stage files c party before served at asked_is (receives number offset parts)) where
  pub receiving-state : (rest : List ℕ) × (served.side.connected.state ≡ receiving number rest)
  receiving-state =
      subst (λ stage. IsReceivingState stage served.side.connected.state) is
      ((serves-upload files c party before served at asked_is).state served.none_lost)

  abbrev pub waiting : List ℕ
  waiting = receiving-state.0

  pub received : Receives before.store party served.attempt served.side number waiting
  received =
      newest-side files c party before served (ReceiveFact before.store party) served.facts.sessions.receives number
      waiting served.is_up receiving-state.1

  abbrev pub place_come : ℕ
  place_come = received.offset + octets_come served.side

  pub takes : TakesFile before.store party.client.me served.attempt served.side at.file number place_come waiting
  takes =
      takes-file before.store party served.attempt served.side at.file number waiting received
      (same-upload served.attempt at.task at.known received.task received.known at.file received.file
      (asks-upload files c party before served at asked_is) received.asks)

  pub is-good : IsGoodFile at.file
  is-good =
      good-file files party at.task at.file served.stands.good (file-of-upload files c party before served at asked_is)
