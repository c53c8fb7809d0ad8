-- What a packet that a job takes of a download keeps of its client's notes, and of what it fetches.
use Rattle.std.proofs.Common.{◌≡◌, ◌≢◌, inl, inr, ℕ, ◌+◌, ◌-◌, ◌≤◌, ◌==◌, List, [], ◌∷◌, ◌++◌, length, map, drop, refl}
use Rattle.std.proofs.Common.{ap, sym, ◌∙◌, subst, Bool, true, false, None, Some, Ok, arith, append_assoc, append-nil}
use Rattle.std.proofs.Common.{length-append, length-drop}
use Rattle.std.specs.Prelude.{if◌then◌else◌}
use Rattle.ftl0_server.specs.Entries as session
use Rattle.client_notes.specs.Several as notes
use Rattle.ftl0_client_job.specs.declared.ending.Outcome.TheVariants as outcome
use Rattle.ftl0_client_job.specs.declared.phases.DownloadPhase.TheVariants as phase
use Rattle.ftl0_client_job.specs.declared.work.Work.TheVariants as work
use Rattle.ftl0_client.specs.Entries as job
use Rattle.air_world.proofs.files.Names.{concat, nat_tests, nil_from_length, CallSign, IsFront, Item, PacketValue, data_end, data_part, dl_ack_cmd, dl_completed_resp, dl_error_resp, download_cmd, login_resp, fault_code, Store, file-complete, NotesCommand, forgot, after_all, Lists, got_of, Ending, DownloadPhase, Download, download_row, error_row, last_got, unnoted, whole_gots, whole_row, IsCheckedIn, Row, ends, goes_on, strange, row_of, Attempted, JobEntry, Attempt, ServerTookFront, Has, Asked, Party, octets_of_data, octets_of_item, octets_said, octets_taken, IsGreeting, ServerSide, said_by_client, said_by_server, flat_map-one, one-left, one-right, SaysDownload, ServesDownload, AreFirstIfAny, Fetches, FetchesIn, HasFacts, coming_by, job_gone, with_job, IsSoundStore}
use Rattle.air_world.proofs.files.DownloadComing.{front-if-any}
use Rattle.air_world.proofs.files.DownloadJobHeard.{IsNext, asks-once, coming-octets, end-sent, error-other, left-octets}
use Rattle.air_world.proofs.files.DownloadJobHeard.{unasked-silent}
use Rattle.air_world.proofs.files.DownloadJobRows.{DownloadCases, download-cases, download_at}
use Rattle.air_world.proofs.files.DownloadJobSaid.{CameTo}
use Rattle.air_world.proofs.files.GotKept.{first-before, last-pieces, noted-after, pieces-fronts, whole-pieces}
use Rattle.air_world.proofs.files.JobNotes.{NotesKept}
use Rattle.air_world.proofs.files.JobStep.{of_attempts}
use Rattle.air_world.proofs.files.JobTook.{answered-item, front-has, has-ok}
use Rattle.air_world.proofs.files.JobUploadNotes.{fronts-none}
use Rattle.air_world.proofs.files.JobUploadCame.{said-one}
use Rattle.air_world.proofs.files.ShortOctets.{whole-fault}

-- What is known of a client whose job is a download, and of its session.
pub record Downloading (store : Store) (files : List Asked) (base : Party) (a : Attempt) (older : List Attempt) (number : ℕ) (side : ServerSide) : Type 0 where
  pub facts : HasFacts store files (of_attempts base a older)
  pub sound : IsSoundStore store
  pub is_side : a.server ≡ Some side
  pub greets : IsGreeting side.greeting
  pub serves : ServesDownload store number side
  pub says : SaysDownload number a.client
  pub told : ServerTookFront a side

module _ (store : Store) (files : List Asked) (base : Party) (a : Attempt) (older : List Attempt) (number : ℕ) (side : ServerSide)
    (it : Downloading store files base a older number side) (rest : List ℕ) where
  abbrev party : Party
  party = of_attempts base a older

  abbrev lists : Lists
  lists = base.client.lists

  abbrev server : CallSign
  server = base.client.server

  abbrev held : List ℕ
  held = got_of lists server number

  abbrev items : List Item
  items = job.items_in a.client.entries

  -- the entry of a packet with this row, the attempt and the client after it
  abbrev entry_of_row : PacketValue → Row Download → JobEntry
  entry_of_row packet row = job.took (Ok packet) (row_of work.Download row)

  abbrev attempt_then : PacketValue → Row Download → Attempted → Attempt
  attempt_then packet row now = job_gone (entry_of_row packet row ∷ []) now a

  abbrev party_then : PacketValue → Row Download → Attempted → Party
  party_then packet row now = with_job party (after_all lists row.commands) now (attempt_then packet row now) older

  -- What a row keeps.
  pub record RowKept (packet : PacketValue) (row : Row Download) : Type 0 where
    pub fronts : (count : ℕ) → NotesKept store files party (notes.after_first count lists row.commands)
    pub checked : IsCheckedIn row.state.phase (got_of (after_all lists row.commands) server row.state.number)
    pub fetched : (ending : Ending) (n : ℕ) → row.ending ≡ Some ending → ending.outcome ≡ outcome.Fetched n
        → fault_code (got_of (after_all lists row.commands) server n) ≡ None
    pub fetches : (now : Attempted) → row.ending ≡ None → FetchesIn row.state.phase store (party_then packet row now) (attempt_then packet row now) row.state
    pub asks : (n offset : ℕ) → Has row.replies (download_cmd n offset 0) → offset ≤ length (got_of (after_all lists row.commands) server n)

  abbrev Keeps : DownloadPhase → PacketValue → Row Download → Type 0
  Keeps p packet row =
      CameTo p number a.client.entries → FetchesIn p store party a (download_at server number rest p) → IsNext items packet (said_by_server side) → RowKept packet row

  -- ---- what came and comes

  checked-in : (p : DownloadPhase) → FetchesIn p store party a (download_at server number rest p) → IsCheckedIn p held
  checked-in phase.Login fetches = tt
  checked-in phase.Fetching fetches = tt
  checked-in phase.Done fetches = fetches.1

  -- a row that ends the job, without a command and a reply
  ends-kept : (p : DownloadPhase) (packet : PacketValue) (row : Row Download)
      → row.state ≡ download_at server number rest p → row.commands ≡ [] → row.replies ≡ [] → row.ending ≢ None
      → ((ending : Ending) (n : ℕ) → row.ending ≡ Some ending → ending.outcome ≡ outcome.Fetched n → fault_code (got_of lists server n) ≡ None)
      → FetchesIn p store party a (download_at server number rest p) → RowKept packet row
  ends-kept p packet row state commands replies over fetched fetches = record {
    fronts = λ count.
        subst (λ (cs : List NotesCommand). NotesKept store files party (notes.after_first count lists cs)) (sym commands) (fronts-none store files party it.facts count);
    checked =
        subst (λ (d : Download). IsCheckedIn d.phase (got_of (after_all lists row.commands) server d.number)) (sym state)
        (subst (λ (cs : List NotesCommand). IsCheckedIn p (got_of (after_all lists cs) server number)) (sym commands) (checked-in p fetches));
    fetched = λ ending n is reached. ap (λ (cs : List NotesCommand). fault_code (got_of (after_all lists cs) server n)) commands ∙ fetched ending n is reached;
    fetches = λ now none. absurd (over none);
    asks = λ n offset has. absurd (subst (λ (l : List PacketValue). Has l (download_cmd n offset 0)) replies has);
  }

  -- the items then
  items-then : (packet : PacketValue) (row : Row Download) → job.items_in (a.client.entries ++ entry_of_row packet row ∷ []) ≡ items ++ Ok packet ∷ []
  items-then packet row = flat_map-one job.items_of a.client.entries (entry_of_row packet row)

  -- what comes then
  coming-then : (packet : PacketValue) (row : Row Download) (now : Attempted) (next : IsNext items packet (said_by_server side))
      → coming_by (attempt_then packet row now) a.server ≡ octets_said next.after
  coming-then packet row now next =
      ap (coming_by (attempt_then packet row now)) it.is_side
      ∙ ap (λ (l : List Item). octets_said (drop (length l) (said_by_server side))) (items-then packet row) ∙ left-octets items packet (said_by_server side) next

  -- and what came before with what comes
  coming-was : (packet : PacketValue) (next : IsNext items packet (said_by_server side)) → coming_by a a.server ≡ octets_of_data packet ++ octets_said next.after
  coming-was packet next = ap (coming_by a) it.is_side ∙ coming-octets items packet (said_by_server side) next

  taken-then : (packet : PacketValue) (row : Row Download)
      → octets_taken (job.items_in (a.client.entries ++ entry_of_row packet row ∷ [])) ≡ octets_taken
      items ++ octets_of_data packet
  taken-then packet row = ap octets_taken (items-then packet row) ∙ flat_map-one octets_of_item items (Ok packet)

  said-then : (packet : PacketValue) (row : Row Download) (now : Attempted) → said_by_client (attempt_then packet row now).client ≡ said_by_client a.client ++ row.replies
  said-then packet row now = said-one a.client.entries (entry_of_row packet row)

  -- ---- LOGIN_RESP

  abbrev login_here : Row Download
  login_here = goes_on (download_at server number [] phase.Fetching) [] (download_cmd number (length held) 0 ∷ [])

  -- nothing was said before, so its session has said LOGIN_RESP alone
  nothing-comes : (packet : PacketValue) → a.client.entries ≡ [] → (next : IsNext items packet (said_by_server side)) → octets_said next.after ≡ []
  nothing-comes packet none next =
      let before : map {B = Item} Ok next.before ≡ [] = sym next.items_are ∙ ap job.items_in none in
      let said_none : said_by_client a.client ≡ [] = ap job.said_in none in
      let told : session.items_in side.entries ≡ [] =
      none-behind-items (session.items_in side.entries) it.told.0
      (sym it.told.1 ∙ ap (λ (l : List PacketValue). map {B = Item} Ok l) said_none) in
      let silent = unasked-silent store number side it.serves told in
      let all : said_by_server side ≡ packet ∷ next.after = next.said_is ∙ ap (λ (l : List PacketValue). l ++ packet ∷ next.after) (none-mapped next.before before) in
      let rest : session.said_in side.entries ≡ next.after = cc in
      ap octets_said (sym rest ∙ silent)
    where
      none-mapped : (packets : List PacketValue) → map {B = Item} Ok packets ≡ [] → packets ≡ []
      none-mapped [] is = refl
      none-mapped (p ∷ packets) is = absurd (cc)

      none-behind-items : (xs ys : List Item) → xs ++ ys ≡ [] → xs ≡ []
      none-behind-items [] ys is = refl
      none-behind-items (x ∷ xs) ys is = absurd (cc)

  login-kept : (moment flags : ℕ) → Keeps phase.Login (login_resp moment flags) login_here
  login-kept moment flags none fetches next =
      let packet : PacketValue = login_resp moment flags in
      record {
        fronts = fronts-none store files party it.facts;
        checked = tt;
        fetched = λ ending n is reached. absurd (cc);
        fetches = λ now goes.
            record {
              first =
                  subst (AreFirstIfAny store number)
                  (sym (ap (λ (l : List ℕ). held ++ l) (coming-then packet login_here now next ∙ nothing-comes packet none next) ∙ append-nil held))
                  (it.facts.files_got.got_front number);
              offset = length held;
              asked =
                  subst (λ (l : List PacketValue). Has l (download_cmd number (length held) 0)) (sym (said-then packet login_here now))
                  (one-right (λ p. p ≡ download_cmd number (length held) 0) (said_by_client a.client) (download_cmd number (length held) 0 ∷ []) (inl refl));
              counted =
                  let taken : octets_taken (job.items_in (a.client.entries ++ entry_of_row packet login_here ∷ [])) ≡ [] =
                  taken-then packet login_here ∙ append-nil (octets_taken items) ∙ ap (λ (es : List JobEntry). octets_taken (job.items_in es)) none in
                  omega (arith, ap length taken, ap length (append-nil held));
            };
        asks = λ n offset has. asked-here n offset has;
      }
    where
      asked-here : (n offset : ℕ) → Has (download_cmd number (length held) 0 ∷ []) (download_cmd n offset 0) → offset ≤ length (got_of lists server n)
      asked-here n offset (inl same) =
          let of : number ≡ n = cc in
          let from : length held ≡ offset = cc in
          omega (arith, from, ap (λ (m : ℕ). length (got_of lists server m)) of)
      asked-here n offset (inr there) = absurd there

  -- ---- octets

  abbrev octets_here : List ℕ → Row Download
  octets_here octets = goes_on (download_at server number (unnoted (rest ++ octets)) phase.Fetching) (whole_gots server number (rest ++ octets)) []

  octets-kept : (octets : List ℕ) → Keeps phase.Fetching (data_part octets) (octets_here octets)
  octets-kept octets came fetches next =
      let packet : PacketValue = data_part octets in
      let row = octets_here octets in
      let pieces = whole-pieces server number (rest ++ octets) in
      let left = octets_said next.after in
      -- what comes, in order
      let all : held ++ (rest ++ coming_by a a.server) ≡ (held ++ concat pieces.0) ++ (unnoted (rest ++ octets) ++ left) =
      ap (λ (l : List ℕ). held ++ (rest ++ l)) (coming-was packet next) ∙ ap (λ (l : List ℕ). held ++ l) (sym (append_assoc rest octets left))
      ∙ ap (λ (l : List ℕ). held ++ (l ++ left)) (sym pieces.2) ∙ ap (λ (l : List ℕ). held ++ l) (append_assoc (concat pieces.0) (unnoted (rest ++ octets)) left)
      ∙ sym (append_assoc held (concat pieces.0) (unnoted (rest ++ octets) ++ left)) in
      let first : AreFirstIfAny store number ((held ++ concat pieces.0) ++ (unnoted (rest ++ octets) ++ left)) = subst (AreFirstIfAny store number) all fetches.first in
      let got_then : got_of (after_all lists row.commands) server number ≡ held ++ concat pieces.0 =
      ap (λ (cs : List NotesCommand). got_of (after_all lists cs) server number) pieces.1 ∙ noted-after server number pieces.0 lists in
      record {
        fronts = λ count.
            subst (λ (cs : List NotesCommand). NotesKept store files party (notes.after_first count lists cs)) (sym pieces.1)
            (pieces-fronts store files party it.facts it.sound number pieces.0
            (first-before store number (held ++ concat pieces.0)
            ((held ++ concat pieces.0) ++ (unnoted (rest ++ octets) ++ left))
            (unnoted (rest ++ octets) ++ left, refl) first) count);
        checked = tt;
        fetched = λ ending n is reached. absurd (cc);
        fetches = λ now goes.
            record {
              first =
                  subst (AreFirstIfAny store number)
                  (sym (ap (λ (l : List ℕ). l ++ (unnoted (rest ++ octets) ++ coming_by (attempt_then packet row now) a.server)) got_then
                  ∙ ap (λ (l : List ℕ). (held ++ concat pieces.0) ++ (unnoted (rest ++ octets) ++ l)) (coming-then packet row now next)))
                  first;
              offset = fetches.offset;
              asked =
                  subst (λ (l : List PacketValue). Has l (download_cmd number fetches.offset 0)) (sym (said-then packet row now))
                  (one-left (λ p. p ≡ download_cmd number fetches.offset 0) (said_by_client a.client) [] fetches.asked);
              counted =
                  let lengths : length (got_of (after_all lists row.commands) server number ++ unnoted (rest ++ octets)) ≡ length (held ++ rest) + length octets =
                  ap (λ (l : List ℕ). length (l ++ unnoted (rest ++ octets))) got_then ∙ ap length (append_assoc held (concat pieces.0) (unnoted (rest ++ octets)))
                  ∙ ap (λ (l : List ℕ). length (held ++ l)) pieces.2 ∙ ap length (sym (append_assoc held rest octets)) ∙ length-append (held ++ rest) octets in
                  let taken : length (octets_taken (job.items_in (a.client.entries ++ entry_of_row packet row ∷ []))) ≡ length (octets_taken items) + length octets =
                  ap length (taken-then packet row) ∙ length-append (octets_taken items) octets in
                  omega (arith, lengths, taken, fetches.counted);
            };
        asks = λ n offset has. absurd has;
      }

  -- ---- DATA_END

  -- with the rest all octets of the file came
  end-whole : (packet : PacketValue) → packet ≡ data_end
      → Fetches store party a (download_at server number rest phase.Fetching)
      → IsNext items data_end (said_by_server side) → fault_code (held ++ rest) ≡ None
  end-whole packet is fetches next =
      let sent = end-sent store number side it.serves it.greets items next in
      let command : Has (said_by_client a.client) (download_cmd number sent.offset 0) =
      has-ok (said_by_client a.client) (download_cmd number sent.offset 0)
      (front-has (session.items_in side.entries) (map Ok (said_by_client a.client)) (Ok (download_cmd number sent.offset 0)) it.told
      (answered-item side.entries (Ok (download_cmd number sent.offset 0)) sent.answered)) in
      let same = asks-once number a.client it.says number number fetches.offset sent.offset fetches.asked command in
      let all : length (octets_taken items) ≡ length sent.file - sent.offset = ap length (sent.octets_are ∙ sent.all.1) ∙ length-drop sent.offset sent.file in
      let first : AreFirstIfAny store number (held ++ rest) =
      first-before store number (held ++ rest) (held ++ (rest ++ coming_by a a.server))
      (coming_by a a.server, sym (append_assoc held rest (coming_by a a.server))) fetches.first in
      let front : IsFront (held ++ rest) sent.file = front-if-any store number sent.file (held ++ rest) sent.all.0.is_file first in
      let long : length (held ++ rest) ≡ length sent.file = omega (arith, fetches.counted, same.1, all, sent.all.0.within) in
      let whole : held ++ rest ≡ sent.file = front-all (held ++ rest) sent.file front long in
      let complete = file-complete store number sent.file sent.all.0.is_file in
      ap fault_code (whole ∙ sym complete.1) ∙ whole-fault store number it.sound complete.0
    where
      front-all : (some all : List ℕ) → IsFront some all → length some ≡ length all → some ≡ all
      front-all some all front long =
          let none : front.0 ≡ [] = nil_from_length front.0 (omega (arith, long, ap length front.1, length-append some front.0)) in
          sym (front.1 ∙ ap (λ (l : List ℕ). some ++ l) none ∙ append-nil some)

  whole-kept : fault_code (held ++ rest) ≡ None → Keeps phase.Fetching data_end (whole_row (download_at server number rest phase.Fetching) None)
  whole-kept good came fetches next =
      let row = whole_row (download_at server number rest phase.Fetching) None in
      let pieces = last-pieces server number rest in
      let first : AreFirstIfAny store number (held ++ concat pieces.0) =
      subst (λ (l : List ℕ). AreFirstIfAny store number (held ++ l)) (sym pieces.2)
      (first-before store number (held ++ rest) (held ++ (rest ++ coming_by a a.server))
      (coming_by a a.server, sym (append_assoc held rest (coming_by a a.server))) fetches.first) in
      let got_then : got_of (after_all lists row.commands) server number ≡ held ++ rest =
      ap (λ (cs : List NotesCommand). got_of (after_all lists cs) server number) pieces.1
      ∙ noted-after server number pieces.0 lists ∙ ap (λ (l : List ℕ). held ++ l) pieces.2 in
      record {
        fronts = λ count.
            subst (λ (cs : List NotesCommand). NotesKept store files party (notes.after_first count lists cs)) (sym pieces.1)
            (pieces-fronts store files party it.facts it.sound number pieces.0 first count);
        checked = ap fault_code got_then ∙ good;
        fetched = λ ending n is reached. absurd (cc);
        fetches = λ now goes. (refl, ap fault_code got_then ∙ good);
        asks = λ n offset has. asked-none n offset has;
      }
    where
      asked-none : (n offset : ℕ) → Has (dl_ack_cmd ∷ []) (download_cmd n offset 0) → offset ≤ length (got_of (after_all lists (last_got server number rest)) server n)
      asked-none n offset (inl same) = absurd (cc)
      asked-none n offset (inr there) = absurd there

  bad-kept : (code : ℕ) → fault_code (held ++ rest) ≡ Some code → Keeps phase.Fetching data_end (whole_row (download_at server number rest phase.Fetching) (Some code))
  bad-kept code fault came fetches next = absurd (let none = end-whole data_end refl fetches next in let no : None ≡ Some code = sym none ∙ fault in cc)

  -- ---- all rows

  refused-kept : (code : ℕ) → Keeps phase.Fetching (dl_error_resp code) (error_row (download_at server number rest phase.Fetching) code)
  refused-kept code came fetches next =
      let row = error_row (download_at server number rest phase.Fetching) code in
      let said : Has (said_by_server side) (dl_error_resp code) =
      subst (λ (l : List PacketValue). Has l (dl_error_resp code)) (sym next.said_is)
      (one-right (λ p. p ≡ dl_error_resp code) next.before (dl_error_resp code ∷ next.after) (inl refl)) in
      let other = error-other store number side code it.greets it.serves said in
      ends-kept phase.Fetching (dl_error_resp code) row refl (by other (code == 2) refl) refl (λ none. absurd (cc)) (λ ending n is reached. absurd (cc)) fetches
    where
      by : code ≢ 2 → (b : Bool) → (code == 2) ≡ b → (if b then forgot server number ∷ [] else []) ≡ []
      by other true is = absurd (other (grind (arith, nat_tests, is)))
      by other false is = refl

  kept-cases : DownloadCases server number held rest Keeps
  kept-cases = record {
    strange_rows =
        λ p packet kind came fetches next. ends-kept p packet
        (strange (download_at server number rest p) kind) refl refl refl (λ none. absurd (cc))
        (λ ending n is reached. absurd (cc)) fetches;
    login = login-kept;
    octets = octets-kept;
    whole = whole-kept;
    bad = bad-kept;
    refused = refused-kept;
    done = λ came fetches next.
        ends-kept phase.Done dl_completed_resp (ends (download_at server number rest phase.Done) [] (outcome.Fetched number)) refl refl refl (λ none. absurd (cc))
        (λ ending n is reached. let of : number ≡ n = cc in ap (λ (m : ℕ). fault_code (got_of lists server m)) (sym of) ∙ fetches.1) fetches;
  }

  -- what a packet keeps
  pub packet-kept : (p : DownloadPhase) (packet : PacketValue) → Keeps p packet (download_row held (download_at server number rest p) packet)
  packet-kept p packet = download-cases server number held rest Keeps kept-cases p packet
