-- The fields of all packets that a job says have their ranges, if its work's have and the notes go with it.
use Rattle.std.proofs.Common.{◌≡◌, ℕ, ◌^◌, ◌<◌, List, [], ◌∷◌, ◌++◌, length, drop, Option, None, Some, Ok, Err, refl}
use Rattle.std.proofs.Common.{sym, ap, ◌∙◌, subst, arith, lit<}
use Rattle.std.specs.Prelude.{◌==◌}
use Rattle.ftl0_client_job.specs.declared.phases.DirectoryPhase.{DirectoryPhase}
use Rattle.ftl0_client_job.specs.declared.phases.DirectoryPhase.TheVariants as directory_phase
use Rattle.ftl0_client_job.specs.declared.phases.UploadPhase.{UploadPhase}
use Rattle.ftl0_client_job.specs.declared.phases.UploadPhase.TheVariants as phase
use Rattle.ftl0_client_job.specs.declared.work.Work.TheVariants as work
use Rattle.ftl0_client_job.specs.Directory as directory
use Rattle.ftl0_client_job.specs.Directory.{Directory, directory_row, is_empty_code, longest_listing}
use Rattle.ftl0_client_job.specs.Download.{Download, download_row}
use Rattle.ftl0_client_job.specs.Row.{Row}
use Rattle.ftl0_client_job.specs.Short.{are_short_headers}
use Rattle.ftl0_client_job.specs.Upload.{Upload, upload_row}
use Rattle.ftl0_client_job.proofs.Offered.{download-rows, job-in, stays-item, upload-rows}
use Rattle.air_world.proofs.attempts.Names.{nat_lt, AllByRecursion, option_map, cond_both, length-take, same_Some, IsOctets, kind_of_item, Fits, Item, PacketValue, data_end, data_part, dir_short_cmd, dl_error_resp, login_resp, select_resp, IsOctets-drop, IsOctets-take, after_all, Lists, got_of, Ending, Work, DuePacket, due_by, due_from, due_in, in_job, in_work, most_data, GoBy, GoWith, HasGot, HasTask, NotesGoWith, number_in, JobState, item_row, job_after, job_row, GoesBy, JobEntry, after_losing, lost, passed, queued, said_in, took, WorkFits, IsJobRow, JobReaches}
use Rattle.air_world.proofs.attempts.ListLemmas.{each-append}

-- the replies of a row fit, if at most this number of octets of a file were got, and its work does
record RowFits {S : Type 0} (made : S → Work) (row : Row S) : Type 0 where
  replies : AllByRecursion Fits row.replies
  work : WorkFits (made row.state)

-- ---- uploads

upload-fits : (at : Upload) (packet : PacketValue) → WorkFits (work.Upload at)
    → RowFits work.Upload (upload_row at packet)
upload-fits at packet fits =
    upload-rows (RowFits work.Upload) at
    (record {
      strange_rows = λ kind. record { replies = tt; work = fits };
      login = λ is. record { replies = ((fits.0, fits.1), tt); work = fits };
      go = λ number offset is may. record { replies = tt; work = fits };
      complete = λ is. record { replies = tt; work = fits };
      refused_rows = λ code. record { replies = tt; work = fits };
      broken_off = λ code. record { replies = (tt, tt); work = fits };
      ack = λ number is. record { replies = tt; work = fits };
    })
    packet

-- ---- lists

module _ (at : Directory) (fits : WorkFits (work.Directory at)) where
  abbrev ListFits : Row Directory → Type 0
  ListFits row = RowFits work.Directory row

  silent : (row : Row Directory) → row.replies ≡ [] → row.state.tokens ≡ at.tokens → ListFits row
  silent row none same =
      record {
        replies = subst (AllByRecursion Fits) (sym none) tt;
        work = subst (λ (tokens : List ℕ). (length tokens < 2048) × IsOctets tokens) (sym same) fits;
      }

  asks : ListFits (record { state = at; commands = []; replies = dir_short_cmd 0 ∷ []; ending = None })
  asks = record { replies = (lit< tt, tt); work = fits }

  listing-fits : (packet : PacketValue) → ListFits (directory.listing_row at packet)
  listing-fits (data_part octets) =
      cond_both (nat_lt longest_listing (length (at.listing ++ octets))) _ _ ListFits (λ b. silent _ refl refl)
      (λ b. silent _ refl refl)
  listing-fits data_end = cond_both (are_short_headers at.listing) _ _ ListFits (λ b. asks) (λ b. silent _ refl refl)
  listing-fits (dl_error_resp code) =
      cond_both (is_empty_code code) _ _ ListFits
      (λ b. cond_both (are_short_headers at.listing) _ _ ListFits (λ c. silent _ refl refl)
      (λ c. silent _ refl refl)) (λ b. silent _ refl refl)
  listing-fits packet = silent _ refl refl

  selecting-fits : (packet : PacketValue) → ListFits (directory.selecting_row at packet)
  selecting-fits (select_resp count) =
      cond_both (count == 0) _ _ ListFits (λ b. silent _ refl refl)
      (λ b. record { replies = (lit< tt, tt); work = fits })
  selecting-fits packet = silent _ refl refl

  login-fits : (packet : PacketValue) → ListFits (directory.login_row at packet)
  login-fits (login_resp moment flags) = record { replies = (fits, tt); work = fits }
  login-fits packet = silent _ refl refl

  list-fits : (packet : PacketValue) → ListFits (directory_row at packet)
  unfolding directory_row
  list-fits packet = by at.phase
    where
      by : (p : DirectoryPhase) → ListFits (directory.row_in p at packet)
      by directory_phase.Login = login-fits packet
      by directory_phase.Selecting = selecting-fits packet
      by directory_phase.Listing = listing-fits packet

-- ---- downloads

download-fits : (held : List ℕ) (at : Download) (packet : PacketValue) → length held < 2 ^ 32
    → WorkFits (work.Download at) → RowFits work.Download (download_row held at packet)
download-fits held at packet few fits =
    download-rows (RowFits work.Download) held at
    (record {
      strange_rows = λ kind. record { replies = tt; work = fits };
      refused_rows = λ code. record { replies = tt; work = fits };
      login = record { replies = ((fits, few, lit< tt), tt); work = fits };
      octets = λ octets is may. record { replies = tt; work = fits };
      whole = λ none. record { replies = (tt, tt); work = fits };
      bad = λ code. record { replies = (tt, tt); work = fits };
      done = λ is. record { replies = tt; work = fits };
    })
    packet

-- ---- jobs

-- the work and the notes are such that what is said next fits
record SaysFit (lists : Lists) (doing : JobState) : Type 0 where
  work : WorkFits doing.work
  go_with : NotesGoWith lists doing

few-got : (lists : Lists) (at : Download) → HasGot lists at → length (got_of lists at.server at.number) < 2 ^ 32
few-got lists at has = let fits = has.fits in omega (arith, fits)

item-fits : (lists : Lists) (doing : Work) (item : Item) → WorkFits doing → GoWith lists doing
    → RowFits (λ (w : Work). w) (item_row lists doing item)
item-fits lists (work.Upload at) (Ok packet) fits goes =
    let row = upload-fits at packet fits in record { replies = row.replies; work = row.work }
item-fits lists (work.Directory at) (Ok packet) fits goes =
    let row = list-fits at fits packet in record { replies = row.replies; work = row.work }
item-fits lists (work.Download at) (Ok packet) fits goes =
    let row = download-fits (got_of lists at.server at.number) at packet (few-got lists at goes) fits in
    record { replies = row.replies; work = row.work }
item-fits lists doing (Err malformed) fits goes = record { replies = tt; work = fits }

row-fits : (lists : Lists) (doing : JobState) (item : Item) (row : Row Work) → doing.ending ≡ None
    → row ≡ job_row lists doing item → SaysFit lists doing
    → AllByRecursion Fits row.replies × SaysFit (after_all lists row.commands) (job_after row)
row-fits lists doing item row none is says =
    let goes : GoWith lists doing.work = subst (λ (o : Option Ending). GoBy o lists doing.work) none says.go_with in
    let fits = item-fits lists doing.work item says.work goes in
    let same : row ≡ item_row lists doing.work item = is ∙ job-in lists doing item none in
    let P : Row Work → Type 0 = λ r. AllByRecursion Fits r.replies × SaysFit (after_all lists r.commands)
    (job_after r) in
    subst P (sym same) (fits.replies, record { work = fits.work; go_with = stays-item lists doing.work item goes })

-- what is due is so
from-fits : (at : Upload) (number place : ℕ) → WorkFits (work.Upload at)
    → Fits (due_from at number place).packet × WorkFits (work.Upload (due_from at number place).state)
from-fits at number place fits =
    cond_both (length (drop place at.file) == 0) _ _
    (λ (d : DuePacket Upload). Fits d.packet × WorkFits (work.Upload d.state)) (λ none. (tt, fits))
    (λ some. (
      (
        omega (arith, length-take most_data (drop place at.file)),
        IsOctets-take most_data (drop place at.file)
            (IsOctets-drop place at.file fits.2),
      ),
      fits,
    ))

due-fits : (o : Option Ending) (doing : Work) (due : DuePacket JobState) → due_by o doing ≡ Some due → WorkFits doing
    → Fits due.packet × WorkFits due.state.work
due-fits (Some ending) doing due is fits = absurd (cc is)
due-fits None (work.Directory at) due is fits = absurd (cc is)
due-fits None (work.Download at) due is fits = absurd (cc is)
due-fits None (work.Upload at) due is fits = by at.phase is
  where
    by : (p : UploadPhase) → option_map in_job (option_map in_work (due_in p at)) ≡ Some due
        → Fits due.packet × WorkFits due.state.work
    by phase.Login is = absurd (cc is)
    by phase.Go is = absurd (cc is)
    by (phase.Sending number place) is =
        subst (λ (d : DuePacket JobState). Fits d.packet × WorkFits d.state.work)
        (same_Some (in_job (in_work (due_from at number place))) due is) (from-fits at number place fits)
    by (phase.Ack number) is = absurd (cc is)

-- the notes go with it still
from-goes : (lists : Lists) (at : Upload) (number place : ℕ) → at.phase ≡ phase.Sending number place → HasTask lists at
    → HasTask lists (due_from at number place).state
from-goes lists at number place is has =
    let same : has.entry.number ≡ number = has.number ∙ ap (λ (p : UploadPhase). number_in p at.known) is in
    cond_both (length (drop place at.file) == 0) _ _ (λ (d : DuePacket Upload). HasTask lists d.state)
    (λ none. record {
      entry = has.entry;
      is_entry = has.is_entry;
      going = has.going;
      number = same;
      file_length = has.file_length;
    })
    (λ some. record {
      entry = has.entry;
      is_entry = has.is_entry;
      going = has.going;
      number = same;
      file_length = has.file_length;
    })

due-goes : (lists : Lists) (o : Option Ending) (doing : Work) (due : DuePacket JobState) → due_by o doing ≡ Some due
    → GoBy o lists doing → NotesGoWith lists due.state
due-goes lists (Some ending) doing due is goes = absurd (cc is)
due-goes lists None (work.Directory at) due is goes = absurd (cc is)
due-goes lists None (work.Download at) due is goes = absurd (cc is)
due-goes lists None (work.Upload at) due is goes = by at.phase refl is
  where
    by : (p : UploadPhase) → at.phase ≡ p → option_map in_job (option_map in_work (due_in p at)) ≡ Some due
        → NotesGoWith lists due.state
    by phase.Login phase_is is = absurd (cc is)
    by phase.Go phase_is is = absurd (cc is)
    by (phase.Sending number place) phase_is is =
        subst (λ (d : DuePacket JobState). NotesGoWith lists d.state)
        (same_Some (in_job (in_work (due_from at number place))) due is)
        (from-goes lists at number place phase_is goes)
    by (phase.Ack number) phase_is is = absurd (cc is)

-- ---- what a job does

-- whatever comes of an event fits
pub entries-fit : (lists last : Lists) (doing now : JobState) (entries : List JobEntry)
    → GoesBy lists doing entries last now → WorkFits doing.work → NotesGoWith lists doing
    → AllByRecursion Fits (said_in entries)
entries-fit lists last doing now entries goes fits notes =
    by lists doing entries goes (record { work = fits; go_with = notes })
  where
    by : (lists : Lists) (doing : JobState) (entries : List JobEntry) → GoesBy lists doing entries last now
        → SaysFit lists doing → AllByRecursion Fits (said_in entries)
    by lists doing [] goes says = tt
    by lists doing (took item row ∷ entries) goes says =
        let one = row-fits lists doing item row goes.0 goes.1 says in
        each-append Fits row.replies (said_in entries) one.0
        (by (after_all lists row.commands) (job_after row) entries goes.2 one.1)
    by lists doing (lost item row ∷ entries) goes says =
        let one = row-fits lists doing item row goes.0 goes.1 says in
        by (after_all lists row.commands) (after_losing (kind_of_item item) row) entries goes.2
        (record { work = one.1.work; go_with = tt })
    by lists doing (passed item ∷ entries) goes says = by lists doing entries goes.1 says
    by lists doing (queued due ∷ entries) goes says =
        let one = due-fits doing.ending doing.work due goes.0 says.work in (
          one.0,
          by lists due.state entries goes.1
              (record { work = one.1; go_with = due-goes lists doing.ending doing.work due goes.0 says.go_with }),
        )

-- the work has its ranges still
same-download : (held : List ℕ) (at : Download) (packet : PacketValue)
    → (download_row held at packet).state.number ≡ at.number
same-download held at packet =
    download-rows (λ row. row.state.number ≡ at.number) held at
    (record {
      strange_rows = λ kind. refl;
      refused_rows = λ code. refl;
      login = refl;
      octets = λ octets is may. refl;
      whole = λ none. refl;
      bad = λ code. refl;
      done = λ is. refl;
    })
    packet

item-work : (lists : Lists) (doing : Work) (item : Item) → WorkFits doing → WorkFits (item_row lists doing item).state
item-work lists (work.Upload at) (Ok packet) fits = (upload-fits at packet fits).work
item-work lists (work.Directory at) (Ok packet) fits = (list-fits at fits packet).work
item-work lists (work.Download at) (Ok packet) fits =
    subst (λ (n : ℕ). n < 2 ^ 32) (sym (same-download (got_of lists at.server at.number) at packet)) fits
item-work lists doing (Err malformed) fits = fits

row-work : (doing : JobState) (item : Item) (row : Row Work) → IsJobRow doing item row → WorkFits doing.work
    → WorkFits row.state
row-work doing item row is fits =
    subst (λ (r : Row Work). WorkFits r.state) (sym (is.1.1 ∙ job-in is.1.0 doing item is.0))
    (item-work is.1.0 doing.work item fits)

pub reached-fits : (doing now : JobState) (entries : List JobEntry) → JobReaches doing entries now → WorkFits doing.work
    → WorkFits now.work
reached-fits doing now [] reached fits = subst (λ (j : JobState). WorkFits j.work) (sym reached) fits
reached-fits doing now (took item row ∷ entries) reached fits =
    reached-fits (job_after row) now entries reached.1 (row-work doing item row reached.0 fits)
reached-fits doing now (lost item row ∷ entries) reached fits =
    reached-fits (after_losing (kind_of_item item) row) now entries reached.1 (row-work doing item row reached.0 fits)
reached-fits doing now (passed item ∷ entries) reached fits = reached-fits doing now entries reached.1 fits
reached-fits doing now (queued due ∷ entries) reached fits =
    reached-fits due.state now entries reached.1 (due-fits doing.ending doing.work due reached.0 fits).1
