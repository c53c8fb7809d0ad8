-- The notes go with a job after each row.
use Rattle.std.proofs.Common.{◌≡◌, ℕ, ◌+◌, ◌-◌, ◌*◌, ◌/◌, ◌≤◌, List, [], ◌∷◌, ◌++◌, Bool, true, false, length, take, refl, sym, ◌∙◌, ap, subst, arith, length-append, length-drop}
use Rattle.std.specs.Prelude.{◌&&◌, ◌==◌, if◌then◌else◌}
use Rattle.ftl0_client_job.specs.declared.phases.DownloadPhase.TheVariants as download_phase
use Rattle.ftl0_client_job.specs.declared.phases.UploadPhase.TheVariants as upload_phase
use Rattle.ftl0_client_job.specs.declared.work.Work.TheVariants as work
use Rattle.ftl0_client_job.specs.Upload as upload
use Rattle.ftl0_client_job.proofs.Names.{IsTrue, nat_le, nat_lt, Option, None, Some, Ok, Err, nat_tests, length-take-le, Item, PacketValue, fault_code, longest_file, numbered, after_all, Lists, got_of, both-left, task-after, Ending, DownloadPhase, UploadPhase, Work, Directory, directory_row, Download, download_row, last_got, unnoted, whole_gots, whole_row, with_rest, GoBy, GoWith, HasGot, HasTask, IsCheckedIn, number_in, Row, item_row, packet_row, Upload, is_new, may_go, number_commands, upload_row}
use Rattle.ftl0_client_job.proofs.BlockLemmas.{gots-after}
use Rattle.ftl0_client_job.proofs.CaseLemmas.{DownloadRows, UploadRows, download-rows, upload-rows}
use Rattle.ftl0_client_job.proofs.EndLemmas.{last-after}

-- ---- uploads

abbrev StaysUpload : Lists → Row Upload → Type 0
StaysUpload lists row = GoBy row.ending (after_all lists row.commands) (work.Upload row.state)

pub both-right : (a b : Bool) → IsTrue (a && b) → IsTrue b
both-right true b ok = ok
both-right false b ok = absurd (cc ok)

-- its file may be sent, and its number is noted if it is new
go-noted : (lists : Lists) (at : Upload) (number offset : ℕ) → at.phase ≡ upload_phase.Go → HasTask lists at → IsTrue (may_go at number offset)
    → HasTask (after_all lists (number_commands at number)) (upload.in_phase at (upload_phase.Sending number offset))
go-noted lists at number offset is has may = by (is_new at) refl may
  where
    known : has.entry.number ≡ at.known
    known = has.number ∙ ap (λ (p : UploadPhase). number_in p at.known) is

    by : (b : Bool) → is_new at ≡ b → IsTrue (if b then nat_lt 0 number && (offset == 0) else (number == at.known) && nat_le offset (length at.file))
        → HasTask (after_all lists (if b then numbered at.task number ∷ [] else [])) (upload.in_phase at (upload_phase.Sending number offset))
    by true new goes = record {
      entry = record has.entry { number = number };
      is_entry = task-after lists at.task (λ t. record t { number = number }) has.entry has.is_entry;
      going = has.going;
      number = refl;
      file_length = has.file_length;
    }
    by false old goes =
        let test : (number == at.known) ≡ true = both-left (number == at.known) (nat_le offset (length at.file)) goes in
        let same : number ≡ at.known = grind (arith, nat_tests) in
        record { entry = has.entry; is_entry = has.is_entry; going = has.going; number = known ∙ sym same; file_length = has.file_length }

stays-upload : (lists : Lists) (at : Upload) (packet : PacketValue) → HasTask lists at → StaysUpload lists (upload_row at packet)
stays-upload lists at packet has = upload-rows (StaysUpload lists) at rows packet
  where
    rows : UploadRows (StaysUpload lists) at
    rows = record {
      strange_rows = λ kind. tt;
      login = λ is. record {
        entry = has.entry;
        is_entry = has.is_entry;
        going = has.going;
        number = has.number ∙ ap (λ (p : UploadPhase). number_in p at.known) is;
        file_length = has.file_length;
      };
      go = λ number offset is may. go-noted lists at number offset is has may;
      complete = λ is. tt;
      refused_rows = λ code. tt;
      broken_off = λ code. tt;
      ack = λ number is. tt;
    }

-- ---- lists

stays-directory : (ending : Option Ending) (lists : Lists) (at : Directory) → GoBy ending lists (work.Directory at)
stays-directory None lists at = tt
stays-directory (Some ending) lists at = tt

-- ---- downloads

abbrev StaysDownload : Lists → Row Download → Type 0
StaysDownload lists row = GoBy row.ending (after_all lists row.commands) (work.Download row.state)

module _ (lists : Lists) (at : Download) (has : HasGot lists at) where
  -- octets that come fit, and are noted by whole blocks
  fetch-fits : (octets : List ℕ) → nat_lt longest_file (length (got_of lists at.server at.number) + length (at.rest ++ octets)) ≡ false → at.phase ≡ download_phase.Fetching
      → HasGot (after_all lists (whole_gots at.server at.number (at.rest ++ octets))) (with_rest at (unnoted (at.rest ++ octets)))
  fetch-fits octets few is =
      let all : List ℕ = at.rest ++ octets in
      let n = length all / 512 in
      let most : length (got_of lists at.server at.number) + length all ≤ longest_file = grind (arith, nat_tests) in
      let after = gots-after at.server at.number n all lists in
      let front : length (take (512 * n) all) ≡ 512 * n = length-take-le (512 * n) all (omega arith) in
      let sum : length (got_of (after_all lists (whole_gots at.server at.number all)) at.server at.number) ≡ length (got_of lists at.server at.number) + 512 * n =
      ap length after ∙ length-append (got_of lists at.server at.number) (take (512 * n) all) ∙ ap (λ (k : ℕ). length (got_of lists at.server at.number) + k) front in
      let rest : length (unnoted all) ≡ length all - 512 * n = length-drop (512 * n) all in
      record {
        fits = omega (arith, sum, rest, most);
        checked = subst (λ (p : DownloadPhase). IsCheckedIn p (got_of (after_all lists (whole_gots at.server at.number all)) at.server at.number)) (sym is) tt;
      }

  -- all came, and there is no fault
  fetch-whole : fault_code (got_of lists at.server at.number ++ at.rest) ≡ None → StaysDownload lists (whole_row at None)
  fetch-whole is =
      let after = last-after at.server at.number at.rest lists in
      let sum : length (got_of (after_all lists (last_got at.server at.number at.rest)) at.server at.number) ≡ length (got_of lists at.server at.number) + length at.rest =
      ap length after ∙ length-append (got_of lists at.server at.number) at.rest in
      let fits = has.fits in
      record { fits = omega (arith, sum, fits); checked = ap fault_code after ∙ is }

  stays-download : (packet : PacketValue) → StaysDownload lists (download_row (got_of lists at.server at.number) at packet)
  stays-download packet = download-rows (StaysDownload lists) (got_of lists at.server at.number) at rows packet
    where
      rows : DownloadRows (StaysDownload lists) (got_of lists at.server at.number) at
      rows = record {
        strange_rows = λ kind. tt;
        refused_rows = λ code. tt;
        login = let fits = has.fits in record { fits = omega (arith, fits); checked = tt };
        octets = λ octets is few. fetch-fits octets few is;
        whole = fetch-whole;
        bad = λ code. tt;
        done = λ is. tt;
      }

-- ---- a job

abbrev pub Stays : Lists → Row Work → Type 0
Stays lists row = GoBy row.ending (after_all lists row.commands) row.state

pub stays-work : (lists : Lists) (doing : Work) (packet : PacketValue) → GoWith lists doing → Stays lists (packet_row lists doing packet)
stays-work lists (work.Upload at) packet goes = stays-upload lists at packet goes
stays-work lists (work.Directory at) packet goes =
    stays-directory (directory_row at packet).ending (after_all lists (directory_row at packet).commands) (directory_row at packet).state
stays-work lists (work.Download at) packet goes = stays-download lists at goes packet

pub stays-item : (lists : Lists) (doing : Work) (item : Item) → GoWith lists doing → Stays lists (item_row lists doing item)
stays-item lists doing (Ok packet) goes = stays-work lists doing packet goes
stays-item lists doing (Err malformed) goes = tt
