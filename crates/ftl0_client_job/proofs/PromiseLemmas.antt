-- What is true of a job of which some work was asked, after each packet.
use Rattle.std.proofs.Common.{◌≡◌, ℕ, List, [], ◌∷◌, ◌++◌, Bool, true, false, length, take, drop, refl, sym, ◌∙◌, ap, subst}
use Rattle.std.specs.Prelude.{◌==◌, if◌then◌else◌}
use Rattle.ftl0_client_job.specs.declared.ending.Outcome.{Outcome}
use Rattle.ftl0_client_job.specs.declared.ending.Outcome.TheVariants as outcome
use Rattle.ftl0_client_job.specs.declared.phases.DirectoryPhase.TheVariants as phase
use Rattle.ftl0_client_job.specs.declared.phases.UploadPhase.TheVariants as upload_phase
use Rattle.ftl0_client_job.specs.declared.work.Work.TheVariants as work
use Rattle.ftl0_client_job.specs.Promises.{DownloadPromises, EndPromises, IsEmptyBefore, IsFilled, IsOfSame, ListPromises, UploadPromises, WorkPromises}
use Rattle.ftl0_client_job.proofs.Names.{Option, None, Some, Ok, Err, same_Some, option_map, CallSign, Item, PacketValue, data_end, data_part, packet_text, forgot, after_all, Lists, got_of, no_notes, after_all-append, forgot-none, Ending, DirectoryPhase, DownloadPhase, UploadPhase, Work, Directory, directory_row, Download, download_row, last_got, GoBy, GoWith, HasGot, HasTask, IsCheckedIn, IsNotBegun, number_in, DuePacket, PutsDue, due_by, due_from, due_in, in_job, in_work, most_data, next_due, place_after, BegunLaw, DueLaw, ListedLaw, PromisesLaw, Row, are_headers, are_short_headers, JobState, item_row, job_row, listing_of, packet_row, row_by, Upload, in_phase, upload_row}
use Rattle.ftl0_client_job.proofs.CaseLemmas.{DirectoryRows, DownloadRows, UploadRows, directory-rows, download-rows, upload-rows}
use Rattle.ftl0_client_job.proofs.LawLemmas.{acked-now, due-goes, stays}

-- ---- uploads

-- a row is of the same task and file, and keeps what its outcome promises
abbrev UploadKept : Lists → Upload → Row Upload → Type 0
UploadKept lists at row =
    (row.state.task ≡ at.task) × (row.state.file ≡ at.file) × EndPromises (after_all lists row.commands) (work.Upload at) [] row.ending

upload-kept : (lists : Lists) (at : Upload) (packet : PacketValue) → HasTask lists at → UploadKept lists at (upload_row at packet)
upload-kept lists at packet has = upload-rows (UploadKept lists at) at rows packet
  where
    rows : UploadRows (UploadKept lists at) at
    rows = record {
      strange_rows = λ kind. (refl, refl, tt);
      login = λ is. (refl, refl, tt);
      go = λ number offset is may. (refl, refl, tt);
      complete = λ is. (refl, refl, acked-now lists at at.known has (ap (λ (p : UploadPhase). number_in p at.known) is));
      refused_rows = λ code. (refl, refl, tt);
      broken_off = λ code. (refl, refl, tt);
      ack = λ number is. (refl, refl, acked-now lists at number has (ap (λ (p : UploadPhase). number_in p at.known) is));
    }

-- ---- lists

-- no octets are no short headers
none-short : are_short_headers [] ≡ true
unfolding are_headers
none-short = refl

-- a row is of the same tokens, has no octets before headers come, and keeps what its outcome promises
abbrev DirectoryKept : Lists → Directory → Row Directory → Type 0
DirectoryKept lists at row =
    (row.state.tokens ≡ at.tokens) × IsEmptyBefore row.state.phase row.state.listing × EndPromises (after_all lists row.commands) (work.Directory at) row.state.listing row.ending

directory-kept : (lists : Lists) (at : Directory) (packet : PacketValue) → IsEmptyBefore at.phase at.listing → DirectoryKept lists at (directory_row at packet)
directory-kept lists at packet empty = directory-rows (DirectoryKept lists at) at rows packet
  where
    emptied : (phase : DirectoryPhase) → at.phase ≡ phase → IsEmptyBefore phase at.listing
    emptied phase is = subst (λ (p : DirectoryPhase). IsEmptyBefore p at.listing) is empty

    rows : DirectoryRows (DirectoryKept lists at) at
    rows = record {
      strange_rows = λ kind. (refl, empty, tt);
      refused_rows = λ code. (refl, empty, tt);
      login = λ is. (refl, emptied phase.Login is, tt);
      nothing = λ is. (refl, empty, ap are_short_headers (emptied phase.Selecting is) ∙ none-short);
      selected = (refl, tt, tt);
      octets = λ octets is. (refl, subst (λ (p : DirectoryPhase). IsEmptyBefore p (at.listing ++ octets)) (sym is) tt, tt);
      next = (refl, empty, tt);
      whole = λ are. (refl, empty, are);
    }

-- if it ended so, that is promised
of-listed : (lists : Lists) (at : Directory) (listing : List ℕ) (o : Option Ending) → option_map (λ (ending : Ending). ending.outcome) o ≡ Some outcome.Listed → EndPromises lists (work.Directory at) listing o
    → are_short_headers listing ≡ true
of-listed lists at listing None is keeps = absurd (cc is)
of-listed lists at listing (Some ending) is keeps =
    let listed : ending.outcome ≡ outcome.Listed = cc is in
    subst (ListPromises listing) listed keeps

pub listed : ListedLaw
listed at packet empty =
    let kept = directory-kept no_notes at packet empty in
    let row : Row Directory = directory_row at packet in
    (kept.1, λ is. of-listed (after_all no_notes row.commands) at row.state.listing row.ending is kept.2)

-- ---- downloads

-- a row is of the same file, and keeps what its outcome promises
abbrev DownloadKept : Lists → Download → Row Download → Type 0
DownloadKept lists at row =
    (row.state.server ≡ at.server) × (row.state.number ≡ at.number) × EndPromises (after_all lists row.commands) (work.Download at) [] row.ending

download-kept : (lists : Lists) (at : Download) (packet : PacketValue) → HasGot lists at → DownloadKept lists at (download_row (got_of lists at.server at.number) at packet)
download-kept lists at packet has = download-rows (DownloadKept lists at) held at rows packet
  where
    held : List ℕ
    held = got_of lists at.server at.number

    -- nothing is left of a file that has a fault
    gone : got_of (after_all lists (last_got at.server at.number at.rest ++ forgot at.server at.number ∷ [])) at.server at.number ≡ []
    gone =
        ap (λ (l : Lists). got_of l at.server at.number) (after_all-append (last_got at.server at.number at.rest) (forgot at.server at.number ∷ []) lists)
        ∙ forgot-none (after_all lists (last_got at.server at.number at.rest)) at.server at.number

    rows : DownloadRows (DownloadKept lists at) held at
    rows = record {
      strange_rows = λ kind. (refl, refl, tt);
      refused_rows = λ code. (refl, refl, tt);
      login = (refl, refl, tt);
      octets = λ octets is few. (refl, refl, tt);
      whole = λ is. (refl, refl, tt);
      bad = λ code. (refl, refl, gone);
      done = λ is. (refl, refl, (refl, subst (λ (p : DownloadPhase). IsCheckedIn p held) is has.checked));
    }

-- ---- work

pub same-work : (doing : Work) → IsOfSame doing doing
same-work (work.Upload at) = (refl, refl)
same-work (work.Directory at) = refl
same-work (work.Download at) = (refl, refl)

pub same-then : (asked doing now : Work) → IsOfSame asked doing → IsOfSame doing now → IsOfSame asked now
same-then (work.Upload asked) (work.Upload at) (work.Upload now) one other = (other.0 ∙ one.0, other.1 ∙ one.1)
same-then (work.Upload asked) (work.Upload at) (work.Directory now) one other = absurd other
same-then (work.Upload asked) (work.Upload at) (work.Download now) one other = absurd other
same-then (work.Upload asked) (work.Directory at) now one other = absurd one
same-then (work.Upload asked) (work.Download at) now one other = absurd one
same-then (work.Directory asked) (work.Upload at) now one other = absurd one
same-then (work.Directory asked) (work.Directory at) (work.Upload now) one other = absurd other
same-then (work.Directory asked) (work.Directory at) (work.Directory now) one other = other ∙ one
same-then (work.Directory asked) (work.Directory at) (work.Download now) one other = absurd other
same-then (work.Directory asked) (work.Download at) now one other = absurd one
same-then (work.Download asked) (work.Upload at) now one other = absurd one
same-then (work.Download asked) (work.Directory at) now one other = absurd one
same-then (work.Download asked) (work.Download at) (work.Upload now) one other = absurd other
same-then (work.Download asked) (work.Download at) (work.Directory now) one other = absurd other
same-then (work.Download asked) (work.Download at) (work.Download now) one other = (other.0 ∙ one.0, other.1 ∙ one.1)

-- what an outcome of the work promises it promises of what was asked
of-asked : (lists : Lists) (listing : List ℕ) (reached_now : Outcome) (asked doing : Work) → IsOfSame asked doing → WorkPromises lists doing listing reached_now → WorkPromises lists asked listing reached_now
of-asked lists listing reached_now (work.Upload asked) (work.Upload at) same keeps = subst (λ (task : ℕ). UploadPromises lists task reached_now) same.0 keeps
of-asked lists listing reached_now (work.Upload asked) (work.Directory at) same keeps = absurd same
of-asked lists listing reached_now (work.Upload asked) (work.Download at) same keeps = absurd same
of-asked lists listing reached_now (work.Directory asked) (work.Upload at) same keeps = absurd same
of-asked lists listing reached_now (work.Directory asked) (work.Directory at) same keeps = keeps
of-asked lists listing reached_now (work.Directory asked) (work.Download at) same keeps = absurd same
of-asked lists listing reached_now (work.Download asked) (work.Upload at) same keeps = absurd same
of-asked lists listing reached_now (work.Download asked) (work.Directory at) same keeps = absurd same
of-asked lists listing reached_now (work.Download asked) (work.Download at) same keeps =
    subst (λ (server : CallSign). DownloadPromises lists server asked.number reached_now) same.0
    (subst (λ (number : ℕ). DownloadPromises lists at.server number reached_now) same.1 keeps)

ends-asked : (lists : Lists) (listing : List ℕ) (o : Option Ending) (asked doing : Work) → IsOfSame asked doing → EndPromises lists doing listing o → EndPromises lists asked listing o
ends-asked lists listing None asked doing same keeps = tt
ends-asked lists listing (Some ending) asked doing same keeps = of-asked lists listing ending.outcome asked doing same keeps

-- a row of this work over these notes: it is of the same, and keeps what its outcome promises
abbrev Kept : Lists → Work → Row Work → Type 0
Kept lists asked row = IsOfSame asked row.state × IsFilled row.state × EndPromises (after_all lists row.commands) asked (listing_of row.state) row.ending

packet-kept : (lists : Lists) (doing : Work) (packet : PacketValue) → GoWith lists doing → IsFilled doing → Kept lists doing (packet_row lists doing packet)
packet-kept lists (work.Upload at) packet goes filled = let kept = upload-kept lists at packet goes in ((kept.0, kept.1), tt, kept.2)
packet-kept lists (work.Directory at) packet goes filled = directory-kept lists at packet filled
packet-kept lists (work.Download at) packet goes filled = let kept = download-kept lists at packet goes in ((kept.0, kept.1), tt, kept.2)

item-kept : (lists : Lists) (doing : Work) (item : Item) → GoWith lists doing → IsFilled doing → Kept lists doing (item_row lists doing item)
item-kept lists doing (Ok packet) goes filled = packet-kept lists doing packet goes filled
item-kept lists doing (Err malformed) goes filled = (same-work doing, filled, strange-kept doing)
  where
    strange-kept : (w : Work) → WorkPromises lists w (listing_of w) (outcome.Strange malformed.kind)
    strange-kept (work.Upload at) = tt
    strange-kept (work.Directory at) = tt
    strange-kept (work.Download at) = tt

-- ---- a job

pub promises : PromisesLaw
unfolding job_row
promises asked lists job item stands =
    let kept : Kept lists asked (row_by lists job.work item job.ending) = by job.ending stands.go_with stands.promises in
    record { same = kept.0; go_with = stays lists job item stands.go_with; filled = kept.1; promises = kept.2 }
  where
    by : (o : Option Ending) → GoBy o lists job.work → EndPromises lists asked (listing_of job.work) o → Kept lists asked (row_by lists job.work item o)
    by None goes keeps =
        let row : Row Work = item_row lists job.work item in
        let kept : Kept lists job.work row = item-kept lists job.work item goes stands.filled in (
          same-then asked job.work row.state stands.same kept.0,
          kept.1,
          ends-asked (after_all lists row.commands) (listing_of row.state) row.ending asked job.work stands.same kept.2,
        )
    by (Some ending) goes keeps = (stands.same, stands.filled, keeps)

new-filled : (doing : Work) → IsNotBegun doing → IsFilled doing
new-filled (work.Upload at) new = tt
new-filled (work.Directory at) new = subst (λ (d : Directory). IsEmptyBefore d.phase d.listing) (sym new) refl
new-filled (work.Download at) new = tt

pub begun : BegunLaw
begun lists job new goes =
    record {
      same = same-work job.work;
      go_with = goes;
      filled = new-filled job.work new.1;
      promises = subst (EndPromises lists job.work (listing_of job.work)) (sym new.0) tt;
    }

-- ---- what is due

-- what is sent of an upload leaves it of the same task and file
due-same : (at : Upload) (number place : ℕ) → IsOfSame (work.Upload at) (work.Upload (due_from at number place).state)
due-same at number place = by (length (drop place at.file) == 0)
  where
    by : (b : Bool)
        → let due : DuePacket Upload = if b then record { packet = data_end; state = in_phase at (upload_phase.Ack number) }
        else record { packet = data_part (take most_data (drop place at.file)); state = in_phase at (upload_phase.Sending number (place_after at place)) } in
        IsOfSame (work.Upload at) (work.Upload due.state)
    by true = (refl, refl)
    by false = (refl, refl)

-- what is due leaves the work the same, and unfinished
abbrev DueLeaves : Work → JobState → Type 0
DueLeaves doing now = IsOfSame doing now.work × IsFilled now.work × (now.ending ≡ None)

due-upload : (at : Upload) (phase : UploadPhase) (due : DuePacket JobState) → option_map in_job (option_map in_work (due_in phase at)) ≡ Some due → DueLeaves (work.Upload at) due.state
due-upload at upload_phase.Login due is = absurd (cc is)
due-upload at upload_phase.Go due is = absurd (cc is)
due-upload at (upload_phase.Sending number place) due is =
    let same : in_job (in_work (due_from at number place)) ≡ due = same_Some _ _ is in
    subst (λ (d : DuePacket JobState). DueLeaves (work.Upload at) d.state) same (due-same at number place, tt, refl)
due-upload at (upload_phase.Ack number) due is = absurd (cc is)

due-work : (o : Option Ending) (doing : Work) (due : DuePacket JobState) → due_by o doing ≡ Some due → DueLeaves doing due.state
due-work None (work.Upload at) due is = due-upload at at.phase due is
due-work None (work.Directory at) due is = absurd (cc is)
due-work None (work.Download at) due is = absurd (cc is)
due-work (Some ending) doing due is = absurd (cc is)

pub due_stands : DueLaw
due_stands asked lists job due stands is =
    let leaves : DueLeaves job.work due.state = due-work job.ending job.work due is in
    let puts : PutsDue (next_due job) true job due.state [] (packet_text due.packet) =
    subst (λ (o : Option (DuePacket JobState)). PutsDue o true job due.state [] (packet_text due.packet)) (sym is) (refl, refl, refl) in
    record {
      same = same-then asked job.work due.state.work stands.same leaves.0;
      go_with = due-goes lists job due.state true [] (packet_text due.packet) puts stands.go_with;
      filled = leaves.1;
      promises = subst (EndPromises lists asked (listing_of due.state.work)) (sym leaves.2) tt;
    }
