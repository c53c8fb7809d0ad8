-- What a download noted whose outcome is that its file was fetched.
use Rattle.std.proofs.Common.{◌≡◌, ℕ, List, [], ◌++◌, refl, sym, ◌∙◌, subst}
use Rattle.ftl0_client_job.specs.Faults.{fault_code}
use Rattle.ftl0_client_job.specs.declared.ending.Outcome.TheVariants as outcome
use Rattle.ftl0_client_job.specs.declared.work.Work.TheVariants as work
use Rattle.ftl0_client_job.specs.Download.{Download, download_row}
use Rattle.ftl0_client.proofs.Names.{Option, None, Some, Ok, Err, CallSign, Item, PacketValue, NotesCommand, after_all, Lists, got_of, after_all-append, Ending, GoBy, HasGot, reached, Row, strange, job_row, new_job, row_of, download-rows, DownloadRows, fetched, job-in, stays-item, FetchedLaw, IsFetchedBy}
use Rattle.ftl0_client.proofs.attempt.ReachedLemmas.{reaches}

-- ---- a download stays that of its file

pub record SameFile (at now : Download) : Type 0 where
  pub server : now.server ≡ at.server
  pub number : now.number ≡ at.number

same : (at : Download) → SameFile at at
same at = record { server = refl; number = refl }

file-row : (held : List ℕ) (at : Download) (packet : PacketValue) → SameFile at (download_row held at packet).state
file-row held at packet = download-rows (λ row. SameFile at row.state) held at rows packet
  where
    rows : DownloadRows (λ row. SameFile at row.state) held at
    rows = record {
      strange_rows = λ kind. same at;
      refused_rows = λ code. same at;
      login = record { server = refl; number = refl };
      octets = λ octets is few. record { server = refl; number = refl };
      whole = λ is. record { server = refl; number = refl };
      bad = λ code. record { server = refl; number = refl };
      done = λ is. same at;
    }

-- ---- packets

-- the row of a packet, malformed or not
abbrev item_row : Lists → Download → Item → Row Download
item_row lists at (Ok packet) = download_row (got_of lists at.server at.number) at packet
item_row lists at (Err malformed) = strange at malformed.kind

row-is : (lists : Lists) (at : Download) (item : Item) → job_row lists (new_job (work.Download at)) item ≡ row_of work.Download (item_row lists at item)
row-is lists at (Ok packet) = job-in lists (new_job (work.Download at)) (Ok packet) refl
row-is lists at (Err malformed) = job-in lists (new_job (work.Download at)) (Err malformed) refl

file-item : (lists : Lists) (at : Download) (item : Item) → SameFile at (item_row lists at item).state
file-item lists at (Ok packet) = file-row (got_of lists at.server at.number) at packet
file-item lists at (Err malformed) = same at

goes-item : (lists : Lists) (at : Download) (item : Item) → HasGot lists at → (item_row lists at item).ending ≡ None
    → HasGot (after_all lists (item_row lists at item).commands) (item_row lists at item).state
goes-item lists at (Ok packet) has none =
    let row : Row Download = item_row lists at (Ok packet) in
    subst (λ (o : Option Ending). GoBy o (after_all lists row.commands) (work.Download row.state)) none (stays-item lists (work.Download at) (Ok packet) has)
goes-item lists at (Err malformed) has none = absurd (cc none)

ends-item : (number : ℕ) (lists : Lists) (at : Download) (item : Item) → HasGot lists at → reached (item_row lists at item) ≡ Some (outcome.Fetched number)
    → IsFetchedBy number lists at ((item_row lists at item).commands ++ [])
ends-item number lists at (Ok packet) has is =
    let by = fetched lists at packet number has is in
    subst (λ (cs : List NotesCommand). IsFetchedBy number lists at (cs ++ [])) (sym by.2) (by.0, by.1)
ends-item number lists at (Err malformed) has is = absurd (cc is)

behind-item : (number : ℕ) (lists : Lists) (at : Download) (item : Item) (noted : List NotesCommand)
    → IsFetchedBy number (after_all lists (item_row lists at item).commands) (item_row lists at item).state noted → IsFetchedBy number lists at ((item_row lists at item).commands ++ noted)
behind-item number lists at item noted h =
    let row : Row Download = item_row lists at item in
    let file = file-item lists at item in
    let at_file : CallSign → ℕ → Type 0 = λ server n. fault_code (got_of (after_all (after_all lists row.commands) noted) server n) ≡ None in (
      h.0 ∙ file.number,
      subst (λ (l : Lists). fault_code (got_of l at.server at.number) ≡ None) (sym (after_all-append row.commands noted lists))
          (subst (λ (n : ℕ). at_file at.server n) file.number (subst (λ (server : CallSign). at_file server row.state.number) file.server h.1)),
    )

pub fetched-law : FetchedLaw
fetched-law w lists a frame at number is has got =
    reaches work.Download item_row HasGot (IsFetchedBy number) (outcome.Fetched number) row-is goes-item (ends-item number) (behind-item number) (λ kind no. cc no) (λ why no. cc no) w lists a frame at is has got
