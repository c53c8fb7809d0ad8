-- A packet's row by how far the work has come.
use Rattle.std.proofs.Common.{◌≡◌, ℕ, List, [], refl, ap}
use Rattle.ftl0_client_job.specs.Directory as directory
use Rattle.ftl0_client_job.specs.Download as download
use Rattle.ftl0_client_job.specs.Upload as upload
use Rattle.ftl0_client_job.proofs.Names.{None, Some, Item, Lists, Ending, PacketValue, login_resp, dl_completed_resp, DirectoryPhase, DownloadPhase, UploadPhase, Directory, directory_row, Download, download_row, JobState, ended_row, item_row, job_row, row_by, Upload, upload_row}
use Rattle.ftl0_client_job.proofs.CaseLemmas.{DirectoryRows, directory-rows}

pub upload-in : (at : Upload) (packet : PacketValue) (phase : UploadPhase) → at.phase ≡ phase → upload_row at packet ≡ upload.row_in phase at packet
unfolding upload_row
upload-in at packet phase is = ap (λ (p : UploadPhase). upload.row_in p at packet) is

pub directory-in : (at : Directory) (packet : PacketValue) (phase : DirectoryPhase) → at.phase ≡ phase → directory_row at packet ≡ directory.row_in phase at packet
unfolding directory_row
directory-in at packet phase is = ap (λ (p : DirectoryPhase). directory.row_in p at packet) is

pub download-in : (held : List ℕ) (at : Download) (packet : PacketValue) (phase : DownloadPhase) → at.phase ≡ phase → download_row held at packet ≡ download.row_in phase held at packet
unfolding download_row
download-in held at packet phase is = ap (λ (p : DownloadPhase). download.row_in p held at packet) is

-- ---- rows without commands

pub login-silent : (at : Upload) (packet : PacketValue) → (upload.login_row at packet).commands ≡ []
login-silent at (login_resp moment flags) = refl
login-silent at packet = refl

pub fetch-silent : (held : List ℕ) (at : Download) (packet : PacketValue) → (download.login_row held at packet).commands ≡ []
fetch-silent held at (login_resp moment flags) = refl
fetch-silent held at packet = refl

pub done-silent : (at : Download) (packet : PacketValue) → (download.done_row at packet).commands ≡ []
done-silent at dl_completed_resp = refl
done-silent at packet = refl

pub directory-silent : (at : Directory) (packet : PacketValue) → (directory_row at packet).commands ≡ []
directory-silent at packet = directory-rows (λ row. row.commands ≡ []) at rows packet
  where
    rows : DirectoryRows (λ row. row.commands ≡ []) at
    rows = record {
      strange_rows = λ kind. refl;
      refused_rows = λ code. refl;
      login = λ is. refl;
      nothing = λ is. refl;
      selected = refl;
      octets = λ octets is. refl;
      next = refl;
      whole = λ are. refl;
    }

-- ---- a job

pub job-in : (lists : Lists) (job : JobState) (item : Item) → job.ending ≡ None → job_row lists job item ≡ item_row lists job.work item
unfolding job_row
job-in lists job item is = ap (row_by lists job.work item) is

pub job-ended : (lists : Lists) (job : JobState) (item : Item) (ending : Ending) → job.ending ≡ Some ending → job_row lists job item ≡ ended_row job.work ending
unfolding job_row
job-ended lists job item ending is = ap (row_by lists job.work item) is
