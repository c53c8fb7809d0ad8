-- The job of a client (FTL0 1990), and its table, which has a row for each packet.
use Rattle.std.specs.Prelude.{ℕ, List, [], Bool, true, false, Option, None, Some, Ok, Err}
use Rattle.ftl0_packets.specs.Layout.{Item, PacketValue}
use Rattle.client_notes.specs.Notes.{Lists, got_of}
use Rattle.ftl0_client_job.specs.declared.ending.Ending.{Ending}
use Rattle.ftl0_client_job.specs.declared.work.Work.{Work}
use Rattle.ftl0_client_job.specs.declared.work.Work.TheVariants as work
use Rattle.ftl0_client_job.specs.Directory.{directory_row}
use Rattle.ftl0_client_job.specs.Download.{download_row}
use Rattle.ftl0_client_job.specs.Row.{Row, strange}
use Rattle.ftl0_client_job.specs.Upload.{upload_row}

-- a job: what a client does, the upload of a file, a list of files or the download of one, and how it ended, once it has
pub record JobState : Type 0 where
  pub work : Work
  pub ending : Option Ending

-- a job of this work, which has no outcome yet
abbrev pub new_job : Work → JobState
new_job begun = record { work = begun; ending = None }

-- the job as a row leaves it
abbrev pub job_after : Row Work → JobState
job_after row = record { work = row.state; ending = row.ending }

-- a row of an upload, a list or a download as one of a job
abbrev pub row_of : {S : Type 0} → (S → Work) → Row S → Row Work
row_of made row =
    record { state = made row.state; commands = row.commands; replies = row.replies; ending = row.ending }

-- what a packet gives over these notes
abbrev pub packet_row : Lists → Work → PacketValue → Row Work
packet_row lists (work.Upload at) packet = row_of work.Upload (upload_row at packet)
packet_row lists (work.Directory at) packet = row_of work.Directory (directory_row at packet)
packet_row lists (work.Download at) packet =
    row_of work.Download (download_row (got_of lists at.server at.number) at packet)

-- the same of a packet that may be malformed, which is strange then
abbrev pub item_row : Lists → Work → Item → Row Work
item_row lists doing (Ok packet) = packet_row lists doing packet
item_row lists doing (Err malformed) = strange doing malformed.kind

-- a packet after the outcome changes nothing
abbrev pub ended_row : Work → Ending → Row Work
ended_row done ending = record { state = done; commands = []; replies = []; ending = Some ending }

abbrev pub row_by : Lists → Work → Item → Option Ending → Row Work
row_by lists doing item None = item_row lists doing item
row_by lists doing item (Some ending) = ended_row doing ending

-- The table: what a packet, malformed or not, gives to a job over these notes.
unfoldable pub job_row : Lists → JobState → Item → Row Work
job_row lists job item = row_by lists job.work item job.ending

-- whether packets take memory: not those of an upload
abbrev pub takes_memory : Work → Bool
takes_memory (work.Upload at) = false
takes_memory (work.Directory at) = true
takes_memory (work.Download at) = true

-- the octets of the list that came, if the job is one
abbrev pub listing_of : Work → List ℕ
listing_of (work.Upload at) = []
listing_of (work.Directory at) = at.listing
listing_of (work.Download at) = []
