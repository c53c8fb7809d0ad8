-- What a job has said stays so if nothing more is said.
use Rattle.std.proofs.Common.{◌≡◌, ℕ, sym, ◌∙◌, subst}
use Rattle.ftl0_client_job.specs.declared.work.Work.TheVariants as work
use Rattle.air_world.proofs.files.Names.{PacketValue, data_end, Work, OneIs, IsTaken, ClientSide, said_by_client, IsListSaid, Says, Fetching, IsFetchingFile, SaysDownload, asked, silent, told}
use Rattle.air_world.proofs.files.JobTook.{whole}
use Rattle.air_world.proofs.files.JobUploadGoes.{says-same}

-- what the old side took the new one took
abbrev pub TookMore : ClientSide → ClientSide → Type 0
TookMore old new =
    (packet : PacketValue) → OneIs (IsTaken (whole packet)) old.entries → OneIs (IsTaken (whole packet)) new.entries

pub fetch-same : (number : ℕ) (old new : ClientSide) → SaysDownload number old → said_by_client new ≡ said_by_client old
    → TookMore old new → SaysDownload number new
fetch-same number old new says same more =
    record { stage = says.stage; said = same ∙ says.said; fetches = by says.stage says.fetches }
  where
    by : (stage : Fetching) → IsFetchingFile old stage → IsFetchingFile new stage
    by silent is = tt
    by (asked offset) is = tt
    by (told offset word) is = (is.0, more data_end is.1)

pub says-still : (doing : Work) (old new : ClientSide) → Says doing old → said_by_client new ≡ said_by_client old
    → TookMore old new → Says doing new
says-still (work.Upload at) old new says same more = says-same at.known at.file old new says same more
says-still (work.Directory at) old new says same more = subst (IsListSaid at.tokens) (sym same) says
says-still (work.Download at) old new says same more = fetch-same at.number old new says same more
