-- How far the two sides of an attempt have come in the exchange of its job (FTL0 1990).
use Rattle.std.specs.Prelude.{◌≡◌, ◌⊎◌, List, [], ◌∷◌, ℕ, ⊤}
use Rattle.std.specs.List.{AllByRecursion}
use Rattle.px_base.specs.Octets.{IsOctets}
use Rattle.ftl0_packets.specs.Layout.{PacketValue, data_end, data_part, dir_short_cmd, dl_error_resp, select_cmd}
use Rattle.ftl0_packets.specs.Layout.{select_resp}
use Rattle.file_store.specs.Store.{Store}
use Rattle.ftl0_session.specs.Downloads.Needs.{IsDueIn}
use Rattle.ftl0_session.specs.Downloads.Sending.{octets_due}
use Rattle.ftl0_session.specs.Downloads.Table.{Due}
use Rattle.ftl0_session.specs.Table.{command, download_part, listing}
use Rattle.ftl0_server.specs.Entries as session
use Rattle.ftl0_client_job.specs.declared.work.Work.{Work}
use Rattle.ftl0_client_job.specs.declared.work.Work.TheVariants as work
use Rattle.air_world.specs.Files.DownloadDialogue.{SaysDownload, ServesDownload}
use Rattle.air_world.specs.Attempts.Sides.{ClientSide, ServerSide, said_by_client}
use Rattle.air_world.specs.Files.UploadDialogue.{SaysUpload, ServesUpload}

-- the packets of a session that selects and lists
abbrev pub IsOfListing : PacketValue → Type 0
IsOfListing (data_part octets) = ⊤
IsOfListing data_end = ⊤
IsOfListing (dl_error_resp code) = ⊤
IsOfListing (select_resp count) = ⊤
IsOfListing packet = ⊥

-- A session of a list says nothing of files that come, and is in none of their states.
pub record ServesList (side : ServerSide) : Type 0 where
  pub said : AllByRecursion IsOfListing (session.said_in side.entries)
  pub state : (side.connected.state ≡ command) ⊎ ((dues : List Due) × (side.connected.state ≡ listing dues))

-- A client of a list has said nothing, or SELECT_CMD, and DIR_SHORT_CMD 0 since.
abbrev pub IsListSaid : List ℕ → List PacketValue → Type 0
IsListSaid tokens [] = ⊤
IsListSaid tokens (packet ∷ packets) =
    (packet ≡ select_cmd tokens) × AllByRecursion (λ it. it ≡ dir_short_cmd 0) packets

-- what a session has done, by the work of its caller
abbrev pub Serves : Store → Work → ServerSide → Type 0
Serves store (work.Upload at) side = ServesUpload at.known at.file side
Serves store (work.Directory at) side = ServesList side
Serves store (work.Download at) side = ServesDownload store at.number side

-- what a client has said
abbrev pub Says : Work → ClientSide → Type 0
Says (work.Upload at) side = SaysUpload at.known at.file side
Says (work.Directory at) side = IsListSaid at.tokens (said_by_client side)
Says (work.Download at) side = SaysDownload at.number side

-- while a session is up, what is due lies in complete files, and is octets
pub record IsDueNow (store : Store) (side : ServerSide) : Type 0 where
  pub lies : IsDueIn store (download_part side.connected.state)
  pub octets : IsOctets (octets_due store (download_part side.connected.state))
