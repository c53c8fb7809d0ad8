-- The download of a file (FTL0 1990, downloading): its states, and its rows of the client's table.
use Rattle.std.specs.Prelude.{ℕ, zero, suc, ◌+◌, ◌*◌, ◌/◌, ◌==◌, List, [], ◌∷◌, ◌++◌, length, take, drop, nat_lt, Option, None, Some}
use Rattle.std.specs.Prelude.{if◌then◌else◌}
use Rattle.px_base.specs.CallSign.{CallSign}
use Rattle.ftl0_packets.specs.ErrorCodes.{octet_of}
use Rattle.ftl0_packets.specs.declared.error_code.ErrorCode.TheVariants as error
use Rattle.ftl0_packets.specs.Layout.{PacketValue, data_end, data_part, dl_ack_cmd, dl_completed_resp, dl_error_resp}
use Rattle.ftl0_packets.specs.Layout.{dl_nak_cmd, download_cmd, kind_of, login_resp}
use Rattle.pfh_items.specs.Faults.{fault_code}
use Rattle.client_notes.specs.Command.{NotesCommand, forgot, got}
use Rattle.client_notes.specs.Limits.{longest_file}
use Rattle.ftl0_client_job.specs.declared.ending.Outcome.TheVariants as outcome
use Rattle.ftl0_client_job.specs.declared.phases.DownloadPhase.{DownloadPhase}
use Rattle.ftl0_client_job.specs.declared.phases.DownloadPhase.TheVariants as phase
use Rattle.ftl0_client_job.specs.Row.{Row, ends, ends_later, goes_on, strange}

-- The download of the file of this number of this server, the octets that came and aren't noted yet, fewer than 512, and
-- how far it has come: LOGIN_RESP is waited for; or the file's octets come; or DL_COMPLETED_RESP is waited for.
pub record Download : Type 0 where
  pub server : CallSign
  pub number : ℕ
  pub rest : List ℕ
  pub phase : DownloadPhase

-- the same download, come so far
abbrev pub in_phase : Download → DownloadPhase → Download
in_phase download now = record download { phase = now }

-- with these octets not noted yet
abbrev pub with_rest : Download → List ℕ → Download
with_rest download octets = record download { rest = octets }

-- One Got for each whole 512 octets, of n of them.
abbrev pub gots : CallSign → ℕ → ℕ → List ℕ → List NotesCommand
gots server number zero octets = []
gots server number (suc n) octets = got server number (take 512 octets) ∷ gots server number n (drop 512 octets)

-- the commands by which octets are noted: one Got for each whole 512 of them
abbrev pub whole_gots : CallSign → ℕ → List ℕ → List NotesCommand
whole_gots server number octets = gots server number (length octets / 512) octets

-- the octets that are left after the last whole 512
abbrev pub unnoted : List ℕ → List ℕ
unnoted octets = drop (512 * (length octets / 512)) octets

-- the last Got, of the octets that are left, if there are any
abbrev pub last_got : CallSign → ℕ → List ℕ → List NotesCommand
last_got server number [] = []
last_got server number (octet ∷ octets) = got server number (octet ∷ octets) ∷ []

-- Login: LOGIN_RESP brings DOWNLOAD_CMD for the octets after those that were got.
abbrev pub login_row : List ℕ → Download → PacketValue → Row Download
login_row held download (login_resp moment flags) =
    goes_on (in_phase (with_rest download []) phase.Fetching) [] (download_cmd download.number (length held) 0 ∷ [])
login_row held download packet = strange download (kind_of packet)

-- Fetching, DATA: each whole 512 octets are noted, up to 4,194,304 of them in all.
abbrev pub data_row : List ℕ → Download → List ℕ → Row Download
data_row held download octets =
    if nat_lt longest_file (length held + length (download.rest ++ octets)) then strange download 0
    else goes_on (with_rest download (unnoted (download.rest ++ octets)))
    (whole_gots download.server download.number (download.rest ++ octets)) []

-- all octets came, and this is the code of the file's first fault, if it has one
abbrev pub whole_row : Download → Option ℕ → Row Download
whole_row download None =
    goes_on (in_phase (with_rest download []) phase.Done) (last_got download.server download.number download.rest)
    (dl_ack_cmd ∷ [])
whole_row download (Some code) =
    ends_later (with_rest download [])
    (last_got download.server download.number download.rest ++ forgot download.server download.number ∷ []) dl_nak_cmd
    (outcome.BadFile code)

-- Fetching, DATA_END: the rest is noted, and the whole checked. A file without fault is kept, DL_ACK_CMD; one with a fault
-- is given up, DL_NAK_CMD.
abbrev pub data_end_row : List ℕ → Download → Row Download
data_end_row held download = whole_row download (fault_code (held ++ download.rest))

-- Fetching, DL_ERROR_RESP: the download is refused; if the offset was above the file's length, code 2, what was got is
-- given up.
abbrev pub error_row : Download → ℕ → Row Download
error_row download code =
    ends download (if code == octet_of error.BadContinue then forgot download.server download.number ∷ [] else [])
    (outcome.Refused code)

abbrev pub fetching_row : List ℕ → Download → PacketValue → Row Download
fetching_row held download (data_part octets) = data_row held download octets
fetching_row held download data_end = data_end_row held download
fetching_row held download (dl_error_resp code) = error_row download code
fetching_row held download packet = strange download (kind_of packet)

-- Done: DL_COMPLETED_RESP ends the download.
abbrev pub done_row : Download → PacketValue → Row Download
done_row download dl_completed_resp = ends download [] (outcome.Fetched download.number)
done_row download packet = strange download (kind_of packet)

abbrev pub row_in : DownloadPhase → List ℕ → Download → PacketValue → Row Download
row_in phase.Login held download packet = login_row held download packet
row_in phase.Fetching held download packet = fetching_row held download packet
row_in phase.Done held download packet = done_row download packet

-- a download that waits for LOGIN_RESP
abbrev pub new_download : CallSign → ℕ → Download
new_download server number = record { server = server; number = number; rest = []; phase = phase.Login }

-- what a packet gives to a download, if these octets were got and noted
unfoldable pub download_row : List ℕ → Download → PacketValue → Row Download
download_row held download packet = row_in download.phase held download packet
