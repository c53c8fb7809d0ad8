-- The upload of a file (FTL0 1990, uploading): its states, and its rows of the client's table.
use Rattle.std.specs.Prelude.{ℕ, ◌==◌, ◌≤◌, List, [], ◌∷◌, length, nat_le, nat_lt, Bool, not, ◌&&◌, if◌then◌else◌, ⊤}
use Rattle.ftl0_packets.specs.ErrorCodes.{octet_of}
use Rattle.ftl0_packets.specs.declared.error_code.ErrorCode.TheVariants as error
use Rattle.ftl0_packets.specs.Layout.{PacketValue, data_end, kind_of, login_resp, ul_ack_resp, ul_error_resp}
use Rattle.ftl0_packets.specs.Layout.{ul_go_resp, ul_nak_resp, upload_cmd}
use Rattle.client_notes.specs.Command.{NotesCommand, acked, numbered, refused}
use Rattle.ftl0_client_job.specs.declared.ending.Outcome.TheVariants as outcome
use Rattle.ftl0_client_job.specs.declared.phases.UploadPhase.{UploadPhase}
use Rattle.ftl0_client_job.specs.declared.phases.UploadPhase.TheVariants as phase
use Rattle.ftl0_client_job.specs.Row.{Row, ends, ends_later, goes_on, strange}

-- The upload of a task's file, whose number on the server is known, or 0 as long as none is; and how far it has come:
-- LOGIN_RESP is waited for; or UL_GO_RESP; or the file, which has this number, is sent from this place on; or
-- UL_ACK_RESP or UL_NAK_RESP for the file of this number is waited for.
pub record Upload : Type 0 where
  pub task : ℕ
  pub known : ℕ
  pub file : List ℕ
  pub phase : UploadPhase

-- the same upload, come so far
abbrev pub in_phase : Upload → UploadPhase → Upload
in_phase upload now = record upload { phase = now }

-- whether none knows a number of the file yet
abbrev pub is_new : Upload → Bool
is_new upload = upload.known == 0

-- whether the file may be sent by a UL_GO_RESP with this number and offset: a new one gets a number, and is sent from its
-- first octet on; one that is continued has its number, and is sent from a place within it on
abbrev pub may_go : Upload → ℕ → ℕ → Bool
may_go upload number offset =
    if is_new upload then nat_lt 0 number && (offset == 0)
    else (number == upload.known) && nat_le offset (length upload.file)

-- only the number of a new file is noted
abbrev pub number_commands : Upload → ℕ → List NotesCommand
number_commands upload number = if is_new upload then numbered upload.task number ∷ [] else []

-- Go, UL_GO_RESP: the file is sent from the offset on.
abbrev pub go_resp_row : Upload → ℕ → ℕ → Row Upload
go_resp_row upload number offset =
    if may_go upload number offset
    then goes_on (in_phase upload (phase.Sending number offset)) (number_commands upload number) []
    else strange upload 4

-- a refusal of a task's file with this code is noted, except for a fault of the server's disk
abbrev pub refusal_of : ℕ → ℕ → List NotesCommand
refusal_of task code = if code == octet_of error.ServerFsys then [] else refused task code ∷ []

-- whether this code says of a file that is continued that it is complete
abbrev pub is_complete : Upload → ℕ → Bool
is_complete upload code = not (is_new upload) && (code == octet_of error.FileComplete)

-- Go, UL_ERROR_RESP: the file is refused, unless it is complete already.
abbrev pub error_row : Upload → ℕ → Row Upload
error_row upload code =
    if is_complete upload code then ends upload (acked upload.task ∷ []) (outcome.Acked upload.known)
    else ends upload (refusal_of upload.task code) (outcome.Refused code)

-- Login: LOGIN_RESP brings UPLOAD_CMD.
abbrev pub login_row : Upload → PacketValue → Row Upload
login_row upload (login_resp moment flags) =
    goes_on (in_phase upload phase.Go) [] (upload_cmd upload.known (length upload.file) ∷ [])
login_row upload packet = strange upload (kind_of packet)

-- Go: the server lets the file come, or refuses it.
abbrev pub go_row : Upload → PacketValue → Row Upload
go_row upload (ul_go_resp number offset) = go_resp_row upload number offset
go_row upload (ul_error_resp code) = error_row upload code
go_row upload packet = strange upload (kind_of packet)

-- Sending: only a refusal may come, and DATA_END ends the file then.
abbrev pub sending_row : Upload → PacketValue → Row Upload
sending_row upload (ul_nak_resp code) = ends_later upload (refusal_of upload.task code) data_end (outcome.Refused code)
sending_row upload packet = strange upload (kind_of packet)

-- Ack: the file is acknowledged or refused.
abbrev pub ack_row : Upload → ℕ → PacketValue → Row Upload
ack_row upload number ul_ack_resp = ends upload (acked upload.task ∷ []) (outcome.Acked number)
ack_row upload number (ul_nak_resp code) = ends upload (refusal_of upload.task code) (outcome.Refused code)
ack_row upload number packet = strange upload (kind_of packet)

abbrev pub row_in : UploadPhase → Upload → PacketValue → Row Upload
row_in phase.Login upload packet = login_row upload packet
row_in phase.Go upload packet = go_row upload packet
row_in (phase.Sending number place) upload packet = sending_row upload packet
row_in (phase.Ack number) upload packet = ack_row upload number packet

-- an upload that waits for LOGIN_RESP
abbrev pub new_upload : ℕ → ℕ → List ℕ → Upload
new_upload task known file = record { task = task; known = known; file = file; phase = phase.Login }

-- what is sent of a file of this length has a number, and begins within it
abbrev pub IsWithin : ℕ → UploadPhase → Type 0
IsWithin file_length phase.Login = ⊤
IsWithin file_length phase.Go = ⊤
IsWithin file_length (phase.Sending number place) = (1 ≤ number) × (place ≤ file_length)
IsWithin file_length (phase.Ack number) = 1 ≤ number

-- what a packet gives to an upload
unfoldable pub upload_row : Upload → PacketValue → Row Upload
upload_row upload packet = row_in upload.phase upload packet
