-- What a session and a job have said and heard of uploads and downloads (FTL0 1990).
use Rattle.std.specs.Prelude.{◌≡◌, ◌⊎◌, ℕ, List, [], ◌∷◌, length, drop, flat_map, Ok, Err}
use Rattle.ftl0_packets.specs.ErrorCodes.{octet_of}
use Rattle.ftl0_packets.specs.Layout.{Item, PacketValue, data_part, ul_ack_resp, ul_error_resp, ul_go_resp, upload_cmd}
use Rattle.ftl0_packets.specs.declared.error_code.ErrorCode.TheVariants as error
use Rattle.ftl0_server.specs.Entries as session
use Rattle.ftl0_server.specs.Entries.{SessionEntry}
use Rattle.ftl0_client_job.specs.declared.work.Work.TheVariants as work
use Rattle.ftl0_client_job.specs.Upload.{new_upload}
use Rattle.ftl0_client.specs.Entries as job
use Rattle.air_world.specs.Attempts.Attempt.{Attempt}
use Rattle.air_world.specs.Attempts.Lists.{Has, OneIs}
use Rattle.air_world.specs.Attempts.Sides.{ClientSide, ServerSide, said_by_client, said_by_server}

-- the attempt is one to send this file of a task, whose number was known, or 0 if none was
abbrev pub AsksUpload : Attempt → ℕ → ℕ → List ℕ → Type 0
AsksUpload a task known file = a.client.asked ≡ work.Upload (new_upload task known file)

-- the session has said that the file of this number may come, from this offset on
abbrev pub Offers : ServerSide → ℕ → ℕ → Type 0
Offers side number offset = Has (said_by_server side) (ul_go_resp number offset)

-- the session took this packet, and said this in answer to it, and nothing else
abbrev pub IsAnswer : Item → PacketValue → SessionEntry → Type 0
IsAnswer item answer (session.took taken row) = (taken ≡ item) × (row.replies ≡ answer ∷ [])
IsAnswer item answer (session.lost taken row) = ⊥
IsAnswer item answer (session.queued due) = ⊥

abbrev pub Answers : ServerSide → Item → PacketValue → Type 0
Answers side item answer = OneIs (IsAnswer item answer) side.entries

-- the session has given this number to a new file of this length
abbrev pub Grants : ServerSide → ℕ → ℕ → Type 0
Grants side number file_length = Answers side (Ok (upload_cmd 0 file_length)) (ul_go_resp number 0)

-- the session has said that the file of this number is complete: it said UL_ACK_RESP after its offer, or code 12
abbrev pub Acknowledges : ServerSide → ℕ → Type 0
Acknowledges side number =
    ((offset : ℕ) × Offers side number offset) × Has (said_by_server side) ul_ack_resp

abbrev pub TellsComplete : ServerSide → ℕ → Type 0
TellsComplete side number =
    (file_length : ℕ) × Answers side (Ok (upload_cmd number file_length)) (ul_error_resp (octet_of error.FileComplete))

abbrev pub SaysComplete : ServerSide → ℕ → Type 0
SaysComplete side number = Acknowledges side number ⊎ TellsComplete side number

-- the job took this packet before its outcome
abbrev pub IsTaken : Item → job.JobEntry → Type 0
IsTaken item (job.took taken row) = taken ≡ item
IsTaken item (job.lost taken row) = ⊥
IsTaken item (job.passed taken) = ⊥
IsTaken item (job.queued due) = ⊥

abbrev pub Took : ClientSide → PacketValue → Type 0
Took side packet = OneIs (IsTaken (Ok packet)) side.entries

-- the octets of a packet, if it is DATA
abbrev pub octets_of_data : PacketValue → List ℕ
octets_of_data (data_part octets) = octets
octets_of_data packet = []

abbrev pub octets_of_item : Item → List ℕ
octets_of_item (Ok packet) = octets_of_data packet
octets_of_item (Err malformed) = []

-- the octets of the DATA among packets, one after another
abbrev pub octets_said : List PacketValue → List ℕ
octets_said packets = flat_map octets_of_data packets

abbrev pub octets_taken : List Item → List ℕ
octets_taken items = flat_map octets_of_item items

-- how many octets of DATA the session took
abbrev pub octets_come : ServerSide → ℕ
octets_come side = length (octets_taken (session.items_in side.entries))

-- what one side has said after the packets that the other one took
abbrev pub said_behind_server : ServerSide → ClientSide → List PacketValue
said_behind_server server client = drop (length (session.items_in server.entries)) (said_by_client client)

abbrev pub said_behind_client : ClientSide → ServerSide → List PacketValue
said_behind_client client server = drop (length (job.items_in client.entries)) (said_by_server server)
