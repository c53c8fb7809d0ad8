-- How far the two sides of an attempt have come with the upload of a file (FTL0 1990, uploading). A side takes what
-- the other one said, so these are all exchanges that there are.
use Rattle.std.specs.Prelude.{◌≡◌, ◌⊎◌, ℕ, ◌+◌, ◌≤◌, List, [], ◌∷◌, ◌++◌, length, take, drop, map, flat_map, Ok, ⊤}
use Rattle.std.specs.List.{AllByRecursion}
use Rattle.ftl0_packets.specs.Layout.{Item, PacketValue, data_end, data_part, ul_ack_resp, ul_error_resp, ul_go_resp}
use Rattle.ftl0_packets.specs.Layout.{ul_nak_resp, upload_cmd}
use Rattle.ftl0_session.specs.Table.{State, command, receiving}
use Rattle.ftl0_server.specs.Entries as session
use Rattle.ftl0_server.specs.Entries.{SessionEntry}
use Rattle.air_world.specs.Attempts.Said.{Answers, Took}
use Rattle.air_world.specs.Attempts.Sides.{ClientSide, ServerSide, said_by_client}

-- the packets to which a session replied: all that it took, but one whose replies didn't fit
abbrev pub answered_by : SessionEntry → List Item
answered_by (session.took item row) = item ∷ []
answered_by (session.lost item row) = []
answered_by (session.queued due) = []

abbrev pub answered_in : List SessionEntry → List Item
answered_in entries = flat_map answered_by entries

-- these packets, DATA and then perhaps DATA_END, go on with the file from this place on, and DATA_END comes at its
-- end
abbrev pub GoesOnWith : List ℕ → ℕ → List PacketValue → Type 0
GoesOnWith file place [] = ⊤
GoesOnWith file place (data_part octets ∷ packets) =
    (octets ≡ take (length octets) (drop place file)) × GoesOnWith file (place + length octets) packets
GoesOnWith file place (data_end ∷ packets) = (place ≡ length file) × (packets ≡ [])
GoesOnWith file place (packet ∷ packets) = ⊥

-- the number and offset that answer an UPLOAD_CMD with this number: a new file begins at 0, and a file that goes on
-- keeps its number
pub record IsOfferFor (known number offset : ℕ) : Type 0 where
  pub new : known ≡ 0 → offset ≡ 0
  pub same : 1 ≤ known → number ≡ known

-- How far a session of an upload has come: nothing was asked; it refused, with a code; it receives the file, with a
-- number and from an offset on, of which DATA with these octets came; or DATA_END came after them, and it said
-- UL_ACK_RESP or UL_NAK_RESP.
pub data Receiving : Type 0 where
  unasked : Receiving
  refused : ℕ → Receiving
  receives : ℕ → ℕ → List (List ℕ) → Receiving
  ended : ℕ → ℕ → List (List ℕ) → PacketValue → Receiving

-- DATA with these octets
abbrev pub data_items : List (List ℕ) → List Item
data_items parts = map (λ octets. Ok (data_part octets)) parts

-- the packets that it took, of an upload with this number and length
abbrev pub received_items : ℕ → ℕ → Receiving → List Item
received_items known file_length unasked = []
received_items known file_length (refused code) = Ok (upload_cmd known file_length) ∷ []
received_items known file_length (receives number offset parts) =
    Ok (upload_cmd known file_length) ∷ data_items parts
received_items known file_length (ended number offset parts word) =
    Ok (upload_cmd known file_length) ∷ (data_items parts ++ Ok data_end ∷ [])

-- what it said
abbrev pub receiving_said : Receiving → List PacketValue
receiving_said unasked = []
receiving_said (refused code) = ul_error_resp code ∷ []
receiving_said (receives number offset parts) = ul_go_resp number offset ∷ []
receiving_said (ended number offset parts word) = ul_go_resp number offset ∷ word ∷ []

-- this is UL_ACK_RESP or UL_NAK_RESP
abbrev pub IsWord : PacketValue → Type 0
IsWord packet = (packet ≡ ul_ack_resp) ⊎ ((code : ℕ) × (packet ≡ ul_nak_resp code))

-- its state, and what it offered
abbrev pub IsReceivingState : Receiving → State → Type 0
IsReceivingState unasked state = state ≡ command
IsReceivingState (refused code) state = state ≡ command
IsReceivingState (receives number offset parts) state = (rest : List ℕ) × (state ≡ receiving number rest)
IsReceivingState (ended number offset parts word) state = state ≡ command

abbrev pub IsOfferedBy : ℕ → Receiving → Type 0
IsOfferedBy known unasked = ⊤
IsOfferedBy known (refused code) = ⊤
IsOfferedBy known (receives number offset parts) = IsOfferFor known number offset
IsOfferedBy known (ended number offset parts word) = IsOfferFor known number offset × IsWord word

-- what it said first it said in answer to UPLOAD_CMD
abbrev pub AnsweredFirst : ℕ → ℕ → ServerSide → Receiving → Type 0
AnsweredFirst known file_length side unasked = ⊤
AnsweredFirst known file_length side (refused code) =
    Answers side (Ok (upload_cmd known file_length)) (ul_error_resp code)
AnsweredFirst known file_length side (receives number offset parts) =
    Answers side (Ok (upload_cmd known file_length)) (ul_go_resp number offset)
AnsweredFirst known file_length side (ended number offset parts word) =
    Answers side (Ok (upload_cmd known file_length)) (ul_go_resp number offset)

-- A session of an upload of this file, with this number: it answered these packets so, and is in this state, unless
-- the replies to its last packet didn't fit.
pub record ServesUpload (known : ℕ) (file : List ℕ) (side : ServerSide) : Type 0 where
  pub stage : Receiving
  pub items : answered_in side.entries ≡ received_items known (length file) stage
  pub said : session.said_in side.entries ≡ receiving_said stage
  pub state : AllByRecursion session.IsNotLost side.entries → IsReceivingState stage side.connected.state
  pub offered : IsOfferedBy known stage
  pub first : AnsweredFirst known (length file) side stage

-- How far a client has come with an upload: it has said nothing; it has asked; or it was offered the number, from an
-- offset on, and has said these packets since.
pub data Sending : Type 0 where
  silent : Sending
  asked : Sending
  sends : ℕ → ℕ → List PacketValue → Sending

-- what it has said, of an upload with this number and length
abbrev pub sending_said : ℕ → ℕ → Sending → List PacketValue
sending_said known file_length silent = []
sending_said known file_length asked = upload_cmd known file_length ∷ []
sending_said known file_length (sends number offset packets) = upload_cmd known file_length ∷ packets

-- the offer came, and what was said since goes on with the file
abbrev pub IsSendingFile : List ℕ → ClientSide → Sending → Type 0
IsSendingFile file side silent = ⊤
IsSendingFile file side asked = ⊤
IsSendingFile file side (sends number offset packets) =
    Took side (ul_go_resp number offset) × GoesOnWith file offset packets

-- A client of an upload of this file, with this number, has said this much.
pub record SaysUpload (known : ℕ) (file : List ℕ) (side : ClientSide) : Type 0 where
  pub stage : Sending
  pub said : said_by_client side ≡ sending_said known (length file) stage
  pub sends_file : IsSendingFile file side stage
