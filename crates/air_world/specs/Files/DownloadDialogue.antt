-- How far the two sides of an attempt have come with the download of a file (FTL0 1990, downloading).
use Rattle.std.specs.Prelude.{◌≡◌, ◌≢◌, ◌⊎◌, ℕ, ◌+◌, ◌≤◌, List, [], ◌∷◌, ◌++◌, length, drop, map, Ok, Some, ⊤}
use Rattle.std.specs.List.{AllByRecursion, concat}
use Rattle.px_base.specs.Octets.{IsFront}
use Rattle.ftl0_packets.specs.ErrorCodes.{octet_of}
use Rattle.ftl0_packets.specs.Layout.{Item, PacketValue, data_end, data_part, dl_aborted_resp, dl_ack_cmd}
use Rattle.ftl0_packets.specs.Layout.{dl_completed_resp, dl_error_resp, dl_nak_cmd, download_cmd}
use Rattle.ftl0_packets.specs.declared.error_code.ErrorCode.TheVariants as error
use Rattle.file_store.specs.Store.{Store}
use Rattle.ftl0_session.specs.Downloads.Table.{file_of}
use Rattle.ftl0_session.specs.Table.{State, command, sending, waiting}
use Rattle.ftl0_server.specs.Entries as session
use Rattle.air_world.specs.Attempts.Said.{Took}
use Rattle.air_world.specs.Attempts.Sides.{ClientSide, ServerSide, said_by_client}
use Rattle.air_world.specs.Files.UploadDialogue.{answered_in}

-- DL_ACK_CMD or DL_NAK_CMD for a file that came, or didn't; and the answer to it
abbrev pub IsWord : PacketValue → Type 0
IsWord packet = (packet ≡ dl_ack_cmd) ⊎ (packet ≡ dl_nak_cmd)

abbrev pub IsLast : PacketValue → Type 0
IsLast packet = (packet ≡ dl_completed_resp) ⊎ (packet ≡ dl_aborted_resp)

-- How far a session of a download has come: nothing was asked; it refused an offset, with a code; it sends from an
-- offset on, and DATA with these octets were queued; all were, and it waits for DL_ACK_CMD or DL_NAK_CMD; or that came,
-- and it gave its answer.
pub data Sending : Type 0 where
  unasked : Sending
  refused : ℕ → ℕ → Sending
  sends : ℕ → List (List ℕ) → Sending
  waits : ℕ → List (List ℕ) → Sending
  ended : ℕ → List (List ℕ) → PacketValue → PacketValue → Sending

-- the packets that it took, of a download of the file of this number
abbrev pub sending_items : ℕ → Sending → List Item
sending_items number unasked = []
sending_items number (refused offset code) = Ok (download_cmd number offset 0) ∷ []
sending_items number (sends offset parts) = Ok (download_cmd number offset 0) ∷ []
sending_items number (waits offset parts) = Ok (download_cmd number offset 0) ∷ []
sending_items number (ended offset parts word last) = Ok (download_cmd number offset 0) ∷ Ok word ∷ []

-- what it said
abbrev pub sending_said : Sending → List PacketValue
sending_said unasked = []
sending_said (refused offset code) = dl_error_resp code ∷ []
sending_said (sends offset parts) = map data_part parts
sending_said (waits offset parts) = map data_part parts ++ data_end ∷ []
sending_said (ended offset parts word last) = map data_part parts ++ data_end ∷ last ∷ []

-- its state: what is due still is the rest of the file
abbrev pub IsSendingState : ℕ → List ℕ → Sending → State → Type 0
IsSendingState number file unasked state = state ≡ command
IsSendingState number file (refused offset code) state = state ≡ command
IsSendingState number file (sends offset parts) state =
    state ≡ sending number (offset + length (concat parts)) (length file)
IsSendingState number file (waits offset parts) state = state ≡ waiting
IsSendingState number file (ended offset parts word last) state = state ≡ command

-- the octets that were sent are the file's from the offset on
pub record AreSentFrom (store : Store) (number offset : ℕ) (file : List ℕ) (parts : List (List ℕ)) : Type 0 where
  pub is_file : file_of store number ≡ Some file
  pub within : offset ≤ length file
  pub sent : IsFront (concat parts) (drop offset file)

-- all of them
abbrev pub AreAllSent : Store → ℕ → ℕ → List ℕ → List (List ℕ) → Type 0
AreAllSent store number offset file parts =
    AreSentFrom store number offset file parts × (concat parts ≡ drop offset file)

-- What was sent of the file. No offset is refused as one above its length.
abbrev pub AreSent : Store → ℕ → List ℕ → Sending → Type 0
AreSent store number file unasked = ⊤
AreSent store number file (refused offset code) = code ≢ octet_of error.BadContinue
AreSent store number file (sends offset parts) = AreSentFrom store number offset file parts
AreSent store number file (waits offset parts) = AreAllSent store number offset file parts
AreSent store number file (ended offset parts word last) =
    AreAllSent store number offset file parts × IsWord word × IsLast last

-- A session of a download of the file of this number answered these packets so, and is in this state, unless the
-- replies to its last packet didn't fit.
pub record ServesDownload (store : Store) (number : ℕ) (side : ServerSide) : Type 0 where
  pub stage : Sending
  pub file : List ℕ
  pub items : answered_in side.entries ≡ sending_items number stage
  pub said : session.said_in side.entries ≡ sending_said stage
  pub state :
      AllByRecursion session.IsNotLost side.entries → IsSendingState number file stage side.connected.state
  pub sent : AreSent store number file stage

-- How far a client has come with a download: it has said nothing; it has asked from an offset on; or all came, and it
-- said DL_ACK_CMD or DL_NAK_CMD.
pub data Fetching : Type 0 where
  silent : Fetching
  asked : ℕ → Fetching
  told : ℕ → PacketValue → Fetching

-- what it has said
abbrev pub fetching_said : ℕ → Fetching → List PacketValue
fetching_said number silent = []
fetching_said number (asked offset) = download_cmd number offset 0 ∷ []
fetching_said number (told offset word) = download_cmd number offset 0 ∷ word ∷ []

-- if all came, it said DL_ACK_CMD or DL_NAK_CMD, and it took DATA_END
abbrev pub IsFetchingFile : ClientSide → Fetching → Type 0
IsFetchingFile side silent = ⊤
IsFetchingFile side (asked offset) = ⊤
IsFetchingFile side (told offset word) = IsWord word × Took side data_end

-- A client of a download of the file of this number has said this much.
pub record SaysDownload (number : ℕ) (side : ClientSide) : Type 0 where
  pub stage : Fetching
  pub said : said_by_client side ≡ fetching_said number stage
  pub fetches : IsFetchingFile side stage
