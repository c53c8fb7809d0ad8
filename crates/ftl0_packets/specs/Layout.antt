-- The layout of FTL0 packets (FTL0 1990, packet format): two octets of header, then the information.
use Rattle.std.specs.Prelude.{◌≡◌, ℕ, ◌+◌, ◌*◌, ◌/◌, ◌%◌, ◌^◌, ◌<◌, ◌==◌, List, [], ◌∷◌, ◌++◌, length, Bool, false, ◌||◌, nat_lt, if◌then◌else◌, Result, Ok, Err, ⊤}
use Rattle.px_base.specs.Numbers.{le16_octets, le32_octets}
use Rattle.px_base.specs.Octets.{IsOctets}
use Rattle.ftl0_packets.specs.declared.packet.Malformed.{Malformed}

-- a packet without where its octets lie
pub data PacketValue : Type 0 where
  data_part : List ℕ → PacketValue
  data_end : PacketValue
  login_resp : ℕ → ℕ → PacketValue
  upload_cmd : ℕ → ℕ → PacketValue
  ul_go_resp : ℕ → ℕ → PacketValue
  ul_error_resp : ℕ → PacketValue
  ul_ack_resp : PacketValue
  ul_nak_resp : ℕ → PacketValue
  download_cmd : ℕ → ℕ → ℕ → PacketValue
  dl_error_resp : ℕ → PacketValue
  dl_aborted_resp : PacketValue
  dl_completed_resp : PacketValue
  dl_ack_cmd : PacketValue
  dl_nak_cmd : PacketValue
  dir_short_cmd : ℕ → PacketValue
  dir_long_cmd : ℕ → PacketValue
  select_cmd : List ℕ → PacketValue
  select_resp : ℕ → PacketValue

-- the type of a packet, bits 4 to 0 of the second octet
abbrev pub kind_of : PacketValue → ℕ
kind_of (data_part octets) = 0
kind_of data_end = 1
kind_of (login_resp moment flags) = 2
kind_of (upload_cmd number file_length) = 3
kind_of (ul_go_resp number offset) = 4
kind_of (ul_error_resp code) = 5
kind_of ul_ack_resp = 6
kind_of (ul_nak_resp code) = 7
kind_of (download_cmd number offset lock) = 8
kind_of (dl_error_resp code) = 9
kind_of dl_aborted_resp = 10
kind_of dl_completed_resp = 11
kind_of dl_ack_cmd = 12
kind_of dl_nak_cmd = 13
kind_of (dir_short_cmd number) = 14
kind_of (dir_long_cmd number) = 15
kind_of (select_cmd tokens) = 16
kind_of (select_resp count) = 17

-- what follows the two octets of header
abbrev pub information : PacketValue → List ℕ
information (data_part octets) = octets
information data_end = []
information (login_resp moment flags) = le32_octets moment ++ flags ∷ []
information (upload_cmd number file_length) = le32_octets number ++ le32_octets file_length
information (ul_go_resp number offset) = le32_octets number ++ le32_octets offset
information (ul_error_resp code) = code ∷ []
information ul_ack_resp = []
information (ul_nak_resp code) = code ∷ []
information (download_cmd number offset lock) = le32_octets number ++ le32_octets offset ++ lock ∷ []
information (dl_error_resp code) = code ∷ []
information dl_aborted_resp = []
information dl_completed_resp = []
information dl_ack_cmd = []
information dl_nak_cmd = []
information (dir_short_cmd number) = le32_octets number
information (dir_long_cmd number) = le32_octets number
information (select_cmd tokens) = tokens
information (select_resp count) = le16_octets count

-- each field has its range
abbrev pub Fits : PacketValue → Type 0
Fits (data_part octets) = (length octets < 2048) × IsOctets octets
Fits data_end = ⊤
Fits (login_resp moment flags) = (moment < 2 ^ 32) × (flags < 256)
Fits (upload_cmd number file_length) = (number < 2 ^ 32) × (file_length < 2 ^ 32)
Fits (ul_go_resp number offset) = (number < 2 ^ 32) × (offset < 2 ^ 32)
Fits (ul_error_resp code) = code < 256
Fits ul_ack_resp = ⊤
Fits (ul_nak_resp code) = code < 256
Fits (download_cmd number offset lock) = (number < 2 ^ 32) × (offset < 2 ^ 32) × (lock < 256)
Fits (dl_error_resp code) = code < 256
Fits dl_aborted_resp = ⊤
Fits dl_completed_resp = ⊤
Fits dl_ack_cmd = ⊤
Fits dl_nak_cmd = ⊤
Fits (dir_short_cmd number) = number < 2 ^ 32
Fits (dir_long_cmd number) = number < 2 ^ 32
Fits (select_cmd tokens) = (length tokens < 2048) × IsOctets tokens
Fits (select_resp count) = count < 2 ^ 16

-- whether this many octets of information are a length that the type has; a type above 17 has none
abbrev pub has_length : ℕ → ℕ → Bool
has_length kind len =
    if (kind == 0) || (kind == 16) then nat_lt len 2048
    else if (kind == 1) || (kind == 6) || (kind == 10) || (kind == 11) || (kind == 12) || (kind == 13) then len == 0
    else if (kind == 5) || (kind == 7) || (kind == 9) then len == 1
    else if kind == 17 then len == 2
    else if (kind == 14) || (kind == 15) then len == 4
    else if kind == 2 then len == 5
    else if (kind == 3) || (kind == 4) then len == 8
    else if kind == 8 then len == 9
    else false

-- The two octets of header: the length's low eight bits, then its upper three bits above the type.
abbrev pub header : ℕ → ℕ → List ℕ
header kind len = len % 256 ∷ (32 * (len / 256) + kind) ∷ []

-- the octets of a packet of this type with this information
abbrev pub text_of : ℕ → List ℕ → List ℕ
text_of kind info = header kind (length info) ++ info

-- the octets of a packet
abbrev pub packet_text : PacketValue → List ℕ
packet_text packet = text_of (kind_of packet) (information packet)

-- What stands in a packet's place: a packet, or one that is malformed by its type and length.
abbrev pub Item : Type 0
Item = Result PacketValue Malformed

-- These octets are the text of the packet; or of a malformed one, whose type is above 17 or hasn't this length.
abbrev pub PacketText : Item → List ℕ → Type 0
PacketText (Ok packet) octets =
    Fits packet × (octets ≡ packet_text packet)
PacketText (Err malformed) octets =
    (info : List ℕ) × (malformed.kind < 32) × (malformed.len < 2048) × (length info ≡ malformed.len)
    × IsOctets info × (octets ≡ text_of malformed.kind info)
    × (has_length malformed.kind malformed.len ≡ false)
