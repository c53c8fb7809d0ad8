-- How octets are read as packets (FTL0 1990, packet format): the header says where a packet ends.
use Rattle.std.specs.Prelude.{◌≡◌, ℕ, zero, suc, ◌+◌, ◌*◌, ◌/◌, ◌%◌, ◌==◌, List, [], ◌∷◌, length, take, drop, slice_index, Bool, nat_le, not, if◌then◌else◌, Ok, Err}
use Rattle.ftl0_packets.specs.declared.packet.Malformed.{Malformed}
use Rattle.px_base.specs.Numbers.{le16, le32}
use Rattle.ftl0_packets.specs.Layout.{PacketValue, data_part, data_end, login_resp, upload_cmd, ul_go_resp, ul_error_resp, ul_ack_resp, ul_nak_resp, download_cmd, dl_error_resp, dl_aborted_resp, dl_completed_resp, dl_ack_cmd, dl_nak_cmd, dir_short_cmd, dir_long_cmd, select_cmd, select_resp, has_length, Item}

-- How many octets the packet has that begins so: two of header, and the length of its information, which is the first
-- octet and, above it, bits 7 to 5 of the second. An octet that isn't there yet counts as 0.
abbrev pub text_len : List ℕ → ℕ
text_len octets = 2 + slice_index octets 0 + 256 * (slice_index octets 1 / 32)

-- whether the octets are as many as the packet has that begins so
abbrev pub is_whole : List ℕ → Bool
is_whole octets = length octets == text_len octets

-- what of a packet is under way after these octets of it: nothing once the packet is whole
abbrev pub under_way : List ℕ → List ℕ
under_way octets = if is_whole octets then [] else octets

-- the type that a packet's header says, bits 4 to 0 of the second octet
abbrev pub kind_in : List ℕ → ℕ
kind_in octets = slice_index octets 1 % 32

-- what follows the two octets of header
abbrev pub information_in : List ℕ → List ℕ
information_in octets = drop 2 octets

-- the packet of this type with this information
abbrev pub packet_from : ℕ → List ℕ → PacketValue
packet_from kind info =
    if kind == 0 then data_part info
    else if kind == 1 then data_end
    else if kind == 2 then login_resp (le32 info 0) (slice_index info 4)
    else if kind == 3 then upload_cmd (le32 info 0) (le32 info 4)
    else if kind == 4 then ul_go_resp (le32 info 0) (le32 info 4)
    else if kind == 5 then ul_error_resp (slice_index info 0)
    else if kind == 6 then ul_ack_resp
    else if kind == 7 then ul_nak_resp (slice_index info 0)
    else if kind == 8 then download_cmd (le32 info 0) (le32 info 4) (slice_index info 8)
    else if kind == 9 then dl_error_resp (slice_index info 0)
    else if kind == 10 then dl_aborted_resp
    else if kind == 11 then dl_completed_resp
    else if kind == 12 then dl_ack_cmd
    else if kind == 13 then dl_nak_cmd
    else if kind == 14 then dir_short_cmd (le32 info 0)
    else if kind == 15 then dir_long_cmd (le32 info 0)
    else if kind == 16 then select_cmd info
    else select_resp (le16 info 0)

-- the packet of this type with this information, or malformed where the type is above 17 or hasn't this length
abbrev pub item_from : ℕ → List ℕ → Item
item_from kind info =
    if has_length kind (length info) then Ok (packet_from kind info)
    else Err (record { kind = kind; len = length info })

-- whether the octets of a whole packet are malformed: their type is above 17, or hasn't this length
unfoldable pub is_malformed : List ℕ → Bool
is_malformed octets = not (has_length (kind_in octets) (length (information_in octets)))

-- the type and the length in octets that the octets of a whole packet say
unfoldable pub malformed_in : List ℕ → Malformed
malformed_in octets = record { kind = kind_in octets; len = length (information_in octets) }

-- what the octets of a whole packet say
unfoldable pub read_item : List ℕ → Item
read_item octets = item_from (kind_in octets) (information_in octets)

-- the whole packets at the front of the octets, at most so many
abbrev pub packets_within : ℕ → List ℕ → List Item
packets_within zero octets = []
packets_within (suc most) octets =
    if nat_le (text_len octets) (length octets)
    then read_item (take (text_len octets) octets) ∷ packets_within most (drop (text_len octets) octets)
    else []

-- what is left after these packets
abbrev pub rest_within : ℕ → List ℕ → List ℕ
rest_within zero octets = octets
rest_within (suc most) octets =
    if nat_le (text_len octets) (length octets) then rest_within most (drop (text_len octets) octets) else octets

-- the packets of the octets, one after another; there are no more of them than octets
unfoldable pub packets_of : List ℕ → List Item
packets_of octets = packets_within (length octets) octets

-- what is left after the packets, less than a whole one
unfoldable pub rest_of : List ℕ → List ℕ
rest_of octets = rest_within (length octets) octets

-- the octets have no whole packet: all of them are left
abbrev pub IsLeft : List ℕ → Type 0
IsLeft octets = rest_of octets ≡ octets
