-- What contracts see of a packet that was read or is to be written: its fields, without where its octets lie.
use Rattle.std.specs.Prelude.{Result, Ok, Err, List, map}
use Rattle.ftl0_packets.specs.declared.packet.Packet.{Packet}
use Rattle.ftl0_packets.specs.declared.packet.Packet.TheVariants.{DataPart, DataEnd, LoginResp, UploadCmd, UlGoResp, UlErrorResp, UlAckResp, UlNakResp, DownloadCmd, DlErrorResp, DlAbortedResp, DlCompletedResp, DlAckCmd, DlNakCmd, DirShortCmd, DirLongCmd, SelectCmd, SelectResp}
use Rattle.ftl0_packets.specs.declared.packet.Malformed.{Malformed}
use Rattle.ftl0_packets.specs.Layout.{PacketValue, data_part, data_end, login_resp, upload_cmd, ul_go_resp, ul_error_resp, ul_ack_resp, ul_nak_resp, download_cmd, dl_error_resp, dl_aborted_resp, dl_completed_resp, dl_ack_cmd, dl_nak_cmd, dir_short_cmd, dir_long_cmd, select_cmd, select_resp, Item}

-- the packet without where its octets lie
abbrev pub value_of : Packet → PacketValue
value_of (DataPart octets) = data_part octets.now
value_of DataEnd = data_end
value_of (LoginResp moment flags) = login_resp moment flags
value_of (UploadCmd number file_length) = upload_cmd number file_length
value_of (UlGoResp number offset) = ul_go_resp number offset
value_of (UlErrorResp code) = ul_error_resp code
value_of UlAckResp = ul_ack_resp
value_of (UlNakResp code) = ul_nak_resp code
value_of (DownloadCmd number offset lock) = download_cmd number offset lock
value_of (DlErrorResp code) = dl_error_resp code
value_of DlAbortedResp = dl_aborted_resp
value_of DlCompletedResp = dl_completed_resp
value_of DlAckCmd = dl_ack_cmd
value_of DlNakCmd = dl_nak_cmd
value_of (DirShortCmd number) = dir_short_cmd number
value_of (DirLongCmd number) = dir_long_cmd number
value_of (SelectCmd tokens) = select_cmd tokens.now
value_of (SelectResp count) = select_resp count

-- what was read, a packet or a malformed one, without where its octets lie
abbrev pub item_of : Result Packet Malformed → Item
item_of (Ok packet) = Ok (value_of packet)
item_of (Err malformed) = Err malformed

-- the same of each of a list
abbrev pub items_of : List (Result Packet Malformed) → List Item
items_of read = map item_of read
