-- What takes packets says of them: a packet's type, malformed or not, and the octets of several.
use Rattle.std.specs.Prelude.{ℕ, List, flat_map, Ok, Err}
use Rattle.ftl0_packets.specs.Layout.{Item, PacketValue, kind_of, packet_text}

-- the type of a packet, malformed or not
abbrev pub kind_of_item : Item → ℕ
kind_of_item (Ok packet) = kind_of packet
kind_of_item (Err malformed) = malformed.kind

-- the texts of packets, one after another
abbrev pub texts : List PacketValue → List ℕ
texts packets = flat_map packet_text packets
