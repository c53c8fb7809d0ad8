-- The names of specs, and of the crates below, that proofs use, in one place.
pub use Rattle.ax25_link.specs.Calls.{after_push}
pub use Rattle.ax25_link.specs.Ends.{Farewell, LinkEnd, Reply, free_octets, ready}
pub use Rattle.ax25_link.specs.Kept.{GivesNext, HandsOut, Kept, SameStations, StandsFor, Steps, Tells}
pub use Rattle.ax25_link.specs.declared.state.Heard.TheVariants.{Bytes, Closed}
pub use Rattle.ftl0_packets.proofs.OctetLemmas.{IsOctets-append, IsOctets-nil, IsOctets-take, octets_from}
pub use Rattle.ftl0_packets.specs.Layout.{Item, PacketValue, packet_text}
pub use Rattle.ftl0_packets.specs.Reading.{is_whole, packets_of, read_item, rest_of, under_way}
pub use Rattle.packet_link.specs.PacketLink.{FindsPacket, HasFront, IsOpen, IsWaiting, PacketLinkState, StandsForSome}
pub use Rattle.std.specs.Prelude.{IsTrue, None, Option, Some, nat_eq, nat_le, nat_lt, ⊤}
