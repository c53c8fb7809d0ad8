-- What a link that carries packets keeps, and its fields as contracts see them.
use Rattle.ftl0_packets.specs.Reading.{under_way}
use Rattle.packet_link.specs.PacketLink.{IsWaiting, PacketLinkState, StandsForSome}
use Rattle.packet_link.specs.declared.carrying.PacketLink.TheInside.{Inside}

abbrev pub packet_link_state : Inside → PacketLinkState
packet_link_state a = record { link = a.link; reader = a.reader }

-- The link stands for some end. The octets that were accepted and of which no packet was taken wait.
pub record IsInside (a : Inside) : Type 0 where
  pub some : StandsForSome a.link
  pub waiting : IsWaiting (under_way a.reader)
