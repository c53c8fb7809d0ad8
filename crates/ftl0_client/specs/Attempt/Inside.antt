-- An attempt's fields as contracts see them.
use Rattle.packet_link.specs.PacketLink.{octets_in}
use Rattle.ftl0_client.specs.declared.attempt.attempt.Attempt.TheInside.{Inside}
use Rattle.ftl0_client.specs.Attempt.AttemptState.{AttemptState}

abbrev pub attempt_state : Inside → AttemptState
attempt_state a = record { link = a.link.link; octets = octets_in a.link; job = a.job; down = a.down }
