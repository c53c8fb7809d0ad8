-- What is done at the end of each event, while the link is up: what is due is queued, and then the link is hung up if
-- that was to be done later (FTL0 1990, uploading; AX.25 2.0, 2.4.3.3).
use Rattle.std.specs.Prelude.{ℕ, ◌==◌, Bool, false, ◌&&◌, if◌then◌else◌, Option, None, Some}
use Rattle.ax25_link.specs.Calls.{after_hang_up, after_push}
use Rattle.ax25_link.specs.Ends.{LinkEnd, free_octets, most_held}
use Rattle.ax25_link.specs.Timer.{is_up}
use Rattle.ftl0_packets.specs.Layout.{packet_text}
use Rattle.packet_link.specs.Queuing.{filling}
use Rattle.ftl0_client_job.specs.declared.ending.Ending.{Ending}
use Rattle.ftl0_client_job.specs.Due.{DuePacket, next_due}
use Rattle.ftl0_client_job.specs.Table.{JobState}
use Rattle.ftl0_client.specs.Attempt.Attempted.{Attempted}

-- a packet that is due was queued
abbrev pub after_due : DuePacket JobState → Attempted → Attempted
after_due due a = record a { end = after_push a.end (packet_text due.packet); job = due.state }

-- Packets that are due are queued, one after another, while enough octets are free: this number of them at most. After
-- the outcome none is due.
abbrev pub queuing : ℕ → Attempted → Attempted
queuing more a = filling (λ at. at.end) (λ at. next_due at.job) after_due more a

-- whether the job has an outcome after which the link is hung up later
abbrev pub is_later : Option Ending → Bool
is_later None = false
is_later (Some ending) = ending.later

-- whether all that was queued is acknowledged
abbrev pub is_all_free : LinkEnd → Bool
is_all_free end = free_octets end == most_held

-- the link is hung up once all is acknowledged, if that was to be done later
abbrev pub parting_later : Attempted → Attempted
parting_later a =
    if is_later a.job.ending && is_all_free a.end then record a { end = after_hang_up a.end } else a

-- The end of an event. Each packet takes some of the octets that are free, so there are no more of them than that.
abbrev pub settled : Attempted → Attempted
settled a = if is_up a.end.state then parting_later (queuing (free_octets a.end) a) else a
