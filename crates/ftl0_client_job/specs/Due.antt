-- What a job sends without being asked, one packet after another (FTL0 1990, uploading): DATA of the file, then
-- DATA_END.
use Rattle.std.specs.Prelude.{◌≡◌, ℕ, ◌+◌, ◌-◌, ◌==◌, min, List, length, take, drop, Bool, true, false, if◌then◌else◌}
use Rattle.std.specs.Prelude.{Option, None, Some}
use Rattle.std.specs.Option.{option_map}
use Rattle.ftl0_packets.specs.Layout.{PacketValue, data_end, data_part, packet_text}
use Rattle.ftl0_client_job.specs.declared.ending.Ending.{Ending}
use Rattle.ftl0_client_job.specs.declared.phases.UploadPhase.{UploadPhase}
use Rattle.ftl0_client_job.specs.declared.phases.UploadPhase.TheVariants as phase
use Rattle.ftl0_client_job.specs.declared.work.Work.{Work}
use Rattle.ftl0_client_job.specs.declared.work.Work.TheVariants as work
use Rattle.ftl0_client_job.specs.Table.{JobState, new_job}
use Rattle.ftl0_client_job.specs.Upload.{Upload, in_phase}

-- a packet that is sent, and the state after it
pub record DuePacket (S : Type 0) : Type 0 where
  pub packet : PacketValue
  pub state : S

-- how many octets a DATA has at most
abbrev pub most_data : ℕ
most_data = 254

-- the place after the next DATA
abbrev pub place_after : Upload → ℕ → ℕ
place_after at place = place + min most_data (length at.file - place)

-- While octets are left from this place on, DATA of the next 254, the last one shorter; then DATA_END, and it waits for
-- UL_ACK_RESP or UL_NAK_RESP.
abbrev pub due_from : Upload → ℕ → ℕ → DuePacket Upload
due_from at number place =
    if length (drop place at.file) == 0 then record { packet = data_end; state = in_phase at (phase.Ack number) }
    else record {
      packet = data_part (take most_data (drop place at.file));
      state = in_phase at (phase.Sending number (place_after at place));
    }

-- what is due of an upload: nothing but while the file is sent
abbrev pub due_in : UploadPhase → Upload → Option (DuePacket Upload)
due_in phase.Login at = None
due_in phase.Go at = None
due_in (phase.Sending number place) at = Some (due_from at number place)
due_in (phase.Ack number) at = None

abbrev pub upload_due : Upload → Option (DuePacket Upload)
upload_due at = due_in at.phase at

-- what an upload sends, as one kind of work
abbrev pub in_work : DuePacket Upload → DuePacket Work
in_work next = record { packet = next.packet; state = work.Upload next.state }

abbrev pub work_due : Work → Option (DuePacket Work)
work_due (work.Upload at) = option_map in_work (upload_due at)
work_due (work.Directory at) = None
work_due (work.Download at) = None

-- what a job sends
abbrev pub in_job : DuePacket Work → DuePacket JobState
in_job next = record { packet = next.packet; state = new_job next.state }

abbrev pub due_by : Option Ending → Work → Option (DuePacket JobState)
due_by None doing = option_map in_job (work_due doing)
due_by (Some ending) done = None

-- What is due next: nothing but while a file is sent, and nothing after the outcome.
abbrev pub next_due : JobState → Option (DuePacket JobState)
next_due job = due_by job.ending job.work

-- this packet is due, and its octets were put; or none is, and nothing changed
abbrev pub PutsDue : {S : Type 0} → Option (DuePacket S) → Bool → S → S → List ℕ → List ℕ → Type 0
PutsDue None put state state_now out out_now = (put ≡ false) × (state_now ≡ state) × (out_now ≡ out)
PutsDue (Some due) put state state_now out out_now =
    (put ≡ true) × (state_now ≡ due.state) × (out_now ≡ packet_text due.packet)
