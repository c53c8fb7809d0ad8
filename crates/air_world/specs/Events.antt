-- Which station takes part in an event, and what reaches it.
use Rattle.std.specs.Prelude.{◌≡◌, ℕ, ◌+◌, List, [], ◌∷◌, length, Some}
use Rattle.ax25_link.specs.Air.{IsAt, Transmission}
use Rattle.turn_loop.specs.Events.{NodeEvent, hears, ticks}
use Rattle.client_notes.specs.Answers.{fresh_task}
use Rattle.client_notes.specs.Command.{NotesCommand}
use Rattle.client_notes.specs.Notes.{Task, task_count, task_of}
use Rattle.ftl0_client_job.specs.Directory.{new_directory}
use Rattle.ftl0_client_job.specs.Download.{new_download}
use Rattle.ftl0_client_job.specs.Table.{new_job}
use Rattle.ftl0_client_job.specs.Upload.{new_upload}
use Rattle.ftl0_client_job.specs.declared.work.Work.{Work}
use Rattle.ftl0_client_job.specs.declared.work.Work.TheVariants as work
use Rattle.ftl0_client.specs.Client as client
use Rattle.ftl0_client.specs.Client.{ClientEvent, asks}
use Rattle.sha2.specs.Sha256.{sha256}
use Rattle.air_world.specs.Attempts.Attempt.{Attempt}
use Rattle.air_world.specs.Lawful.{last_unfinished}
use Rattle.air_world.specs.Attempts.Lists.{Placed}
use Rattle.air_world.specs.Attempts.Party.{Asked, IsFileOf, Party, newest, to_client_delivered, to_server_delivered}
use Rattle.air_world.specs.Attempts.Party.{with_newest}
use Rattle.air_world.specs.Schedule.{Event, ask_download, ask_list, ask_resume, ask_upload, tick_client, tick_server}
use Rattle.air_world.specs.Schedule.{to_client, to_server}
use Rattle.air_world.specs.Files.Uploads.{upload_file, upload_name}
use Rattle.air_world.specs.World.{PartyAt, World, next_moment, with_party}

-- the transmission at this place of those that these are in the client's current attempt
pub record IsSent (party : Party) (sent : Attempt → List Transmission) (place : ℕ) (t : Transmission) : Type 0 where
  pub attempt : Attempt
  pub current : newest party ≡ Some attempt
  pub is_at : IsAt (sent attempt) place t

-- the client with its current attempt made into this
abbrev pub with_current : (Attempt → Attempt) → Party → Party
with_current change party = record party { attempts = with_newest change party.attempts }

-- A transmission of the client at this place is delivered to the server: this reaches the server, and the world has the
-- delivery marked.
pub record DeliversToServer (old : World) (c place : ℕ) (coming : NodeEvent) (delivered : World) : Type 0 where
  pub party : Party
  pub is_party : PartyAt old c party
  pub t : Transmission
  pub sent : IsSent party (λ a. a.by_client) place t
  pub coming_is : coming ≡ hears t.frame (next_moment old)
  pub delivered_is : delivered ≡ with_party old c (with_current (to_server_delivered place t) party)

-- The server takes part in the event: this reaches it, and the world has the delivery, if it is one, marked.
abbrev pub ServerTakes : World → Event → NodeEvent → World → Type 0
ServerTakes old (to_server number place) coming delivered =
    Placed number (λ c. Placed place (λ at. DeliversToServer old c at coming delivered))
ServerTakes old tick_server coming delivered = (coming ≡ ticks (next_moment old)) × (delivered ≡ old)
ServerTakes old event coming delivered = ⊥

-- The part of a client in an event: the client, with the delivery, if it is one, marked; what reaches it; the start of
-- a task that is noted before; and the upload that is asked, if one is, by its number and by its client and file.
pub record ClientPart : Type 0 where
  pub party : Party
  pub coming : ClientEvent
  pub started : List NotesCommand
  pub begun : List ℕ
  pub asked : List Asked

-- the part that begins no task
abbrev pub part_with : Party → ClientEvent → ClientPart
part_with party coming = record { party = party; coming = coming; started = []; begun = []; asked = [] }

-- it is asked for this work
abbrev pub asking : Party → Work → ClientPart
asking party wanted = part_with party (asks (new_job wanted))

-- A new file is asked: its task is started, under this name, with its length and digest, and then it is sent. It is the
-- next upload.
abbrev pub asking_file : World → Asked → Party → ClientPart
asking_file world it party =
    record {
      party = party;
      coming = asks (new_job (work.Upload (new_upload (task_count party.client.lists + 1) 0 it.file)));
      started =
          fresh_task party.client.lists party.client.server party.client.me it.name (length it.file) (sha256 it.file)
          ∷ [];
      begun = length world.files ∷ [];
      asked = it ∷ [];
    }

-- the upload that a schedule asks next of the client at this place, with a body of this number of octets
abbrev pub next_upload : World → ℕ → ℕ → Asked
next_upload world c count =
    record {
      client = c;
      name = upload_name (length world.files);
      file = upload_file (length world.files) count;
    }

-- The last unfinished upload is asked again: with its task, its number, if it has one, and its file.
pub record IsResuming (world : World) (party : Party) (part : ClientPart) : Type 0 where
  pub task : ℕ
  pub last : last_unfinished party.client.lists ≡ Some task
  pub entry : Task
  pub is_entry : task_of party.client.lists task ≡ Some entry
  pub file : List ℕ
  pub is_file : IsFileOf world.files party task file
  pub part_is : part ≡ asking party (work.Upload (new_upload task entry.number file))

-- a transmission of the server at this place is delivered to the client
pub record DeliversToClient (party : Party) (place : ℕ) (part : ClientPart) : Type 0 where
  pub t : Transmission
  pub sent : IsSent party (λ a. a.by_server) place t
  pub part_is : part ≡ part_with (with_current (to_client_delivered place t) party) (client.hears t.frame)

-- the client of this number is at this place, and it is so
abbrev pub IsPartOf : World → ℕ → ℕ → (Party → Type 0) → Type 0
IsPartOf world number c P =
    Placed number (λ place. (c ≡ place) × ((party : Party) × PartyAt world c party × P party))

-- The client at this place takes part in the event, with this part.
abbrev pub ClientTakes : World → Event → ℕ → ClientPart → Type 0
ClientTakes old (ask_upload number count) c part =
    IsPartOf old number c (λ party. part ≡ asking_file old (next_upload old c count) party)
ClientTakes old (ask_resume number) c part = IsPartOf old number c (λ party. IsResuming old party part)
ClientTakes old (ask_list number tokens) c part =
    IsPartOf old number c (λ party. part ≡ asking party (work.Directory (new_directory tokens)))
ClientTakes old (ask_download number file) c part =
    IsPartOf old number c (λ party. part ≡ asking party (work.Download (new_download party.client.server file)))
ClientTakes old (to_client number place) c part =
    IsPartOf old number c (λ party. Placed place (λ at. DeliversToClient party at part))
ClientTakes old (tick_client number) c part = IsPartOf old number c (λ party. part ≡ part_with party client.ticks)
ClientTakes old event c part = ⊥
