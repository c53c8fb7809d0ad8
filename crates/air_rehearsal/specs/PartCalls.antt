-- What the calls do by which a client takes part in an event.
use Rattle.std.specs.Prelude.{◌≡◌, ℕ, ◌+◌, ◌<◌, List, [], ◌∷◌, ◌++◌, length, nat_lt, if◌then◌else◌, Result, IfSome}
use Rattle.std.specs.Prelude.{IsErrOf, OnOk}
use Rattle.std.specs.Prelude.{false}
use Rattle.px_base.specs.Outside.{Rose}
use Rattle.sha2.specs.Sha256.{sha256}
use Rattle.disk_model.specs.Cuts.{Cuts, Failed}
use Rattle.disk_model.specs.declared.disk.Disk.{Ghosts}
use Rattle.disk_model.specs.declared.halt.Halt.{Halt}
use Rattle.disk_model.specs.declared.halt.Halt.TheVariants as halt
use Rattle.disk_model.specs.Runs.{EachImage}
use Rattle.ax25_link.specs.Window.{window_of}
use Rattle.client_notes.specs.Command.{NotesCommand}
use Rattle.client_notes.specs.Notes.{Lists, task_count}
use Rattle.client_notes.specs.Records.{notes_form}
use Rattle.client_notes.specs.State.{StandsFor}
use Rattle.ftl0_client_job.specs.JobState.{HasTask, IsTaskOf}
use Rattle.ftl0_client_job.specs.Upload.{new_upload}
use Rattle.ftl0_client.specs.Client.{Client, new_client}
use Rattle.ftl0_client.specs.ClientState.{ClientState, IsClient}
use Rattle.ftl0_client.specs.ClientStep.{Empties, happening}
use Rattle.ax25_frames.specs.FrameText.{FrameValue}
use Rattle.air_world.specs.Attempts.Party.{Party}
use Rattle.air_world.specs.Events.{ClientPart}
use Rattle.air_world.specs.Step.{client_started}
use Rattle.air_rehearsal.specs.Chain.{StartsAgain}
use Rattle.air_rehearsal.specs.Lanes.{HasLanes, Lanes, lanes_of, sending_each}
use Rattle.air_rehearsal.specs.Standing.{least_done}
use Rattle.air_rehearsal.specs.Stations.{client_at}
use Rattle.air_rehearsal.specs.TakingPart.{CarriesPart, CutsPart, HasAll, HasDone, PartyGoes, PartyIsCut}
use Rattle.air_rehearsal.specs.Worlds.{IsSteady, PlaysParty}
use Rattle.air_rehearsal.specs.declared.part.Part.{Part}
use Rattle.air_rehearsal.specs.declared.part.Part.TheVariants as stored
use Rattle.air_rehearsal.specs.declared.party.Party.{Party as StoredParty}

-- The notes have the task of this number, unfinished, with this number on the server, and the task is of this client
-- and of this file.
pub record HasTaskOf (self : ClientState) (task number : ℕ) (file : List ℕ) : Type 0 where
  pub has : HasTask self.notes.lists (new_upload task number file)
  pub own : IsTaskOf self.notes.lists self.server self.me (sha256 file) task

-- but for the client and what was sent it is as it was
abbrev pub KeepsOthers : StoredParty → StoredParty → Type 0
KeepsOthers old new = new ≡ record old { client = new.client; attempt = new.attempt }

-- but for the notes it is as it was
abbrev pub KeepsButNotes : StoredParty → StoredParty → Type 0
KeepsButNotes old new = new ≡ record old { client = record old.client { notes = new.client.notes } }

-- but for the client it is as it was
abbrev pub KeepsButClient : StoredParty → StoredParty → Type 0
KeepsButClient old new = new ≡ record old { client = new.client }

-- which uploads the tasks are, where so many tasks are noted: the last one is this upload, if it was just begun
abbrev pub uploads_then : ℕ → ℕ → List ℕ → List ℕ
uploads_then tasks upload uploads = if nat_lt (length uploads) tasks then uploads ++ upload ∷ [] else uploads

-- so it is of a part, where only a new upload begins a task
abbrev pub uploads_by : Part → ℕ → List ℕ → List ℕ
uploads_by (stored.Upload upload file) tasks uploads = uploads_then tasks upload uploads
uploads_by (stored.Resume task number file) tasks uploads = uploads
uploads_by (stored.List tokens) tasks uploads = uploads
uploads_by (stored.Download number) tasks uploads = uploads
uploads_by (stored.Hear place) tasks uploads = uploads
uploads_by stored.Tick tasks uploads = uploads

module _ {D : Type 0} (g : Ghosts D) where
  -- What a part's commands did to the disk, however far they came. Where the disk failed its count of failed writes
  -- rose, and no fewer of them are done than the calls before the failing one carry out. Where nothing stopped them all
  -- of them are done.
  pub record TouchesDisk {T : Type 0} (whole : ClientPart) (disk disk_now : D) (came : Result T Halt) : Type 0 where
    pub carries : CarriesPart g whole disk disk_now
    pub reads : g.read_faults disk_now ≡ g.read_faults disk
    pub fails : IsErrOf came halt.Disk → Rose (g.write_faults disk) (g.write_faults disk_now)
    pub cut :
        IsErrOf came halt.Disk → (calls : ℕ) → g.moment disk + calls < g.moment disk_now
        → IfSome (g.content disk) (λ _.
        EachImage g disk_now (HasDone (least_done Failed calls Lists NotesCommand notes_form) whole))
    pub done : OnOk came (EachImage g disk_now (HasAll whole))

  -- the same, and the delivery, if it is one, is marked
  pub record TouchesPart {T : Type 0} (whole : ClientPart) (new : StoredParty) (disk disk_now : D)
      (came : Result T Halt) : Type 0 where
    pub lanes : HasLanes new.attempt (lanes_of whole.party.attempts)
    pub touches : TouchesDisk whole disk disk_now came

  -- The client is what the part makes of it before it sends anything.
  pub record BeginsPart (whole : ClientPart) (old new : StoredParty) (disk disk_now : D) : Type 0 where
    pub client : IsClient new.client (happening (client_started whole) whole.coming).after
    pub lanes : HasLanes new.attempt (lanes_of whole.party.attempts)
    pub uploads : new.uploads.items ≡ whole.party.uploads ++ whole.begun
    pub cut : new.cut ≡ old.cut
    pub carries : CarriesPart g whole disk disk_now

  -- The client took part in an event that isn't cut, and is this one.
  pub record ActsPart (whole : ClientPart) (old new : StoredParty) (disk disk_now : D) : Type 0 where
    pub next : Party
    pub goes : PartyGoes whole next
    pub carries : CarriesPart g whole disk disk_now
    pub plays : PlaysParty new next

  -- The client starts again from its disk, whose content stands for its notes.
  pub record Restarts (old new : StoredParty) (disk disk_now : D) : Type 0 where
    pub keeps : KeepsButClient old new
    pub client : IsClient new.client (new_client old.me old.server (window_of old.k) new.client.notes.lists)
    pub stands : IfSome (g.content disk) (λ before. StandsFor before new.client.notes.lists)
    pub again : (c : ℕ) → StartsAgain g (client_at c) disk disk_now

-- The task of an upload that was asked is begun: it is the next one.
pub record StartsTask (whole : ClientPart) (task : ℕ) (new : StoredParty) : Type 0 where
  pub client : IsClient new.client (client_started whole)
  pub task_is : task ≡ task_count whole.party.client.lists + 1
  pub count : task_count new.client.notes.lists ≡ length new.uploads.items + 1

-- All that this client has to send is sent, in lanes that were these.
pub record SaysAll (client : Client) (lanes : Lanes) (new : StoredParty) : Type 0 where
  pub frames : List FrameValue
  pub last : Client
  pub empties : Empties client frames last
  pub is_last : IsClient new.client last
  pub lanes_are : HasLanes new.attempt (sending_each frames lanes)

module _ {B : Type 0} (g : Ghosts B) (cuts : Cuts B) where
  -- The client took part in an event that was cut at the call of this number, and is this one.
  pub record BeCut (call : ℕ) (whole : ClientPart) (new : StoredParty) (disk disk_now : B) : Type 0 where
    pub next : Party
    pub is_cut : PartyIsCut whole next
    pub cut : CutsPart g cuts call whole next disk disk_now
    pub plays : PlaysParty new next
    pub steady : cuts.is_starved disk_now ≡ false → IsSteady g cuts disk_now
