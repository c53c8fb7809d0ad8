-- What becomes of a client, and of its disk, where it takes part in an event.
use Rattle.std.specs.Prelude.{◌≡◌, ℕ, ◌-◌, ◌<◌, ◌≤◌, List, length, slice_get, false, Option, None, Some, IfSome}
use Rattle.disk_model.specs.Cuts.{ArmsOnly, Cuts, KeepsPast, LosesPower}
use Rattle.disk_model.specs.declared.disk.Disk.{Ghosts}
use Rattle.disk_model.specs.Runs.{Leaves, TellsAlike}
use Rattle.client_notes.specs.Command.{NotesCommand}
use Rattle.client_notes.specs.Notes.{Lists, Task, task_of}
use Rattle.client_notes.specs.Records.{notes_form}
use Rattle.client_notes.specs.Several as notes
use Rattle.client_notes.specs.State.{StandsFor}
use Rattle.ftl0_client.specs.Client.{ticks}
use Rattle.ftl0_client.specs.ClientStep.{ClientStep}
use Rattle.ftl0_client_job.specs.Directory.{new_directory}
use Rattle.ftl0_client_job.specs.Download.{new_download}
use Rattle.ftl0_client_job.specs.Upload.{new_upload}
use Rattle.ftl0_client_job.specs.declared.work.Work.TheVariants as work
use Rattle.air_world.specs.Attempts.Party.{Asked, IsFileOf, Party}
use Rattle.air_world.specs.Attempts.Transfers.{ClientDid}
use Rattle.air_world.specs.Files.Uploads.{upload_file, upload_name}
use Rattle.air_world.specs.Cuts.{client_commands, party_cut}
use Rattle.air_world.specs.Events.{ClientPart, DeliversToClient, asking, asking_file, next_upload, part_with}
use Rattle.air_world.specs.Lawful.{last_unfinished}
use Rattle.air_world.specs.Sound.{Sound}
use Rattle.air_world.specs.Step.{client_started, party_after}
use Rattle.air_world.specs.World.{PartyAt, World}
use Rattle.air_rehearsal.specs.Chain.{StartsAgain}
use Rattle.air_rehearsal.specs.Standing.{least_done}
use Rattle.air_rehearsal.specs.Stations.{client_at}
use Rattle.air_rehearsal.specs.Worlds.{IsSteady, PlaysParty}
use Rattle.air_rehearsal.specs.declared.cuts.Cut.{Cut}
use Rattle.air_rehearsal.specs.declared.part.Part.{Part}
use Rattle.air_rehearsal.specs.declared.part.Part.TheVariants as stored
use Rattle.air_rehearsal.specs.declared.party.Party.{Party as StoredParty}

-- a client of a world, at its place
pub record Seat : Type 0 where
  pub world : World
  pub c : ℕ
  pub party : Party

-- each upload is noted under its number
abbrev pub AreNamed : List Asked → Type 0
AreNamed files = (upload : ℕ) (asked : Asked) → slice_get files upload ≡ Some asked → asked.name ≡ upload_name upload

-- The world is sound, and this is the client that is played.
pub record IsSeat (self : StoredParty) (seat : Seat) : Type 0 where
  pub sound : Sound seat.world
  pub named : AreNamed seat.world.files
  pub is_party : PartyAt seat.world seat.c seat.party
  pub plays : PlaysParty self seat.party

-- the last unfinished upload is asked again, with this task, number and file
pub record Resumes (seat : Seat) (task number : ℕ) (file : List ℕ) (part : ClientPart) : Type 0 where
  pub last : last_unfinished seat.party.client.lists ≡ Some task
  pub entry : Task
  pub is_entry : task_of seat.party.client.lists task ≡ Some entry
  pub number_is : number ≡ entry.number
  pub is_file : IsFileOf seat.world.files seat.party task file
  pub part_is : part ≡ asking seat.party (work.Upload (new_upload task number file))

-- the next upload is asked, with this number and file
pub record AsksNext (seat : Seat) (upload : ℕ) (file : List ℕ) (part : ClientPart) : Type 0 where
  pub upload_is : upload ≡ length seat.world.files
  pub count : ℕ
  pub file_is : file ≡ upload_file upload count
  pub part_is : part ≡ asking_file seat.world (next_upload seat.world seat.c count) seat.party

-- what the client does is this part in an event
abbrev pub IsPart : Seat → Part → ClientPart → Type 0
IsPart seat (stored.Upload upload file) part = AsksNext seat upload file part
IsPart seat (stored.Resume task number file) part = Resumes seat task number file part
IsPart seat (stored.List tokens) part = part ≡ asking seat.party (work.Directory (new_directory tokens))
IsPart seat (stored.Download number) part =
    part ≡ asking seat.party (work.Download (new_download seat.party.client.server number))
IsPart seat (stored.Hear place) part = DeliversToClient seat.party place part
IsPart seat stored.Tick part = part ≡ part_with seat.party ticks

-- The client makes its step, and sends its frames.
pub record PartyGoes (part : ClientPart) (next : Party) : Type 0 where
  pub noted : List NotesCommand
  pub did : ClientDid
  pub old_is : did.old ≡ client_started part
  pub step : ClientStep did.old part.coming noted did.frames did.now
  pub next_is : next ≡ party_after part did

-- The first so many of its commands stand, and it starts again from its notes.
pub record PartyIsCut (part : ClientPart) (next : Party) : Type 0 where
  pub count : ℕ
  pub within : count ≤ length (client_commands part)
  pub next_is : next ≡ party_cut part count

-- The octets stand for the notes after the first of the part's commands, for some number of them: at least as many as
-- `least` says of them.
abbrev pub HasDone : (List NotesCommand → ℕ) → ClientPart → List ℕ → Type 0
HasDone least part image =
    notes.MakesBetween (least (client_commands part)) (length (client_commands part)) part.party.client.lists
    (client_commands part) image

-- after all of them
abbrev pub HasAll : ClientPart → List ℕ → Type 0
HasAll = HasDone (λ commands. length commands)

module _ {B : Type 0} (g : Ghosts B) where
  -- The part is carried out on the disk, which knows of no cut: since it began a crash leaves the notes after the first
  -- of its commands.
  pub record CarriesPart (part : ClientPart) (disk disk_now : B) : Type 0 where
    pub told : TellsAlike (g.content disk) (g.content disk_now)
    pub since :
        Leaves g disk disk_now (λ _. notes.MakesFirst part.party.client.lists (client_commands part))
    pub lasts : g.lasts disk disk_now

module _ {B : Type 0} (g : Ghosts B) (cuts : Cuts B) where
  -- The part is cut at the call of this number: as an event is that is cut off.
  pub record CutsPart (call : ℕ) (part : ClientPart) (next : Party) (disk disk_now : B) : Type 0 where
    pub armed : B
    pub arms : ArmsOnly g cuts (Some (call - 1)) disk armed
    pub lost : B
    pub carries : CarriesPart g part armed lost
    pub left : B
    pub loses : LosesPower g cuts lost left
    pub keeps : KeepsPast g cuts lost left
    pub memory : cuts.is_starved left ≡ false
    pub stands : IfSome (g.content left) (λ image. StandsFor image next.client.lists)
    pub no_fewer :
        g.write_faults lost < 18446744073709551615
        → IfSome (g.content left)
        (HasDone (least_done (cuts.arming lost) (call - 1) Lists NotesCommand notes_form) part)
    pub again : (c : ℕ) → StartsAgain g (client_at c) left disk_now

  -- by the cut that waits for the client, if one does
  abbrev pub DoesPart : Option Cut → ClientPart → Party → B → B → Type 0
  DoesPart None part next disk disk_now = PartyGoes part next × CarriesPart g part disk disk_now
  DoesPart (Some cut) part next disk disk_now = PartyIsCut part next × CutsPart cut.call part next disk disk_now

  -- The client took part, and is the next one of the world.
  pub record TakesPart (part : ClientPart) (old new : StoredParty) (disk disk_now : B) : Type 0 where
    pub next : Party
    pub does : DoesPart old.cut part next disk disk_now
    pub plays : PlaysParty new next
    pub steady : IsSteady g cuts disk_now
