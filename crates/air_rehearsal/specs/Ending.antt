-- What is read and counted at the end of a rehearsal: of which tasks clients hold an acknowledgement, and that the
-- server's store has the files of these.
use Rattle.std.specs.Prelude.{◌≡◌, ◌==◌, ℕ, List, length, if◌then◌else◌, Option, None, Some}
use Rattle.px_base.specs.CallSign.{CallSign}
use Rattle.px_base.specs.Numbers.{le32}
use Rattle.pfh_items.specs.Faults.{fault_code, field_of}
use Rattle.pfh_items.specs.Layout.{ItemValue}
use Rattle.pfh_items.specs.Stamp.{stamped}
use Rattle.disk_model.specs.declared.disk.Disk.{Ghosts}
use Rattle.disk_model.specs.Runs.{ChangesReads}
use Rattle.file_store.specs.Reads.{StaysReady}
use Rattle.file_store.specs.State.{IsKnown, StoreState, store_on}
use Rattle.air_world.specs.Files.Uploads.{upload_file}
use Rattle.air_world.specs.Sound.{Sound}
use Rattle.air_world.specs.World.{PartyAt}
use Rattle.air_rehearsal.specs.Counting.{TellsThen, kept_more}
use Rattle.air_rehearsal.specs.Report.{ClientTask, CountOf, IsAcked}
use Rattle.air_rehearsal.specs.TakingPart.{Seat}
use Rattle.air_rehearsal.specs.Worlds.{PlaysParty, PlaysStations}
use Rattle.air_rehearsal.specs.declared.party.Party.{Party as StoredParty}
use Rattle.air_rehearsal.specs.declared.report.Report.{Report as StoredReport}
use Rattle.air_rehearsal.specs.declared.stations.Stations.{Stations}

-- the number that these octets are, if they are four
abbrev pub number_in : Option (List ℕ) → Option ℕ
number_in None = None
number_in (Some octets) = if length octets == 4 then Some (le32 octets 0) else None

-- the moment that the first upload_time of these items says, if there is one of four octets
abbrev pub moment_in : List ItemValue → Option ℕ
moment_in items = number_in (field_of 0x12 items)

-- The file is an upload of a schedule, and has no fault.
pub record IsUpload (file : List ℕ) : Type 0 where
  pub upload : ℕ
  pub count : ℕ
  pub file_is : file ≡ upload_file upload count
  pub faultless : fault_code file ≡ None

-- The octets are the file, stamped with this number and caller and with some moment, and have no fault.
pub record IsStampedFor (file : List ℕ) (number : ℕ) (caller : CallSign) (octets : List ℕ) : Type 0 where
  pub moment : ℕ
  pub octets_are : octets ≡ stamped (record { number = number; by = caller; moment = moment }) file
  pub faultless : fault_code octets ≡ None

-- Nothing but reads was made: the store is as it was, and so is its disk but for the count of failed reads.
pub record LooksOnly {D : Type 0} (g : Ghosts D) (old new : StoreState) (disk disk_now : D) : Type 0 where
  pub only : ChangesReads g disk disk_now
  pub lasts : g.lasts disk disk_now
  pub stays : StaysReady g old new disk_now

-- The client is that one of a sound world whose server's store this is on its disk, and it is known what octets the
-- files have there.
pub record IsAtEnd {D : Type 0} (g : Ghosts D) (self : Stations) (party : StoredParty) (store : StoreState) (disk : D)
    (seat : Seat) : Type 0 where
  pub sound : Sound seat.world
  pub stations : PlaysStations self seat.world
  pub is_party : PartyAt seat.world seat.c seat.party
  pub plays : PlaysParty party seat.party
  pub known : IsKnown g disk
  pub store_is : store_on g store disk ≡ seat.world.server.store

-- Of these tasks those were counted of which the client holds an acknowledgement, each as one whose file is kept.
pub record CountsAcked (tasks : List ClientTask) (before report : StoredReport) : Type 0 where
  pub acked : ℕ
  pub is_acked : CountOf IsAcked tasks acked
  pub tells : TellsThen (kept_more acked) before report
