-- What becomes of the clients where one of them is spoken of.
use Rattle.std.specs.Prelude.{◌≡◌, ℕ, ◌+◌, ◌%◌, ◌^◌, List, [], slice_get, slice_set, Bool, ◌&&◌, false, true, is_some}
use Rattle.std.specs.Prelude.{Some}
use Rattle.disk_model.specs.Cuts.{Cuts}
use Rattle.disk_model.specs.declared.disk.Disk.{Ghosts}
use Rattle.disk_model.specs.Runs.{EachImage}
use Rattle.client_notes.specs.State.{StandsFor}
use Rattle.ftl0_client.specs.Outcomes.{is_under_way, outcome_by}
use Rattle.ftl0_server.specs.ServerState.{ServerState}
use Rattle.air_world.specs.Attempts.Party.{Party}
use Rattle.air_world.specs.Events.{ClientPart, ClientTakes}
use Rattle.air_world.specs.Lawful.{IsAllowed}
use Rattle.air_world.specs.Schedule.{Event}
use Rattle.air_world.specs.Sound.{Sound}
use Rattle.air_world.specs.World.{PartyAt, World}
use Rattle.air_rehearsal.specs.Counting.{Tells, one_if}
use Rattle.air_rehearsal.specs.PartyCalls.{BreaksOff}
use Rattle.air_rehearsal.specs.Playing.{Bench, GoesOn, IsBench, bench_of}
use Rattle.air_rehearsal.specs.Report.{Report, is_fetch, is_question, is_refusal}
use Rattle.air_rehearsal.specs.TakingPart.{IsPart, IsSeat, Seat, TakesPart}
use Rattle.air_rehearsal.specs.Worlds.{IsSteady, PlaysStations}
use Rattle.air_rehearsal.specs.declared.part.Part.{Part}
use Rattle.air_rehearsal.specs.declared.part.Part.TheVariants as stored
use Rattle.air_rehearsal.specs.declared.party.Party.{Party as StoredParty}
use Rattle.air_rehearsal.specs.declared.stations.Stations.{Stations}

-- whether the client is asked for something
abbrev pub asks : Part → Bool
asks (stored.Upload upload file) = true
asks (stored.Resume task number file) = true
asks (stored.List tokens) = true
asks (stored.Download number) = true
asks (stored.Hear place) = false
asks stored.Tick = false

-- the stations, and the disks of the clients
pub record Clients (B : Type 0) : Type 0 where
  pub stations : Stations
  pub disks : List B

abbrev pub clients_of : {B : Type 0} → Stations → List B → Clients B
clients_of stations disks = record { stations = stations; disks = disks }

-- the stations, with a server and its disk
abbrev pub with_server : {B : Type 0} → Clients B → ServerState → B → Bench B
with_server at server disk = bench_of at.stations server disk at.disks

-- An event in which the server takes no part makes a next world of whichever is played, whatever its server is.
abbrev pub GoesApart : {B : Type 0} → Ghosts B → Cuts B → Event → Clients B → Clients B → Type 0
GoesApart {B} g cuts event old new =
    (world : World) (server : ServerState) (disk : B) → IsBench g cuts world (with_server old server disk)
    → IsAllowed world event → GoesOn g cuts world event (with_server old server disk) (with_server new server disk)

-- The client at this place takes part in the event so: no upload is asked beside it.
pub record ComesTo (world : World) (event : Event) (c : ℕ) (part : Part) : Type 0 where
  pub party : Party
  pub is_party : PartyAt world c party
  pub whole : ClientPart
  pub takes : ClientTakes world event c whole
  pub is_part : IsPart (record { world = world; c = c; party = party }) part whole
  pub none_asked : whole.asked ≡ []
  pub asks_so : is_question event ≡ asks part

-- So it is in whichever world the stations play, where the event may come.
abbrev pub ComesAlways : Stations → Event → ℕ → Part → Type 0
ComesAlways stations event c part =
    (world : World) → Sound world → PlaysStations stations world → IsAllowed world event → ComesTo world event c part

-- the moment goes on by one, as 32 bits tell it, and an event is counted
pub record CountsEvent (old new : Stations) : Type 0 where
  pub same : new ≡ record old { moment = new.moment; report = new.report }
  pub moment_is : new.moment ≡ (old.moment + 1) % 2 ^ 32
  pub one_more :
      (counts : Report) → Tells old.report counts → Tells new.report (record counts { events = counts.events + 1 })

-- a cut of the server's power is counted, where one waits
pub record CountsCut (old new : Stations) : Type 0 where
  pub same : new ≡ record old { report = new.report }
  pub counts :
      (counts : Report) → Tells old.report counts
      → Tells new.report (record counts { cuts = counts.cuts + one_if (is_some old.cut) })

-- The client at this place is this one now, over this disk, and nothing else is changed but what is counted.
pub record ChangesAt {B : Type 0} (c : ℕ) (old new : Clients B) (party : StoredParty) (disk : B) : Type 0 where
  pub parties_are : new.stations.parties.items ≡ slice_set old.stations.parties.items c party
  pub disks_are : new.disks ≡ slice_set old.disks c disk
  pub stations_are :
      new.stations
      ≡ record old.stations { parties = new.stations.parties; report = new.stations.report }

-- the numbers of the report where a client took part, and is this one then
abbrev pub counts_taking : Part → StoredParty → Party → Party → Report → Report
counts_taking part stored old new counts =
    record counts {
      asked = counts.asked + one_if (asks part);
      refused =
          counts.refused
          + one_if (is_under_way old.client.attempt && is_refusal (outcome_by new.client.attempt));
      fetched =
          counts.fetched + one_if (is_under_way old.client.attempt && is_fetch (outcome_by new.client.attempt));
      cuts = counts.cuts + one_if (is_some stored.cut);
    }

module _ {B : Type 0} (g : Ghosts B) (cuts : Cuts B) where
  -- the client at this place, over its disk, is this one of a sound world
  pub record IsSeated (c : ℕ) (at : Clients B) (seat : Seat) : Type 0 where
    pub party : StoredParty
    pub is_party : slice_get at.stations.parties.items c ≡ Some party
    pub disk : B
    pub is_disk : slice_get at.disks c ≡ Some disk
    pub steady : IsSteady g cuts disk
    pub is_seat : IsSeat party seat
    pub place_is : seat.c ≡ c

  -- The client at this place may do this: it is its part in an event that may come.
  pub record MayTake (c : ℕ) (at : Clients B) (part : Part) (whole : ClientPart) : Type 0 where
    pub seat : Seat
    pub seated : IsSeated c at seat
    pub event : Event
    pub allowed : IsAllowed seat.world event
    pub takes : ClientTakes seat.world event seat.c whole
    pub is_part : IsPart seat part whole

  -- The client at this place took its part.
  pub record TookPart (c : ℕ) (part : Part) (whole : ClientPart) (old new : Clients B) (may : MayTake c old part whole)
      : Type 0 where
    pub party : StoredParty
    pub disk : B
    pub takes : TakesPart g cuts whole may.seated.party party may.seated.disk disk
    pub changes : ChangesAt c old new party disk
    pub images : EachImage g disk (λ image. StandsFor image party.client.notes.lists)
    pub counts :
        (counts : Report) → Tells old.stations.report counts
        → Tells new.stations.report (counts_taking part may.seated.party may.seat.party takes.next counts)

  -- The client at this place was broken off.
  pub record BrokeOff (c : ℕ) (seat : Seat) (old new : Clients B) (seated : IsSeated c old seat) : Type 0 where
    pub party : StoredParty
    pub disk : B
    pub breaks : BreaksOff g cuts seat seated.party party seated.disk disk
    pub changes : ChangesAt c old new party disk
    pub images : EachImage g disk (λ image. StandsFor image party.client.notes.lists)
    pub same_report : new.stations.report ≡ old.stations.report
