-- Laws of worlds, over every lawful schedule.
use Rattle.std.specs.Prelude.{◌≡◌, ◌≢◌, ℕ, ◌≤◌, List, [], ◌∷◌, length, false, true, Some, ⊤}
use Rattle.std.specs.List.{AllByRecursion}
use Rattle.file_store_model.specs.Follows.{Follows}
use Rattle.file_store.specs.Command.{DropsNothing, after, drop_entry}
use Rattle.file_store.specs.IsStore.{IsStore}
use Rattle.file_store.specs.OnDisk.{after_first}
use Rattle.file_store.specs.Store.{Entry, Store, entry_of, partial}
use Rattle.ftl0_session.specs.Table.{receiving}
use Rattle.turn_loop.specs.Events.{NodeEvent}
use Rattle.client_notes.specs.Several as notes
use Rattle.air_world.specs.Cuts.{Happens, IsRun, WorldStep, client_commands, server_commands}
use Rattle.air_world.specs.Events.{ClientPart, ClientTakes, ServerTakes}
use Rattle.air_world.specs.Files.Facts.{IsOfferKept}
use Rattle.air_world.specs.Files.SoundStore.{NoneGone}
use Rattle.air_world.specs.Headline.{HeadlineIn, HeadlineStays}
use Rattle.air_world.specs.Lawful.{IsAllowed}
use Rattle.air_world.specs.Offered.{Offered}
use Rattle.air_world.specs.Parts.{HasParts}
use Rattle.air_world.specs.Attempts.Party.{EachSide, Party}
use Rattle.air_world.specs.Schedule.{Event, IsNoCut, IsSchedule, Schedule}
use Rattle.air_world.specs.Sound.{Sound}
use Rattle.air_world.specs.World.{PartyAt, World, first_world, store_blocks, with_party}

-- The first world of a schedule is sound, and each event that may come keeps that, with a cut at any place. No entry of
-- the server's store is given up, since each file that is asked has no fault.
pub record SoundLaw : Type 0 where
  pub first : (schedule : Schedule) → IsSchedule schedule → Sound (first_world schedule)
  pub kept : (old new : World) (event : Event) → Sound old → WorldStep old event new → Sound new
  pub first_none_gone : (schedule : Schedule) → NoneGone (first_world schedule).server.store
  pub none_gone :
      (old new : World) (event : Event) → Sound old → WorldStep old event new → NoneGone old.server.store
      → NoneGone new.server.store
  pub drops :
      (world : World) (event : Event) (coming : NodeEvent) (delivered : World) → Sound world → IsAllowed world event
      → ServerTakes world event coming delivered → DropsNothing (server_commands world coming)

-- A sound world has all parts, and what is promised of uploads and downloads holds in it.
pub record PartsLaw : Type 0 where
  pub parts : (world : World) → Sound world → HasParts world
  pub headline : (world : World) → Sound world → HeadlineIn world world.server.store

-- the world whose client at this place has noted this number of commands of its event
abbrev pub noted_first : World → ℕ → ClientPart → ℕ → World
noted_first world c part count =
    with_party world c
    (record part.party {
      client =
          record part.party.client {
            lists = notes.after_first count part.party.client.lists (client_commands part);
          };
    })

-- What is promised is true also while whatever event comes next is under way, after the first of its commands, for any
-- number of them: of a server's event in the store after them, and of a client's with the notes after them.
pub record HoldsDuring (world : World) : Type 0 where
  pub server :
      (event : Event) (coming : NodeEvent) (delivered : World) (count : ℕ) → IsAllowed world event
      → ServerTakes world event coming delivered
      → HeadlineIn world (after_first count world.server.store (server_commands world coming))
  pub client :
      (event : Event) (c : ℕ) (part : ClientPart) (count : ℕ) → IsAllowed world event
      → ClientTakes world event c part → HeadlineIn (noted_first world c part count) world.server.store

-- So it is of a sound world.
abbrev pub PrefixesLaw : Type 0
PrefixesLaw = (world : World) → Sound world → HoldsDuring world

-- what is promised of uploads and downloads holds in each world
abbrev pub HoldsInEach : List World → Type 0
HoldsInEach worlds = AllByRecursion (λ world. HeadlineIn world world.server.store) worlds

-- What is promised is true in each world of a lawful schedule, the first one too, and while the event after it is under
-- way: in all that the power may leave.
pub record ScheduleLaw : Type 0 where
  pub worlds :
      (schedule : Schedule) (worlds : List World) → IsRun schedule worlds
      → HoldsInEach (first_world schedule ∷ worlds)
  pub during :
      (schedule : Schedule) (worlds : List World) → IsRun schedule worlds
      → AllByRecursion HoldsDuring (first_world schedule ∷ worlds)

-- And in each one without cuts: each acknowledged file is kept, and each finished download has its file's octets.
abbrev pub NoCutsLaw : Type 0
NoCutsLaw =
    (schedule : Schedule) (worlds : List World) → AllByRecursion IsNoCut schedule.events → IsRun schedule worlds
    → HoldsInEach worlds

-- If an event may come there is a step.
abbrev pub ExistenceLaw : Type 0
ExistenceLaw =
    (world : World) (event : Event) → Sound world → IsAllowed world event → (next : World) × WorldStep world event next

-- Each of these events may come in its turn, whatever the one before it made of the world.
abbrev pub MayPlay : World → List Event → Type 0
MayPlay world [] = ⊤
MayPlay world (event ∷ events) =
    IsAllowed world event × ((next : World) → WorldStep world event next → MayPlay next events)

-- A schedule whose events may come, each in its turn, has its worlds.
abbrev pub RunLaw : Type 0
RunLaw =
    (schedule : Schedule) → IsSchedule schedule → MayPlay (first_world schedule) schedule.events
    → (worlds : List World) × IsRun schedule worlds

-- At an event that is to be cut the first of the event's commands may be done, for any number of them, and the cut is
-- made then.
pub record CutsLaw : Type 0 where
  pub server :
      (world : World) (event : Event) (coming : NodeEvent) (delivered : World) (count : ℕ)
      → ServerTakes world event coming delivered → world.is_cut ≡ true → count ≤ length (server_commands world coming)
      → (next : World) × Happens world event next × (next.is_cut ≡ false)
      × (next.server.store ≡ after_first count world.server.store (server_commands world coming))
  pub client :
      (world : World) (event : Event) (c : ℕ) (part : ClientPart) (count : ℕ)
      → ClientTakes world event c part → part.party.is_cut ≡ true → count ≤ length (client_commands part)
      → (next : World) × Happens world event next
      × ((party : Party) × PartyAt next c party × (party.is_cut ≡ false)
      × (party.client.lists ≡ notes.after_first count part.party.client.lists (client_commands part)))

-- no session that is up receives the file of this number
abbrev pub NoneReceives : World → ℕ → Type 0
NoneReceives world number =
    (c : ℕ) (party : Party) → PartyAt world c party
    → EachSide party
    (λ _ side. (rest : List ℕ) → side.is_up ≡ true → side.connected.state ≢ receiving number rest)

-- the world without the entry of this number
abbrev pub without_entry : World → ℕ → World
without_entry world number =
    record world { server = record world.server { store = after world.server.store (drop_entry number) } }

-- An entry under way that no session receives may be given up.
abbrev pub RemovalLaw : Type 0
RemovalLaw =
    (world : World) (number : ℕ) (entry : Entry) (held : List ℕ) → Sound world
    → entry_of world.server.store number ≡ Some entry → entry.holding ≡ partial held → NoneReceives world number
    → Sound (without_entry world number)

-- The server's store from one world to the next. In a sound world it keeps the rules of a store, and each offer. The
-- store of the next world follows from it, and so does what is there after the first of the commands of whatever event
-- of the server's comes next; in a store that follows, what is promised of the world stays. One that follows may take
-- as many blocks, and that of the first world takes those of a rehearsal.
pub record StoresLaw : Type 0 where
  pub next :
      (old new : World) (event : Event) → Sound old → WorldStep old event new
      → Follows old.server.store new.server.store
  pub during :
      (world : World) (event : Event) (coming : NodeEvent) (delivered : World) (count : ℕ) → Sound world
      → IsAllowed world event → ServerTakes world event coming delivered
      → Follows world.server.store (after_first count world.server.store (server_commands world coming))
  pub rules : (world : World) → Sound world → IsStore world.server.store
  pub offers :
      (world : World) (number offset : ℕ) → Sound world → Offered world number offset
      → IsOfferKept world.server.store number offset
  pub stays : HeadlineStays
  pub blocks : (before now : Store) → Follows before now → now.blocks ≡ before.blocks
  pub first_blocks : (schedule : Schedule) → (first_world schedule).server.store.blocks ≡ store_blocks
