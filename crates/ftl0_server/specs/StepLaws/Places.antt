-- What a step of a server sends, place by place.
use Rattle.std.specs.Prelude.{◌≡◌, ℕ, List, [], ◌∷◌, ◌++◌, true, Option, None, Some, slice_get, slice_set}
use Rattle.px_base.specs.CallSign.{CallSign}
use Rattle.ax25_frames.specs.FrameText.{FrameValue}
use Rattle.ax25_link.specs.Ends.{LinkEnd}
use Rattle.ax25_link.specs.Refusals.{refusal_frame}
use Rattle.ax25_link.specs.Rows.{is_call}
use Rattle.ax25_link.specs.Sending.{Drains}
use Rattle.ax25_link.specs.Window.{Window}
use Rattle.ftl0_session.specs.Lists.Lists.{has_left}
use Rattle.ftl0_session.specs.Uploads.Failures.{Failure}
use Rattle.ftl0_server.specs.Connection.Connected.{Connected, answering}
use Rattle.ftl0_server.specs.Connection.Hearing.{hearing, with_end}
use Rattle.ftl0_server.specs.Server.{Refused, Server, hearing_stranger}
use Rattle.ftl0_server.specs.ServerStep.{ServerStep, Stepped, happening}
use Rattle.ftl0_server.specs.Slots.{Slot, all_freed, connected, first_empty, free, leaving, place_of, slot_after}
use Rattle.turn_loop.specs.Events.{NodeEvent, hears}

-- A place sends these frames one after another, and then nothing; it is this one then. They are what its link's end
-- drains.
abbrev pub SlotDrains : Window → Slot → List FrameValue → Slot → Type 0
SlotDrains w free frames last = (frames ≡ []) × (last ≡ free)
SlotDrains w (connected c) frames last =
    (end : LinkEnd) × Drains w c.end frames end × (last ≡ connected (with_end c end))
SlotDrains w (leaving c) frames last =
    (end : LinkEnd) × Drains w c.end frames end × (last ≡ leaving (with_end c end))

-- So do places: the first one all of its frames, then the next one.
abbrev pub SlotsDrain : Window → List Slot → List FrameValue → List Slot → Type 0
SlotsDrain w [] frames last = (frames ≡ []) × (last ≡ [])
SlotsDrain w (slot ∷ slots) frames last =
    (own : List FrameValue) × (others : List FrameValue) × (now : Slot) × (later : List Slot)
    × (frames ≡ own ++ others) × (last ≡ now ∷ later) × SlotDrains w slot own now × SlotsDrain w slots others later

-- the DM to a station without a connection, if one is to be sent
abbrev pub refusals : CallSign → Option Refused → List FrameValue
refusals me None = []
refusals me (Some refused) = refusal_frame me refused ∷ []

-- What is sent of a server that is this one after an event, until nothing is to be sent: the DM to a station without a
-- connection, and then what the places drain, in order. Then places whose sessions are over are free.
pub record SendsByPlaces (after : Server) (gives : Stepped) : Type 0 where
  pub own : List FrameValue
  pub frames_are : gives.frames ≡ refusals after.me after.stray ++ own
  pub last : List Slot
  pub drains : SlotsDrain after.window after.slots own last
  pub new_is : gives.new ≡ record after { slots = all_freed last; stray = None }

-- The step sends what this place drains, which is this one before, and leaves all other places as they were. Then
-- places whose sessions are over are free.
pub record ChangesAt (old : Server) (place : ℕ) (slot : Slot) (gives : Stepped) : Type 0 where
  pub now : Slot
  pub drains : SlotDrains old.window slot gives.frames now
  pub slots_are : gives.new.slots ≡ all_freed (slice_set old.slots place now)

-- So of a frame. One of a station that has a connection changes that one's place alone; SABM of any other station that
-- of the lowest empty place, if there is one; any other frame changes none, and is ignored, or replied by DM.
pub record HearsByPlaces (old : Server) (frame : FrameValue) (moment : ℕ) (failures : List Failure) (gives : Stepped) :
    Type 0 where
  pub heard :
      (place : ℕ) (c : Connected) → place_of frame.src old.slots ≡ Some place
      → slice_get old.slots place ≡ Some (connected c)
      → ChangesAt old place (slot_after (hearing old.window moment old.store old.lists c frame failures)) gives
  pub opened :
      (place : ℕ) → place_of frame.src old.slots ≡ None → is_call frame.kind.control ≡ true
      → first_empty old.slots ≡ Some place
      → ChangesAt old place
      (connected (answering old.me frame.src frame.poll moment (has_left old.lists frame.src))) gives
  pub passed :
      place_of frame.src old.slots ≡ None → (is_call frame.kind.control ≡ true → first_empty old.slots ≡ None)
      → (gives.frames ≡ refusals old.me (hearing_stranger old frame moment).stray)
      × (gives.new.slots ≡ all_freed old.slots)

-- Each step is made place by place, and each of a frame at one place.
pub record StepLaw : Type 0 where
  pub each :
      (old : Server) (event : NodeEvent) (failures : List Failure) (gives : Stepped)
      → ServerStep old event failures gives → SendsByPlaces (happening old event failures).after gives
  pub hears :
      (old : Server) (frame : FrameValue) (moment : ℕ) (failures : List Failure) (gives : Stepped)
      → ServerStep old (hears frame moment) failures gives → HearsByPlaces old frame moment failures gives
