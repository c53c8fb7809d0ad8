-- What giving out a frame does to a place.
use Rattle.std.specs.Prelude.{◌≡◌, ℕ, List, Bool, true, false, Option, None, Some, ⊤}
use Rattle.ax25_frames.specs.FrameText.{FrameText, canonical}
use Rattle.ax25_link.specs.Kept.{Kept, SameStations}
use Rattle.ax25_link.specs.Window.{Window}
use Rattle.ftl0_server.specs.Connection.ConnectionState.{ConnectionState}
use Rattle.ftl0_server.specs.declared.place.Place.{Place}
use Rattle.ftl0_server.specs.declared.place.Place.TheVariants.{Moving, Talking, Empty}
use Rattle.ftl0_server.specs.ServerState.{AllPlaces, SendsAs}
use Rattle.ftl0_server.specs.Slots.{PlacesSend, Slot, SlotSends, slot_next}

-- the state and the stations of a link are as they were
pub record SameLink (old new : Kept) : Type 0 where
  pub state : new.state ≡ old.state
  pub stations : SameStations old new

-- the session and the stations of a connection are as they were
pub record SameTalk (old new : ConnectionState) : Type 0 where
  pub session : new.session ≡ old.session
  pub octets : new.octets ≡ old.octets
  pub state : new.link.state ≡ old.link.state
  pub stations : SameStations old.link new.link

-- the place has what it had, except that a frame was given out
abbrev pub SamePlace : Place → Place → Type 0
SamePlace Moving Moving = ⊤
SamePlace Moving (Talking connection) = ⊥
SamePlace Moving (Empty link) = ⊥
SamePlace (Talking connection) Moving = ⊥
SamePlace (Talking connection) (Talking after) = SameTalk connection after
SamePlace (Talking connection) (Empty link) = ⊥
SamePlace (Empty link) Moving = ⊥
SamePlace (Empty link) (Talking connection) = ⊥
SamePlace (Empty link) (Empty after) = SameLink link.link after.link

-- What is given out if this is sent next: nothing; or the octets of its frame in place of those that the buffer held.
abbrev pub GivesOut : Option SlotSends → Window → Place → List ℕ → List ℕ → Bool → Type 0
GivesOut None w now before after answer = answer ≡ false
GivesOut (Some sends) w now before after answer =
    (answer ≡ true) × SendsAs w now sends.after × (after ≡ canonical sends.frame) × FrameText sends.frame after

-- the same of whichever place it stood for
abbrev pub PlaceGives : Place → Place → List ℕ → List ℕ → Bool → Type 0
PlaceGives old new before after answer =
    (w : Window) (slot : Slot) → SendsAs w old slot → GivesOut (slot_next w slot) w new before after answer

-- What is given out if the places send this next: nothing; or the octets of its frame in place of those that the buffer
-- held.
abbrev pub PlacesGive : Option PlacesSend → Window → List Place → List ℕ → Bool → Type 0
PlacesGive None w now after answer = answer ≡ false
PlacesGive (Some sends) w now after answer =
    (answer ≡ true) × AllPlaces (SendsAs w) now sends.after × (after ≡ canonical sends.frame)
    × FrameText sends.frame after
