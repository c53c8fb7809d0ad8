-- The places of a server as the definitions have them: each is free, or has a connection, or has a connection whose
-- session is over, and whose link has frames to send still.
use Rattle.std.specs.Prelude.{ℕ, List, [], ◌∷◌, Bool, true, false, map, Option, None, Some}
use Rattle.std.specs.List.{position}
use Rattle.std.specs.Option.{option_map}
use Rattle.px_base.specs.CallSign.{CallSign}
use Rattle.ax25_frames.specs.FrameText.{FrameValue}
use Rattle.ax25_link.specs.Ends.{LinkEnd}
use Rattle.ax25_link.specs.Sending.{Sending, next_sending}
use Rattle.ax25_link.specs.Window.{Window}
use Rattle.ftl0_server.specs.Connection.Connected.{Connected, caller_of}
use Rattle.ftl0_server.specs.Connection.Hearing.{Happened, ticking, with_end}
use Rattle.ftl0_session.specs.Uploads.Session.{is_same_call}

pub data Slot : Type 0 where
  free : Slot
  connected : Connected → Slot
  leaving : Connected → Slot

-- whether the place has a connection of this caller
abbrev pub is_callers : CallSign → Slot → Bool
is_callers caller free = false
is_callers caller (connected c) = is_same_call (caller_of c) caller
is_callers caller (leaving c) = false

-- whether the place has no session. Between events nothing is to be sent, and a link whose session is over counts no
-- more.
abbrev pub is_empty : Slot → Bool
is_empty free = true
is_empty (connected c) = false
is_empty (leaving c) = true

-- the place of the caller's connection, if there is one
abbrev pub place_of : CallSign → List Slot → Option ℕ
place_of caller slots = position (is_callers caller) slots

-- the lowest empty place, if there is one
abbrev pub first_empty : List Slot → Option ℕ
first_empty slots = position is_empty slots

-- What is left of a connection after an event: if its session is over, the connection as it was last, whose link still
-- sends what it has to send.
abbrev pub left_by : Bool → Connected → Slot
left_by false c = connected c
left_by true c = leaving c

abbrev pub slot_after : Happened → Slot
slot_after happened = left_by happened.over happened.after

-- the place after a tick
abbrev pub slot_ticking : Slot → Slot
slot_ticking free = free
slot_ticking (connected c) = left_by (ticking c).over (ticking c).after
slot_ticking (leaving c) = leaving c

-- a frame that a place sends, and the place then
pub record SlotSends : Type 0 where
  pub frame : FrameValue
  pub after : Slot

abbrev pub slot_sends : (LinkEnd → Slot) → Sending → SlotSends
slot_sends slot sending = record { frame = sending.frame; after = slot sending.after }

-- what a place sends next, if anything
abbrev pub slot_next : Window → Slot → Option SlotSends
slot_next w free = None
slot_next w (connected c) = option_map (slot_sends (λ end. connected (with_end c end))) (next_sending w c.end)
slot_next w (leaving c) = option_map (slot_sends (λ end. leaving (with_end c end))) (next_sending w c.end)

-- a frame that one of the places sends, and the places then
pub record PlacesSend : Type 0 where
  pub frame : FrameValue
  pub after : List Slot

-- the first place sends this, or those after it send that, if they send anything
abbrev pub first_of : Slot → List Slot → Option SlotSends → Option PlacesSend → Option PlacesSend
first_of slot slots None later = option_map (λ l. record { frame = l.frame; after = slot ∷ l.after }) later
first_of slot slots (Some sends) later = Some (record { frame = sends.frame; after = sends.after ∷ slots })

-- What the places send next: the first place all of its frames, then the next one.
abbrev pub places_next : Window → List Slot → Option PlacesSend
places_next w [] = None
places_next w (slot ∷ slots) = first_of slot slots (slot_next w slot) (places_next w slots)

-- a place whose session is over and whose link has sent all is free
abbrev pub freed : Slot → Slot
freed free = free
freed (connected c) = connected c
freed (leaving c) = free

abbrev pub all_freed : List Slot → List Slot
all_freed slots = map freed slots
