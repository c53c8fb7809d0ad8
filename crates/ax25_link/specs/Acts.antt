-- What one of the two stations of an attempt does, one step at a time.
use Rattle.std.specs.Prelude.{◌≡◌, ℕ, ◌∷◌, [], ◌++◌, false, Some}
use Rattle.ax25_link.specs.declared.state.LinkState.TheVariants.{Up}
use Rattle.ax25_link.specs.Window.{Window}
use Rattle.ax25_link.specs.Ends.{LinkEnd}
use Rattle.ax25_link.specs.Rows.{after_frame, is_call}
use Rattle.ax25_link.specs.Timer.{after_tick}
use Rattle.ax25_link.specs.Calls.{Doing, after_doing}
use Rattle.ax25_link.specs.Sending.{Sending, next_sending, IsQuiet}
use Rattle.ax25_link.specs.Air.{Transmission, IsLawful, delivering, fresh}
use Rattle.ax25_link.specs.Linked.{Station}

pub data Act : Type 0 where
  -- the other station's transmission at this place is delivered
  hear : ℕ → Transmission → Act
  tick : Act
  -- the layer above does this
  does : Doing → Act
  -- the next frame is sent
  send : Sending → Act

-- Whether the act may come. A frame and a tick are taken while nothing is to be sent, a frame while the other station
-- has nothing to send either. A further SABM begins another attempt, so it isn't sent in this one.
abbrev pub MayAct : Window → Station → Station → Act → Type 0
MayAct w one other (hear place t) = IsQuiet w one.end × IsQuiet w other.end × IsLawful w other.transmissions place t
MayAct w one other tick = IsQuiet w one.end
MayAct w one other (does doing) = one.end.state ≡ Up
MayAct w one other (send sending) = (next_sending w one.end ≡ Some sending) × (is_call sending.frame.kind.control ≡ false)

abbrev pub with_end : Station → LinkEnd → Station
with_end station end = record station { end = end }

-- the station after its act
abbrev pub acting : Window → Station → Act → Station
acting w one (hear place t) = with_end one (after_frame w one.end t.frame)
acting w one tick = with_end one (after_tick one.end)
acting w one (does doing) = with_end one (after_doing one.end doing)
acting w one (send sending) =
    record { end = sending.after; transmissions = one.transmissions ++ fresh sending.frame ∷ [] }

-- the other station after it: a transmission of its was delivered
abbrev pub facing : Station → Act → Station
facing other (hear place t) = record other { transmissions = delivering other.transmissions place t }
facing other tick = other
facing other (does doing) = other
facing other (send sending) = other
