-- What the stations of an attempt sent, and which deliveries are lawful. An attempt is one SABM that a station sent,
-- and all that follows between the two stations until it sends the next.
use Rattle.std.specs.Prelude.{◌≡◌, ℕ, ◌-◌, ◌<◌, ◌≤◌, ◌⊎◌, List, ◌++◌, length, map, slice_get, slice_set, Bool, true, false, Some, IsTrue}
use Rattle.ax25_frames.specs.declared.control.Control.{Control}
use Rattle.ax25_frames.specs.declared.control.Control.TheVariants.{I, Rr, Rnr, Rej, Sabm, Disc, Dm, Ua, Frmr, Ui}
use Rattle.ax25_frames.specs.FrameText.{FrameValue}
use Rattle.ax25_link.specs.Window.{Window}
use Rattle.ax25_link.specs.Rows.{is_call}

-- a frame as it was sent, and whether it was delivered since
pub record Transmission : Type 0 where
  pub frame : FrameValue
  pub delivered : Bool

abbrev pub fresh : FrameValue → Transmission
fresh frame = record { frame = frame; delivered = false }

-- the transmission at this place of those of one station in the attempt, which are in the order of their sending
abbrev pub IsAt : List Transmission → ℕ → Transmission → Type 0
IsAt list place t = slice_get list place ≡ Some t

-- how many were sent after the one at this place
abbrev pub later_count : List Transmission → ℕ → ℕ
later_count list place = length list - 1 - place

-- whether the frame is an I frame
abbrev pub is_information : Control → Bool
is_information (I ns nr) = true
is_information (Rr nr) = false
is_information (Rnr nr) = false
is_information (Rej nr) = false
is_information Sabm = false
is_information Disc = false
is_information Dm = false
is_information Ua = false
is_information Frmr = false
is_information Ui = false

-- whether the frame is an I or S frame, and so has an N(R)
abbrev pub is_numbered : Control → Bool
is_numbered (I ns nr) = true
is_numbered (Rr nr) = true
is_numbered (Rnr nr) = true
is_numbered (Rej nr) = true
is_numbered Sabm = false
is_numbered Disc = false
is_numbered Dm = false
is_numbered Ua = false
is_numbered Frmr = false
is_numbered Ui = false

abbrev pub control_of : Transmission → Control
control_of t = t.frame.kind.control

-- no I or S frame that was sent after the one at this place was delivered
abbrev pub NoneLater : List Transmission → ℕ → Type 0
NoneLater list place =
    (later : ℕ) (t : Transmission) → place < later → IsAt list later t → IsTrue (is_numbered (control_of t))
    → t.delivered ≡ false

-- The transmission at this place may be delivered. It was sent in the attempt. A SABM wasn't delivered before. An I or
-- S frame, which may have been delivered before, isn't overtaken by a delivery of a later I or S frame, or at most m -
-- 1 - k frames were sent after it.
pub record IsLawful (w : Window) (list : List Transmission) (place : ℕ) (t : Transmission) : Type 0 where
  pub sent : IsAt list place t
  pub call : IsTrue (is_call (control_of t)) → t.delivered ≡ false
  pub overtaken :
      IsTrue (is_numbered (control_of t)) → NoneLater list place ⊎ (later_count list place ≤ w.modulus - 1 - w.size)

-- the transmissions after the one at this place is delivered
abbrev pub delivering : List Transmission → ℕ → Transmission → List Transmission
delivering list place t = slice_set list place (record t { delivered = true })

-- the transmissions after these frames are sent
abbrev pub sending_all : List Transmission → List FrameValue → List Transmission
sending_all list frames = list ++ map fresh frames
