-- Runs of two stations, one act after another, and how far the air's last premise goes.
use Rattle.std.specs.Prelude.{◌≡◌, ℕ, ◌-◌, [], ◌∷◌, true, None, IsTrue}
use Rattle.std.specs.List.{concat}
use Rattle.px_base.specs.CallSign.{CallSign}
use Rattle.px_base.specs.Octets.{IsFront}
use Rattle.ax25_link.specs.Window.{Window, IsWindow}
use Rattle.ax25_link.specs.Ends.{calling_end, answering_end, call}
use Rattle.ax25_link.specs.Acknowledging.{meaning_of, is_bad}
use Rattle.ax25_link.specs.Frames.{frame_of_reply}
use Rattle.ax25_link.specs.Sending.{IsQuiet}
use Rattle.ax25_link.specs.Air.{Transmission, IsAt, later_count, control_of, is_numbered}
use Rattle.ax25_link.specs.Linked.{Station, AreLinked, ack_number}
use Rattle.ax25_link.specs.Acts.{Act, MayAct, acting, facing}

-- From two stations a run leads to these two: by no act, by an act of the first and then a run, or with the two turned.
pub data Runs : Window → Station → Station → Station → Station → Type 0 where
  stays : {w : Window} {one other : Station} → Runs w one other one other
  acts : {w : Window} {one other last_one last_other : Station} (act : Act) → MayAct w one other act
      → Runs w (acting w one act) (facing other act) last_one last_other → Runs w one other last_one last_other
  turns : {w : Window} {one other last_one last_other : Station} → Runs w other one last_other last_one → Runs w one other last_one last_other

-- the station that called: its SABM was sent, and delivered
abbrev pub calling_station : Window → CallSign → CallSign → Station
calling_station w me peer =
    record {
      end = record (calling_end me peer) { reply = None };
      transmissions = record { frame = frame_of_reply w (calling_end me peer) call; delivered = true } ∷ [];
    }

-- the station that answers that SABM
abbrev pub answering_station : CallSign → CallSign → Station
answering_station me peer = record { end = answering_end me peer true; transmissions = [] }

-- Linked stations are linked after each run.
abbrev pub RunLaw : Type 0
RunLaw =
    (w : Window) (one other last_one last_other : Station) → IsWindow w → AreLinked w one other
    → Runs w one other last_one last_other → AreLinked w last_one last_other

-- Whatever two stations do from the answer to a SABM on, what each has accepted is a prefix of what was pushed at the
-- other.
abbrev pub WholeRunLaw : Type 0
WholeRunLaw =
    (w : Window) (me peer : CallSign) (one other : Station) → IsWindow w
    → Runs w (calling_station w me peer) (answering_station peer me) one other
    → IsFront (concat other.end.taken) one.end.pushed × IsFront (concat one.end.taken) other.end.pushed

-- two stations after a run from the answer to a SABM on, and an I or S frame of the one, with m - k frames sent after
-- it, that shows the other a bad N(R)
pub record Misread (w : Window) (me peer : CallSign) : Type 0 where
  pub one : Station
  pub other : Station
  pub runs : Runs w (calling_station w me peer) (answering_station peer me) one other
  pub one_quiet : IsQuiet w one.end
  pub other_quiet : IsQuiet w other.end
  pub place : ℕ
  pub t : Transmission
  pub sent : IsAt other.transmissions place t
  pub kind : IsTrue (is_numbered (control_of t))
  pub late : later_count other.transmissions place ≡ w.modulus - w.size
  pub bad : is_bad (meaning_of w one.end (ack_number (control_of t))) ≡ true

-- The bound of m - 1 - k later frames is exact: with one more the law is false, for every modulus and window.
abbrev pub BoundLaw : Type 0
BoundLaw = (w : Window) (me peer : CallSign) → IsWindow w → Misread w me peer
