-- What the lanes of an attempt hold: the transmissions of its two stations.
use Rattle.std.specs.Prelude.{◌≡◌, ℕ, suc, ◌%◌, ◌^◌, List, [], ◌∷◌, ◌++◌, length, slice_get, Bool, ◌||◌, true, false}
use Rattle.std.specs.Prelude.{if◌then◌else◌, Option, None, Some, is_some}
use Rattle.std.specs.List.{AllZip}
use Rattle.ax25_frames.specs.FrameText.{FrameText, FrameValue}
use Rattle.ax25_frames.specs.declared.control.Control.{Control}
use Rattle.ax25_frames.specs.declared.control.Control.TheVariants.{Disc, Dm, Frmr, I, Rej, Rnr, Rr, Sabm, Ua, Ui}
use Rattle.ax25_link.specs.Air.{Transmission, control_of, fresh}
use Rattle.ax25_link.specs.Rows.{is_call}
use Rattle.air_world.specs.Attempts.Attempt.{Attempt}
use Rattle.air_rehearsal.specs.declared.attempt.Attempt.{Attempt as StoredAttempt}
use Rattle.air_rehearsal.specs.declared.lane.Lane.{Lane}
use Rattle.air_rehearsal.specs.declared.lane.Sent.{Sent}
use Rattle.air_rehearsal.specs.declared.lane.Sort.{Sort}
use Rattle.air_rehearsal.specs.declared.lane.Sort.TheVariants as sort

-- how the air may treat a frame of this control
abbrev pub sort_of : Control → Sort
sort_of (I ns nr) = sort.Numbered
sort_of (Rr nr) = sort.Numbered
sort_of (Rnr nr) = sort.Numbered
sort_of (Rej nr) = sort.Numbered
sort_of Sabm = sort.Call
sort_of Disc = sort.Plain
sort_of Dm = sort.Plain
sort_of Ua = sort.Plain
sort_of Frmr = sort.Plain
sort_of Ui = sort.Plain

-- whether the frame is a UA
abbrev pub is_ua : Control → Bool
is_ua (I ns nr) = false
is_ua (Rr nr) = false
is_ua (Rnr nr) = false
is_ua (Rej nr) = false
is_ua Sabm = false
is_ua Disc = false
is_ua Dm = false
is_ua Ua = true
is_ua Frmr = false
is_ua Ui = false

-- this is the transmission
pub record IsSentAs (sent : Sent) (t : Transmission) : Type 0 where
  pub text : FrameText t.frame sent.octets.items
  pub sort_is : sent.sort ≡ sort_of (control_of t)
  pub delivered_is : sent.is_delivered ≡ t.delivered

-- so it is of each of them, one after another
abbrev pub AreSentAs : List Sent → List Transmission → Type 0
AreSentAs = AllZip IsSentAs

-- the lane holds these transmissions
abbrev pub IsLane : Lane → List Transmission → Type 0
IsLane lane list = AreSentAs lane.sent.items list

-- The transmissions of the two stations in the newest attempt, whether a session answered it, and how many attempts
-- there were.
pub record Lanes : Type 0 where
  pub by_client : List Transmission
  pub by_server : List Transmission
  pub answered : Bool
  pub attempts : ℕ

-- before the first attempt
abbrev pub no_lanes : Lanes
no_lanes = record { by_client = []; by_server = []; answered = false; attempts = 0 }

-- those of an attempt, if there was one, where there were so many
abbrev pub lanes_by : Option Attempt → ℕ → Lanes
lanes_by None count = record no_lanes { attempts = count }
lanes_by (Some a) count =
    record {
      by_client = a.by_client;
      by_server = a.by_server;
      answered = is_some a.server;
      attempts = count;
    }

-- those of the newest one of these attempts
abbrev pub lanes_of : List Attempt → Lanes
lanes_of attempts = lanes_by (slice_get attempts 0) (length attempts)

-- The attempt has these lanes. It is counted by a number of 64 bits.
pub record HasLanes (self : StoredAttempt) (lanes : Lanes) : Type 0 where
  pub by_client : IsLane self.from_client lanes.by_client
  pub by_server : IsLane self.from_server lanes.by_server
  pub answered_is : self.is_answered ≡ lanes.answered
  pub number_is : self.number ≡ lanes.attempts % 2 ^ 64

-- an attempt begins, in which nothing was sent
abbrev pub beginning : Lanes → Lanes
beginning lanes = record no_lanes { attempts = suc lanes.attempts }

-- The client sends a frame. A SABM begins an attempt.
abbrev pub sending : FrameValue → Lanes → Lanes
sending frame lanes =
    if is_call frame.kind.control
    then record (beginning lanes) { by_client = fresh frame ∷ [] }
    else record lanes { by_client = lanes.by_client ++ fresh frame ∷ [] }

-- it sends these, one after another
abbrev pub sending_each : List FrameValue → Lanes → Lanes
sending_each [] lanes = lanes
sending_each (frame ∷ frames) lanes = sending_each frames (sending frame lanes)

-- The server replies this frame to the client. By UA a session answers the attempt.
abbrev pub replying : FrameValue → Lanes → Lanes
replying frame lanes =
    record lanes {
      by_server = lanes.by_server ++ fresh frame ∷ [];
      answered = lanes.answered || is_ua frame.kind.control;
    }

-- it replies these
abbrev pub replying_each : List FrameValue → Lanes → Lanes
replying_each [] lanes = lanes
replying_each (frame ∷ frames) lanes = replying_each frames (replying frame lanes)

-- A session sends the client a frame by its timer. Where no session answered the attempt, the session is of an older
-- one, whose frames nobody hears any more.
abbrev pub timing : FrameValue → Lanes → Lanes
timing frame lanes =
    if lanes.answered then record lanes { by_server = lanes.by_server ++ fresh frame ∷ [] } else lanes

abbrev pub timing_each : List FrameValue → Lanes → Lanes
timing_each [] lanes = lanes
timing_each (frame ∷ frames) lanes = timing_each frames (timing frame lanes)
