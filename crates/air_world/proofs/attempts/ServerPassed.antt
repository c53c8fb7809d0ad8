-- A frame that no session hears is ignored, or answered by DM.
use Rattle.std.proofs.Common.{◌≡◌, ◌⊎◌, inl, inr, ℕ, List, [], ◌∷◌, Bool, true, false, Option, None, Some, refl, sym}
use Rattle.std.proofs.Common.{ap, ap₂, subst, ◌∙◌, arith}
use Rattle.std.specs.Prelude.{◌&&◌}
use Rattle.air_world.proofs.attempts.Names.{AllByRecursion, CallSign, FrameValue, IsAt, Transmission, fresh, is_numbered, AreAnswers, refusal_frame, is_call, IsWindow, Window, prefix_law, hears, Connected, Refused, Server, hearing_stranger, ServerStep, Stepped, all_freed, first_empty, refusals, silent-by, stranger_by, Attempt, IsAnsweredBy, IsAttempt, IsFromTo, IsRefusal, client_station, server_station, AreAttempts, Calls, IsBetween, SitsBy, did_in, server_sends, to_server_delivered, ServerSide, ServerDid, after_hearing, connection_of, heard_by}
use Rattle.air_world.proofs.attempts.Connections.{old-none}
use Rattle.air_world.proofs.attempts.Left.{delivered-server}
use Rattle.air_world.proofs.attempts.Places.{connection_among, place-of-not}
use Rattle.air_world.proofs.attempts.ServerStays.{IsPassed}
use Rattle.air_world.proofs.attempts.Sitting.{calls-kept, none-seats}
use Rattle.air_world.proofs.attempts.Transmissions.{all-sent}

-- ---- DM

-- the frame is a DM of this station to that one
pub record IsDm (me peer : CallSign) (frame : FrameValue) : Type 0 where
  pub poll : Bool
  pub is : frame ≡ refusal_frame me (record { to = peer; poll = poll })

dm-from : (w : Window) (me peer : CallSign) (frame : FrameValue) → IsWindow w → IsDm me peer frame
    → IsFromTo w me peer frame
dm-from w me peer frame window dm =
    subst (IsFromTo w me peer) (sym dm.is)
    (record {
      src_is = refl;
      dest_is = refl;
      via = refl;
      sends = let some = window.fewer in omega arith;
      acks =
          let some = window.fewer in omega arith;
    })

dm-refuses : (me peer : CallSign) (frame : FrameValue) → IsDm me peer frame → IsRefusal (fresh frame)
dm-refuses me peer frame dm =
    subst (λ (f : FrameValue). IsRefusal (fresh f)) (sym dm.is) (record { refuses = refl; responds = refl })

dms-answer : (me peer : CallSign) (frames : List FrameValue) → AllByRecursion (IsDm me peer) frames → AreAnswers frames
dms-answer me peer [] all = tt
dms-answer me peer (frame ∷ frames) all = (
  ap (λ (f : FrameValue). is_numbered f.kind.control) all.0.is,
  ap (λ (f : FrameValue). is_call f.kind.control) all.0.is,
  dms-answer me peer frames all.1,
)

-- ---- an attempt

answered-sends : (me server : CallSign) (a : Attempt) (frames : List FrameValue)
    → AllByRecursion (IsDm server me) frames → (o : Option ServerSide) → IsAnsweredBy a o
    → IsAnsweredBy (server_sends frames a) o
answered-sends me server a frames dms None un = record {
  unused = un.unused;
  state = un.state;
  alone = un.alone;
  refused = all-sent (IsDm server me) IsRefusal (dm-refuses server me) a.by_server frames un.refused dms;
  unserved = un.unserved;
}
answered-sends me server a frames dms (Some side) answered =
    let turned = prefix_law.turned a.window (client_station a) (server_station a side) answered.linked in
    let on =
    prefix_law.answered a.window (server_station a side) (client_station a) frames turned
    (dms-answer server me frames dms) in
    record {
      linked = prefix_law.turned a.window (server_station (server_sends frames a) side) (client_station a) on;
      quiet = answered.quiet;
      session = answered.session;
    }

pub attempt-sends : (me server : CallSign) (a : Attempt) (frames : List FrameValue)
    → AllByRecursion (IsDm server me) frames → IsAttempt me server a
    → IsAttempt me server (server_sends frames a)
attempt-sends me server a frames dms is = record {
  window = is.window;
  stations = record {
    client = is.stations.client;
    serves = is.stations.serves;
    from_client = is.stations.from_client;
    from_server =
        all-sent (IsDm server me) (λ t. IsFromTo a.window server me t.frame)
        (λ frame dm. dm-from a.window server me frame is.window dm) a.by_server frames
        is.stations.from_server dms;
  };
  call = is.call;
  calling = is.calling;
  quiet = is.quiet;
  job = is.job;
  answered = answered-sends me server a frames dms a.server is.answered;
}

-- ---- the server

-- what a station without a connection is answered
abbrev IsRefusing : CallSign → Option Refused → Type 0
IsRefusing peer stray = (stray ≡ None) ⊎ ((poll : Bool) × (stray ≡ Some (record { to = peer; poll = poll })))

stranger-stray : (old : Server) (frame : FrameValue) (moment : ℕ) (calls : Bool) (place : Option ℕ) (asks : Bool)
    → old.stray ≡ None
    → IsRefusing frame.src (stranger_by old frame moment calls place asks).stray
stranger-stray old frame moment true None asks none = inr (frame.poll, refl)
stranger-stray old frame moment true (Some place) asks none = inl none
stranger-stray old frame moment false place true none = inr (true, refl)
stranger-stray old frame moment false place false none = inl none

refusals-dm : (me peer : CallSign) (stray : Option Refused) → IsRefusing peer stray
    → AllByRecursion (IsDm me peer) (refusals me stray)
refusals-dm me peer stray is =
    elim is [
      | inl none ↦ subst (λ (o : Option Refused). AllByRecursion (IsDm me peer) (refusals me o)) (sym none) tt
      | inr some ↦
          subst (λ (o : Option Refused). AllByRecursion (IsDm me peer) (refusals me o)) (sym some.1)
          (record { poll = some.0; is = refl }, tt)
    ]

module _ (old : Server) (frame : FrameValue) (moment : ℕ) (gives : Stepped)
    (step : ServerStep old (hears frame moment) [] gives) (between : IsBetween old)
    (h : IsPassed old frame moment gives step) where
  abbrev did : ServerDid
  did = did_in moment step

  dms : AllByRecursion (IsDm old.me frame.src) gives.frames
  dms =
      subst (AllByRecursion (IsDm old.me frame.src)) (sym h.changes.frames_are)
      (refusals-dm old.me frame.src (hearing_stranger old frame moment).stray
      (stranger-stray old frame moment (is_call frame.kind.control) (first_empty old.slots)
      (frame.command && frame.poll) (silent-by old old.stray step.silent).0))

  none-before : connection_of old frame.src ≡ None
  none-before =
      old-none old between frame.src (λ place c there same. place-of-not frame.src old.slots h.none place c there same)

  none-behind : connection_of step.last frame.src ≡ None
  none-behind = ap (connection_among frame.src) h.changes.slots_are ∙ none-before

  passed-by : (b : Bool) (a : Attempt) (older : List Attempt)
      → heard_by b None None did frame (a ∷ older) ≡ server_sends gives.frames a ∷ older
  passed-by true a older = refl
  passed-by false a older = refl

  passed-is : (a : Attempt) (older : List Attempt)
      → after_hearing did frame (a ∷ older) ≡ server_sends gives.frames a ∷ older
  passed-is a older =
      ap₂ (λ (one two : Option Connected). heard_by (is_call frame.kind.control) one two did frame (a ∷ older))
      none-before none-behind
      ∙ passed-by (is_call frame.kind.control) a older

  pub passed-calls : (a : Attempt) (older : List Attempt) (place : ℕ) (t : Transmission) → IsAt a.by_client place t
      → Calls old frame.src (a ∷ older)
      → Calls gives.new frame.src (after_hearing did frame (to_server_delivered place t a ∷ older))
  passed-calls a older place t at calls =
      let b : Attempt = server_sends gives.frames (to_server_delivered place t a) in
      let all : AreAttempts frame.src old.me (b ∷ older) = (
        attempt-sends frame.src old.me (to_server_delivered place t a) gives.frames dms
            (delivered-server frame.src old.me a place t at calls.attempts_are.0),
        calls.attempts_are.1,
      ) in
      let sits : SitsBy old frame.src (b ∷ older) =
      record {
        none = calls.sits.none;
        some = λ place c is there.
            let newest = calls.sits.some place c is there in
            record {
              side = newest.side;
              is_newest = newest.is_newest;
              connected_is = newest.connected_is;
              is_up =
                  newest.is_up;
            };
        newest_up = calls.sits.newest_up;
      } in
      let slots = h.changes.keeps.slots ∙ ap all_freed h.changes.slots_are in
      subst (λ (list : List Attempt). Calls gives.new frame.src list)
      (sym (passed-is (to_server_delivered place t a) older))
      (calls-kept old gives.new frame.src between (none-seats old gives.new frame.src slots) (b ∷ older)
      h.changes.keeps.me h.changes.keeps.window
      (record { attempts_are = all; windows = calls.windows; sits = sits }))
