-- What becomes of a client's attempts when the server answers its SABM.
use Rattle.std.proofs.Common.{◌≡◌, ℕ, ◌<◌, ◌^◌, List, [], ◌∷◌, length, Bool, true, false, Option, None, Some, refl, sym}
use Rattle.std.proofs.Common.{ap, ap₂, subst, ◌∙◌}
use Rattle.ftl0_server.specs.Connection.Hearing.{with_end}
use Rattle.air_world.proofs.attempts.Names.{slice_set, AllByRecursion, option_or, CallSign, FrameValue, IsLawful, Transmission, is_call, Window, hears, has_left, Connected, answering, caller_of, Happened, HearingLaw, Server, ServerStep, Stepped, Slot, all_freed, Attempt, IsEndOf, AreAttempts, Calls, IsBetween, IsNewestSession, did_in, all_over, newest_side, server_sends, to_server_delivered, ServerSide, ServerDid, after_hearing, connection_of, heard_by}
use Rattle.air_world.proofs.attempts.Connections.{IsBehind, last-connection, new-seat, none-over, place-behind, session-up}
use Rattle.air_world.proofs.attempts.Left.{all-attempts-over, are-over, over-windows}
use Rattle.air_world.proofs.attempts.ServerBetween.{Resits}
use Rattle.air_world.proofs.attempts.ServerHearing.{SlotEnds, drains-peer, hears-call, reopened}
use Rattle.air_world.proofs.attempts.ServerHears.{calls-by}
use Rattle.air_world.proofs.attempts.ServerLink.{serving-end}
use Rattle.air_world.proofs.attempts.ServerOpens.{begins, not-answered, opens}
use Rattle.air_world.proofs.attempts.ServerStays.{IsHeard, IsOpened, heard-resits, opened-resits}

-- the end of the newest session is of the server and the client
newest-end : (me server : CallSign) (attempts : List Attempt) (side : ServerSide) → AreAttempts me server attempts
    → newest_side attempts ≡ Some side
    → IsEndOf false server me side.connected.end
newest-end me server [] side are newest = absurd cc
newest-end me server (a ∷ older) side are newest = by a.server refl (newest-end me server older side are.1)
  where
    by : (o : Option ServerSide) → a.server ≡ o
        → (newest_side older ≡ Some side → IsEndOf false server me side.connected.end)
        → IsEndOf false server me side.connected.end
    by None has later = later (ap (λ (o : Option ServerSide). option_or o (newest_side older)) (sym has) ∙ newest)
    by (Some other) has later =
        let same : other ≡ side =
        (let found = ap (λ (o : Option ServerSide). option_or o (newest_side older)) (sym has) ∙ newest in cc) in
        serving-end me server a side are.0 (has ∙ ap Some same)

module _ (old : Server) (frame : FrameValue) (moment : ℕ) (gives : Stepped)
    (step : ServerStep old (hears frame moment) [] gives) (between : IsBetween old)
    (calls_is : is_call frame.kind.control ≡ true) (low : moment < 2 ^ 32) where
  abbrev did : ServerDid
  did = did_in moment step

  abbrev left : Bool
  left = has_left old.lists frame.src

  -- A place has the connection that the SABM opened.
  pub record IsOpenedAt : Type 0 where
    pub at : ℕ
    pub now : Slot
    pub within : at < length old.slots
    pub last_slots : step.last.slots ≡ slice_set old.slots at now
    pub new_slots : gives.new.slots ≡ all_freed step.last.slots
    pub resits : Resits old frame.src at now
    pub ends : SlotEnds old.window false (answering old.me frame.src frame.poll moment (has_left old.lists frame.src))
        gives.frames now
    pub me_is : gives.new.me ≡ old.me
    pub window_is : gives.new.window ≡ old.window

  module _ (h : IsOpenedAt) where
    -- the connection
    abbrev c : Connected
    c = with_end (answering old.me frame.src frame.poll moment left) h.ends.last

    caller-is : caller_of c ≡ frame.src
    caller-is =
        drains-peer old.window (answering old.me frame.src frame.poll moment left).end h.ends.last gives.frames
        between.window h.ends.drains

    behind : IsBehind step.last gives.new frame.src h.at false c
    behind =
        place-behind old step.last gives.new between frame.src h.at h.now h.within h.last_slots h.new_slots h.resits
        false c h.ends.now_is caller-is

    abbrev opened_as : Attempt → List Attempt → Bool → List Attempt
    opened_as a older numbers =
        server_sends gives.frames (record a { server = Some (begins h.ends.last moment numbers) }) ∷ all_over older

    opened-is : (a : Attempt) (older : List Attempt) → after_hearing did frame (a ∷ older) ≡ opened_as a older left
    opened-is a older =
        let now = last-connection step.last gives.new frame.src h.at false c behind in
        ap₂ (λ (b : Bool) (o : Option Connected). heard_by b (connection_of old frame.src) o did frame (a ∷ older))
        calls_is now
        ∙ ap (λ (caller : CallSign). opened_as a older (has_left old.lists caller)) caller-is

    module _ (a : Attempt) (older : List Attempt) (are : AreAttempts frame.src old.me (a ∷ older))
        (windows : AllByRecursion (λ (b : Attempt). b.window ≡ old.window) (a ∷ older)) (place : ℕ) (t : Transmission)
        (lawful : IsLawful a.window a.by_client place t) (frame_is : frame ≡ t.frame) where
      new-attempts : AreAttempts frame.src old.me (opened_as (to_server_delivered place t a) older left)
      new-attempts =
          let calls = ap (λ (f : FrameValue). is_call f.kind.control) (sym frame_is) ∙ calls_is in
          let un = not-answered frame.src old.me a place t are.0 lawful calls in (
            opens frame.src old.me a are.0 un.0 place t lawful calls old.window windows.0 frame.poll left moment low
                gives.frames h.ends.last h.ends.drains,
            all-attempts-over frame.src old.me older are.1,
          )

      pub opened-calls : Calls gives.new frame.src (after_hearing did frame (to_server_delivered place t a ∷ older))
      opened-calls =
          let up = session-up step.last gives.new frame.src h.at false c behind refl in
          subst (λ (list : List Attempt). Calls gives.new frame.src list)
          (sym (opened-is (to_server_delivered place t a) older))
          (calls-by gives.new frame.src _ (all_over older) (begins h.ends.last moment left) refl
          (subst (λ (server : CallSign). AreAttempts frame.src server
          (opened_as (to_server_delivered place t a) older left)) (sym h.me_is) new-attempts)
          (subst (λ (w : Window). AllByRecursion (λ (b : Attempt). b.window ≡ w)
          (opened_as (to_server_delivered place t a) older left)) (sym h.window_is)
          (windows.0, over-windows old.window older windows.1))
          (are-over older)
          (λ none.
          let down = none-over step.last gives.new frame.src h.at false c behind none in
          sym up ∙ down)
          (λ other d there mine.
          let seat = new-seat step.last gives.new frame.src h.at false c behind other d there mine in
          (seat.1, refl)))

  -- a station without a session
  pub opened-at : HearingLaw → (h : IsOpened old frame moment gives step) → IsOpenedAt
  opened-at hearing_law h = record {
    at = h.place;
    now = h.changes.now;
    within = h.changes.within;
    last_slots = h.changes.slots_are;
    new_slots = h.changes.keeps.slots;
    resits = opened-resits old frame moment gives step hearing_law between h;
    ends = h.ends;
    me_is = h.changes.keeps.me;
    window_is = h.changes.keeps.window;
  }

  -- a station with a session, which is over then
  pub reopened-at : HearingLaw → (h : IsHeard old frame moment gives step) (attempts : List Attempt)
      → AreAttempts frame.src old.me attempts
      → IsNewestSession h.c attempts → IsOpenedAt
  reopened-at hearing_law h attempts are newest =
      let end : IsEndOf false old.me frame.src h.c.end =
      subst (λ (c : Connected). IsEndOf false old.me frame.src c.end) newest.connected_is
      (newest-end frame.src old.me attempts newest.side are newest.is_newest) in
      let up = between.ups h.place h.c h.there in
      let again = hears-call moment old.store old.lists h.c frame old.window up end.called_is calls_is in
      let ends : SlotEnds old.window false (reopened moment old.store old.lists h.c frame).after gives.frames
      h.changes.now =
      subst (λ (it : Happened). SlotEnds old.window it.over it.after gives.frames h.changes.now) again h.ends in
      let by : CallSign → CallSign → Type 0 =
      λ me caller. SlotEnds old.window false (answering me caller frame.poll moment (has_left old.lists caller))
      gives.frames h.changes.now in
      record {
        at = h.place;
        now = h.changes.now;
        within = h.changes.within;
        last_slots = h.changes.slots_are;
        new_slots = h.changes.keeps.slots;
        resits = heard-resits old frame moment gives step hearing_law between h;
        ends = subst (by old.me) end.peer_is (subst (λ (me : CallSign). by me h.c.end.peer) end.me_is ends);
        me_is = h.changes.keeps.me;
        window_is = h.changes.keeps.window;
      }
