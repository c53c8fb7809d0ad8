-- What becomes of a client's attempts when its session hears a frame of it that is no SABM.
use Rattle.std.proofs.Common.{◌≡◌, ℕ, List, [], ◌∷◌, Bool, true, false, Option, None, Some, refl, sym, ap, ap₂, subst}
use Rattle.std.proofs.Common.{◌∙◌}
use Rattle.ftl0_server.specs.Connection.Hearing.{with_end}
use Rattle.ftl0_server.specs.Entries as session
use Rattle.ftl0_server.specs.Entries.{entries_heard}
use Rattle.air_world.proofs.attempts.Names.{IfSome, MatchOption, AllByRecursion, option_map_or, option_or, CallSign, FrameValue, Fits, IsLawful, Transmission, is_call, Window, hears, Connected, caller_of, Happened, hearing, HearingLaw, SessionEntry, Server, ServerStep, Stepped, place_of, Attempt, AreAttempts, Calls, IsBetween, IsSeatedIn, SaysFit, did_in, AreOver, OnlyNewestUp, newest_side, to_server_delivered, with_answered, ServerSide, ServerDid, after_hearing, connection_of, has_session, heard_by, served}
use Rattle.air_world.proofs.attempts.Connections.{IsBehind, last-connection, new-seat, none-over, old-connection, place-behind}
use Rattle.air_world.proofs.attempts.Connections.{session-up, up-goes}
use Rattle.air_world.proofs.attempts.Places.{place-of-is, same-seat}
use Rattle.air_world.proofs.attempts.ServerHearing.{drains-peer, frame-stays}
use Rattle.air_world.proofs.attempts.ServerOwn.{OwnStep, own-goes-on}
use Rattle.air_world.proofs.attempts.ServerStays.{IsHeard, heard-resits}

-- the newest attempt has a session, so that none of the others is up
older-over : (a : Attempt) (older : List Attempt) (side : ServerSide) → a.server ≡ Some side → OnlyNewestUp (a ∷ older)
    → AreOver older
older-over a older side has only =
    subst (λ (o : Option ServerSide). MatchOption o (OnlyNewestUp older) (λ s. AreOver older)) has only

-- What a caller needs of attempts of which the newest one has a session.
pub calls-by : (new : Server) (me : CallSign) (a : Attempt) (older : List Attempt) (side : ServerSide)
    → a.server ≡ Some side → AreAttempts me new.me (a ∷ older)
    → AllByRecursion (λ (b : Attempt). b.window ≡ new.window) (a ∷ older) → AreOver older
    → (place_of me new.slots ≡ None → side.is_up ≡ false)
    → ((place : ℕ) (c : Connected) → IsSeatedIn new place c → caller_of c ≡ me → (side.connected ≡ c)
    × (side.is_up ≡ true)) → Calls new me (a ∷ older)
calls-by new me a older side has are windows over none some =
    let P : Option ServerSide → Type 0 = λ o. MatchOption o (OnlyNewestUp older) (λ s. AreOver older) in
    record {
      attempts_are = are;
      windows = windows;
      sits = record {
        none = λ nowhere. (
          subst (λ (o : Option ServerSide). IfSome o (λ s. s.is_up ≡ false)) (sym has) (none nowhere),
          over,
        );
        some = λ place c is there.
            let it = place-of-is me new.slots place is in
            let same : it.0 ≡ c = same-seat it.0 c (sym it.1 ∙ there) in
            let here = some place c there (ap caller_of (sym same) ∙ it.2) in
            record {
              side = side;
              is_newest = ap (λ (o : Option ServerSide). option_or o (newest_side older)) has;
              connected_is = here.0;
              is_up = here.1;
            };
        newest_up = subst P (sym has) over;
      };
    }

module _ (old : Server) (frame : FrameValue) (moment : ℕ) (gives : Stepped)
    (step : ServerStep old (hears frame moment) [] gives) (hearing_law : HearingLaw)
    (between : IsBetween old) (h : IsHeard old frame moment gives step) where
  abbrev did : ServerDid
  did = did_in moment step

  -- what the frame makes of a connection, with the end that the sender's has when all is sent
  abbrev pub after_of : Connected → Connected
  after_of c = with_end (hearing old.window moment old.store old.lists c frame []).after h.ends.last

  abbrev pub happened : Happened
  happened = hearing old.window moment old.store old.lists h.c frame []

  caller-stays : caller_of (after_of h.c) ≡ frame.src
  caller-stays =
      drains-peer old.window happened.after.end h.ends.last gives.frames between.window h.ends.drains
      ∙ (frame-stays moment old.store old.lists h.c frame hearing_law old.window (between.ups h.place h.c h.there)).peer
      ∙ h.caller_is

  pub behind : IsBehind step.last gives.new frame.src h.place happened.over (after_of h.c)
  behind =
      place-behind old step.last gives.new between frame.src h.place h.changes.now h.changes.within h.changes.slots_are
      h.changes.keeps.slots
      (heard-resits old frame moment gives step hearing_law between h) happened.over (after_of h.c) h.ends.now_is
      caller-stays

  module _ (other : is_call frame.kind.control ≡ false) where
    abbrev entries_of : Connected → List SessionEntry
    entries_of c = entries_heard old.window moment old.store old.lists c frame

    abbrev up_of : Connected → Bool
    up_of c = has_session step.last (caller_of (after_of c))

    -- what it makes of the connection of the sender's session
    abbrev StepsOwn : Connected → Type 0
    StepsOwn c = OwnStep old.window moment old.store old.lists frame gives.frames h.ends.last (up_of c) c

    pub own-step : (side : ServerSide) → side.connected ≡ h.c → StepsOwn side.connected
    own-step side connected_is =
        let up = between.ups h.place h.c h.there in
        let law = hearing_law old.window moment old.store old.lists h.c frame up other in
        subst StepsOwn (sym connected_is)
        (record {
          state = up;
          other = other;
          heard = law.0;
          goes = law.1;
          drains = h.ends.drains;
          goes_on =
              up-goes step.last gives.new frame.src h.place happened.over (after_of h.c) behind;
        })

    -- what the attempts are then, of which the newest one has this session
    abbrev heard_as : Attempt → List Attempt → ServerSide → Connected → List Attempt
    heard_as a older side c = served did (after_of c) (entries_of c) a side ∷ older

    heard-is : (a : Attempt) (older : List Attempt) (side : ServerSide) → a.server ≡ Some side
        → after_hearing did frame (a ∷ older) ≡ heard_as a older side h.c
    heard-is a older side has =
        let before = old-connection old between frame.src h.place h.c h.there h.caller_is in
        let now = last-connection step.last gives.new frame.src h.place happened.over (after_of h.c) behind in
        ap (λ (b : Bool). heard_by b (connection_of old frame.src) (connection_of step.last frame.src) did frame
        (a ∷ older)) other
        ∙ ap₂ (λ (one two : Option Connected). heard_by false one two did frame (a ∷ older)) before now
        ∙ ap
        (λ (o : Option ServerSide). option_map_or (λ s. served did (after_of h.c) (entries_of h.c) a s ∷ older) o
        (a ∷ with_answered (served did (after_of h.c) (entries_of h.c)) older)) has

    module _ (fits : SaysFit old frame moment) (a : Attempt) (older : List Attempt) (side : ServerSide)
        (has : a.server ≡ Some side) (connected_is : side.connected ≡ h.c) (is_up : side.is_up ≡ true)
        (are : AreAttempts frame.src old.me (a ∷ older))
        (windows : AllByRecursion (λ (b : Attempt). b.window ≡ old.window) (a ∷ older))
        (only : OnlyNewestUp (a ∷ older)) (place : ℕ) (t : Transmission)
        (lawful : IsLawful a.window a.by_client place t) (frame_is : frame ≡ t.frame) where
      said-fit : AllByRecursion Fits (session.said_in (entries_of side.connected))
      said-fit =
          subst (λ (c : Connected). AllByRecursion Fits (session.said_in (entries_of c))) (sym connected_is)
          (fits.said h.place h.c h.is_place h.there other)

      goes-on : AreAttempts frame.src old.me (heard_as (to_server_delivered place t a) older side side.connected)
      goes-on = (
        own-goes-on frame.src old.me a side are.0 has is_up place t lawful frame frame_is old.window windows.0 moment
            old.store old.lists gives.frames h.ends.last
            (up_of side.connected) (own-step side connected_is) said-fit,
        are.1,
      )

      pub heard-calls : Calls gives.new frame.src (after_hearing did frame (to_server_delivered place t a ∷ older))
      heard-calls =
          subst (λ (list : List Attempt). Calls gives.new frame.src list)
          (sym (heard-is (to_server_delivered place t a) older side has))
          (calls-by gives.new frame.src (served did (after_of h.c) (entries_of h.c) (to_server_delivered place t a)
          side) older _ refl
          (subst (λ (server : CallSign). AreAttempts frame.src server
          (heard_as (to_server_delivered place t a) older side h.c)) (sym h.changes.keeps.me)
          (subst (λ (c : Connected). AreAttempts frame.src old.me
          (heard_as (to_server_delivered place t a) older side c)) connected_is goes-on))
          (subst (λ (w : Window). AllByRecursion (λ (b : Attempt). b.window ≡ w) (a ∷ older))
          (sym h.changes.keeps.window) windows)
          (older-over a older side has only)
          (none-over step.last gives.new frame.src h.place happened.over (after_of h.c) behind)
          (λ at c there mine.
          let seat =
          new-seat step.last gives.new frame.src h.place happened.over (after_of h.c) behind at c there mine in
          (seat.1, session-up step.last gives.new frame.src h.place happened.over (after_of h.c) behind seat.0)))
