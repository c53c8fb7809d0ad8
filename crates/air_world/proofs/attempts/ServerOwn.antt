-- A frame of a client reaches its session: the current attempt goes on.
use Rattle.std.proofs.Common.{◌≡◌, ℕ, List, [], Bool, true, false, Some, refl, sym, ap, subst}
use Rattle.ax25_link.specs.LinkStep as step
use Rattle.ftl0_server.specs.Entries as session
use Rattle.ftl0_server.specs.Entries.{GoesBy, entries_heard}
use Rattle.air_world.proofs.attempts.Names.{AllByRecursion, concat, CallSign, IsOctets, FrameValue, Fits, IsLawful, Transmission, delivering, sending_all, Up, LinkEnd, LinkStep, AreLinked, heard_of, is_call, Drains, IsQuiet, SendsOwn, Window, stations_law, Store, CallerList, session_over, Connected, caller_of, hearing, HeardBy, SessionEntry, session_after, Attempt, IsAttempt, ServerSide}
use Rattle.air_world.proofs.attempts.LinkKeeps.{drains-quiet}
use Rattle.air_world.proofs.attempts.ServerLink.{answered-by, attempt-goes-on, gone, link-hears, taken-octets}
use Rattle.air_world.proofs.attempts.SessionAppend.{HearsOn, gone_by, session-goes-on}
use Rattle.air_world.proofs.attempts.Transmissions.{from-delivered, one-call-delivered}

-- What a frame that is no SABM makes of a connection, whose link then sends these frames; the session is up then, or
-- over.
pub record OwnStep (w : Window) (moment : ℕ) (store : Store) (lists : List CallerList) (frame : FrameValue)
    (frames : List FrameValue) (last : LinkEnd) (up : Bool)
    (c : Connected) : Type 0 where
  pub state : c.end.state ≡ Up
  pub other : is_call frame.kind.control ≡ false
  pub heard : HeardBy w frame c (hearing w moment store lists c frame []) (entries_heard w moment store lists c frame)
  pub goes :
      GoesBy (caller_of c) moment (session_over store lists c.state) (entries_heard w moment store lists c frame)
      (session_after store (hearing w moment store lists c frame []))
  pub drains : Drains w (hearing w moment store lists c frame []).after.end frames last
  pub goes_on : up ≡ true → (hearing w moment store lists c frame []).over ≡ false

module _ (me server : CallSign) (a : Attempt) (side : ServerSide) (is : IsAttempt me server a)
    (has : a.server ≡ Some side) (is_up : side.is_up ≡ true)
    (place : ℕ) (t : Transmission) (lawful : IsLawful a.window a.by_client place t) (frame : FrameValue)
    (frame_is : frame ≡ t.frame) where
  module _ (w : Window) (same : a.window ≡ w) (moment : ℕ) (store : Store) (lists : List CallerList)
      (frames : List FrameValue) (last : LinkEnd) (up : Bool)
      (h : OwnStep w moment store lists frame frames last up side.connected) where
    abbrev c : Connected
    c = side.connected

    abbrev entries : List SessionEntry
    entries = entries_heard w moment store lists c frame

    -- the session gone on
    abbrev pub after_own : ServerSide
    after_own = gone_by side (hearing w moment store lists c frame []) last entries up

    link-step : LinkStep a.window c.end (step.frame frame) (heard_of a.window c.end frame) h.heard.doings frames last
    link-step =
        subst (λ (v : Window). LinkStep v c.end (step.frame frame) (heard_of v c.end frame) h.heard.doings frames last)
        (sym same)
        (record {
          quiet = subst (λ (v : Window). IsQuiet v c.end) same (answered-by me server a side is has).quiet;
          told = refl;
          end = (hearing w moment store lists c frame []).after.end;
          does = h.heard.does;
          drains = h.drains;
        })

    pub linked : AreLinked a.window (record
        { end = a.client.attempted.end; transmissions = delivering a.by_client place t })
        (record { end = last; transmissions = sending_all a.by_server frames })
    linked =
        link-hears me server a side place t (heard_of a.window c.end frame) h.heard.doings frames last is has lawful
        (subst (λ (f : FrameValue). LinkStep a.window c.end (step.frame f) (heard_of a.window c.end frame)
        h.heard.doings frames last) frame_is link-step)

    are-octets : IsOctets (concat last.taken)
    are-octets =
        taken-octets me server a (delivering a.by_client place t) (sending_all a.by_server frames) last is linked

    sends-own : SendsOwn a.window c.end frames last
    sends-own =
        stations_law.step a.window c.end last (step.frame frame) (heard_of a.window c.end frame) h.heard.doings frames
        is.window link-step

    pub hears-on : HearsOn w moment store lists frame side entries frames last up
    hears-on = record {
      is_up = is_up;
      state = h.state;
      other = h.other;
      heard = h.heard;
      goes = h.goes;
      drains = h.drains;
      peer = ap (λ s. s.peer) sends-own.stations;
      octets = are-octets;
      goes_on = h.goes_on;
    }

    pub own-goes-on : AllByRecursion Fits (session.said_in entries)
        → IsAttempt me server (gone a after_own (delivering a.by_client place t) frames)
    own-goes-on fits =
        attempt-goes-on me server a side after_own (delivering a.by_client place t) frames is has
        (record {
          call = one-call-delivered a.by_client place t lawful.sent is.call;
          from_client = from-delivered a.window me server a.by_client place t lawful.sent is.stations.from_client;
          sends = sends-own;
          linked = linked;
          quiet = drains-quiet a.window link-step.end last frames link-step.drains;
          session =
              session-goes-on w moment store lists frame side entries frames last up
              (answered-by me server a side is has).session hears-on fits;
        })
