-- A session's end of the link makes its step: the attempt goes on.
use Rattle.std.proofs.Common.{◌≡◌, ℕ, List, false, Option, None, Some, sym, subst, ◌∙◌}
use Rattle.ax25_link.specs.LinkStep as step
use Rattle.air_world.proofs.attempts.Names.{IfSome, concat, CallSign, IsFront, IsOctets, FrameValue, texts, IsLawful, Transmission, delivering, sending_all, Doing, Heard, Calling, Up, LinkEnd, LinkStep, AreLinked, IsQuiet, SendsOwn, prefix_law, AreFromTo, Attempt, IsAnswered, IsAnsweredBy, IsAttempt, IsEndOf, IsOneCall, client_station, server_station, IsSession, ServerSide, said_by_client}
use Rattle.air_world.proofs.attempts.PacketLists.{octets-of_front}
use Rattle.air_world.proofs.attempts.Sent.{stays-of}

-- an attempt that has this session is answered by it
pub answered-by : (me server : CallSign) (a : Attempt) (side : ServerSide) → IsAttempt me server a
    → a.server ≡ Some side → IsAnswered a side
answered-by me server a side is has = by a.server has is.answered
  where
    by : (o : Option ServerSide) → o ≡ Some side → IsAnsweredBy a o → IsAnswered a side
    by None has answered = absurd cc
    by (Some other) has answered = subst (IsAnswered a) (let same : other ≡ side = cc in same) answered

-- ---- an answered attempt goes on

-- the attempt with its session gone on, these transmissions of the client, and these frames sent by the server
abbrev pub gone : Attempt → ServerSide → List Transmission → List FrameValue → Attempt
gone a side list frames =
    record a { server = Some side; by_client = list; by_server = sending_all a.by_server frames }

-- What an attempt needs to go on so: its client's transmissions are as they were except for a delivery, the ends are
-- linked still, and the session went on.
pub record GoesOn (me server : CallSign) (a : Attempt) (old new : ServerSide) (list : List Transmission)
    (frames : List FrameValue) : Type 0 where
  pub call : IsOneCall list
  pub from_client : AreFromTo a.window me server list
  pub sends : SendsOwn a.window old.connected.end frames new.connected.end
  pub linked : AreLinked a.window (client_station (gone a new list frames))
      (server_station (gone a new list frames) new)
  pub quiet : IsQuiet a.window new.connected.end
  pub session : IsSession new

pub serving-end : (me server : CallSign) (a : Attempt) (side : ServerSide) → IsAttempt me server a
    → a.server ≡ Some side → IsEndOf false server me side.connected.end
serving-end me server a side is has = by a.server has is.stations.serves
  where
    by : (o : Option ServerSide) → o ≡ Some side
        → IfSome o (λ (s : ServerSide). IsEndOf false server me s.connected.end)
        → IsEndOf false server me side.connected.end
    by None has serves = absurd cc
    by (Some other) has serves =
        subst (λ (s : ServerSide). IsEndOf false server me s.connected.end) (let same : other ≡ side = cc in same)
        serves

pub attempt-goes-on : (me server : CallSign) (a : Attempt) (old new : ServerSide) (list : List Transmission)
    (frames : List FrameValue) → IsAttempt me server a → a.server ≡ Some old
    → GoesOn me server a old new list frames → IsAttempt me server (gone a new list frames)
attempt-goes-on me server a old new list frames is has on =
    let stays =
    stays-of a.window false server me a.by_server frames old.connected.end new.connected.end is.window
    (serving-end me server a old is has) is.stations.from_server on.sends in
    record {
      window = is.window;
      stations = record {
        client = is.stations.client;
        serves = stays.end;
        from_client = on.from_client;
        from_server = stays.sent;
      };
      call = on.call;
      calling = is.calling;
      quiet = is.quiet;
      job = is.job;
      answered = record { linked = on.linked; quiet = on.quiet; session = on.session };
    }

-- ---- a step of the link

-- the client's transmission comes
pub link-hears : (me server : CallSign) (a : Attempt) (side : ServerSide) (place : ℕ) (t : Transmission) (heard : Heard)
    (doings : List Doing)
    (frames : List FrameValue) (last : LinkEnd) → IsAttempt me server a → a.server ≡ Some side
    → IsLawful a.window a.by_client place t
    → LinkStep a.window side.connected.end (step.frame t.frame) heard doings frames last
    → AreLinked a.window (record { end = a.client.attempted.end; transmissions = delivering a.by_client place t })
    (record { end = last; transmissions = sending_all a.by_server frames })
link-hears me server a side place t heard doings frames last is has lawful steps =
    let answered = answered-by me server a side is has in
    let turned = prefix_law.turned a.window (client_station a) (server_station a side) answered.linked in
    let on =
    prefix_law.heard a.window (server_station a side) (client_station a) place t heard doings frames last is.window
    turned is.quiet lawful steps in
    prefix_law.turned a.window (record { end = last; transmissions = sending_all a.by_server frames })
    (record { end = a.client.attempted.end; transmissions = delivering a.by_client place t }) on

-- a tick comes
pub link-ticks : (me server : CallSign) (a : Attempt) (side : ServerSide) (heard : Heard) (doings : List Doing)
    (frames : List FrameValue) (last : LinkEnd) → IsAttempt me server a → a.server ≡ Some side
    → side.connected.end.state ≡ Up
    → LinkStep a.window side.connected.end step.tick heard doings frames last
    → AreLinked a.window (client_station a) (record { end = last; transmissions = sending_all a.by_server frames })
link-ticks me server a side heard doings frames last is has up steps =
    let answered = answered-by me server a side is has in
    let turned = prefix_law.turned a.window (client_station a) (server_station a side) answered.linked in
    let none =
    prefix_law.no_call.step a.window side.connected.end last step.tick heard doings frames steps
    (λ same calls. absurd (let no : Up ≡ Calling = sym up ∙ calls in cc)) in
    let on =
    prefix_law.ticked a.window (server_station a side) (client_station a) heard doings frames last is.window turned
    steps none in
    prefix_law.turned a.window (record { end = last; transmissions = sending_all a.by_server frames })
    (client_station a) on

-- What the session's end accepted is a prefix of what the client said, and so octets.
module _ (me server : CallSign) (a : Attempt) (list more : List Transmission) (last : LinkEnd)
    (is : IsAttempt me server a)
    (linked : AreLinked a.window (record { end = a.client.attempted.end; transmissions = list })
    (record { end = last; transmissions = more })) where
  pub taken-front : IsFront (concat last.taken) (texts (said_by_client a.client))
  taken-front =
      subst (IsFront (concat last.taken)) is.job.said
      (prefix_law.front a.window (record { end = a.client.attempted.end; transmissions = list })
      (record { end = last; transmissions = more }) linked)

  pub taken-octets : IsOctets (concat last.taken)
  taken-octets = octets-of_front (said_by_client a.client) (concat last.taken) is.job.fits taken-front
