-- What a power cut leaves of a client's attempts: attempts, whose sessions are over, and of which a transmission was
-- delivered.
use Rattle.std.proofs.Common.{◌≡◌, ℕ, zero, suc, List, [], ◌∷◌, true, false, Option, None, Some, refl, sym, ap, subst}
use Rattle.std.proofs.Common.{◌∙◌}
use Rattle.air_world.proofs.attempts.Names.{IfSome, slice_get, AllByRecursion, option_map, CallSign, FrameValue, IsAt, Transmission, delivering, IsWindow, Window, prefix_law, Attempt, IsAnswered, IsAnsweredBy, IsAttempt, IsEndOf, IsRefusal, client_station, server_station, AreAttempts, DeliversToClient, DeliversToServer, LeftLaw, AreOver, all_over, over, to_client_delivered, to_server_delivered, IsSession, ServerSide}
use Rattle.air_world.proofs.attempts.Current.{comes-by}
use Rattle.air_world.proofs.attempts.Transmissions.{all-delivered, from-delivered, one-call-delivered}

-- ---- sessions that are over

session-over : (side : ServerSide) → IsSession side → IsSession (over side)
session-over side is = record {
  reached = is.reached;
  unread = is.unread;
  packets = is.packets;
  all = is.all;
  none_lost = λ up. absurd (let no : false ≡ true = up in cc);
  rest = is.rest;
  said = is.said;
  greets = is.greets;
  fits = is.fits;
}

-- the attempt with its session over
abbrev ended : Attempt → Attempt
ended a = record a { server = option_map over a.server }

answered-over : (a : Attempt) (o : Option ServerSide) → IsAnsweredBy a o → IsAnsweredBy (ended a) (option_map over o)
answered-over a None un =
    record { unused = un.unused; state = un.state; alone = un.alone; refused = un.refused; unserved = un.unserved }
answered-over a (Some side) answered =
    record { linked = answered.linked; quiet = answered.quiet; session = session-over side answered.session }

serves-over : (me server : CallSign) (o : Option ServerSide)
    → IfSome o (λ (side : ServerSide). IsEndOf false server me side.connected.end)
    → IfSome (option_map over o) (λ (side : ServerSide). IsEndOf false server me side.connected.end)
serves-over me server None serves = serves
serves-over me server (Some side) serves = serves

attempt-over : (me server : CallSign) (a : Attempt) → IsAttempt me server a → IsAttempt me server (ended a)
attempt-over me server a is = record {
  window = is.window;
  stations = record {
    client = is.stations.client;
    serves = serves-over me server a.server is.stations.serves;
    from_client = is.stations.from_client;
    from_server = is.stations.from_server;
  };
  call = is.call;
  calling = is.calling;
  quiet = is.quiet;
  job = is.job;
  answered = answered-over a a.server is.answered;
}

pub all-attempts-over : (me server : CallSign) (attempts : List Attempt) → AreAttempts me server attempts
    → AreAttempts me server (all_over attempts)
all-attempts-over me server [] are = are
all-attempts-over me server (a ∷ older) are = (attempt-over me server a are.0, all-attempts-over me server older are.1)

-- the windows stay, and none is up
pub over-windows : (w : Window) (attempts : List Attempt) → AllByRecursion (λ (a : Attempt). a.window ≡ w) attempts
    → AllByRecursion (λ (a : Attempt). a.window ≡ w) (all_over attempts)
over-windows w [] all = all
over-windows w (a ∷ older) all = (all.0, over-windows w older all.1)

side-over : (o : Option ServerSide) → IfSome (option_map over o) (λ (side : ServerSide). side.is_up ≡ false)
side-over None = tt
side-over (Some side) = refl

pub are-over : (attempts : List Attempt) → AreOver (all_over attempts)
are-over [] = tt
are-over (a ∷ older) = (side-over a.server, are-over older)

-- ---- a transmission that is delivered

-- what the delivery leaves of a session's two stations
delivered-to-client : (a : Attempt) (side : ServerSide) (w : IsWindow a.window) (place : ℕ) (t : Transmission)
    → IsAt a.by_server place t
    → IsAnswered a side → IsAnswered (to_client_delivered place t a) side
delivered-to-client a side w place t at answered = record {
  linked = prefix_law.delivered a.window (client_station a) (server_station a side) place t w answered.linked at;
  quiet = answered.quiet;
  session = answered.session;
}

delivered-to-server : (a : Attempt) (side : ServerSide) (w : IsWindow a.window) (place : ℕ) (t : Transmission)
    → IsAt a.by_client place t
    → IsAnswered a side → IsAnswered (to_server_delivered place t a) side
delivered-to-server a side w place t at answered =
    let turned = prefix_law.turned a.window (client_station a) (server_station a side) answered.linked in
    let on = prefix_law.delivered a.window (server_station a side) (client_station a) place t w turned at in
    record {
      linked =
          prefix_law.turned a.window (server_station a side)
          (record { end = a.client.attempted.end; transmissions = delivering a.by_client place t }) on;
      quiet = answered.quiet;
      session = answered.session;
    }

-- a delivered transmission of one
pub delivered-alone : (list : List Transmission) (call t : Transmission) (place : ℕ) → list ≡ call ∷ []
    → IsAt list place t
    → delivering list place t ≡ record t { delivered = true } ∷ []
delivered-alone list call t place alone at =
    ap (λ (l : List Transmission). delivering l place t) alone
    ∙ by place (ap (λ (l : List Transmission). slice_get l place) (sym alone) ∙ at)
  where
    by : (n : ℕ) → IsAt (call ∷ []) n t → delivering (call ∷ []) n t ≡ record t { delivered = true } ∷ []
    by zero is = refl
    by (suc n) is = absurd cc

answered-by-client : (a : Attempt) (w : IsWindow a.window) (place : ℕ) (t : Transmission) → IsAt a.by_server place t
    → (o : Option ServerSide)
    → IsAnsweredBy a o → IsAnsweredBy (to_client_delivered place t a) o
answered-by-client a w place t at None un = record {
  unused = un.unused;
  state = un.state;
  alone = un.alone;
  refused =
      all-delivered IsRefusal (λ u is. record { refuses = is.refuses; responds = is.responds }) a.by_server place t at
      un.refused;
  unserved = un.unserved;
}
answered-by-client a w place t at (Some side) answered = delivered-to-client a side w place t at answered

answered-by-server : (a : Attempt) (w : IsWindow a.window) (place : ℕ) (t : Transmission) → IsAt a.by_client place t
    → (o : Option ServerSide)
    → IsAnsweredBy a o → IsAnsweredBy (to_server_delivered place t a) o
answered-by-server a w place t at None un = record {
  unused = un.unused;
  state = un.state;
  alone = (record t { delivered = true }, delivered-alone a.by_client un.alone.0 t place un.alone.1 at);
  refused = un.refused;
  unserved = un.unserved;
}
answered-by-server a w place t at (Some side) answered = delivered-to-server a side w place t at answered

pub delivered-client : (me server : CallSign) (a : Attempt) (place : ℕ) (t : Transmission) → IsAt a.by_server place t
    → IsAttempt me server a
    → IsAttempt me server (to_client_delivered place t a)
delivered-client me server a place t at is = record {
  window = is.window;
  stations = record {
    client = is.stations.client;
    serves = is.stations.serves;
    from_client = is.stations.from_client;
    from_server = from-delivered a.window server me a.by_server place t at is.stations.from_server;
  };
  call = is.call;
  calling = is.calling;
  quiet = is.quiet;
  job = is.job;
  answered = answered-by-client a is.window place t at a.server is.answered;
}

pub delivered-server : (me server : CallSign) (a : Attempt) (place : ℕ) (t : Transmission) → IsAt a.by_client place t
    → IsAttempt me server a
    → IsAttempt me server (to_server_delivered place t a)
delivered-server me server a place t at is = record {
  window = is.window;
  stations = record {
    client = is.stations.client;
    serves = is.stations.serves;
    from_client = from-delivered a.window me server a.by_client place t at is.stations.from_client;
    from_server = is.stations.from_server;
  };
  call = one-call-delivered a.by_client place t at is.call;
  calling = is.calling;
  quiet = is.quiet;
  job = is.job;
  answered = answered-by-server a is.window place t at a.server is.answered;
}

delivers-to-client : (me server : CallSign) (attempts marked : List Attempt) (frame : FrameValue)
    → AreAttempts me server attempts
    → DeliversToClient attempts frame marked → AreAttempts me server marked
delivers-to-client me server [] marked frame are d = subst (AreAttempts me server) (sym d.marked_is) are
delivers-to-client me server (a ∷ older) marked frame are d =
    let same : a ≡ d.attempt = cc in
    subst (AreAttempts me server) (sym d.marked_is) (
      delivered-client me server a d.place d.t
          (subst (λ (x : Attempt). IsAt x.by_server d.place d.t) (sym same) d.lawful.sent) are.0,
      are.1,
    )

delivers-to-server : (me server : CallSign) (attempts marked : List Attempt) (frame : FrameValue)
    → AreAttempts me server attempts
    → DeliversToServer attempts frame marked → AreAttempts me server marked
delivers-to-server me server attempts marked frame are d =
    let comes = comes-by attempts marked frame d in
    let all = subst (AreAttempts me server) comes.attempts_are are in
    subst (AreAttempts me server) (sym comes.marked_is)
    (delivered-server me server comes.attempt comes.place comes.t comes.lawful.sent all.0, all.1)

pub left-law : LeftLaw
left-law = record { over = all-attempts-over; to_client = delivers-to-client; to_server = delivers-to-server }
