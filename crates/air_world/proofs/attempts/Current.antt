-- Which attempt a frame is of that the server hears.
use Rattle.std.proofs.Common.{◌≡◌, ℕ, zero, suc, List, [], ◌∷◌, true, false, Option, None, Some, refl, sym, ap, subst}
use Rattle.std.proofs.Common.{◌∙◌}
use Rattle.air_world.proofs.attempts.Names.{slice_get, option_or, same_Some, CallSign, FrameValue, IsAt, IsLawful, Transmission, control_of, is_call, Connected, Attempt, IsAnsweredBy, IsAttempt, IsOneCall, IsUnanswered, AreAttempts, CurrentLaw, DeliversToServer, IsNewestSession, newest_side, to_server_delivered, ServerSide}

-- The current attempt, and the others; and its transmission that comes.
pub record ComesBy (attempts marked : List Attempt) (frame : FrameValue) : Type 0 where
  pub attempt : Attempt
  pub older : List Attempt
  pub attempts_are : attempts ≡ attempt ∷ older
  pub place : ℕ
  pub t : Transmission
  pub lawful : IsLawful attempt.window attempt.by_client place t
  pub frame_is : frame ≡ t.frame
  pub marked_is : marked ≡ to_server_delivered place t attempt ∷ older

pub comes-by : (attempts marked : List Attempt) (frame : FrameValue) → DeliversToServer attempts frame marked
    → ComesBy attempts marked frame
comes-by [] marked frame d = absurd (let some = d.current in cc)
comes-by (a ∷ older) marked frame d =
    let same : a ≡ d.attempt = same_Some a d.attempt d.current in
    record {
      attempt = a;
      older = older;
      attempts_are = refl;
      place = d.place;
      t = d.t;
      lawful = subst (λ (x : Attempt). IsLawful x.window x.by_client d.place d.t) (sym same) d.lawful;
      frame_is = d.frame_is;
      marked_is = d.marked_is;
    }

-- the only transmission of one
pub at-alone : (list : List Transmission) (call t : Transmission) (place : ℕ) → list ≡ call ∷ [] → IsAt list place t
    → t ≡ call
at-alone list call t place alone at = by place (ap (λ (l : List Transmission). slice_get l place) (sym alone) ∙ at)
  where
    by : (n : ℕ) → slice_get (call ∷ []) n ≡ Some t → t ≡ call
    by zero is = sym (same_Some call t is)
    by (suc n) is = absurd cc

-- a SABM is the first of what was sent
first-calls : (call : Transmission) (list : List Transmission) → list ≡ call ∷ [] → IsOneCall list
    → is_call (control_of call) ≡ true
first-calls call list alone one = (subst IsOneCall alone one).0

-- an attempt that no session answered sent its SABM alone
pub unanswered-calls : (a : Attempt) (place : ℕ) (t : Transmission) → IsOneCall a.by_client → IsUnanswered a
    → IsAt a.by_client place t
    → is_call (control_of t) ≡ true
unanswered-calls a place t one un at =
    let same = at-alone a.by_client un.alone.0 t place un.alone.1 at in
    ap (λ (x : Transmission). is_call (control_of x)) same ∙ first-calls un.alone.0 a.by_client un.alone.1 one

-- The attempt has a session that is up, with this connection.
pub record HasSession (a : Attempt) (c : Connected) : Type 0 where
  pub side : ServerSide
  pub is_side : a.server ≡ Some side
  pub connected_is : side.connected ≡ c
  pub is_up : side.is_up ≡ true

-- so it is if the caller has a connection, and a frame of the attempt comes that is no SABM
pub newest-served : (me server : CallSign) (a : Attempt) (older : List Attempt) (c : Connected) (place : ℕ)
    (t : Transmission) → IsAttempt me server a
    → IsAt a.by_client place t → is_call (control_of t) ≡ false → IsNewestSession c (a ∷ older) → HasSession a c
newest-served me server a older c place t is at other newest = by a.server refl is.answered
  where
    by : (o : Option ServerSide) → a.server ≡ o → IsAnsweredBy a o → HasSession a c
    by None has un = absurd (let no : true ≡ false = sym (unanswered-calls a place t is.call un at) ∙ other in cc)
    by (Some side) has answered =
        let same : side ≡ newest.side =
        same_Some side newest.side (ap (λ (o : Option ServerSide). option_or o (newest_side older)) (sym has)
        ∙ newest.is_newest) in
        record {
          side = side;
          is_side = has;
          connected_is = ap (λ (s : ServerSide). s.connected) same ∙ newest.connected_is;
          is_up = ap (λ (s : ServerSide). s.is_up) same ∙ newest.is_up;
        }

pub current : CurrentLaw
current old frame attempts marked place c calls delivers other is there =
    let comes = comes-by attempts marked frame delivers in
    let newest = calls.sits.some place c is there in
    let all =
    subst (λ (list : List Attempt). AreAttempts frame.src old.me list) comes.attempts_are calls.attempts_are in
    let has = newest-served frame.src old.me comes.attempt comes.older c comes.place comes.t all.0 comes.lawful.sent
    (ap (λ (f : FrameValue). is_call f.kind.control) (sym comes.frame_is) ∙ other)
    (subst (λ (list : List Attempt). IsNewestSession c list) comes.attempts_are newest) in
    record {
      attempt = comes.attempt;
      older = comes.older;
      attempts_are = comes.attempts_are;
      side = has.side;
      is_side = has.is_side;
      connected_is = has.connected_is;
      is_up = has.is_up;
    }
