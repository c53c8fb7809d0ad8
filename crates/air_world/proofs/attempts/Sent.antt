-- What a station of an attempt sends at an event: whether a SABM is among the frames, and whose they are.
use Rattle.std.proofs.Common.{◌≡◌, List, [], ◌∷◌, Bool, true, false, refl, ap, ◌∙◌, subst}
use Rattle.std.specs.Prelude.{◌||◌}
use Rattle.air_world.proofs.attempts.Names.{AllByRecursion, CallSign, FrameValue, Transmission, sending_all, LinkEnd, HasNoCall, is_call, IsFrameOf, SendsOwn, Stations, stations_of, IsWindow, Window, AreFromTo, IsEndOf, has_call}
use Rattle.air_world.proofs.attempts.Transmissions.{from-sent}

-- ---- whether a SABM is among them

either-false : (a b : Bool) → (a || b) ≡ false → (a ≡ false) × (b ≡ false)
either-false false b is = (refl, is)
either-false true b is = absurd (cc is)

pub none-calls : (frames : List FrameValue) → has_call frames ≡ false → HasNoCall frames
none-calls [] is = tt
none-calls (f ∷ frames) is =
    let both = either-false (is_call f.kind.control) (has_call frames) is in
    (both.0, none-calls frames both.1)

pub has-none : (frames : List FrameValue) → HasNoCall frames → has_call frames ≡ false
has-none [] none = refl
has-none (f ∷ frames) none = ap (λ (b : Bool). b || has_call frames) none.0 ∙ has-none frames none.1

-- ---- whose they are

-- the stations of an end
abbrev pub stations : Bool → CallSign → CallSign → Stations
stations called me peer = record { called = called; me = me; peer = peer }

pub stations-from : (called : Bool) (me peer : CallSign) (end : LinkEnd) → IsEndOf called me peer end
    → stations_of end ≡ stations called me peer
stations-from called me peer end is =
    ap (λ (c : Bool). stations c end.me end.peer) is.called_is
    ∙ ap (λ (c : CallSign). stations called c end.peer) is.me_is
    ∙ ap (λ (c : CallSign). stations called me c) is.peer_is

pub stations-to : (called : Bool) (me peer : CallSign) (end : LinkEnd) → stations_of end ≡ stations called me peer
    → IsEndOf called me peer end
stations-to called me peer end is = record {
  called_is = ap (λ (s : Stations). s.called) is;
  me_is = ap (λ (s : Stations). s.me) is;
  peer_is = ap (λ (s : Stations). s.peer) is;
}

-- an end that stays of its stations, and what it sends after what was sent
pub record StaysOf (w : Window) (called : Bool) (me peer : CallSign) (list : List Transmission)
    (frames : List FrameValue) (new : LinkEnd) : Type 0 where
  pub end : IsEndOf called me peer new
  pub sent : AreFromTo w me peer (sending_all list frames)

pub stays-of : (w : Window) (called : Bool) (me peer : CallSign) (list : List Transmission) (frames : List FrameValue)
    (old new : LinkEnd) → IsWindow w
    → IsEndOf called me peer old → AreFromTo w me peer list → SendsOwn w old frames new
    → StaysOf w called me peer list frames new
stays-of w called me peer list frames old new window is before sends =
    let same = stations-from called me peer old is in
    record {
      end = stations-to called me peer new (sends.stations ∙ same);
      sent =
          from-sent w (stations called me peer) list frames window before
          (subst (λ (s : Stations). AllByRecursion (IsFrameOf w s) frames) same sends.own);
    }
