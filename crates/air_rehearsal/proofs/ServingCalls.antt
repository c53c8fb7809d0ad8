-- Equal calls are found equal, and a frame is sent to the client that it is for.
use Rattle.std.proofs.Common.{◌≡◌, ◌==◌, ◌&&◌, [], ◌∷◌, Bool, true, false, refl, sym, ap, subst}
use Rattle.std.specs.Prelude.{if◌then◌else◌}
use Rattle.air_rehearsal.specs.declared.attempt.Attempt.{Attempt}
use Rattle.air_rehearsal.proofs.Names.{bytes_eq, Decides-eqb, bytes_eq-Decides, CallSign, FrameValue, is_same_call, HasLanes, Lanes, timing, timing_each, IsTimed, Party}

pub same-call : (one other : CallSign) → one ≡ other
    → (bytes_eq one.chars other.chars && (one.ssid == other.ssid)) ≡ true
same-call one other same =
    both (bytes_eq one.chars other.chars) (one.ssid == other.ssid)
    ((bytes_eq-Decides one.chars other.chars).1 (ap (λ (c : CallSign). c.chars) same))
    ((Decides-eqb one.ssid other.ssid).1 (ap (λ (c : CallSign). c.ssid) same))
  where
    both : (a b : Bool) → a ≡ true → b ≡ true → (a && b) ≡ true
    both a b first second = rw first second

-- the frame is for the client
pub timed-own :
    (frame : FrameValue) (old : Party) (attempt : Attempt) → is_same_call frame.dest old.me ≡ true
    → ((lanes : Lanes) → HasLanes old.attempt lanes → HasLanes attempt (timing frame lanes))
    → IsTimed (frame ∷ []) old (record old { attempt = attempt })
timed-own frame old attempt own sends = record {
  same = refl;
  lanes = λ lanes has.
      subst
      (λ (b : Bool). HasLanes attempt (timing_each (if b then frame ∷ [] else []) lanes)) (sym own) (sends lanes has);
}

-- it isn't
pub timed-other :
    (frame : FrameValue) (old : Party) → is_same_call frame.dest old.me ≡ false → IsTimed (frame ∷ []) old old
timed-other frame old other = record {
  same = refl;
  lanes = λ lanes has.
      subst
      (λ (b : Bool). HasLanes old.attempt (timing_each (if b then frame ∷ [] else []) lanes)) (sym other) has;
}
