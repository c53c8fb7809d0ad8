-- What was sent in an attempt, once a transmission of it is delivered, and once more was sent.
use Rattle.std.proofs.Common.{◌≡◌, ℕ, zero, suc, ◌<◌, List, [], ◌∷◌, map, true, false, subst, arith}
use Rattle.ax25_frames.specs.Kinds.{kind_row}
use Rattle.air_world.proofs.attempts.Names.{AllByRecursion, same_Some, CallSign, Control, I, Rr, Rnr, Rej, FrameValue, IsAt, Transmission, control_of, delivering, fresh, sending_all, HasNoCall, ack_number, send_number, is_call, IsFrameOf, Stations, IsWindow, Window, AreFromTo, IsFromTo, IsOneCall}
use Rattle.air_world.proofs.attempts.ListLemmas.{each-append}

-- ---- a delivery

-- what is true of each is true still, if it doesn't look at whether it was delivered
module _ (P : Transmission → Type 0) (marked : (t : Transmission) → P t → P (record t { delivered = true })) where
  pub all-delivered : (list : List Transmission) (place : ℕ) (t : Transmission) → IsAt list place t
      → AllByRecursion P list
      → AllByRecursion P (delivering list place t)
  all-delivered [] place t at all = all
  all-delivered (x ∷ list) zero t at all = (marked t (subst P (same_Some x t at) all.0), all.1)
  all-delivered (x ∷ list) (suc place) t at all = (all.0, all-delivered list place t at all.1)

pub from-delivered : (w : Window) (me peer : CallSign) (list : List Transmission) (place : ℕ) (t : Transmission)
    → IsAt list place t
    → AreFromTo w me peer list → AreFromTo w me peer (delivering list place t)
from-delivered w me peer list place t at are =
    all-delivered (λ u. IsFromTo w me peer u.frame) (λ u is. is) list place t at are

pub one-call-delivered : (list : List Transmission) (place : ℕ) (t : Transmission) → IsAt list place t → IsOneCall list
    → IsOneCall (delivering list place t)
one-call-delivered [] place t at one = one
one-call-delivered (x ∷ list) zero t at one =
    (subst (λ (u : Transmission). is_call (control_of u) ≡ true) (same_Some x t at) one.0, one.1)
one-call-delivered (x ∷ list) (suc place) t at one =
    (one.0, all-delivered (λ u. is_call (control_of u) ≡ false) (λ u is. is) list place t at one.1)

-- ---- what is sent

pub all-fresh : (Q : FrameValue → Type 0) (P : Transmission → Type 0)
    → ((frame : FrameValue) → Q frame → P (fresh frame)) → (frames : List FrameValue)
    → AllByRecursion Q frames → AllByRecursion P (map fresh frames)
all-fresh Q P each [] all = all
all-fresh Q P each (frame ∷ frames) all = (each frame all.0, all-fresh Q P each frames all.1)

pub all-sent : (Q : FrameValue → Type 0) (P : Transmission → Type 0)
    → ((frame : FrameValue) → Q frame → P (fresh frame)) → (list : List Transmission)
    (frames : List FrameValue) → AllByRecursion P list → AllByRecursion Q frames
    → AllByRecursion P (sending_all list frames)
all-sent Q P each list frames before new = each-append P list (map fresh frames) before (all-fresh Q P each frames new)

-- the numbers of a frame whose numbers are all below the modulus
numbers-below : (w : Window) (control : Control) → IsWindow w
    → AllByRecursion (λ number. number < w.modulus) (kind_row control).numbers
    → (send_number control < w.modulus) × (ack_number control < w.modulus)
numbers-below w (I ns nr) window all = (all.0, all.1.0)
numbers-below w (Rr nr) window all = (let some = window.fewer in omega arith, all.0)
numbers-below w (Rnr nr) window all = (let some = window.fewer in omega arith, all.0)
numbers-below w (Rej nr) window all = (let some = window.fewer in omega arith, all.0)
numbers-below w control window all = let some = window.fewer in (omega arith, omega arith)

pub from-of : (w : Window) (stations : Stations) (frame : FrameValue) → IsWindow w → IsFrameOf w stations frame
    → IsFromTo w stations.me stations.peer frame
from-of w stations frame window is =
    let low = numbers-below w frame.kind.control window is.numbers in
    record { src_is = is.src; dest_is = is.dest; via = is.via; sends = low.0; acks = low.1 }

-- frames of these stations after those that were sent
pub from-sent : (w : Window) (stations : Stations) (list : List Transmission) (frames : List FrameValue) → IsWindow w
    → AreFromTo w stations.me stations.peer list → AllByRecursion (IsFrameOf w stations) frames
    → AreFromTo w stations.me stations.peer (sending_all list frames)
from-sent w stations list frames window before new =
    all-sent (IsFrameOf w stations) (λ t. IsFromTo w stations.me stations.peer t.frame)
    (λ frame is. from-of w stations frame window is) list frames before new

-- frames without a SABM, one by one
no-call-all : (frames : List FrameValue) → HasNoCall frames
    → AllByRecursion (λ (f : FrameValue). is_call f.kind.control ≡ false) frames
no-call-all [] none = none
no-call-all (frame ∷ frames) none = (none.0, no-call-all frames none.1)

pub one-call-sent : (list : List Transmission) (frames : List FrameValue) → IsOneCall list → HasNoCall frames
    → IsOneCall (sending_all list frames)
one-call-sent [] frames one none = absurd one
one-call-sent (first ∷ list) frames one none = (
  one.0,
  all-sent (λ f. is_call f.kind.control ≡ false) (λ t. is_call (control_of t) ≡ false) (λ f is. is) list
      frames one.1 (no-call-all frames none),
)
