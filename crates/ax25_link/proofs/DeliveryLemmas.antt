-- Two linked stations stay linked when a transmission of one is delivered to the other.
use Rattle.std.proofs.Common.{◌≡◌, ℕ, ◌+◌, ◌-◌, ◌%◌, ◌<◌, ◌≤◌, ◌⊎◌, List, [], ◌∷◌, ◌++◌, take, Some, false, sym, ◌∙◌, ap, subst, arith, inl, inr, length-append}
use Rattle.ax25_link.proofs.Names.{IsTrue, slice_get, zero, suc, concat, cases_Bool, true≢false, same_Some, Control, Window, IsWindow, LinkEnd, high, taken_count, good, stale, meaning_of, after_frame, is_call, IsQuiet, Transmission, IsLawful, later_count, control_of, is_information, is_numbered, delivering, Station, AreLinked, PiecesFit, IsUnpushed, send_number, ack_number, owed}
use Rattle.ax25_link.proofs.Modulus.{same_number}
use Rattle.ax25_link.proofs.MeaningLemmas.{meaning_shown}
use Rattle.ax25_link.proofs.AirLemmas.{information_numbered, ShownFit-grows, PiecesFit-deliver, ShownFit-deliver, IsOpened-deliver}
use Rattle.ax25_link.proofs.EndLemmas.{quiet}
use Rattle.ax25_link.proofs.EndKept.{Hears-IsEnd}
use Rattle.ax25_link.proofs.HeardLemmas.{Hears, Acknowledges, after_frame-Hears}
use Rattle.ax25_link.proofs.SendLemmas.{IsRest}
use Rattle.ax25_link.proofs.LinkedLemmas.{station, count_of, quiet-owed}

-- a prefix of a list with one element more
take_one_more : (pieces : List (List ℕ)) (n : ℕ) (x : List ℕ) → slice_get pieces n ≡ Some x → take n pieces ++ x ∷ [] ≡ take (suc n) pieces
take_one_more [] n x h = absurd (let y : ⊥ = cc in y)
take_one_more (piece ∷ pieces) zero x h = ap (λ (y : List ℕ). y ∷ []) (sym (same_Some piece x h))
take_one_more (piece ∷ pieces) (suc n) x h = ap (λ (l : List (List ℕ)). piece ∷ l) (take_one_more pieces n x h)

-- nothing follows if the whole is empty
none_left : (front rest : List ℕ) → [] ≡ front ++ rest → rest ≡ []
none_left [] rest h = sym h
none_left (x ∷ front) rest h = absurd (let y : ⊥ = cc in y)

-- What the whole number of a delivered I or S frame is to the end that hears it: it means that number, or it is stale.
pub record Reads (w : Window) (one other : Station) (t : Transmission) (shown : ℕ) : Type 0 where
  pub below : shown ≤ taken_count other.end
  pub meaning : ((one.end.acked ≤ shown) × (meaning_of w one.end (ack_number (control_of t)) ≡ good shown))
      ⊎ ((shown < one.end.acked) × (meaning_of w one.end (ack_number (control_of t)) ≡ stale))

pub reads : (w : Window) (one other : Station) (place : ℕ) (t : Transmission) → IsWindow w → (h : AreLinked w one other) → owed other.end ≡ 0
    → IsLawful w other.transmissions place t → IsTrue (is_numbered (control_of t)) → Reads w one other t (h.other_numbers.shown.0 place)
reads w one other place t window h none lawful kind =
    let shown = h.other_numbers.shown.0 in
    let fits = h.other_numbers.shown.1 in
    let below : shown place ≤ taken_count other.end = fits.reached place t (lawful.sent, kind) in
    let least : taken_count other.end ≤ shown place + later_count other.transmissions place + owed other.end = fits.recent place t (lawful.sent, kind) in
    let high_fits = h.one_numbers.taken in
    let known = h.one_numbers.acked in
    let late : one.end.acked ≤ shown place + (w.modulus - 1 - w.size) =
    elim (lawful.overtaken kind) [
      | inl first ↦ let most = fits.acknowledged place t (lawful.sent, kind) first in omega (arith, most)
      | inr few ↦ omega arith
    ] in
    record {
      below = below;
      meaning = meaning_shown w one.end (ack_number (control_of t)) (shown place) window h.one_end (fits.shows place t (lawful.sent, kind)) (omega arith) late;
    }

-- What is acknowledged when a frame is heard: no more than before, or no more than the frame shows.
acked_cause : (w : Window) (one other : Station) (t : Transmission) (shown : ℕ) (new : LinkEnd) → Reads w one other t shown
    → Acknowledges w one.end (control_of t) new → new.acked ≤ shown
acked_cause w one other t shown new r a =
    elim r.meaning [
      | inl g ↦ let same : new.acked ≡ shown = (let e : good new.acked ≡ good shown = sym a.good ∙ g.1 in cc) in omega (arith, same)
      | inr s ↦ absurd (let e : good new.acked ≡ stale = sym a.good ∙ s.1 in let x : ⊥ = cc in x)
    ]

pub record AckedFits (w : Window) (one other : Station) (list : List Transmission) (t : Transmission) (shown : ℕ) (new : LinkEnd) : Type 0 where
  pub most : new.acked ≤ taken_count other.end
  pub cause : (new.acked ≡ one.end.acked) ⊎ (IsTrue (is_numbered (control_of t)) × (new.acked ≤ shown))

-- What is accepted when a frame is heard: nothing, or the piece of an I frame that is next.
pub record TakenFits (one other : Station) (t : Transmission) (piece : ℕ) (new : LinkEnd) : Type 0 where
  pub least : taken_count one.end ≤ taken_count new
  pub most : taken_count new ≤ high other.end
  pub front : new.taken ≡ take (taken_count new) other.end.sent
  pub cause : (taken_count new ≡ taken_count one.end) ⊎ (IsTrue (is_information (control_of t)) × (taken_count new ≤ piece + 1))
  pub owes : taken_count new ≤ taken_count one.end + owed new

acked_fits : (w : Window) (one other : Station) (place : ℕ) (t : Transmission) (new : LinkEnd) → IsWindow w → (h : AreLinked w one other) → owed other.end ≡ 0
    → IsLawful w other.transmissions place t → Hears w one.end (control_of t) t.frame.kind.information new
    → AckedFits w one other other.transmissions t (h.other_numbers.shown.0 place) new
acked_fits w one other place t new window h none lawful heard =
    let known = h.one_numbers.acked in
    elim heard.acked [
      | inl same ↦ record { most = omega (arith, same); cause = inl same }
      | inr a ↦
          let r = reads w one other place t window h none lawful a.kind in
          let most = acked_cause w one other t (h.other_numbers.shown.0 place) new r a in
          let below = r.below in
          record { most = omega (arith, most, below); cause = inr (a.kind, most) }
    ]

-- an I frame that is next carries the piece at the place of the next one
next_piece_here : (w : Window) (one other : Station) (place : ℕ) (t : Transmission) → IsWindow w → (h : AreLinked w one other)
    → IsLawful w other.transmissions place t → IsTrue (is_information (control_of t)) → send_number (control_of t) ≡ taken_count one.end % w.modulus
    → h.other_numbers.pieces.0 place ≡ taken_count one.end
next_piece_here w one other place t window h lawful kind next =
    let piece = h.other_numbers.pieces.0 in
    let fits = h.other_numbers.pieces.1 in
    let shows = fits.shows place t (lawful.sent, kind) in
    let sent = fits.sent place t (lawful.sent, kind) in
    let recent = fits.recent place t (lawful.sent, kind) in
    let low = h.other_numbers.acked in
    let most = h.other_numbers.taken in
    let size = h.other_numbers.window in
    let fewer = window.fewer in
    let late : taken_count one.end < piece place + w.modulus =
    elim (lawful.overtaken (information_numbered (control_of t) kind)) [
      | inl first ↦ let at_most = fits.accepted place t (lawful.sent, kind) first in omega (arith, at_most)
      | inr few ↦ omega (arith, recent)
    ] in
    same_number (piece place) (taken_count one.end) w.modulus (sym shows ∙ next) (omega (arith, sent)) late

taken_fits : (w : Window) (one other : Station) (place : ℕ) (t : Transmission) (new : LinkEnd) → IsWindow w → (h : AreLinked w one other)
    → IsLawful w other.transmissions place t → Hears w one.end (control_of t) t.frame.kind.information new
    → TakenFits one other t (h.other_numbers.pieces.0 place) new
taken_fits w one other place t new window h lawful heard =
    let most = h.other_numbers.taken in
    elim heard.taken [
      | inl same ↦
          let count = count_of new.taken one.end.taken same in
          record {
            least = omega (arith, count);
            most = omega (arith, count);
            front = same ∙ h.other_octets.taken ∙ ap (λ n. take n other.end.sent) (sym count);
            cause = inl count;
            owes = omega (arith, count);
          }
      | inr a ↦
          let piece = h.other_numbers.pieces.0 in
          let fits = h.other_numbers.pieces.1 in
          let same = next_piece_here w one other place t window h lawful a.kind a.next in
          let sent = fits.sent place t (lawful.sent, a.kind) in
          let carries = fits.carries place t (lawful.sent, a.kind) in
          let count : taken_count new ≡ taken_count one.end + 1 =
          count_of new.taken (one.end.taken ++ t.frame.kind.information ∷ []) a.taken ∙ length-append one.end.taken (t.frame.kind.information ∷ []) in
          let owes = a.owed in
          record {
            least = omega (arith, count);
            most = omega (arith, count, same, sent);
            front = a.taken
                ∙ ap (λ (l : List (List ℕ)). l ++ t.frame.kind.information ∷ []) h.other_octets.taken
                ∙ take_one_more other.end.sent (taken_count one.end) t.frame.kind.information (ap (λ n. slice_get other.end.sent n) (sym same) ∙ carries)
                ∙ ap (λ n. take n other.end.sent) (let next : suc (taken_count one.end) ≡ taken_count new = omega (arith, count) in next);
            cause = inr (a.kind, omega (arith, count, same));
            owes = omega (arith, count, owes);
          }
    ]

-- the octets of an end that heard a frame
heard_octets : (w : Window) (old : LinkEnd) (control : Control) (information : List ℕ) (new : LinkEnd) → Hears w old control information new
    → IsUnpushed old → (rest : List ℕ) → IsRest old rest → IsRest new rest
heard_octets w old control information new heard calling rest (pushed, queued) = (
  heard.pushed ∙ pushed ∙ ap (λ (l : List (List ℕ)). concat l ++ rest) (sym heard.sent),
  λ e. heard.queued ∙ elim (heard.up e) [
    | inl up ↦ queued up
    | inr c ↦
        let empty = calling c in
        empty.1 ∙ sym (none_left (concat old.sent) rest (sym empty.0 ∙ pushed))
  ],
)

pub kept-hear : (w : Window) (one other : Station) (place : ℕ) (t : Transmission) → IsWindow w → AreLinked w one other → IsQuiet w one.end → IsQuiet w other.end
    → IsLawful w other.transmissions place t
    → AreLinked w (station (after_frame w one.end t.frame) one.transmissions) (station other.end (delivering other.transmissions place t))
kept-hear w one other place t window h q other_q lawful =
    let calls : is_call (control_of t) ≡ false =
    elim (cases_Bool (is_call (control_of t))) [
      | inl call ↦ absurd (true≢false (sym (h.other_opened place t lawful.sent call) ∙ lawful.call call))
      | inr not_call ↦ not_call
    ] in
    let new = after_frame w one.end t.frame in
    let heard = after_frame-Hears w one.end t.frame h.one_end (quiet w one.end q) calls in
    let none = quiet-owed w one.end q in
    let a = acked_fits w one other place t new window h (quiet-owed w other.end other_q) lawful heard in
    let k = taken_fits w one other place t new window h lawful heard in
    let fits = Hears-IsEnd w one.end (control_of t) t.frame.kind.information new h.one_end heard in
    let size = count_of new.sent one.end.sent heard.sent in
    let there = h.one_numbers in
    let back = h.other_numbers in
    let there_high = there.taken in
    let back_low = back.acked in
    let some = window.some in
    let least = k.least in
    let owes = k.owes in
    record {
      one_end = fits;
      other_end = h.other_end;
      one_numbers = record {
        acked = a.most;
        taken = omega (arith, size);
        window = fits.window;
        pieces = (
          there.pieces.0,
          subst (λ (l : List (List ℕ)). PiecesFit w l (taken_count other.end) one.transmissions there.pieces.0) (sym heard.sent) there.pieces.1,
        );
        shown = (
          there.shown.0,
          ShownFit-grows w (taken_count one.end) (taken_count new) (owed one.end) (owed new) other.end.acked one.transmissions there.shown.0
              k.least (omega (arith, none)) there.shown.1,
        );
      };
      other_numbers = record {
        acked = omega arith;
        taken = k.most;
        window = back.window;
        pieces = (
          back.pieces.0,
          PiecesFit-deliver w other.end.sent (taken_count one.end) (taken_count new) other.transmissions back.pieces.0 place t some lawful.sent k.cause back.pieces.1,
        );
        shown = (
          back.shown.0,
          ShownFit-deliver w (taken_count other.end) (owed other.end) one.end.acked new.acked other.transmissions back.shown.0 place t lawful.sent a.cause back.shown.1,
        );
      };
      one_octets = record {
        taken = h.one_octets.taken ∙ ap (λ (l : List (List ℕ)). take (taken_count other.end) l) (sym heard.sent);
        pushed = (let o = heard_octets w one.end (control_of t) t.frame.kind.information new heard h.one_calling h.one_octets.pushed.0
            (h.one_octets.pushed.1, h.one_octets.pushed.2) in (h.one_octets.pushed.0, o.0, o.1));
      };
      other_octets = record { taken = k.front; pushed = h.other_octets.pushed };
      one_calling = λ e. (let before = h.one_calling (heard.calling e) in (heard.pushed ∙ before.0, heard.queued ∙ before.1));
      other_calling = h.other_calling;
      one_opened = h.one_opened;
      other_opened = IsOpened-deliver other.transmissions place t lawful.sent h.other_opened;
    }
