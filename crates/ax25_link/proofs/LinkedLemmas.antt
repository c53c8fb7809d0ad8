-- Two linked stations stay linked, step by step.
use Rattle.std.proofs.Common.{◌≡◌, ℕ, ◌≤◌, List, [], ◌∷◌, ◌++◌, length, take, Option, Some, false, refl, sym, ◌∙◌, ap, subst, arith, append_assoc}
use Rattle.ax25_link.proofs.Names.{concat, cond_both, LinkState, Calling, Up, Ending, Down, Window, LinkEnd, Reply, Farewell, IsEnd, goodbye, gone, taken_count, free_octets, oldest, is_call, unless_oldest, entering, is_down, runs_out, is_spent, after_tick, Doing, push, hang_up, abandon, after_doing, Sending, IsQuiet, next_sending, Transmission, fresh, Station, AreLinked, NumbersFit, PiecesFit, ShownFit, IsUnpushed, owed, owed_for}
use Rattle.ax25_link.proofs.AirLemmas.{ShownFit-grows, updated, PiecesFit-send, ShownFit-send, IsOpened-send}
use Rattle.ax25_link.proofs.EndLemmas.{quiet}
use Rattle.ax25_link.proofs.EndKept.{after_tick-IsEnd, after_doing-IsEnd, entering-IsEnd}
use Rattle.ax25_link.proofs.SendLemmas.{IsRest, next_sending-Sends}

-- the station with another end, and with other transmissions
abbrev pub station : LinkEnd → List Transmission → Station
station end list = record { end = end; transmissions = list }

-- the number of pieces follows the list
pub count_of : (a b : List (List ℕ)) → a ≡ b → length a ≡ length b
count_of a b e = ap (λ (l : List (List ℕ)). length l) e

-- a step that changes no number: ticks, and what the layer above does
pub record Steady (w : Window) (old new : LinkEnd) : Type 0 where
  pub fits : IsEnd w new
  pub sent : new.sent ≡ old.sent
  pub acked : new.acked ≡ old.acked
  pub taken : new.taken ≡ old.taken
  pub owed : owed old ≤ owed new
  pub octets : (rest : List ℕ) → IsRest old rest → (left : List ℕ) × IsRest new left
  pub calling : IsUnpushed old → IsUnpushed new

-- the numbers of a station whose end takes a steady step, and of the other one
steady_numbers : (w : Window) (one other : Station) (new : LinkEnd) → Steady w one.end new → NumbersFit w one other
    → NumbersFit w (station new one.transmissions) other
steady_numbers w one other new s h =
    let size = count_of new.sent one.end.sent s.sent in
    let count = count_of new.taken one.end.taken s.taken in
    let acked = s.acked in
    let low = h.acked in
    let high_fits = h.taken in
    let window = h.window in
    let more = s.owed in
    record {
      acked = omega arith;
      taken = omega (arith, size);
      window = omega (arith, size);
      pieces = (
        h.pieces.0,
        subst (λ (l : List (List ℕ)). PiecesFit w l (taken_count other.end) one.transmissions h.pieces.0) (sym s.sent) h.pieces.1,
      );
      shown = (
        h.shown.0,
        ShownFit-grows w (taken_count one.end) (taken_count new) (owed one.end) (owed new) other.end.acked one.transmissions h.shown.0
            (omega (arith, count)) (omega (arith, count)) h.shown.1,
      );
    }

steady_facing : (w : Window) (one other : Station) (new : LinkEnd) → Steady w one.end new → NumbersFit w other one
    → NumbersFit w other (station new one.transmissions)
steady_facing w one other new s h =
    let count = count_of new.taken one.end.taken s.taken in
    let low = h.acked in
    let high_fits = h.taken in
    record {
      acked = omega (arith, count);
      taken = omega (arith, count);
      window = h.window;
      pieces = (h.pieces.0, subst (λ n. PiecesFit w other.end.sent n other.transmissions h.pieces.0) (sym count) h.pieces.1);
      shown = (h.shown.0, subst (λ n. ShownFit w (taken_count other.end) (owed other.end) n other.transmissions h.shown.0) (sym s.acked) h.shown.1);
    }

pub kept-steady : (w : Window) (one other : Station) (new : LinkEnd) → AreLinked w one other → Steady w one.end new
    → AreLinked w (station new one.transmissions) other
kept-steady w one other new h s =
    record {
      one_end = s.fits;
      other_end = h.other_end;
      one_numbers = steady_numbers w one other new s h.one_numbers;
      other_numbers = steady_facing w one other new s h.other_numbers;
      one_octets = record {
        taken = h.one_octets.taken ∙ ap (λ (l : List (List ℕ)). take (taken_count other.end) l) (sym s.sent);
        pushed = (let left = s.octets h.one_octets.pushed.0 (h.one_octets.pushed.1, h.one_octets.pushed.2) in (left.0, left.1.0, left.1.1));
      };
      other_octets = record {
        taken = s.taken ∙ h.other_octets.taken ∙ ap (λ (l : List (List ℕ)). take (length l) other.end.sent) (sym s.taken);
        pushed = h.other_octets.pushed;
      };
      one_calling = s.calling h.one_calling;
      other_calling = h.other_calling;
      one_opened = h.one_opened;
      other_opened = h.other_opened;
    }

-- a reply stays, so it is still owed
owed-unless_oldest : (reply : Option Reply) → owed_for (unless_oldest reply) ≡ owed_for reply
owed-unless_oldest (Some oldest) = refl
owed-unless_oldest reply = refl

-- a quiet end owes no reply
pub quiet-owed : (w : Window) (end : LinkEnd) → IsQuiet w end → owed end ≡ 0
quiet-owed w end q = ap owed_for (quiet w end q).reply

-- it is a steady step that the link ends, whatever is still queued and is to be sent last
pub ending-Steady : (w : Window) (end : LinkEnd) (state : LinkState) (queued : List ℕ) (farewell : Option Farewell) → IsEnd w end
    → (state ≡ Up → ⊥) → (state ≡ Calling → ⊥) → Steady w end (record (entering end state) { queued = queued; farewell = farewell })
ending-Steady w end state queued farewell fits down never =
    let same = owed-unless_oldest end.reply in
    let e = entering-IsEnd w end state fits in
    record {
      fits = record { acked = e.acked; window = e.window; again = e.again; oldest = e.oldest };
      sent = refl;
      acked = refl;
      taken = refl;
      owed = omega (arith, same);
      octets = λ rest h. (rest, (h.0, λ up. absurd (down up)));
      calling = λ u calling. absurd (never calling);
    }

-- what the layer above does is a steady step
pub does-Steady : (w : Window) (end : LinkEnd) (doing : Doing) → IsEnd w end → end.state ≡ Up → Steady w end (after_doing end doing)
does-Steady w end (push octets) fits up =
    record {
      fits = after_doing-IsEnd w end (push octets) fits;
      sent = refl;
      acked = refl;
      taken = refl;
      owed = omega arith;
      octets = λ rest h. (
        rest ++ take (free_octets end) octets,
        (
          ap (λ (l : List ℕ). l ++ take (free_octets end) octets) h.0 ∙ append_assoc (concat end.sent) rest (take (free_octets end) octets),
          λ e. ap (λ (l : List ℕ). l ++ take (free_octets end) octets) (h.1 e),
        ),
      );
      calling = λ u e. absurd (let c : end.state ≡ Calling = e in let x : ⊥ = cc in x);
    }
does-Steady w end hang_up fits up =
    ending-Steady w end Ending [] (Some goodbye) fits (λ (e : Ending ≡ Up). (let x : ⊥ = cc in x)) (λ (e : Ending ≡ Calling). (let x : ⊥ = cc in x))
does-Steady w end abandon fits up =
    ending-Steady w end Down end.queued (Some gone) fits (λ (e : Down ≡ Up). (let x : ⊥ = cc in x)) (λ (e : Down ≡ Calling). (let x : ⊥ = cc in x))

-- what the octets and the state are after a tick
record Ticked (old new : LinkEnd) : Type 0 where
  sent : new.sent ≡ old.sent
  acked : new.acked ≡ old.acked
  taken : new.taken ≡ old.taken
  pushed : new.pushed ≡ old.pushed
  queued : new.queued ≡ old.queued
  up : new.state ≡ Up → old.state ≡ Up
  calling : new.state ≡ Calling → old.state ≡ Calling

ticked : (end : LinkEnd) → Ticked end (after_tick end)
ticked end =
    cond_both (is_down end.state) _ _ (λ (n : LinkEnd). Ticked end n)
    (λ e. record { sent = refl; acked = refl; taken = refl; pushed = refl; queued = refl; up = λ s. s; calling = λ s. s })
    (λ e. cond_both (runs_out end) _ _ (λ (n : LinkEnd). Ticked end n)
    (λ f. cond_both (is_spent end) _ _ (λ (n : LinkEnd). Ticked end n)
    (λ g. record {
      sent = refl;
      acked = refl;
      taken = refl;
      pushed = refl;
      queued = refl;
      up = λ (s : Down ≡ Up). absurd (let x : ⊥ = cc in x);
      calling = λ (s : Down ≡ Calling). absurd (let x : ⊥ = cc in x);
    })
    (λ g. record { sent = refl; acked = refl; taken = refl; pushed = refl; queued = refl; up = λ s. s; calling = λ s. s }))
    (λ f. record { sent = refl; acked = refl; taken = refl; pushed = refl; queued = refl; up = λ s. s; calling = λ s. s }))

pub tick-Steady : (w : Window) (end : LinkEnd) → IsEnd w end → IsQuiet w end → Steady w end (after_tick end)
tick-Steady w end fits q =
    let t = ticked end in
    let none = quiet-owed w end q in
    record {
      fits = after_tick-IsEnd w end fits;
      sent = t.sent;
      acked = t.acked;
      taken = t.taken;
      owed = omega (arith, none);
      octets = λ rest h. (
        rest,
        (t.pushed ∙ h.0 ∙ ap (λ (l : List (List ℕ)). concat l ++ rest) (sym t.sent), λ e. t.queued ∙ h.1 (t.up e)),
      );
      calling = λ u e. (let before = u (t.calling e) in (t.pushed ∙ before.0, t.queued ∙ before.1));
    }

-- A frame is sent.
pub kept-send : (w : Window) (one other : Station) (sending : Sending) → AreLinked w one other → next_sending w one.end ≡ Some sending
    → is_call sending.frame.kind.control ≡ false
    → AreLinked w (station sending.after (one.transmissions ++ fresh sending.frame ∷ [])) other
kept-send w one other sending h next none =
    let s = next_sending-Sends w one.end sending h.one_end next in
    let new = sending.after in
    let list = one.transmissions in
    let count = count_of new.taken one.end.taken s.taken in
    let acked = s.acked in
    let grown = s.more.least in
    let window = s.fits.window in
    let there = h.one_numbers in
    let back = h.other_numbers in
    let low = there.acked in
    let high_fits = there.taken in
    let back_low = back.acked in
    let back_high = back.taken in
    record {
      one_end = s.fits;
      other_end = h.other_end;
      one_numbers = record {
        acked = omega arith;
        taken = omega arith;
        window = s.fits.window;
        pieces = (
          updated there.pieces.0 (length list) s.place,
          PiecesFit-send w one.end.sent new.sent (taken_count other.end) list there.pieces.0 sending.frame s.place s.more
              (λ kind. (let p = s.piece kind in let least = p.least in let below = p.sent in
              record { shows = p.shows; carries = p.carries; sent = p.sent; recent = omega arith; accepted = omega arith }))
              there.pieces.1,
        );
        shown = (
          updated there.shown.0 (length list) (taken_count one.end),
          subst (λ n. ShownFit w n (owed new) other.end.acked (list ++ fresh sending.frame ∷ []) (updated there.shown.0 (length list) (taken_count one.end)))
              (sym count)
              (ShownFit-send w (taken_count one.end) (owed one.end) (owed new) other.end.acked list there.shown.0 sending.frame s.shows s.owed back_low
              there.shown.1),
        );
      };
      other_numbers = record {
        acked = omega (arith, count);
        taken = omega (arith, count);
        window = back.window;
        pieces = (back.pieces.0, subst (λ n. PiecesFit w other.end.sent n other.transmissions back.pieces.0) (sym count) back.pieces.1);
        shown = (back.shown.0, subst (λ n. ShownFit w (taken_count other.end) (owed other.end) n other.transmissions back.shown.0) (sym s.acked) back.shown.1);
      };
      one_octets = record {
        taken = h.one_octets.taken ∙ sym (s.more.front (taken_count other.end) high_fits);
        pushed = (let left = s.octets h.one_octets.pushed.0 (h.one_octets.pushed.1, h.one_octets.pushed.2) in (left.0, left.1.0, left.1.1));
      };
      other_octets = record {
        taken = s.taken ∙ h.other_octets.taken ∙ ap (λ (l : List (List ℕ)). take (length l) other.end.sent) (sym s.taken);
        pushed = h.other_octets.pushed;
      };
      one_calling = s.calling h.one_calling;
      other_calling = h.other_calling;
      one_opened = IsOpened-send list sending.frame none h.one_opened;
      other_opened = h.other_opened;
    }
