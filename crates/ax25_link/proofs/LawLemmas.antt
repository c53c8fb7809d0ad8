-- The parts of the prefix law.
use Rattle.std.proofs.Common.{◌≡◌, ℕ, List, [], ◌∷◌, ◌++◌, length, take, map, false, refl, sym, ◌∙◌, ap, subst, arith, inl, inr, append_assoc, append-nil, take-append-drop}
use Rattle.std.proofs.lemmas.List.Folds.{concat-append}
use Rattle.ax25_link.specs.Acts.{tick}
use Rattle.ax25_link.proofs.Names.{drop, concat, true≢false, FrameValue, Calling, Up, Down, Window, LinkEnd, taken_count, is_bad, is_call, Doing, after_doing, DoesAll, Drains, Transmission, fresh, control_of, is_numbered, Station, AreLinked, PiecesFit, ShownFit, IsInformationAt, IsNumberedAt, owed, frame, tick as ticks, hear, does, send, acting, facing, IsOpening, OpeningLaw, KeptLaw, SentLaw, HeardLaw, TickedLaw, TurnedLaw, FrontLaw, NoBadLaw, PrefixLaw, HasNoCall, having_sent, DeliveredLaw, AnsweredLaw, DownLaw}
use Rattle.ax25_link.proofs.AirLemmas.{information_numbered, updated, PiecesFit-deliver, ShownFit-deliver, IsOpened-deliver, PiecesFit-send, ShownFit-send, IsOpened-send}
use Rattle.ax25_link.proofs.EndKept.{answering_end-IsEnd}
use Rattle.ax25_link.proofs.SendLemmas.{same_pieces}
use Rattle.ax25_link.proofs.LinkedLemmas.{station, quiet-owed, kept-steady, ending-Steady, does-Steady, tick-Steady, kept-send}
use Rattle.ax25_link.proofs.DeliveryLemmas.{reads, kept-hear}
use Rattle.ax25_link.proofs.NoCallLemmas.{no_call}

turned : TurnedLaw
turned w one other h =
    record {
      one_end = h.other_end;
      other_end = h.one_end;
      one_numbers = h.other_numbers;
      other_numbers = h.one_numbers;
      one_octets = h.other_octets;
      other_octets = h.one_octets;
      one_calling = h.other_calling;
      other_calling = h.one_calling;
      one_opened = h.other_opened;
      other_opened = h.one_opened;
    }

-- the octets of the first pieces are a prefix of those of all
concat-front : (pieces : List (List ℕ)) (n : ℕ) → concat pieces ≡ concat (take n pieces) ++ concat (drop n pieces)
concat-front pieces n = ap concat (sym (take-append-drop n pieces)) ∙ concat-append (take n pieces) (drop n pieces)

front : FrontLaw
front w one other h =
    let n = taken_count other.end in
    let pieces = one.end.sent in
    let rest = h.one_octets.pushed.0 in (
      concat (drop n pieces) ++ rest,
      h.one_octets.pushed.1
          ∙ ap (λ (l : List ℕ). l ++ rest) (concat-front pieces n)
          ∙ append_assoc (concat (take n pieces)) (concat (drop n pieces)) rest
          ∙ ap (λ (l : List (List ℕ)). concat l ++ (concat (drop n pieces) ++ rest)) (sym h.one_octets.taken),
    )

no_bad : NoBadLaw
no_bad w one other place t window h q lawful kind =
    let r = reads w one other place t window h (quiet-owed w other.end q) lawful kind in
    elim r.meaning [
      | inl g ↦ ap is_bad g.1
      | inr s ↦ ap is_bad s.1
    ]

kept : KeptLaw
kept w one other (hear place t) window h may = kept-hear w one other place t window h may.0 may.1 may.2
kept w one other tick window h may = kept-steady w one other _ h (tick-Steady w one.end h.one_end may)
kept w one other (does doing) window h may = kept-steady w one other _ h (does-Steady w one.end doing h.one_end may)
kept w one other (send sending) window h may = kept-send w one other sending h may.0 may.1

-- what the layer above does, one after another
does_all : (w : Window) (one other : Station) (doings : List Doing) (last : LinkEnd) → AreLinked w one other → DoesAll one.end doings last
    → AreLinked w (station last one.transmissions) other
does_all w one other [] last h d = subst (λ (n : LinkEnd). AreLinked w (station n one.transmissions) other) (sym d) h
does_all w one other (doing ∷ doings) last h d =
    does_all w (station (after_doing one.end doing) one.transmissions) other doings last
    (kept-steady w one other (after_doing one.end doing) h (does-Steady w one.end doing h.one_end d.0)) d.1

-- all frames that are sent
drains_all : (w : Window) (one other : Station) (frames : List FrameValue) (last : LinkEnd) → AreLinked w one other → Drains w one.end frames last
    → HasNoCall frames → AreLinked w (having_sent one last frames) other
drains_all w one other [] last h d none =
    subst (λ (n : LinkEnd). AreLinked w (station n (one.transmissions ++ [])) other) (sym d.1)
    (subst (λ (l : List Transmission). AreLinked w (station one.end l) other) (sym (append-nil one.transmissions)) h)
drains_all w one other (f ∷ frames) last h d none =
    let list = one.transmissions in
    let sending = d.0 in
    let same : is_call sending.frame.kind.control ≡ false = ap (λ (x : FrameValue). is_call x.kind.control) (sym d.2) ∙ none.0 in
    let next = kept-send w one other sending h d.1 same in
    let rest = drains_all w (station sending.after (list ++ fresh sending.frame ∷ [])) other frames last next d.3 none.1 in
    subst (λ (l : List Transmission). AreLinked w (station last l) other)
    (append_assoc list (fresh sending.frame ∷ []) (map fresh frames)
    ∙ ap (λ (x : FrameValue). list ++ fresh x ∷ map fresh frames) (sym d.2)) rest

sent : SentLaw
sent w one other doings frames end last window h d drained none =
    drains_all w (station end one.transmissions) other frames last (does_all w one other doings end h d) drained none

heard : HeardLaw
heard w one other place t told doings frames last window h other_q lawful step =
    sent w (acting w one (hear place t)) (facing other (hear place t)) doings frames step.end last window
    (kept-hear w one other place t window h step.quiet other_q lawful) step.does step.drains
    (no_call.step w one.end last (frame t.frame) told doings frames step (λ (e : frame t.frame ≡ ticks). absurd (let x : ⊥ = cc in x)))

ticked : TickedLaw
ticked w one other told doings frames last window h step none =
    sent w (acting w one tick) other doings frames step.end last window
    (kept-steady w one other _ h (tick-Steady w one.end h.one_end step.quiet)) step.does step.drains none

-- a transmission is noted as delivered, and nothing else changes
delivered : DeliveredLaw
delivered w one other place t window h at =
    let there = h.one_numbers in
    let back = h.other_numbers in
    record {
      one_end = h.one_end;
      other_end = h.other_end;
      one_numbers = record { acked = there.acked; taken = there.taken; window = there.window; pieces = there.pieces; shown = there.shown };
      other_numbers = record {
        acked = back.acked;
        taken = back.taken;
        window = back.window;
        pieces = (
          back.pieces.0,
          PiecesFit-deliver w other.end.sent (taken_count one.end) (taken_count one.end) other.transmissions back.pieces.0 place t window.some at
              (inl refl) back.pieces.1,
        );
        shown = (
          back.shown.0,
          ShownFit-deliver w (taken_count other.end) (owed other.end) one.end.acked one.end.acked other.transmissions back.shown.0 place t at
              (inl refl) back.shown.1,
        );
      };
      one_octets = h.one_octets;
      other_octets = h.other_octets;
      one_calling = h.one_calling;
      other_calling = h.other_calling;
      one_opened = h.one_opened;
      other_opened = IsOpened-deliver other.transmissions place t at h.other_opened;
    }

-- one frame without numbers is sent, and the end stays
answers_one : (w : Window) (one other : Station) (f : FrameValue) → AreLinked w one other → is_numbered f.kind.control ≡ false
    → is_call f.kind.control ≡ false → AreLinked w (station one.end (one.transmissions ++ fresh f ∷ [])) other
answers_one w one other f h none calls =
    let there = h.one_numbers in
    let back = h.other_numbers in
    let list = one.transmissions in
    let end = one.end in
    record {
      one_end = h.one_end;
      other_end = h.other_end;
      one_numbers = record {
        acked = there.acked;
        taken = there.taken;
        window = there.window;
        pieces = (
          updated there.pieces.0 (length list) 0,
          PiecesFit-send w end.sent end.sent (taken_count other.end) list there.pieces.0 f 0 (same_pieces end.sent)
              (λ kind. absurd (true≢false (sym (information_numbered f.kind.control kind) ∙ none))) there.pieces.1,
        );
        shown = (
          updated there.shown.0 (length list) (taken_count end),
          ShownFit-send w (taken_count end) (owed end) (owed end) other.end.acked list there.shown.0 f
              (λ kind. absurd (true≢false (sym kind ∙ none))) (omega arith) back.acked there.shown.1,
        );
      };
      other_numbers = record { acked = back.acked; taken = back.taken; window = back.window; pieces = back.pieces; shown = back.shown };
      one_octets = h.one_octets;
      other_octets = h.other_octets;
      one_calling = h.one_calling;
      other_calling = h.other_calling;
      one_opened = IsOpened-send list f calls h.one_opened;
      other_opened = h.other_opened;
    }

answered : AnsweredLaw
answered w one other [] h all =
    subst (λ (l : List Transmission). AreLinked w (station one.end l) other) (sym (append-nil one.transmissions)) h
answered w one other (f ∷ frames) h all =
    let list = one.transmissions in
    let next = answers_one w one other f h all.0 all.1 in
    subst (λ (l : List Transmission). AreLinked w (station one.end l) other)
    (append_assoc list (fresh f ∷ []) (map fresh frames))
    (answered w (station one.end (list ++ fresh f ∷ [])) other frames next all.2)

down : DownLaw
down w one other h =
    kept-steady w one other _ h
    (ending-Steady w one.end Down one.end.queued one.end.farewell h.one_end (λ (e : Down ≡ Up). (let x : ⊥ = cc in x))
    (λ (e : Down ≡ Calling). (let x : ⊥ = cc in x)))

-- a list without I and S frames
no_information : (list : List Transmission) → IsOpening list → (place : ℕ) (t : Transmission) → IsInformationAt list place t → ⊥
no_information list o place t here =
    true≢false (sym (information_numbered (control_of t) here.1) ∙ o.none place t here.0)

no_numbered : (list : List Transmission) → IsOpening list → (place : ℕ) (t : Transmission) → IsNumberedAt list place t → ⊥
no_numbered list o place t here = true≢false (sym here.1 ∙ o.none place t here.0)

opening_pieces : (w : Window) (pieces : List (List ℕ)) (taken : ℕ) (list : List Transmission) → IsOpening list → PiecesFit w pieces taken list (λ place. 0)
opening_pieces w pieces taken list o =
    record {
      shows = λ place t here. absurd (no_information list o place t here);
      carries = λ place t here. absurd (no_information list o place t here);
      sent = λ place t here. absurd (no_information list o place t here);
      recent = λ place t here. absurd (no_information list o place t here);
      earlier = λ before place s t less there here. absurd (no_information list o place t here);
      accepted = λ place t here none. absurd (no_information list o place t here);
    }

opening_shown : (w : Window) (taken owed acked : ℕ) (list : List Transmission) → IsOpening list → ShownFit w taken owed acked list (λ place. 0)
opening_shown w taken owed acked list o =
    record {
      shows = λ place t here. absurd (no_numbered list o place t here);
      reached = λ place t here. absurd (no_numbered list o place t here);
      recent = λ place t here. absurd (no_numbered list o place t here);
      earlier = λ before place s t less there here. absurd (no_numbered list o place t here);
      acknowledged = λ place t here none. absurd (no_numbered list o place t here);
    }

opening : OpeningLaw
opening w caller me peer poll list window u o_caller o =
    let end = caller.end in
    let acked = u.acked in
    let again = u.again in
    let size : length end.sent ≡ 0 = ap (λ (l : List (List ℕ)). length l) u.sent in
    let count : length end.taken ≡ 0 = ap (λ (l : List (List ℕ)). length l) u.taken in
    record {
      one_end = record { acked = omega arith; window = omega (arith, size); again = omega arith; oldest = λ e. absurd (u.reply e) };
      other_end = answering_end-IsEnd w me peer poll;
      one_numbers = record {
        acked = omega arith;
        taken = omega arith;
        window = omega (arith, size);
        pieces = ((λ place. 0), opening_pieces w end.sent 0 caller.transmissions o_caller);
        shown = ((λ place. 0), opening_shown w (length end.taken) _ 0 caller.transmissions o_caller);
      };
      other_numbers = record {
        acked = omega arith;
        taken = omega (arith, count);
        window = omega arith;
        pieces = ((λ place. 0), opening_pieces w [] (length end.taken) list o);
        shown = ((λ place. 0), opening_shown w 0 _ end.acked list o);
      };
      one_octets = record {
        taken = refl;
        pushed = ([], u.pushed ∙ sym (ap (λ (l : List (List ℕ)). concat l ++ []) u.sent), λ e. u.queued);
      };
      other_octets = record {
        taken = u.taken ∙ ap (λ (l : List (List ℕ)). take (length l) []) (sym u.taken);
        pushed = ([], refl, λ e. refl);
      };
      one_calling = λ e. (u.pushed, u.queued);
      other_calling = λ (e : Up ≡ Calling). absurd (let x : ⊥ = cc in x);
      one_opened = o_caller.opened;
      other_opened = o.opened;
    }

pub prefix_law : PrefixLaw
prefix_law =
    record {
      opening = opening;
      kept = kept;
      sent = sent;
      heard = heard;
      ticked = ticked;
      no_call = no_call;
      delivered = delivered;
      answered = answered;
      down = down;
      turned = turned;
      front = front;
      no_bad = no_bad;
    }
