-- A run in which a frame that comes after m - k later ones shows a bad N(R).
use Rattle.std.proofs.Common.{◌≡◌, ℕ, ◌+◌, ◌-◌, ◌%◌, ◌≤◌, List, [], ◌∷◌, ◌++◌, length, take, drop, Some, None, true, false, refl, sym, ◌∙◌, ap, subst, arith, inl, inr, zero, suc, length-append}
use Rattle.std.specs.Prelude.{◌==◌, ◌&&◌}
use Rattle.ax25_link.proofs.Names.{IsTrue, slice_get, nat_lt, not, concat, cond-true, cond-false, and_right, and_left, and_from, lt-ltb, eq-eqb, cases_lt, slice_get_within, CallSign, Control, I, Rr, FrameValue, LinkState, Up, Window, IsWindow, LinkEnd, IsEnd, high, outstanding, taken_count, held, most_held, free_octets, ready, accept, Meaning, good, meaning_of, meaning_at, applying, is_bad, receive_number, frame_of_reply, Outcome, accepting, information_row, supervisory_row, with_busy, refusing, replying, up_row, row_of_state, after_frame, is_up, push, after_push, IsQuiet, next_sending, sending_after, last_sending, has_new, is_empty, next_piece, sends_reply, sends_again, sends_new, after_new, Transmission, fresh, IsAt, IsLawful, later_count, control_of, is_numbered, delivering, Station, AreLinked, ack_number, owed, hear, does, send, acting, facing, Runs, stays, acts, turns, calling_station, answering_station, BoundLaw}
use Rattle.ax25_link.proofs.Places.{slice_get-append_before, slice_get-append_at, slice_get-set_other, slice_get-set_same, length-slice_set}
use Rattle.ax25_link.proofs.EndLemmas.{meaning-Applied, acknowledging-keeps, acknowledging-acked}
use Rattle.ax25_link.proofs.MeaningLemmas.{distance_below, meaning_at-bad}
use Rattle.ax25_link.proofs.SendLemmas.{after_new-HasPiece}
use Rattle.ax25_link.proofs.LinkedLemmas.{quiet-owed}
use Rattle.ax25_link.proofs.DeliveryLemmas.{reads}
use Rattle.ax25_link.proofs.LawLemmas.{prefix_law}
use Rattle.ax25_link.proofs.RunLemmas.{opened}

-- an end that is up, with nothing to send, and whose peer isn't busy
record Waits (end : LinkEnd) : Type 0 where
  state : end.state ≡ Up
  reply : end.reply ≡ None
  again : end.again ≡ 0
  queued : end.queued ≡ []
  busy : end.busy ≡ false
  farewell : end.farewell ≡ None

quiet_from : (w : Window) (end : LinkEnd) → end.reply ≡ None → end.again ≡ 0 → end.queued ≡ [] → end.farewell ≡ None → IsQuiet w end
quiet_from w end r a q f =
    let empty : not (is_empty end.queued) ≡ false = ap (λ (l : List ℕ). not (is_empty l)) q in
    ap (sending_after w end) r
    ∙ cond-false (nat_lt 0 end.again) (Some (sends_again w end)) _ (ap (λ n. nat_lt 0 n) a)
    ∙ cond-false (has_new w end) (Some (sends_new w end)) _
    (and_right (is_up end.state && nat_lt (outstanding end) w.size && not end.busy) (not (is_empty end.queued)) empty)
    ∙ ap (last_sending end) f

waits_quiet : (w : Window) (end : LinkEnd) → Waits end → IsQuiet w end
waits_quiet w end h = quiet_from w end h.reply h.again h.queued h.farewell

drop_all : (pieces : List (List ℕ)) → drop (length pieces) pieces ≡ []
drop_all [] = refl
drop_all (piece ∷ pieces) = drop_all pieces

-- one octet is queued if nothing is held
queued_one : (end : LinkEnd) → Waits end → end.acked ≡ high end → (after_push end (0 ∷ [])).queued ≡ 0 ∷ []
queued_one end h none =
    let empty : held end ≡ [] =
    ap (λ n. concat (drop n end.sent) ++ end.queued) none
    ∙ ap (λ (l : List (List ℕ)). concat l ++ end.queued) (drop_all end.sent) ∙ h.queued in
    ap (λ (l : List ℕ). l ++ take (free_octets end) (0 ∷ [])) h.queued
    ∙ ap (λ (l : List ℕ). take (most_held - length l) (0 ∷ [])) empty

-- an end that has one octet queued sends it
next_new : (w : Window) (end : LinkEnd) → IsWindow w → end.state ≡ Up → end.reply ≡ None → end.again ≡ 0 → end.busy ≡ false → end.queued ≡ 0 ∷ []
    → end.acked ≡ high end → next_sending w end ≡ Some (sends_new w end)
next_new w end window up r a b q none =
    let some = window.some in
    let room : nat_lt (outstanding end) w.size ≡ true = lt-ltb (outstanding end) w.size (omega (arith, none)) in
    let open_peer : not end.busy ≡ true = ap not b in
    let full : not (is_empty end.queued) ≡ true = ap (λ (l : List ℕ). not (is_empty l)) q in
    let here : is_up end.state ≡ true = ap is_up up in
    let two : (is_up end.state && nat_lt (outstanding end) w.size) ≡ true = and_from _ _ here room in
    let three : (is_up end.state && nat_lt (outstanding end) w.size && not end.busy) ≡ true = and_from _ _ two open_peer in
    let all : has_new w end ≡ true = and_from _ _ three full in
    ap (sending_after w end) r
    ∙ cond-false (nat_lt 0 end.again) (Some (sends_again w end)) _ (ap (λ n. nat_lt 0 n) a)
    ∙ cond-true (has_new w end) _ _ all

-- an I frame that is next
hears_next : (w : Window) (old : LinkEnd) (f : FrameValue) (ns nr : ℕ) → old.state ≡ Up → f.kind.control ≡ I ns nr
    → is_bad (meaning_of w old nr) ≡ false → ns ≡ receive_number w (applying old (meaning_of w old nr))
    → after_frame w old f ≡ (accepting (applying old (meaning_of w old nr)) f).after
hears_next w old f ns nr up kind fine next =
    let e = applying old (meaning_of w old nr) in
    ap (λ (s : LinkState). (row_of_state s w old f).after) up
    ∙ ap (λ (c : Control). (up_row w old f c).after) kind
    ∙ ap (λ (o : Outcome). o.after) (cond-false (is_bad (meaning_of w old nr)) (refusing w old f) (information_row w e f ns) fine)
    ∙ ap (λ (o : Outcome). o.after) (cond-true (ns == receive_number w e) (accepting e f) _ (eq-eqb ns (receive_number w e) next))

-- an RR that is a response
hears_ready : (w : Window) (old : LinkEnd) (f : FrameValue) (nr : ℕ) → old.state ≡ Up → f.kind.control ≡ Rr nr → f.command ≡ false
    → is_bad (meaning_of w old nr) ≡ false → after_frame w old f ≡ with_busy false (applying old (meaning_of w old nr))
hears_ready w old f nr up kind response fine =
    let e = with_busy false (applying old (meaning_of w old nr)) in
    ap (λ (s : LinkState). (row_of_state s w old f).after) up
    ∙ ap (λ (c : Control). (up_row w old f c).after) kind
    ∙ ap (λ (o : Outcome). o.after) (cond-false (is_bad (meaning_of w old nr)) (refusing w old f) (supervisory_row e f) fine)
    ∙ cond-false (f.command && f.poll) (replying e (ready true)) e (and_left f.command f.poll response)

-- the newest transmission may be delivered
newest_lawful : (w : Window) (list : List Transmission) (f : FrameValue) → IsLawful w (list ++ fresh f ∷ []) (length list) (fresh f)
newest_lawful w list f =
    record {
      sent = slice_get-append_at list (fresh f);
      call = λ c. refl;
      overtaken = λ kind. inl (λ later t after at numbered.
          (let within = slice_get_within (list ++ fresh f ∷ []) later t at in
          let size : length (list ++ fresh f ∷ []) ≡ length list + 1 = length-append list (fresh f ∷ []) in
          absurd (let x : ⊥ = omega (arith, within, size) in x)));
    }

-- what the newest I or S frame shows is what its sender has accepted
newest_meaning : (w : Window) (one : Station) (end : LinkEnd) (list : List Transmission) (f : FrameValue) → IsWindow w
    → AreLinked w one (record { end = end; transmissions = list ++ fresh f ∷ [] }) → owed end ≡ 0 → IsTrue (is_numbered f.kind.control)
    → meaning_of w one.end (ack_number f.kind.control) ≡ good (taken_count end)
newest_meaning w one end list f window h none kind =
    let other : Station = record { end = end; transmissions = list ++ fresh f ∷ [] } in
    let lawful = newest_lawful w list f in
    let r = reads w one other (length list) (fresh f) window h none lawful kind in
    let shown = h.other_numbers.shown.0 in
    let fits = h.other_numbers.shown.1 in
    let size : length (list ++ fresh f ∷ []) ≡ length list + 1 = length-append list (fresh f ∷ []) in
    let reached : shown (length list) ≤ taken_count end = fits.reached (length list) (fresh f) (lawful.sent, kind) in
    let recent : taken_count end ≤ shown (length list) + later_count (list ++ fresh f ∷ []) (length list) + owed end =
    fits.recent (length list) (fresh f) (lawful.sent, kind) in
    let same : shown (length list) ≡ taken_count end = omega (arith, size, reached, recent, none) in
    let known = h.one_numbers.acked in
    elim r.meaning [
      | inl g ↦ g.1 ∙ ap good same
      | inr s ↦ let less = s.0 in absurd (let x : ⊥ = omega (arith, less, same, known) in x)
    ]

-- an end that has pushed one octet, and has sent it
abbrev pushed_end : LinkEnd → LinkEnd
pushed_end end = after_push end (0 ∷ [])

abbrev sent_frame : Window → LinkEnd → FrameValue
sent_frame w end = (sends_new w (pushed_end end)).frame

abbrev sent_end : LinkEnd → LinkEnd
sent_end end = after_new (pushed_end end)

abbrev sent_station : Window → Station → Station
sent_station w one = record { end = sent_end one.end; transmissions = one.transmissions ++ fresh (sent_frame w one.end) ∷ [] }

sent_waits : (end : LinkEnd) → Waits end → end.acked ≡ high end → Waits (sent_end end)
sent_waits end h none =
    let p = after_new-HasPiece (pushed_end end) in
    record {
      state = p.state ∙ h.state;
      reply = p.reply ∙ h.reply;
      again = p.again ∙ h.again;
      queued = p.queued ∙ ap (λ (l : List ℕ). drop 256 l) (queued_one end h none);
      busy = p.busy ∙ h.busy;
      farewell = p.farewell ∙ h.farewell;
    }

-- an end that has accepted one piece more, and is to reply by RR
record Accepted (end : LinkEnd) (n : ℕ) : Type 0 where
  state : end.state ≡ Up
  reply : end.reply ≡ Some (ready false)
  again : end.again ≡ 0
  queued : end.queued ≡ []
  busy : end.busy ≡ false
  farewell : end.farewell ≡ None
  taken : taken_count end ≡ n + 1

accepted : (w : Window) (old : LinkEnd) (f : FrameValue) (ns nr x n : ℕ) → IsEnd w old → Waits old → f.kind.control ≡ I ns nr → f.poll ≡ false
    → meaning_of w old nr ≡ good x → taken_count old ≡ n → ns ≡ n % w.modulus → Accepted (after_frame w old f) n
accepted w old f ns nr x n fits h kind unpolled meaning count shows =
    let e = applying old (meaning_of w old nr) in
    let k = (meaning-Applied w old nr fits).keeps in
    let same : taken_count e ≡ n = ap (λ (l : List (List ℕ)). length l) k.taken ∙ count in
    let eq = hears_next w old f ns nr h.state kind (ap is_bad meaning) (shows ∙ ap (λ y. y % w.modulus) (sym same)) in
    let size : length (e.taken ++ f.kind.information ∷ []) ≡ length e.taken + 1 = length-append e.taken (f.kind.information ∷ []) in
    record {
      state = ap (λ (a : LinkEnd). a.state) eq ∙ k.state ∙ h.state;
      reply = ap (λ (a : LinkEnd). a.reply) eq ∙ ap (λ b. Some (ready b)) unpolled;
      again = ap (λ (a : LinkEnd). a.again) eq ∙ k.again ∙ h.again;
      queued = ap (λ (a : LinkEnd). a.queued) eq ∙ k.queued ∙ h.queued;
      busy = ap (λ (a : LinkEnd). a.busy) eq ∙ k.busy ∙ h.busy;
      farewell = ap (λ (a : LinkEnd). a.farewell) eq ∙ k.farewell ∙ h.farewell;
      taken = ap (λ (a : LinkEnd). length a.taken) eq ∙ (let y : length (e.taken ++ f.kind.information ∷ []) ≡ n + 1 = omega (arith, size, same) in y);
    }

-- the end once it has replied
abbrev replied_end : LinkEnd → LinkEnd
replied_end end = record end { reply = None }

abbrev reply_frame : Window → LinkEnd → FrameValue
reply_frame w end = frame_of_reply w end (ready false)

replied_waits : (end : LinkEnd) (n : ℕ) → Accepted end n → Waits (replied_end end)
replied_waits end n h = record { state = h.state; reply = refl; again = h.again; queued = h.queued; busy = h.busy; farewell = h.farewell }

-- an end that hears an RR which acknowledges all that it sent
acknowledged : (w : Window) (old : LinkEnd) (f : FrameValue) (nr x : ℕ) → Waits old → f.kind.control ≡ Rr nr → f.command ≡ false
    → meaning_of w old nr ≡ good x → old.acked ≤ x → high old ≡ x
    → Waits (after_frame w old f) × ((after_frame w old f).acked ≡ x) × (high (after_frame w old f) ≡ x)
acknowledged w old f nr x h kind response meaning least all =
    let eq = hears_ready w old f nr h.state kind response (ap is_bad meaning) ∙ ap (λ (m : Meaning). with_busy false (applying old m)) meaning in
    let k = acknowledging-keeps old x in (
      record {
        state = ap (λ (a : LinkEnd). a.state) eq ∙ k.state ∙ h.state;
        reply = ap (λ (a : LinkEnd). a.reply) eq ∙ k.reply ∙ h.reply;
        again = ap (λ (a : LinkEnd). a.again) eq ∙ k.again ∙ h.again;
        queued = ap (λ (a : LinkEnd). a.queued) eq ∙ k.queued ∙ h.queued;
        busy = ap (λ (a : LinkEnd). a.busy) eq;
        farewell = ap (λ (a : LinkEnd). a.farewell) eq ∙ k.farewell ∙ h.farewell;
      },
      ap (λ (a : LinkEnd). a.acked) eq ∙ acknowledging-acked old x least,
      ap (λ (a : LinkEnd). high a) eq ∙ ap (λ (l : List (List ℕ)). length l) k.sent ∙ all,
    )

-- the second transmission is an I or S frame that shows 1
record ShowsOne (w : Window) (list : List Transmission) : Type 0 where
  t : Transmission
  at : IsAt list 1 t
  kind : IsTrue (is_numbered (control_of t))
  shows : ack_number (control_of t) ≡ 1 % w.modulus

-- both stations wait, and n pieces were sent, accepted and acknowledged
record Ready (w : Window) (one other : Station) (n : ℕ) : Type 0 where
  linked : AreLinked w one other
  one_waits : Waits one.end
  one_acked : one.end.acked ≡ n
  one_high : high one.end ≡ n
  other_waits : Waits other.end
  other_taken : taken_count other.end ≡ n
  size : length other.transmissions ≡ n + 1
  first : 1 ≤ n → ShowsOne w other.transmissions

-- the first RR is the second transmission, and stays there
shows_one : (w : Window) (list : List Transmission) (f : FrameValue) (n : ℕ) → length list ≡ n + 1 → (1 ≤ n → ShowsOne w list)
    → IsTrue (is_numbered f.kind.control) → ack_number f.kind.control ≡ (n + 1) % w.modulus
    → ShowsOne w (delivering (list ++ fresh f ∷ []) (length list) (fresh f))
shows_one w list f n size first kind shows =
    elim (cases_lt 0 n) [
      | inl some ↦
          let s = first (omega arith) in
          record {
            t = s.t;
            at = slice_get-set_other (list ++ fresh f ∷ []) (length list) 1 _ (λ e. (let x : ⊥ = omega (arith, size, e) in x))
                ∙ slice_get-append_before list (fresh f ∷ []) 1 (omega (arith, size)) ∙ s.at;
            kind = s.kind;
            shows = s.shows;
          }
      | inr zero_rounds ↦
          let length_all : length (list ++ fresh f ∷ []) ≡ length list + 1 = length-append list (fresh f ∷ []) in
          let here : length list ≡ 1 = omega (arith, size) in
          let number : n + 1 ≡ 1 = omega arith in
          record {
            t = record (fresh f) { delivered = true };
            at = ap (λ p. slice_get (delivering (list ++ fresh f ∷ []) (length list) (fresh f)) p) (sym here)
                ∙ slice_get-set_same (list ++ fresh f ∷ []) (length list) (record (fresh f) { delivered = true }) (omega (arith, length_all));
            kind = kind;
            shows = shows ∙ ap (λ y. y % w.modulus) number;
          }
    ]

-- one round more: a piece is sent, accepted and acknowledged
record Round (w : Window) (one other : Station) (n : ℕ) : Type 0 where
  next_one : Station
  next_other : Station
  ready : Ready w next_one next_other (n + 1)
  lead : (x y : Station) → Runs w next_one next_other x y → Runs w one other x y

round : (w : Window) (one other : Station) (n : ℕ) → IsWindow w → Ready w one other n → Round w one other n
round w one other n window r =
    let none : one.end.acked ≡ high one.end = r.one_acked ∙ sym r.one_high in
    let pushed : Station = acting w one (does (push (0 ∷ []))) in
    let one_linked = prefix_law.kept w one other (does (push (0 ∷ []))) window r.linked r.one_waits.state in
    let f = sent_frame w one.end in
    let next = next_new w (pushed_end one.end) window r.one_waits.state r.one_waits.reply r.one_waits.again r.one_waits.busy
    (queued_one one.end r.one_waits none) none in
    let sent : Station = sent_station w one in
    let sent_linked : AreLinked w sent other = prefix_law.kept w pushed other (send (sends_new w (pushed_end one.end))) window one_linked (next, refl) in
    let waits = sent_waits one.end r.one_waits none in
    let one_quiet = waits_quiet w sent.end waits in
    let other_quiet = waits_quiet w other.end r.other_waits in
    let p = length one.transmissions in
    let lawful = newest_lawful w one.transmissions f in
    let turned = prefix_law.turned w sent other sent_linked in
    let meaning = newest_meaning w other sent.end one.transmissions f window turned (quiet-owed w sent.end one_quiet) refl in
    let took = accepted w other.end f _ _ _ n turned.one_end r.other_waits refl refl meaning r.other_taken (ap (λ y. y % w.modulus) r.one_high) in
    let heard : Station = acting w other (hear p (fresh f)) in
    let faced : Station = facing sent (hear p (fresh f)) in
    let heard_linked : AreLinked w heard faced = prefix_law.kept w other sent (hear p (fresh f)) window turned (other_quiet, one_quiet, lawful) in
    let g = reply_frame w heard.end in
    let reply = ap (sending_after w heard.end) took.reply in
    let replied : Station = acting w heard (send (sends_reply w heard.end (ready false))) in
    let replied_linked : AreLinked w replied faced =
    prefix_law.kept w heard faced (send (sends_reply w heard.end (ready false))) window heard_linked (reply, refl) in
    let replied_quiet = waits_quiet w replied.end (replied_waits heard.end n took) in
    let q = length other.transmissions in
    let answer_lawful = newest_lawful w other.transmissions g in
    let back = prefix_law.turned w replied faced replied_linked in
    let answer = newest_meaning w faced replied.end other.transmissions g window back (quiet-owed w replied.end replied_quiet) refl in
    let piece = after_new-HasPiece (pushed_end one.end) in
    let acked : sent.end.acked ≡ n = piece.acked ∙ r.one_acked in
    let all : high sent.end ≡ n + 1 =
    ap (λ (l : List (List ℕ)). length l) piece.sent ∙ length-append one.end.sent (next_piece (pushed_end one.end) ∷ []) ∙ ap (λ y. y + 1) r.one_high in
    let taken = took.taken in
    let known = acknowledged w sent.end g _ (taken_count heard.end) waits refl refl answer (omega (arith, acked, taken)) (all ∙ sym took.taken) in
    let last_one : Station = acting w faced (hear q (fresh g)) in
    let last_other : Station = facing replied (hear q (fresh g)) in
    let last_linked : AreLinked w last_one last_other = prefix_law.kept w faced replied (hear q (fresh g)) window back (one_quiet, replied_quiet, answer_lawful) in
    let waited = replied_waits heard.end n took in
    record {
      next_one = last_one;
      next_other = last_other;
      ready = record {
        linked = last_linked;
        one_waits = known.0;
        one_acked = known.1 ∙ took.taken;
        one_high = known.2 ∙ took.taken;
        other_waits = waited;
        other_taken = took.taken;
        size = length-slice_set (other.transmissions ++ fresh g ∷ []) q (record (fresh g) { delivered = true })
            ∙ length-append other.transmissions (fresh g ∷ []) ∙ ap (λ y. y + 1) r.size;
        first = λ some. shows_one w other.transmissions g n r.size r.first refl (ap (λ y. y % w.modulus) took.taken);
      };
      lead = λ x y rest.
          acts (does (push (0 ∷ []))) r.one_waits.state
          (acts (send (sends_new w (pushed_end one.end))) (next, refl)
          (turns (acts (hear p (fresh f)) (other_quiet, one_quiet, lawful)
          (acts (send (sends_reply w heard.end (ready false))) (reply, refl)
          (turns (acts (hear q (fresh g)) (one_quiet, replied_quiet, answer_lawful) rest))))));
    }

-- some rounds more
record Rounds (w : Window) (one other : Station) (n : ℕ) : Type 0 where
  last_one : Station
  last_other : Station
  ready : Ready w last_one last_other n
  runs : Runs w one other last_one last_other

rounds : (more : ℕ) (w : Window) (one other : Station) (n m : ℕ) → IsWindow w → Ready w one other n → n + more ≡ m → Rounds w one other m
rounds zero w one other n m window r e =
    let same : n ≡ m = omega (arith, e) in
    record { last_one = one; last_other = other; ready = subst (λ k. Ready w one other k) same r; runs = stays }
rounds (suc more) w one other n m window r e =
    let next = round w one other n window r in
    let rest = rounds more w next.next_one next.next_other (n + 1) m window next.ready (omega (arith, e)) in
    record { last_one = rest.last_one; last_other = rest.last_other; ready = rest.ready; runs = next.lead rest.last_one rest.last_other rest.runs }

-- the two stations when the caller has heard the answer
abbrev answered : Window → CallSign → CallSign → Station
answered w me peer = acting w (answering_station peer me) (send (sends_reply w (answering_station peer me).end (accept true)))

abbrev answer_frame : Window → CallSign → CallSign → FrameValue
answer_frame w me peer = frame_of_reply w (answering_station peer me).end (accept true)

begins : (m : ℕ) (w : Window) (me peer : CallSign) → IsWindow w → Rounds w (calling_station w me peer) (answering_station peer me) m
begins m w me peer window =
    let one = calling_station w me peer in
    let other = answering_station peer me in
    let f = answer_frame w me peer in
    let h = opened w me peer window in
    let sent_linked = prefix_law.kept w other one (send (sends_reply w other.end (accept true))) window (prefix_law.turned w one other h) (refl, refl) in
    let one_quiet = quiet_from w one.end refl refl refl refl in
    let other_quiet = quiet_from w (answered w me peer).end refl refl refl refl in
    let lawful = newest_lawful w [] f in
    let linked = prefix_law.kept w one (answered w me peer) (hear 0 (fresh f)) window (prefix_law.turned w (answered w me peer) one sent_linked)
    (one_quiet, other_quiet, lawful) in
    let ready_zero : Ready w (acting w one (hear 0 (fresh f))) (facing (answered w me peer) (hear 0 (fresh f))) 0 =
    record {
      linked = linked;
      one_waits = record { state = refl; reply = refl; again = refl; queued = refl; busy = refl; farewell = refl };
      one_acked = refl;
      one_high = refl;
      other_waits = record { state = refl; reply = refl; again = refl; queued = refl; busy = refl; farewell = refl };
      other_taken = refl;
      size = refl;
      first = λ some. absurd (let x : ⊥ = omega arith in x);
    } in
    let rest = rounds m w (acting w one (hear 0 (fresh f))) (facing (answered w me peer) (hear 0 (fresh f))) 0 m window ready_zero (omega arith) in
    record {
      last_one = rest.last_one;
      last_other = rest.last_other;
      ready = rest.ready;
      runs = turns (acts (send (sends_reply w other.end (accept true))) (refl, refl)
          (turns (acts (hear 0 (fresh f)) (one_quiet, other_quiet, lawful) rest.runs)));
    }

-- After m - k + 1 rounds the first RR comes once more: with m - k frames sent after it, it shows a bad N(R).
pub bound_law : BoundLaw
bound_law w me peer window =
    let some = window.some in
    let fewer = window.fewer in
    let far = w.modulus - w.size in
    let r = begins (far + 1) w me peer window in
    let first = r.ready.first (omega arith) in
    let end = r.last_one.end in
    let size = r.ready.size in
    let acked = r.ready.one_acked in
    let all = r.ready.one_high in
    let below = distance_below w end.acked (ack_number (control_of first.t)) 1 first.shows (omega (arith, acked)) (omega (arith, acked)) in
    let near : w.modulus - (end.acked - 1) ≡ w.size = omega (arith, acked) in
    let meaning = ap (meaning_at w end) (below ∙ near) ∙ meaning_at-bad w end w.size (omega (arith, acked, all)) (omega arith) in
    record {
      one = r.last_one;
      other = r.last_other;
      runs = r.runs;
      one_quiet = waits_quiet w end r.ready.one_waits;
      other_quiet = waits_quiet w r.last_other.end r.ready.other_waits;
      place = 1;
      t = first.t;
      sent = first.at;
      kind = first.kind;
      late = omega (arith, size);
      bad = ap is_bad meaning;
    }
