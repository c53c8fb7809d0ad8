-- What an end sends, and what that leaves.
use Rattle.std.proofs.Common.{◌≡◌, ℕ, ◌+◌, ◌-◌, ◌%◌, ◌<◌, ◌≤◌, List, [], ◌∷◌, ◌++◌, length, drop, Option, Some, None, true, refl, sym, ◌∙◌, ap, subst, arith, length-append, append_assoc, append-nil, take-append-drop, length-drop}
use Rattle.std.specs.Prelude.{◌==◌, ◌&&◌}
use Rattle.ax25_link.proofs.Names.{nat_lt, not, IsTrue, slice_get, unwrap_or, zero, suc, concat, cond_both, ltb-true, eqb-false, not-true, and_parts, take-append-le, same_Some, slice_get_within, FrameValue, LinkState, Calling, Up, Window, LinkEnd, Reply, Farewell, IsEnd, high, outstanding, taken_count, ready, reject, enquire, oldest, goodbye, gone, frame_of_reply, frame_of_farewell, is_up, Sending, next_sending, sending_after, later_sending, last_sending, has_new, is_empty, next_piece, most_information, sends_reply, sends_again, sends_new, sends_farewell, after_new, is_information, is_numbered, send_number, ack_number, owed, owed_for, IsUnpushed}
use Rattle.ax25_link.proofs.AirLemmas.{MorePieces}
use Rattle.ax25_link.proofs.Places.{slice_get-append_before, slice_get-append_at}

-- pieces, joined, with one more
pub concat-append_one : (pieces : List (List ℕ)) (piece : List ℕ) → concat (pieces ++ piece ∷ []) ≡ concat pieces ++ piece
concat-append_one [] piece = append-nil piece
concat-append_one (x ∷ pieces) piece = ap (λ (l : List ℕ). x ++ l) (concat-append_one pieces piece) ∙ sym (append_assoc x (concat pieces) piece)

-- a piece that was sent
pub piece_there : (pieces : List (List ℕ)) (place : ℕ) → place < length pieces → slice_get pieces place ≡ Some (unwrap_or (slice_get pieces place) [])
piece_there [] place h = absurd (let x : ⊥ = omega arith in x)
piece_there (x ∷ pieces) zero h = refl
piece_there (x ∷ pieces) (suc place) h = piece_there pieces place (omega arith)

-- the octets that were pushed and not given to a piece
abbrev pub IsRest : LinkEnd → List ℕ → Type 0
IsRest end rest = (end.pushed ≡ concat end.sent ++ rest) × (end.state ≡ Up → end.queued ≡ rest)

-- the piece of an I frame that is sent: it is outstanding then
pub record SendsPiece (w : Window) (old : LinkEnd) (frame : FrameValue) (new : LinkEnd) (place : ℕ) : Type 0 where
  pub shows : send_number frame.kind.control ≡ place % w.modulus
  pub carries : slice_get new.sent place ≡ Some frame.kind.information
  pub least : old.acked ≤ place
  pub sent : place < high new

-- how much an end has to send at most
abbrev pub present : {A : Type 0} → Option A → ℕ
present None = 0
present (Some x) = 1

unfoldable pub left_to_send : LinkEnd → ℕ
left_to_send end = present end.reply + end.again + length end.queued + present end.farewell

-- what sending a frame does
pub record Sends (w : Window) (old : LinkEnd) (frame : FrameValue) (new : LinkEnd) : Type 0 where
  pub fits : IsEnd w new
  pub state : new.state ≡ old.state
  pub acked : new.acked ≡ old.acked
  pub taken : new.taken ≡ old.taken
  pub more : MorePieces old.sent new.sent
  pub place : ℕ
  pub piece : IsTrue (is_information frame.kind.control) → SendsPiece w old frame new place
  pub shows : IsTrue (is_numbered frame.kind.control) → ack_number frame.kind.control ≡ taken_count old % w.modulus
  pub owed : owed old ≤ owed new + 1
  pub octets : (rest : List ℕ) → IsRest old rest → (left : List ℕ) × IsRest new left
  pub calling : IsUnpushed old → IsUnpushed new
  pub less : left_to_send new < left_to_send old

pub same_pieces : (pieces : List (List ℕ)) → MorePieces pieces pieces
same_pieces pieces = record { keeps = λ place x h. h; least = omega arith; most = omega arith; front = λ n h. refl }

pub owed_most : (reply : Option Reply) → owed_for reply ≤ 1
owed_most None = omega arith
owed_most (Some oldest) = omega arith
owed_most (Some reply) = omega arith

-- the frame of a reply: the oldest outstanding frame, or no I frame
reply_piece : (w : Window) (old : LinkEnd) (reply : Reply) → old.acked ≤ high old → (reply ≡ oldest → 1 ≤ outstanding old)
    → IsTrue (is_information (frame_of_reply w old reply).kind.control)
    → SendsPiece w old (frame_of_reply w old reply) (record old { reply = None }) old.acked
reply_piece w old oldest order some h =
    let least = some refl in
    record { shows = refl; carries = piece_there old.sent old.acked (omega arith); least = omega arith; sent = omega arith }
reply_piece w old reply order some h = absurd (let x : ⊥ = cc in x)

reply_shows : (w : Window) (old : LinkEnd) (reply : Reply) → IsTrue (is_numbered (frame_of_reply w old reply).kind.control)
    → ack_number (frame_of_reply w old reply).kind.control ≡ taken_count old % w.modulus
reply_shows w old (ready poll) h = refl
reply_shows w old (reject poll) h = refl
reply_shows w old enquire h = refl
reply_shows w old oldest h = refl
reply_shows w old reply h = absurd (let x : ⊥ = cc in x)

Sends_reply : (w : Window) (old : LinkEnd) (reply : Reply) → IsEnd w old → old.reply ≡ Some reply
    → Sends w old (frame_of_reply w old reply) (record old { reply = None })
unfolding left_to_send
Sends_reply w old reply fits e =
    let one : present old.reply ≡ 1 = ap (λ (o : Option Reply). present o) e in
    let few = owed_most old.reply in
    record {
      fits = record { acked = fits.acked; window = fits.window; again = fits.again; oldest = λ (n : None ≡ Some oldest). absurd (let x : ⊥ = cc in x) };
      state = refl;
      acked = refl;
      taken = refl;
      more = same_pieces old.sent;
      place = old.acked;
      piece = reply_piece w old reply fits.acked (λ same. fits.oldest (e ∙ ap Some same));
      shows = reply_shows w old reply;
      owed = few;
      octets = λ rest h. (rest, h);
      calling = λ h. h;
      less = omega (arith, one);
    }

Sends_again : (w : Window) (old : LinkEnd) → IsEnd w old → 0 < old.again → Sends w old (sends_again w old).frame (sends_again w old).after
unfolding left_to_send
Sends_again w old fits some =
    let again = fits.again in
    let order = fits.acked in
    record {
      fits = record { acked = fits.acked; window = fits.window; again = omega arith; oldest = fits.oldest };
      state = refl;
      acked = refl;
      taken = refl;
      more = same_pieces old.sent;
      place = high old - old.again;
      piece = λ h. record { shows = refl; carries = piece_there old.sent (high old - old.again) (omega arith); least = omega arith; sent = omega arith };
      shows = λ h. refl;
      owed = omega arith;
      octets = λ rest h. (rest, h);
      calling = λ h. h;
      less = omega arith;
    }

is_up-Up : (state : LinkState) → is_up state ≡ true → state ≡ Up
is_up-Up Up h = refl
is_up-Up state h = absurd (let x : ⊥ = cc in x)

-- an end that has given a piece to a new I frame, and may have begun the timer again
pub record HasPiece (old new : LinkEnd) : Type 0 where
  pub state : new.state ≡ old.state
  pub pushed : new.pushed ≡ old.pushed
  pub queued : new.queued ≡ drop most_information old.queued
  pub sent : new.sent ≡ old.sent ++ next_piece old ∷ []
  pub acked : new.acked ≡ old.acked
  pub taken : new.taken ≡ old.taken
  pub again : new.again ≡ old.again
  pub reply : new.reply ≡ old.reply
  pub farewell : new.farewell ≡ old.farewell
  pub busy : new.busy ≡ old.busy

pub after_new-HasPiece : (old : LinkEnd) → HasPiece old (after_new old)
after_new-HasPiece old =
    cond_both (outstanding old == 0) _ _ (λ (n : LinkEnd). HasPiece old n)
    (λ e. record { state = refl; pushed = refl; queued = refl; sent = refl; acked = refl; taken = refl; again = refl; reply = refl; farewell = refl; busy = refl })
    (λ e. record { state = refl; pushed = refl; queued = refl; sent = refl; acked = refl; taken = refl; again = refl; reply = refl; farewell = refl; busy = refl })

more_pieces : (pieces : List (List ℕ)) (piece : List ℕ) → MorePieces pieces (pieces ++ piece ∷ [])
more_pieces pieces piece =
    let size : length (pieces ++ piece ∷ []) ≡ length pieces + 1 = length-append pieces (piece ∷ []) in
    record {
      keeps = λ place x h. slice_get-append_before pieces (piece ∷ []) place (slice_get_within pieces place x h) ∙ h;
      least = omega (arith, size);
      most = omega (arith, size);
      front = λ n h. take-append-le n pieces (piece ∷ []) h;
    }

-- the octets of the new piece come from the beginning of those that are queued
piece_rest : (old new : LinkEnd) → HasPiece old new → old.state ≡ Up → (rest : List ℕ) → IsRest old rest → (left : List ℕ) × IsRest new left
piece_rest old new h up rest (pushed, queued) =
    let all : old.queued ≡ rest = queued up in
    let join : concat new.sent ++ drop most_information old.queued ≡ concat old.sent ++ old.queued =
    ap (λ (l : List (List ℕ)). concat l ++ drop most_information old.queued) h.sent
    ∙ ap (λ (l : List ℕ). l ++ drop most_information old.queued) (concat-append_one old.sent (next_piece old))
    ∙ append_assoc (concat old.sent) (next_piece old) (drop most_information old.queued)
    ∙ ap (λ (l : List ℕ). concat old.sent ++ l) (take-append-drop most_information old.queued) in (
      drop most_information old.queued,
      (h.pushed ∙ pushed ∙ ap (λ (l : List ℕ). concat old.sent ++ l) (sym all) ∙ sym join, λ e. h.queued),
    )

Sends_new : (w : Window) (old : LinkEnd) → IsEnd w old → has_new w old ≡ true → Sends w old (sends_new w old).frame (sends_new w old).after
unfolding left_to_send
Sends_new w old fits has =
    let all = and_parts (is_up old.state && nat_lt (outstanding old) w.size && not old.busy) (not (is_empty old.queued)) has in
    let three = and_parts (is_up old.state && nat_lt (outstanding old) w.size) (not old.busy) all.0 in
    let two = and_parts (is_up old.state) (nat_lt (outstanding old) w.size) three.0 in
    let up : old.state ≡ Up = is_up-Up old.state two.0 in
    let room : outstanding old < w.size = ltb-true (outstanding old) w.size two.1 in
    let h = after_new-HasPiece old in
    let new = after_new old in
    let size : high new ≡ high old + 1 = ap (λ (l : List (List ℕ)). length l) h.sent ∙ length-append old.sent (next_piece old ∷ []) in
    let acked = h.acked in
    let again = h.again in
    let order = fits.acked in
    let least = fits.again in
    record {
      fits = record {
        acked = omega (arith, size);
        window = omega (arith, size);
        again = omega (arith, size);
        oldest = λ e. (let some = fits.oldest (sym h.reply ∙ e) in omega (arith, size, some));
      };
      state = h.state;
      acked = h.acked;
      taken = h.taken;
      more = subst (λ (l : List (List ℕ)). MorePieces old.sent l) (sym h.sent) (more_pieces old.sent (next_piece old));
      place = high old;
      piece = λ kind. record {
        shows = refl;
        carries = ap (λ (l : List (List ℕ)). slice_get l (high old)) h.sent ∙ slice_get-append_at old.sent (next_piece old);
        least = order;
        sent = omega (arith, size);
      };
      shows = λ kind. refl;
      owed = (let same : owed new ≡ owed old = ap owed_for h.reply in omega (arith, same));
      octets = λ rest o. piece_rest old new h up rest o;
      calling = λ u e. absurd (let c : old.state ≡ Calling = sym h.state ∙ e in let x : ⊥ = cc in x);
      less =
          (let replies : present new.reply ≡ present old.reply = ap (λ (o : Option Reply). present o) h.reply in
          let farewells : present new.farewell ≡ present old.farewell = ap (λ (o : Option Farewell). present o) h.farewell in
          let size_left : length new.queued ≡ length old.queued - most_information =
          ap (λ (l : List ℕ). length l) h.queued ∙ length-drop most_information old.queued in
          let some = eqb-false (length old.queued) 0 (not-true (is_empty old.queued) all.1) in
          omega (arith, replies, farewells, size_left, some));
    }

farewell_none : (old : LinkEnd) (farewell : Farewell) → IsTrue (is_numbered (frame_of_farewell old farewell).kind.control) → ⊥
farewell_none old goodbye h = let x : ⊥ = cc in x
farewell_none old gone h = let x : ⊥ = cc in x

farewell_none_information : (old : LinkEnd) (farewell : Farewell) → IsTrue (is_information (frame_of_farewell old farewell).kind.control) → ⊥
farewell_none_information old goodbye h = let x : ⊥ = cc in x
farewell_none_information old gone h = let x : ⊥ = cc in x

Sends_farewell : (w : Window) (old : LinkEnd) (farewell : Farewell) → IsEnd w old → old.farewell ≡ Some farewell
    → Sends w old (frame_of_farewell old farewell) (record old { farewell = None })
unfolding left_to_send
Sends_farewell w old farewell fits e =
    let one : present old.farewell ≡ 1 = ap (λ (o : Option Farewell). present o) e in
    record {
      fits = record { acked = fits.acked; window = fits.window; again = fits.again; oldest = fits.oldest };
      state = refl;
      acked = refl;
      taken = refl;
      more = same_pieces old.sent;
      place = 0;
      piece = λ h. absurd (farewell_none_information old farewell h);
      shows = λ h. absurd (farewell_none old farewell h);
      owed = omega arith;
      octets = λ rest h. (rest, h);
      calling = λ h. h;
      less = omega (arith, one);
    }

-- what is true of each frame that may be sent next, and of the end then, is true of the one that is
pub sending_cases : (w : Window) (end : LinkEnd) (P : Sending → Type 0)
    → ((reply : Reply) → end.reply ≡ Some reply → P (sends_reply w end reply)) → (nat_lt 0 end.again ≡ true → P (sends_again w end))
    → (has_new w end ≡ true → P (sends_new w end)) → ((farewell : Farewell) → end.farewell ≡ Some farewell → P (sends_farewell end farewell))
    → (sending : Sending) → next_sending w end ≡ Some sending → P sending
sending_cases w end P reply again new farewell sending = first end.reply refl
  where
    last : (found : Option Farewell) → end.farewell ≡ found → last_sending end found ≡ Some sending → P sending
    last None e h = absurd (let x : ⊥ = cc in x)
    last (Some found) e h = subst P (same_Some (sends_farewell end found) sending h) (farewell found e)

    later : later_sending w end ≡ Some sending → P sending
    later =
        cond_both (nat_lt 0 end.again) _ _ (λ (o : Option Sending). o ≡ Some sending → P sending)
        (λ some h. subst P (same_Some (sends_again w end) sending h) (again some))
        (λ none. cond_both (has_new w end) _ _ (λ (o : Option Sending). o ≡ Some sending → P sending)
        (λ has h. subst P (same_Some (sends_new w end) sending h) (new has)) (λ no h. last end.farewell refl h))

    first : (found : Option Reply) → end.reply ≡ found → sending_after w end found ≡ Some sending → P sending
    first None e h = later h
    first (Some found) e h = subst P (same_Some (sends_reply w end found) sending h) (reply found e)

-- what sending the next frame does
pub next_sending-Sends : (w : Window) (old : LinkEnd) (sending : Sending) → IsEnd w old → next_sending w old ≡ Some sending
    → Sends w old sending.frame sending.after
next_sending-Sends w old sending fits =
    sending_cases w old (λ (s : Sending). Sends w old s.frame s.after) (λ reply same. Sends_reply w old reply fits same)
    (λ some. Sends_again w old fits (ltb-true 0 old.again some)) (λ has. Sends_new w old fits has)
    (λ farewell same. Sends_farewell w old farewell fits same) sending

pub next_sending-IsEnd : (w : Window) (old : LinkEnd) (sending : Sending) → IsEnd w old → next_sending w old ≡ Some sending → IsEnd w sending.after
next_sending-IsEnd w old sending fits h = (next_sending-Sends w old sending fits h).fits
