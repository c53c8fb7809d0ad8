-- What a frame does to an end that has nothing to send, row by row.
use Rattle.std.proofs.Common.{◌≡◌, ℕ, ◌-◌, ◌%◌, ◌≤◌, ◌⊎◌, List, [], ◌∷◌, ◌++◌, length, Option, Some, None, Bool, true, false, refl, sym, ◌∙◌, ap, subst, arith, inl, inr}
use Rattle.std.specs.Prelude.{◌==◌, ◌||◌, ◌&&◌, if◌then◌else◌}
use Rattle.ax25_link.proofs.Names.{IsTrue, cond_both, eqb-true, Control, I, Rr, Rnr, Rej, Sabm, Disc, Dm, Ua, Frmr, FrameValue, LinkState, Calling, Up, Ending, Down, Window, LinkEnd, Reply, IsEnd, high, outstanding, taken_count, ready, reject, accept, refuse, refuse_frame, oldest, good, meaning_of, applying, is_good, is_bad, distance, receive_number, refusal_octets, Outcome, unless_oldest, replying, entering, information_row, supervisory_row, with_busy, sending_again, numbered_row, up_row, calling_row, ending_row, down_row, row_of_state, is_call, after_frame, send_number, ack_number, owed, is_information, is_numbered}
use Rattle.ax25_link.proofs.EndLemmas.{Quiet, Applied, meaning-Fits, meaning-Applied, applying-acked, unless_oldest-no}

-- the frame is an I frame that is next: its information is accepted, and it is replied to
pub record Accepts (w : Window) (old : LinkEnd) (control : Control) (information : List ℕ) (new : LinkEnd) : Type 0 where
  pub kind : IsTrue (is_information control)
  pub next : send_number control ≡ taken_count old % w.modulus
  pub taken : new.taken ≡ old.taken ++ information ∷ []
  pub owed : owed new ≡ 1

-- the frame's N(R) is good, and is applied
pub record Acknowledges (w : Window) (old : LinkEnd) (control : Control) (new : LinkEnd) : Type 0 where
  pub kind : IsTrue (is_numbered control)
  pub good : meaning_of w old (ack_number control) ≡ good new.acked

-- what a frame that is no SABM does
pub record Hears (w : Window) (old : LinkEnd) (control : Control) (information : List ℕ) (new : LinkEnd) : Type 0 where
  pub sent : new.sent ≡ old.sent
  pub pushed : new.pushed ≡ old.pushed
  pub queued : new.queued ≡ old.queued
  pub up : new.state ≡ Up → (old.state ≡ Up) ⊎ (old.state ≡ Calling)
  pub calling : new.state ≡ Calling → old.state ≡ Calling
  pub least : old.acked ≤ new.acked
  pub most : new.acked ≤ high old
  pub again : new.again ≤ high old - new.acked
  pub oldest : new.reply ≡ Some oldest → ⊥
  pub taken : (new.taken ≡ old.taken) ⊎ Accepts w old control information new
  pub acked : (new.acked ≡ old.acked) ⊎ Acknowledges w old control new

no_reply : (end : LinkEnd) → end.reply ≡ None → end.reply ≡ Some oldest → ⊥
no_reply end h e = let no : ⊥ = cc in no

-- nothing changes except a reply
pub Hears_replying : (w : Window) (old : LinkEnd) (control : Control) (information : List ℕ) (reply : Option Reply) → Quiet old
    → old.acked ≤ high old → (reply ≡ Some oldest → ⊥) → Hears w old control information (record old { reply = reply })
Hears_replying w old control information reply q order other =
    let again = q.again in
    record {
      sent = refl;
      pushed = refl;
      queued = refl;
      up = λ e. inl e;
      calling = λ e. e;
      least = omega arith;
      most = order;
      again = omega arith;
      oldest = other;
      taken = inl refl;
      acked = inl refl;
    }

pub Hears_nothing : (w : Window) (old : LinkEnd) (control : Control) (information : List ℕ) → Quiet old → old.acked ≤ high old
    → Hears w old control information old
Hears_nothing w old control information q order = Hears_replying w old control information old.reply q order (no_reply old q.reply)

-- the state changes to one that isn't Calling, and to Up only from Calling
pub Hears_entering : (w : Window) (old : LinkEnd) (control : Control) (information : List ℕ) (state : LinkState) (reply : Option Reply)
    → old.acked ≤ high old → (state ≡ Up → (old.state ≡ Up) ⊎ (old.state ≡ Calling)) → (state ≡ Calling → ⊥) → (reply ≡ Some oldest → ⊥)
    → Hears w old control information (record (entering old state) { reply = reply })
Hears_entering w old control information state reply order up calling other =
    record {
      sent = refl;
      pushed = refl;
      queued = refl;
      up = up;
      calling = λ e. absurd (calling e);
      least = omega arith;
      most = order;
      again = omega arith;
      oldest = other;
      taken = inl refl;
      acked = inl refl;
    }

pub Hears_down_with : (w : Window) (old : LinkEnd) (control : Control) (information : List ℕ) (reply : Option Reply) → old.acked ≤ high old
    → (reply ≡ Some oldest → ⊥) → Hears w old control information (record (entering old Down) { reply = reply })
Hears_down_with w old control information reply order other =
    Hears_entering w old control information Down reply order (λ (e : Down ≡ Up). absurd (let x : ⊥ = cc in x))
    (λ (e : Down ≡ Calling). (let x : ⊥ = cc in x)) other

-- the end after a good or stale N(R) was applied, and nothing else was done
pub record Applies (w : Window) (old : LinkEnd) (nr : ℕ) (e : LinkEnd) : Type 0 where
  pub quiet : Quiet old
  pub applied : Applied old e
  pub acked : (e.acked ≡ old.acked) ⊎ (meaning_of w old nr ≡ good e.acked)

applies : (w : Window) (old : LinkEnd) (nr : ℕ) → IsEnd w old → Quiet old → Applies w old nr (applying old (meaning_of w old nr))
applies w old nr fits q =
    record {
      quiet = q;
      applied = meaning-Applied w old nr fits;
      acked = applying-acked old (meaning_of w old nr) (meaning-Fits w old (distance w old.acked nr) fits.acked);
    }

-- an N(R) that is acknowledged
acknowledged : (w : Window) (old : LinkEnd) (control : Control) (e : LinkEnd) → IsTrue (is_numbered control)
    → (e.acked ≡ old.acked) ⊎ (meaning_of w old (ack_number control) ≡ good e.acked) → (e.acked ≡ old.acked) ⊎ Acknowledges w old control e
acknowledged w old control e kind (inl same) = inl same
acknowledged w old control e kind (inr meaning) = inr (record { kind = kind; good = meaning })

-- an end that differs from one that applied an N(R) in what `Hears` doesn't look at, in its reply, and in what it sends
-- again
pub record Follows (e new : LinkEnd) : Type 0 where
  pub state : new.state ≡ e.state
  pub pushed : new.pushed ≡ e.pushed
  pub queued : new.queued ≡ e.queued
  pub sent : new.sent ≡ e.sent
  pub acked : new.acked ≡ e.acked
  pub again : new.again ≤ outstanding e
  pub oldest : new.reply ≡ Some oldest → ⊥

Hears_applied : (w : Window) (old : LinkEnd) (control : Control) (information : List ℕ) (e new : LinkEnd) → old.state ≡ Up → IsTrue (is_numbered control)
    → Applies w old (ack_number control) e → Follows e new → (new.taken ≡ old.taken) ⊎ Accepts w old control information new
    → Hears w old control information new
Hears_applied w old control information e new up kind h f taken =
    let k = h.applied.keeps in
    let least = h.applied.least in
    let most = h.applied.most in
    let same = f.acked in
    let again = f.again in
    let size : high e ≡ high old = ap (λ (x : List (List ℕ)). length x) k.sent in
    record {
      sent = f.sent ∙ k.sent;
      pushed = f.pushed ∙ k.pushed;
      queued = f.queued ∙ k.queued;
      up = λ s. inl up;
      calling = λ s. (let o : old.state ≡ Calling = sym k.state ∙ sym f.state ∙ s in o);
      least = omega arith;
      most = omega arith;
      again = omega (arith, size);
      oldest = f.oldest;
      taken = taken;
      acked = acknowledged w old control new kind
          (subst (λ (n : ℕ). (n ≡ old.acked) ⊎ (meaning_of w old (ack_number control) ≡ good n)) (sym f.acked) h.acked);
    }

-- the reply to an I frame out of sequence is no I frame
not_oldest : (rejecting poll : Bool) → Some (if rejecting then ready poll else reject poll) ≡ Some oldest → ⊥
not_oldest true poll h = let x : ⊥ = cc in x
not_oldest false poll h = let x : ⊥ = cc in x

-- an I frame whose N(R) was applied
Hears_information : (w : Window) (old : LinkEnd) (frame : FrameValue) (ns nr : ℕ) (e : LinkEnd) → old.state ≡ Up → Applies w old nr e
    → Hears w old (I ns nr) frame.kind.information (information_row w e frame ns).after
Hears_information w old frame ns nr e up h =
    let k = h.applied.keeps in
    cond_both (ns == receive_number w e) _ _ (λ (o : Outcome). Hears w old (I ns nr) frame.kind.information o.after)
    (λ same. Hears_applied w old (I ns nr) frame.kind.information e _ up refl h
    (record { state = refl; pushed = refl; queued = refl; sent = refl; acked = refl; again = (let z = h.quiet.again in let y = k.again in omega arith); oldest = λ x. (let x' : ⊥ = cc in x') })
    (inr (record {
      kind = refl;
      next = (let s : ns ≡ receive_number w e = eqb-true ns (receive_number w e) same in s ∙ ap (λ (x : List (List ℕ)). length x % w.modulus) k.taken);
      taken = ap (λ (x : List (List ℕ)). x ++ frame.kind.information ∷ []) k.taken;
      owed = refl;
    })))
    (λ other. Hears_applied w old (I ns nr) frame.kind.information e _ up refl h
    (record { state = refl; pushed = refl; queued = refl; sent = refl; acked = refl; again = (let z = h.quiet.again in let y = k.again in omega arith); oldest = not_oldest e.rejecting frame.poll })
    (inl k.taken))

-- an S frame whose N(R) was applied, at an end that follows that
Hears_supervisory : (w : Window) (old : LinkEnd) (control : Control) (frame : FrameValue) (e next : LinkEnd) → old.state ≡ Up → IsTrue (is_numbered control)
    → Applies w old (ack_number control) e → Follows e next → next.taken ≡ old.taken
    → Hears w old control frame.kind.information (supervisory_row next frame).after
Hears_supervisory w old control frame e next up kind h f taken =
    cond_both (frame.command && frame.poll) _ _ (λ (n : LinkEnd). Hears w old control frame.kind.information n)
    (λ asks. Hears_applied w old control frame.kind.information e (replying next (ready true)) up kind h
    (record { state = f.state; pushed = f.pushed; queued = f.queued; sent = f.sent; acked = f.acked; again = f.again; oldest = λ x. (let x' : ⊥ = cc in x') })
    (inl taken))
    (λ other. Hears_applied w old control frame.kind.information e next up kind h f (inl taken))

-- nothing is sent again
follows : (w : Window) (old : LinkEnd) (nr : ℕ) (busy : Bool) (e : LinkEnd) → Applies w old nr e → Follows e (with_busy busy e)
follows w old nr busy e h =
    record {
      state = refl;
      pushed = refl;
      queued = refl;
      sent = refl;
      acked = refl;
      again = (let z = h.quiet.again in let y = h.applied.keeps.again in omega arith);
      oldest = λ x. (let q = h.quiet.reply in let r = h.applied.keeps.reply in let x' : ⊥ = cc in x');
    }

-- all outstanding frames are sent again
follows_again : (w : Window) (old : LinkEnd) (nr : ℕ) (e : LinkEnd) → Applies w old nr e → Follows e (with_busy false (sending_again e))
follows_again w old nr e h =
    record {
      state = refl;
      pushed = refl;
      queued = refl;
      sent = refl;
      acked = refl;
      again = omega arith;
      oldest = λ x. (let q = h.quiet.reply in let r = h.applied.keeps.reply in let x' : ⊥ = cc in x');
    }

Hears_rej : (w : Window) (old : LinkEnd) (frame : FrameValue) (nr : ℕ) (again : Bool) (e : LinkEnd) → old.state ≡ Up → Applies w old nr e
    → Hears w old (Rej nr) frame.kind.information (supervisory_row (with_busy false (if again then sending_again e else e)) frame).after
Hears_rej w old frame nr true e up h = Hears_supervisory w old (Rej nr) frame e (with_busy false (sending_again e)) up refl h (follows_again w old nr e h) h.applied.keeps.taken
Hears_rej w old frame nr false e up h = Hears_supervisory w old (Rej nr) frame e (with_busy false e) up refl h (follows w old nr false e h) h.applied.keeps.taken

-- an I or S frame: with a bad N(R) it is refused
Hears_numbered : (w : Window) (old : LinkEnd) (frame : FrameValue) (control : Control) (nr : ℕ) (row : LinkEnd → Outcome) → IsEnd w old
    → Hears w old control frame.kind.information (row (applying old (meaning_of w old nr))).after
    → Hears w old control frame.kind.information (numbered_row w old frame nr row).after
Hears_numbered w old frame control nr row fits h =
    cond_both (is_bad (meaning_of w old nr)) _ _ (λ (o : Outcome). Hears w old control frame.kind.information o.after)
    (λ b. Hears_down_with w old control frame.kind.information (Some (refuse_frame (refusal_octets w old frame) frame.poll)) fits.acked (λ x. (let x' : ⊥ = cc in x')))
    (λ g. h)

pub Hears_up : (w : Window) (old : LinkEnd) (frame : FrameValue) (control : Control) → IsEnd w old → Quiet old → old.state ≡ Up
    → is_call control ≡ false → Hears w old control frame.kind.information (up_row w old frame control).after
Hears_up w old frame (I ns nr) fits q up calls =
    Hears_numbered w old frame (I ns nr) nr (λ e. information_row w e frame ns) fits (Hears_information w old frame ns nr _ up (applies w old nr fits q))
Hears_up w old frame (Rr nr) fits q up calls =
    let h = applies w old nr fits q in
    Hears_numbered w old frame (Rr nr) nr (λ e. supervisory_row (with_busy false e) frame) fits
    (Hears_supervisory w old (Rr nr) frame _ _ up refl h (follows w old nr false _ h) h.applied.keeps.taken)
Hears_up w old frame (Rnr nr) fits q up calls =
    let h = applies w old nr fits q in
    Hears_numbered w old frame (Rnr nr) nr (λ e. supervisory_row (with_busy true e) frame) fits
    (Hears_supervisory w old (Rnr nr) frame _ _ up refl h (follows w old nr true _ h) h.applied.keeps.taken)
Hears_up w old frame (Rej nr) fits q up calls =
    Hears_numbered w old frame (Rej nr) nr
    (λ e. supervisory_row (with_busy false (if is_good (meaning_of w old nr) then sending_again e else e)) frame) fits
    (Hears_rej w old frame nr (is_good (meaning_of w old nr)) _ up (applies w old nr fits q))
Hears_up w old frame Sabm fits q up calls = absurd (let x : ⊥ = cc in x)
Hears_up w old frame Disc fits q up calls = Hears_down_with w old Disc frame.kind.information (Some (accept frame.poll)) fits.acked (λ x. (let x' : ⊥ = cc in x'))
Hears_up w old frame Dm fits q up calls = Hears_down_with w old Dm frame.kind.information (unless_oldest old.reply) fits.acked (unless_oldest-no old.reply)
Hears_up w old frame Frmr fits q up calls = Hears_down_with w old Frmr frame.kind.information (unless_oldest old.reply) fits.acked (unless_oldest-no old.reply)
Hears_up w old frame control fits q up calls = Hears_nothing w old control frame.kind.information q fits.acked

pub Hears_calling : (w : Window) (old : LinkEnd) (frame : FrameValue) (control : Control) → IsEnd w old → Quiet old → old.state ≡ Calling
    → Hears w old control frame.kind.information (calling_row old frame control).after
Hears_calling w old frame Ua fits q calling =
    Hears_entering w old Ua frame.kind.information Up (unless_oldest old.reply) fits.acked (λ e. inr calling) (λ (e : Up ≡ Calling). (let x : ⊥ = cc in x))
    (unless_oldest-no old.reply)
Hears_calling w old frame Dm fits q calling = Hears_down_with w old Dm frame.kind.information (unless_oldest old.reply) fits.acked (unless_oldest-no old.reply)
Hears_calling w old frame Disc fits q calling = Hears_replying w old Disc frame.kind.information (Some (refuse frame.poll)) q fits.acked (λ x. (let x' : ⊥ = cc in x'))
Hears_calling w old frame control fits q calling = Hears_nothing w old control frame.kind.information q fits.acked

pub Hears_ending : (w : Window) (old : LinkEnd) (frame : FrameValue) (control : Control) → IsEnd w old → Quiet old
    → Hears w old control frame.kind.information (ending_row old frame control).after
Hears_ending w old frame Ua fits q = Hears_down_with w old Ua frame.kind.information (unless_oldest old.reply) fits.acked (unless_oldest-no old.reply)
Hears_ending w old frame Dm fits q = Hears_down_with w old Dm frame.kind.information (unless_oldest old.reply) fits.acked (unless_oldest-no old.reply)
Hears_ending w old frame Disc fits q = Hears_down_with w old Disc frame.kind.information (Some (accept frame.poll)) fits.acked (λ x. (let x' : ⊥ = cc in x'))
Hears_ending w old frame control fits q = Hears_nothing w old control frame.kind.information q fits.acked

pub Hears_down : (w : Window) (old : LinkEnd) (frame : FrameValue) (control : Control) → IsEnd w old → Quiet old
    → Hears w old control frame.kind.information (down_row old frame).after
Hears_down w old frame control fits q =
    cond_both (is_call frame.kind.control || (frame.command && frame.poll)) _ _ (λ (n : LinkEnd). Hears w old control frame.kind.information n)
    (λ asks. Hears_replying w old control frame.kind.information (Some (refuse frame.poll)) q fits.acked (λ x. (let x' : ⊥ = cc in x')))
    (λ other. Hears_nothing w old control frame.kind.information q fits.acked)

hears_in : (w : Window) (old : LinkEnd) (frame : FrameValue) (state : LinkState) → old.state ≡ state → IsEnd w old → Quiet old
    → is_call frame.kind.control ≡ false
    → Hears w old frame.kind.control frame.kind.information (row_of_state state w old frame).after
hears_in w old frame Calling e fits q calls = Hears_calling w old frame frame.kind.control fits q e
hears_in w old frame Up e fits q calls = Hears_up w old frame frame.kind.control fits q e calls
hears_in w old frame Ending e fits q calls = Hears_ending w old frame frame.kind.control fits q
hears_in w old frame Down e fits q calls = Hears_down w old frame frame.kind.control fits q

-- what a frame that is no SABM does
pub after_frame-Hears : (w : Window) (old : LinkEnd) (frame : FrameValue) → IsEnd w old → Quiet old → is_call frame.kind.control ≡ false
    → Hears w old frame.kind.control frame.kind.information (after_frame w old frame)
after_frame-Hears w old frame fits q calls = hears_in w old frame old.state refl fits q calls
