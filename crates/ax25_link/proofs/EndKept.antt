-- Each step keeps what is true of each end.
use Rattle.std.proofs.Common.{◌≡◌, ℕ, ◌≤◌, List, length, Option, Some, Bool, true, false, refl, ap, arith}
use Rattle.std.specs.Prelude.{◌==◌}
use Rattle.ax25_link.proofs.Names.{cond_both, eqb-false, CallSign, Control, Sabm, FrameValue, LinkState, Calling, Up, Ending, Down, Window, LinkEnd, Reply, IsEnd, high, outstanding, accept, call, enquire, oldest, begun, calling_end, answering_end, Outcome, row_of_state, up_row, after_frame, entering, is_down, runs_out, is_spent, asking, timer_reply, trying, after_tick, after_push, after_hang_up, after_abandon, Doing, push, hang_up, abandon, after_doing, IsQuiet}
use Rattle.ax25_link.proofs.EndLemmas.{Quiet, quiet, unless_oldest-no}
use Rattle.ax25_link.proofs.HeardLemmas.{Hears, Hears_up, Hears_calling, Hears_ending, Hears_down}

-- an end with no numbers yet
begun-IsEnd : (w : Window) (called : Bool) (me peer : CallSign) (state : LinkState) (reply : Option Reply) → (reply ≡ Some oldest → ⊥)
    → IsEnd w (begun called me peer state reply)
begun-IsEnd w called me peer state reply other =
    record { acked = omega arith; window = omega arith; again = omega arith; oldest = λ e. absurd (other e) }

pub calling_end-IsEnd : (w : Window) (me peer : CallSign) → IsEnd w (calling_end me peer)
calling_end-IsEnd w me peer = begun-IsEnd w true me peer Calling (Some call) (λ e. (let x : ⊥ = cc in x))

pub answering_end-IsEnd : (w : Window) (me peer : CallSign) (poll : Bool) → IsEnd w (answering_end me peer poll)
answering_end-IsEnd w me peer poll = begun-IsEnd w false me peer Up (Some (accept poll)) (λ e. (let x : ⊥ = cc in x))

pub Hears-IsEnd : (w : Window) (old : LinkEnd) (control : Control) (information : List ℕ) (new : LinkEnd) → IsEnd w old
    → Hears w old control information new → IsEnd w new
Hears-IsEnd w old control information new fits h =
    let size : high new ≡ high old = ap (λ (x : List (List ℕ)). length x) h.sent in
    let least = h.least in
    let most = h.most in
    let again = h.again in
    let window = fits.window in
    record {
      acked = omega (arith, size);
      window = omega (arith, size);
      again = omega (arith, size);
      oldest = λ e. absurd (h.oldest e);
    }

up-IsEnd : (w : Window) (old : LinkEnd) (frame : FrameValue) (control : Control) → IsEnd w old → Quiet old → old.state ≡ Up
    → IsEnd w (up_row w old frame control).after
up-IsEnd w old frame Sabm fits q up =
    cond_both old.called _ _ (λ (o : Outcome). IsEnd w o.after) (λ e. fits) (λ e. answering_end-IsEnd w old.me old.peer frame.poll)
up-IsEnd w old frame control fits q up =
    Hears-IsEnd w old control frame.kind.information (up_row w old frame control).after fits (Hears_up w old frame control fits q up refl)

row-IsEnd : (w : Window) (old : LinkEnd) (frame : FrameValue) (state : LinkState) → old.state ≡ state → IsEnd w old → Quiet old
    → IsEnd w (row_of_state state w old frame).after
row-IsEnd w old frame Calling e fits q = Hears-IsEnd w old frame.kind.control frame.kind.information _ fits (Hears_calling w old frame frame.kind.control fits q e)
row-IsEnd w old frame Up e fits q = up-IsEnd w old frame frame.kind.control fits q e
row-IsEnd w old frame Ending e fits q = Hears-IsEnd w old frame.kind.control frame.kind.information _ fits (Hears_ending w old frame frame.kind.control fits q)
row-IsEnd w old frame Down e fits q = Hears-IsEnd w old frame.kind.control frame.kind.information _ fits (Hears_down w old frame frame.kind.control fits q)

-- any frame, while nothing is to be sent
pub after_frame-IsEnd : (w : Window) (end : LinkEnd) (frame : FrameValue) → IsEnd w end → IsQuiet w end → IsEnd w (after_frame w end frame)
after_frame-IsEnd w end frame fits q = row-IsEnd w end frame end.state refl fits (quiet w end q)

-- another state
pub entering-IsEnd : (w : Window) (end : LinkEnd) (state : LinkState) → IsEnd w end → IsEnd w (entering end state)
entering-IsEnd w end state fits =
    record { acked = fits.acked; window = fits.window; again = omega arith; oldest = λ e. absurd (unless_oldest-no end.reply e) }

pub after_push-IsEnd : (w : Window) (end : LinkEnd) (octets : List ℕ) → IsEnd w end → IsEnd w (after_push end octets)
after_push-IsEnd w end octets fits = record { acked = fits.acked; window = fits.window; again = fits.again; oldest = fits.oldest }

pub after_hang_up-IsEnd : (w : Window) (end : LinkEnd) → IsEnd w end → IsEnd w (after_hang_up end)
after_hang_up-IsEnd w end fits =
    let h = entering-IsEnd w end Ending fits in record { acked = h.acked; window = h.window; again = h.again; oldest = h.oldest }

pub after_abandon-IsEnd : (w : Window) (end : LinkEnd) → IsEnd w end → IsEnd w (after_abandon end)
after_abandon-IsEnd w end fits =
    let h = entering-IsEnd w end Down fits in record { acked = h.acked; window = h.window; again = h.again; oldest = h.oldest }

pub after_doing-IsEnd : (w : Window) (end : LinkEnd) (doing : Doing) → IsEnd w end → IsEnd w (after_doing end doing)
after_doing-IsEnd w end (push octets) fits = after_push-IsEnd w end octets fits
after_doing-IsEnd w end hang_up fits = after_hang_up-IsEnd w end fits
after_doing-IsEnd w end abandon fits = after_abandon-IsEnd w end fits

-- the oldest outstanding frame is sent again only if one is outstanding
pub asking-oldest : (end : LinkEnd) → asking end ≡ oldest → 1 ≤ outstanding end
asking-oldest end =
    cond_both (outstanding end == 0) enquire oldest (λ (reply : Reply). reply ≡ oldest → 1 ≤ outstanding end)
    (λ e f. absurd (let x : ⊥ = cc in x))
    (λ e f. (let some = eqb-false (outstanding end) 0 e in omega (arith, some)))

pub timer_reply-oldest : (state : LinkState) (end : LinkEnd) → timer_reply state end ≡ oldest → 1 ≤ outstanding end
timer_reply-oldest Up end e = asking-oldest end e
timer_reply-oldest state end e = absurd (let x : ⊥ = cc in x)

pub trying-IsEnd : (w : Window) (end : LinkEnd) → IsEnd w end → IsEnd w (trying end)
trying-IsEnd w end fits =
    record {
      acked = fits.acked;
      window = fits.window;
      again = fits.again;
      oldest = λ e. timer_reply-oldest end.state end (let same : timer_reply end.state end ≡ oldest = cc in same);
    }

pub after_tick-IsEnd : (w : Window) (end : LinkEnd) → IsEnd w end → IsEnd w (after_tick end)
after_tick-IsEnd w end fits =
    cond_both (is_down end.state) _ _ (λ (n : LinkEnd). IsEnd w n) (λ e. fits)
    (λ e. cond_both (runs_out end) _ _ (λ (n : LinkEnd). IsEnd w n)
    (λ f. cond_both (is_spent end) _ _ (λ (n : LinkEnd). IsEnd w n) (λ g. entering-IsEnd w end Down fits) (λ g. trying-IsEnd w end fits))
    (λ f. record { acked = fits.acked; window = fits.window; again = fits.again; oldest = fits.oldest }))
