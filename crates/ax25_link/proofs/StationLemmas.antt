-- An end stays of its two stations, and its frames are of them.
use Rattle.std.proofs.Common.{◌≡◌, ℕ, ◌%◌, ◌<◌, List, [], ◌∷◌, Bool, true, false, cond, refl, sym, ◌∙◌, ap, subst, arith}
use Rattle.std.specs.Prelude.{◌+◌, ◌==◌, ◌&&◌, ◌||◌, if◌then◌else◌}
use Rattle.ax25_link.specs.Stations.{Stations, stations_of, IsFrameOf, SendsOwn, StationsLaw}
use Rattle.ax25_link.proofs.Names.{Some, AllByRecursion, cond_both, nat_tests, CallSign, Control, I, Rr, Rnr, Rej, Sabm, Ua, FrameValue, LinkState, Calling, Up, Ending, Down, Window, IsWindow, LinkEnd, Reply, Farewell, high, outstanding, taken_count, ready, reject, refuse, enquire, oldest, goodbye, gone, Meaning, good, stale, bad, meaning_of, acknowledging, applying, is_good, with_timer_anew, receive_number, Outcome, accepting, out_of_sequence, entering, passed_over, replying, information_row, supervisory_row, with_busy, sending_again, numbered_row, up_row, calling_row, ending_row, row_of_state, is_call, is_down, runs_out, is_spent, trying, after_count, Doing, push, after_doing, DoesAll, Sending, Drains, next_sending, sends_reply, sends_farewell, with_piece, Coming, frame, tick, after_coming}
use Rattle.ax25_link.proofs.SendLemmas.{sending_cases}

-- whichever of two ends it is
either : {X : Type 0} (f : X → Stations) (b : Bool) (x y : X) (s : Stations) → f x ≡ s → f y ≡ s → f (cond b x y) ≡ s
either f true x y s first second = first
either f false x y s first second = second

-- of what an outcome leaves
abbrev left : Outcome → Stations
left o = stations_of o.after

abbrev stations : Bool → CallSign → CallSign → Stations
stations called me peer = record { called = called; me = me; peer = peer }

acknowledging-stations : (end : LinkEnd) (x : ℕ) → stations_of (acknowledging end x) ≡ stations_of end
acknowledging-stations end x = grind (arith, nat_tests)

applying-stations : (end : LinkEnd) (meaning : Meaning) → stations_of (applying end meaning) ≡ stations_of end
applying-stations end (good x) = acknowledging-stations end x
applying-stations end stale = acknowledging-stations end end.acked
applying-stations end bad = refl

numbered-stations : (w : Window) (end : LinkEnd) (f : FrameValue) (nr : ℕ) (row : LinkEnd → Outcome)
    → ((e : LinkEnd) → left (row e) ≡ stations_of e) → left (numbered_row w end f nr row) ≡ stations_of end
numbered-stations w end f nr row same = grind (arith, nat_tests, same (applying end (meaning_of w end nr)), applying-stations end (meaning_of w end nr))

supervisory-stations : (end : LinkEnd) (f : FrameValue) → left (supervisory_row end f) ≡ stations_of end
supervisory-stations end f = grind (arith, nat_tests)

up-stations : (w : Window) (end : LinkEnd) (f : FrameValue) (control : Control) → left (up_row w end f control) ≡ stations_of end
up-stations w end f (I ns nr) =
    numbered-stations w end f nr (λ e. information_row w e f ns)
    (λ e. either left (ns == receive_number w e) (accepting e f) (out_of_sequence e f) (stations_of e) refl refl)
up-stations w end f (Rr nr) =
    numbered-stations w end f nr (λ e. supervisory_row (with_busy false e) f) (λ e. supervisory-stations (with_busy false e) f)
up-stations w end f (Rnr nr) =
    numbered-stations w end f nr (λ e. supervisory_row (with_busy true e) f) (λ e. supervisory-stations (with_busy true e) f)
up-stations w end f (Rej nr) =
    let again = is_good (meaning_of w end nr) in
    numbered-stations w end f nr (λ e. supervisory_row (with_busy false (if again then sending_again e else e)) f)
    (λ e. supervisory-stations (with_busy false (if again then sending_again e else e)) f
    ∙ either stations_of again (sending_again e) e (stations_of e) refl refl)
up-stations w end f Sabm =
    cond_both end.called (passed_over end) _ (λ (o : Outcome). left o ≡ stations_of end) (λ calls. refl)
    (λ answers. ap (λ (b : Bool). stations b end.me end.peer) (sym answers))
up-stations w end f control = refl

calling-stations : (end : LinkEnd) (f : FrameValue) (control : Control) → left (calling_row end f control) ≡ stations_of end
calling-stations end f Ua = refl
calling-stations end f control = refl

ending-stations : (end : LinkEnd) (f : FrameValue) (control : Control) → left (ending_row end f control) ≡ stations_of end
ending-stations end f Ua = refl
ending-stations end f control = refl

row-stations : (w : Window) (end : LinkEnd) (f : FrameValue) (state : LinkState) → left (row_of_state state w end f) ≡ stations_of end
row-stations w end f Calling = calling-stations end f f.kind.control
row-stations w end f Up = up-stations w end f f.kind.control
row-stations w end f Ending = ending-stations end f f.kind.control
row-stations w end f Down =
    either stations_of (is_call f.kind.control || (f.command && f.poll)) (replying end (refuse f.poll)) end (stations_of end) refl refl

coming-stations : (w : Window) (end : LinkEnd) (coming : Coming) → stations_of (after_coming w end coming) ≡ stations_of end
coming-stations w end (frame f) = row-stations w end f end.state
coming-stations w end tick =
    let same = stations_of end in
    let counted = record end { count = end.count + 1 } in
    let tried = either stations_of (is_spent end) (entering end Down) (trying end) same refl refl in
    either stations_of (is_down end.state) end (after_count end) same refl
    (either stations_of (runs_out end) (if is_spent end then entering end Down else trying end) counted same tried refl)

doing-stations : (end : LinkEnd) (doing : Doing) → stations_of (after_doing end doing) ≡ stations_of end
doing-stations end (push octets) = refl
doing-stations end doing = refl

does-stations : (end last : LinkEnd) (doings : List Doing) → DoesAll end doings last → stations_of last ≡ stations_of end
does-stations end last [] d = ap stations_of d
does-stations end last (doing ∷ doings) d = does-stations (after_doing end doing) last doings d.1 ∙ doing-stations end doing

-- what an end sends, and what it leaves
abbrev SendsIt : Window → LinkEnd → Sending → Type 0
SendsIt w end s = IsFrameOf w (stations_of end) s.frame × (stations_of s.after ≡ stations_of end)

module _ (w : Window) (end : LinkEnd) (window : IsWindow w) where
  low : (n : ℕ) → n % w.modulus < w.modulus
  low n =
      let some = window.some in
      let fewer = window.fewer in
      omega arith

  reply-own : (reply : Reply) → SendsIt w end (sends_reply w end reply)
  reply-own oldest =
      (record { src = refl; dest = refl; via = refl; numbers = (low end.acked, (low (taken_count end), tt)) }, refl)
  reply-own (ready poll) = (record { src = refl; dest = refl; via = refl; numbers = (low (taken_count end), tt) }, refl)
  reply-own (reject poll) = (record { src = refl; dest = refl; via = refl; numbers = (low (taken_count end), tt) }, refl)
  reply-own enquire = (record { src = refl; dest = refl; via = refl; numbers = (low (taken_count end), tt) }, refl)
  reply-own reply = (record { src = refl; dest = refl; via = refl; numbers = tt }, refl)

  farewell-own : (farewell : Farewell) → SendsIt w end (sends_farewell end farewell)
  farewell-own goodbye = (record { src = refl; dest = refl; via = refl; numbers = tt }, refl)
  farewell-own gone = (record { src = refl; dest = refl; via = refl; numbers = tt }, refl)

  sends-own : (sending : Sending) → next_sending w end ≡ Some sending → SendsIt w end sending
  sends-own =
      sending_cases w end (SendsIt w end) (λ reply same. reply-own reply)
      (λ some. (record { src = refl; dest = refl; via = refl; numbers = (low _, (low (taken_count end), tt)) }, refl))
      (λ has. (
        record { src = refl; dest = refl; via = refl; numbers = (low (high end), (low (taken_count end), tt)) },
        either stations_of (outstanding end == 0) (with_timer_anew (with_piece end)) (with_piece end) (stations_of end) refl refl,
      ))
      (λ farewell same. farewell-own farewell)

drains-own : (w : Window) (end last : LinkEnd) (frames : List FrameValue) → IsWindow w → Drains w end frames last → SendsOwn w end frames last
drains-own w end last [] window d = record { stations = ap stations_of d.1; own = tt }
drains-own w end last (f ∷ frames) window d =
    let first = sends-own w end window d.0 d.1 in
    let rest = drains-own w d.0.after last frames window d.3 in
    record {
      stations = rest.stations ∙ first.1;
      own = (
        subst (IsFrameOf w (stations_of end)) (sym d.2) first.0,
        subst (λ (s : Stations). AllByRecursion (IsFrameOf w s) frames) first.1 rest.own,
      );
    }

pub stations_law : StationsLaw
stations_law = record {
  coming = coming-stations;
  does = does-stations;
  sends = λ w end sending window next. sends-own w end window sending next;
  drains = drains-own;
  step = λ w old new coming heard doings frames window s.
      let sent = drains-own w s.end new frames window s.drains in
      let same = does-stations (after_coming w old coming) s.end doings s.does ∙ coming-stations w old coming in
      record {
        stations = sent.stations ∙ same;
        own = subst (λ (l : Stations). AllByRecursion (IsFrameOf w l) frames) same sent.own;
      };
}
