-- Only an end that is calling sends a SABM, when its timer runs out.
use Rattle.std.proofs.Common.{◌≡◌, ℕ, List, [], ◌∷◌, Option, Some, None, Bool, true, false, refl, sym, ◌∙◌, ap, subst, arith}
use Rattle.std.specs.Prelude.{◌==◌, if◌then◌else◌}
use Rattle.ax25_link.proofs.Names.{cond_both, nat_tests, Control, I, Rr, Rnr, Rej, Sabm, Disc, Dm, Ua, Frmr, FrameValue, LinkState, Calling, Up, Ending, Down, Window, LinkEnd, Reply, Farewell, outstanding, ready, reject, accept, refuse, call, oldest, goodbye, gone, Meaning, good, stale, bad, meaning_of, applying, is_good, is_bad, frame_of_reply, Outcome, unless_oldest, information_row, supervisory_row, with_busy, sending_again, numbered_row, up_row, calling_row, ending_row, down_row, row_of_state, is_call, asking, timer_reply, after_tick, Doing, push, hang_up, abandon, after_doing, DoesAll, Sending, next_sending, sends_farewell, sends_new, Drains, Coming, frame, tick, after_coming, HasNoCall, NoCallLaw}
use Rattle.ax25_link.proofs.EndLemmas.{quiet, acknowledging-keeps}
use Rattle.ax25_link.proofs.SendLemmas.{sending_cases}

-- no SABM is to be sent first
abbrev pub CallsNot : LinkEnd → Type 0
CallsNot end = end.reply ≡ Some call → ⊥

-- a frame that is no SABM is sent, and none is to be sent then
record SendsOther (sending : Sending) : Type 0 where
  frame : is_call sending.frame.kind.control ≡ false
  after : CallsNot sending.after

reply-other : (w : Window) (end : LinkEnd) (reply : Reply) → (Some reply ≡ Some call → ⊥) → is_call (frame_of_reply w end reply).kind.control ≡ false
reply-other w end call never = absurd (never refl)
reply-other w end reply never = refl

farewell-other : (end : LinkEnd) (farewell : Farewell) → CallsNot end → SendsOther (sends_farewell end farewell)
farewell-other end goodbye never = record { frame = refl; after = never }
farewell-other end gone never = record { frame = refl; after = never }

new-other : (w : Window) (end : LinkEnd) → CallsNot end → SendsOther (sends_new w end)
new-other w end never =
    record {
      frame = refl;
      after = cond_both (outstanding end == 0) _ _ CallsNot (λ e. never) (λ e. never);
    }

next-other : (w : Window) (end : LinkEnd) → CallsNot end → (s : Sending) → next_sending w end ≡ Some s → SendsOther s
next-other w end never =
    sending_cases w end SendsOther
    (λ reply same. record {
      frame = reply-other w end reply (λ x. never (same ∙ x));
      after = λ (x : None ≡ Some call). (let y : ⊥ = cc in y);
    })
    (λ some. record { frame = refl; after = never }) (λ has. new-other w end never) (λ farewell same. farewell-other end farewell never)

pub drains-other : (w : Window) (end last : LinkEnd) (frames : List FrameValue) → CallsNot end → Drains w end frames last → HasNoCall frames
drains-other w end last [] never d = tt
drains-other w end last (f ∷ frames) never d =
    let s = next-other w end never d.0 d.1 in
    (ap (λ (x : FrameValue). is_call x.kind.control) d.2 ∙ s.frame, drains-other w d.0.after last frames s.after d.3)

-- a reply stays, and none comes
unless-other : (reply : Option Reply) → (reply ≡ Some call → ⊥) → unless_oldest reply ≡ Some call → ⊥
unless-other (Some oldest) never e = let x : ⊥ = cc in x
unless-other reply never e = never e

doing-other : (end : LinkEnd) (doing : Doing) → CallsNot end → CallsNot (after_doing end doing)
doing-other end (push octets) never = never
doing-other end hang_up never = unless-other end.reply never
doing-other end abandon never = unless-other end.reply never

pub does-other : (end last : LinkEnd) (doings : List Doing) → CallsNot end → DoesAll end doings last → CallsNot last
does-other end last [] never d = subst CallsNot (sym d) never
does-other end last (doing ∷ doings) never d = does-other (after_doing end doing) last doings (doing-other end doing never) d.1

-- an end with nothing to send
quiet-other : (end : LinkEnd) → end.reply ≡ None → CallsNot end
quiet-other end none e = let x : ⊥ = cc in x

applying-reply : (end : LinkEnd) (meaning : Meaning) → (applying end meaning).reply ≡ end.reply
applying-reply end (good x) = (acknowledging-keeps end x).reply
applying-reply end stale = (acknowledging-keeps end end.acked).reply
applying-reply end bad = refl

sequence-other : (rejecting poll : Bool) → Some (if rejecting then ready poll else reject poll) ≡ Some call → ⊥
sequence-other true poll h = let x : ⊥ = cc in x
sequence-other false poll h = let x : ⊥ = cc in x

information-other : (w : Window) (end : LinkEnd) (f : FrameValue) (ns : ℕ) → CallsNot (information_row w end f ns).after
information-other w end f ns = λ x. grind (arith, nat_tests)

supervisory-other : (end : LinkEnd) (f : FrameValue) → end.reply ≡ None → CallsNot (supervisory_row end f).after
supervisory-other end f none = λ x. grind (arith, nat_tests)

numbered-other : (w : Window) (end : LinkEnd) (f : FrameValue) (nr : ℕ) (row : LinkEnd → Outcome)
    → CallsNot (row (applying end (meaning_of w end nr))).after → CallsNot (numbered_row w end f nr row).after
numbered-other w end f nr row never =
    cond_both (is_bad (meaning_of w end nr)) _ _ (λ (o : Outcome). CallsNot o.after)
    (λ b x. (let y : ⊥ = cc in y))
    (λ g. never)

rej-other : (end : LinkEnd) (f : FrameValue) (again : Bool) → end.reply ≡ None
    → CallsNot (supervisory_row (with_busy false (if again then sending_again end else end)) f).after
rej-other end f true none = supervisory-other (with_busy false (sending_again end)) f none
rej-other end f false none = supervisory-other (with_busy false end) f none

up-other : (w : Window) (end : LinkEnd) (f : FrameValue) (control : Control) → end.reply ≡ None → CallsNot (up_row w end f control).after
up-other w end f (I ns nr) none = numbered-other w end f nr (λ e. information_row w e f ns) (information-other w (applying end (meaning_of w end nr)) f ns)
up-other w end f (Rr nr) none =
    numbered-other w end f nr (λ e. supervisory_row (with_busy false e) f)
    (supervisory-other (with_busy false (applying end (meaning_of w end nr))) f (applying-reply end (meaning_of w end nr) ∙ none))
up-other w end f (Rnr nr) none =
    numbered-other w end f nr (λ e. supervisory_row (with_busy true e) f)
    (supervisory-other (with_busy true (applying end (meaning_of w end nr))) f (applying-reply end (meaning_of w end nr) ∙ none))
up-other w end f (Rej nr) none =
    numbered-other w end f nr
    (λ e. supervisory_row (with_busy false (if is_good (meaning_of w end nr) then sending_again e else e)) f)
    (rej-other (applying end (meaning_of w end nr)) f (is_good (meaning_of w end nr)) (applying-reply end (meaning_of w end nr) ∙ none))
up-other w end f Sabm none =
    cond_both end.called _ _ (λ (o : Outcome). CallsNot o.after) (λ e. quiet-other end none)
    (λ e (x : Some (accept f.poll) ≡ Some call). (let y : ⊥ = cc in y))
up-other w end f Disc none = λ (x : Some (accept f.poll) ≡ Some call). (let y : ⊥ = cc in y)
up-other w end f Dm none = unless-other end.reply (quiet-other end none)
up-other w end f Frmr none = unless-other end.reply (quiet-other end none)
up-other w end f control none = quiet-other end none

calling-other : (end : LinkEnd) (f : FrameValue) (control : Control) → end.reply ≡ None → CallsNot (calling_row end f control).after
calling-other end f Ua none = unless-other end.reply (quiet-other end none)
calling-other end f Dm none = unless-other end.reply (quiet-other end none)
calling-other end f Disc none = λ (x : Some (refuse f.poll) ≡ Some call). (let y : ⊥ = cc in y)
calling-other end f control none = quiet-other end none

ending-other : (end : LinkEnd) (f : FrameValue) (control : Control) → end.reply ≡ None → CallsNot (ending_row end f control).after
ending-other end f Ua none = unless-other end.reply (quiet-other end none)
ending-other end f Dm none = unless-other end.reply (quiet-other end none)
ending-other end f Disc none = λ (x : Some (accept f.poll) ≡ Some call). (let y : ⊥ = cc in y)
ending-other end f control none = quiet-other end none

down-other : (end : LinkEnd) (f : FrameValue) → end.reply ≡ None → CallsNot (down_row end f).after
down-other end f none = λ x. grind (arith, nat_tests)

row-other : (w : Window) (end : LinkEnd) (f : FrameValue) (state : LinkState) → end.reply ≡ None → CallsNot (row_of_state state w end f).after
row-other w end f Calling none = calling-other end f f.kind.control none
row-other w end f Up none = up-other w end f f.kind.control none
row-other w end f Ending none = ending-other end f f.kind.control none
row-other w end f Down none = down-other end f none

-- what the timer sends
asking-other : (end : LinkEnd) → Some (asking end) ≡ Some call → ⊥
asking-other end = λ x. grind (arith, nat_tests)

timer-other : (state : LinkState) (end : LinkEnd) → (state ≡ Calling → ⊥) → Some (timer_reply state end) ≡ Some call → ⊥
timer-other Calling end never x = never refl
timer-other Up end never x = asking-other end x
timer-other state end never x = let y : ⊥ = cc in y

tick-other : (end : LinkEnd) → end.reply ≡ None → (end.state ≡ Calling → ⊥) → CallsNot (after_tick end)
tick-other end none never = λ x. grind (arith, nat_tests, timer-other end.state end never, unless-other end.reply (quiet-other end none))

coming-other : (w : Window) (end : LinkEnd) (coming : Coming) → end.reply ≡ None → (coming ≡ tick → end.state ≡ Calling → ⊥)
    → CallsNot (after_coming w end coming)
coming-other w end (frame f) none never = row-other w end f end.state none
coming-other w end tick none never = tick-other end none (never refl)

pub no_call : NoCallLaw
no_call = record {
  step = λ w old new coming heard doings frames s never.
      drains-other w s.end new frames
      (does-other (after_coming w old coming) s.end doings (coming-other w old coming (quiet w old s.quiet).reply never) s.does) s.drains;
  sent = λ w end next last doings frames never does drains. drains-other w next last frames (does-other end next doings never does) drains;
}
