-- What becomes of a link at a frame that is heard, a tick, or a frame that is sent.
use Rattle.std.proofs.Common.{◌≡◌, ℕ, ◌+◌, ◌==◌, Bool, true, false, ◌&&◌, List, refl, ap, sym, ◌∙◌, subst}
use Rattle.std.specs.Prelude.{if◌then◌else◌}
use Rattle.std.proofs.lemmas.Bool.{cond_both}
use Rattle.ax25_frames.specs.declared.control.Control.{Control}
use Rattle.ax25_frames.specs.declared.control.Control.TheVariants.{I, Rr, Rnr, Rej, Sabm, Disc, Dm, Ua, Frmr, Ui}
use Rattle.ax25_frames.specs.FrameText.{FrameValue}
use Rattle.ax25_link.specs.declared.state.Heard.{Heard}
use Rattle.ax25_link.specs.declared.state.LinkState.{LinkState}
use Rattle.ax25_link.specs.declared.state.LinkState.TheVariants.{Calling, Up, Ending, Down}
use Rattle.ax25_link.specs.declared.state.Why.{Why}
use Rattle.ax25_link.specs.declared.state.Why.TheVariants as why
use Rattle.ax25_link.specs.Acknowledging.{Meaning, good, stale, bad, applying, is_bad, is_good, meaning_of}
use Rattle.ax25_link.specs.Air.{is_information}
use Rattle.ax25_link.specs.Frames.{receive_number}
use Rattle.ax25_link.specs.Rows.{Outcome, after_frame, calling_row, ending_row, entering, heard_of, information_row, numbered_row, replying, row, row_of_state, sending_again, supervisory_row, up_row, with_busy}
use Rattle.ax25_link.specs.Sending.{Sending, after_new, has_new, last_sending, later_sending, next_sending, sending_after}
use Rattle.ax25_link.specs.Timer.{after_tick, is_down, is_spent, runs_out, told_of_tick, trying}
use Rattle.ax25_link.specs.Window.{Window}
use Rattle.ax25_link.proofs.Offered.{acknowledging-keeps}
use Rattle.packet_link.proofs.Names.{Option, None, Some, IsTrue, nat_lt, ⊤, Bytes, after_push, Farewell, LinkEnd, Reply, ready, GivesNext, HandsOut, Kept, StandsFor, Steps, Tells, IsOpen, StandsForSome}

-- up, unless what was reported is that the link is down
abbrev pub StaysUp : Outcome → Type 0
StaysUp o = IsOpen o.heard → o.after.state ≡ Up

applying-state : (end : LinkEnd) (meaning : Meaning) → (applying end meaning).state ≡ end.state
applying-state end (good x) = (acknowledging-keeps end x).state
applying-state end stale = (acknowledging-keeps end end.acked).state
applying-state end bad = refl

module _ (w : Window) (end : LinkEnd) (frame : FrameValue) (up : end.state ≡ Up) where
  numbered-up : (nr : ℕ) (next : LinkEnd → Outcome) → ((e : LinkEnd) → e.state ≡ Up → StaysUp (next e)) → StaysUp (numbered_row w end frame nr next)
  numbered-up nr next h =
      cond_both (is_bad (meaning_of w end nr)) _ _ (λ (o : Outcome). StaysUp o)
      (λ b opens. absurd (opens why.BadNr refl))
      (λ b. h (applying end (meaning_of w end nr)) (applying-state end (meaning_of w end nr) ∙ up))

  information-up : (ns : ℕ) (e : LinkEnd) → e.state ≡ Up → StaysUp (information_row w e frame ns)
  information-up ns e is = cond_both (ns == receive_number w e) _ _ (λ (o : Outcome). StaysUp o) (λ b opens. is) (λ b opens. is)

  supervisory-up : (e : LinkEnd) → e.state ≡ Up → StaysUp (supervisory_row e frame)
  supervisory-up e is opens = cond_both (frame.command && frame.poll) (replying e (ready true)) e (λ (n : LinkEnd). n.state ≡ Up) (λ b. is) (λ b. is)

  again-up : (again : Bool) (e : LinkEnd) → e.state ≡ Up → (with_busy false (if again then sending_again e else e)).state ≡ Up
  again-up true e is = is
  again-up false e is = is

  control-up : (control : Control) → StaysUp (up_row w end frame control)
  control-up (I ns nr) = numbered-up nr (λ e. information_row w e frame ns) (λ e is. information-up ns e is)
  control-up (Rr nr) = numbered-up nr (λ e. supervisory_row (with_busy false e) frame) (λ e is. supervisory-up (with_busy false e) is)
  control-up (Rnr nr) = numbered-up nr (λ e. supervisory_row (with_busy true e) frame) (λ e is. supervisory-up (with_busy true e) is)
  control-up (Rej nr) =
      numbered-up nr (λ e. supervisory_row (with_busy false (if is_good (meaning_of w end nr) then sending_again e else e)) frame)
      (λ e is. supervisory-up (with_busy false (if is_good (meaning_of w end nr) then sending_again e else e)) (again-up (is_good (meaning_of w end nr)) e is))
  control-up Sabm = cond_both end.called _ _ (λ (o : Outcome). StaysUp o) (λ b opens. up) (λ b opens. refl)
  control-up Disc = λ opens. absurd (opens why.Disc refl)
  control-up Dm = λ opens. absurd (opens why.Dm refl)
  control-up Frmr = λ opens. absurd (opens why.Frmr refl)
  control-up Ua = λ opens. up
  control-up Ui = λ opens. up

  -- an end that is up stays so, unless a frame brings the link down
  pub frame-up : StaysUp (row w end frame)
  frame-up = subst (λ (s : LinkState). StaysUp (row_of_state s w end frame)) (sym up) (control-up frame.kind.control)

-- information that is next in the stream is reported of an I frame
abbrev TellsBytes : Control → Outcome → Type 0
TellsBytes control o = o.heard ≡ Bytes → IsTrue (is_information control)

module _ (w : Window) (end : LinkEnd) (frame : FrameValue) where
  numbered-tells : (control : Control) (nr : ℕ) (next : LinkEnd → Outcome) → ((e : LinkEnd) → TellsBytes control (next e)) → TellsBytes control (numbered_row w end frame nr next)
  numbered-tells control nr next h =
      cond_both (is_bad (meaning_of w end nr)) _ _ (λ (o : Outcome). TellsBytes control o)
      (λ b bytes. absurd cc)
      (λ b. h (applying end (meaning_of w end nr)))

  silent-tells : (control : Control) (e : LinkEnd) → TellsBytes control (supervisory_row e frame)
  silent-tells control e bytes = absurd cc

  up-tells : (control : Control) → TellsBytes control (up_row w end frame control)
  up-tells (I ns nr) = λ bytes. refl
  up-tells (Rr nr) = numbered-tells (Rr nr) nr (λ e. supervisory_row (with_busy false e) frame) (λ e. silent-tells (Rr nr) (with_busy false e))
  up-tells (Rnr nr) = numbered-tells (Rnr nr) nr (λ e. supervisory_row (with_busy true e) frame) (λ e. silent-tells (Rnr nr) (with_busy true e))
  up-tells (Rej nr) =
      numbered-tells (Rej nr) nr (λ e. supervisory_row (with_busy false (if is_good (meaning_of w end nr) then sending_again e else e)) frame)
      (λ e. silent-tells (Rej nr) (with_busy false (if is_good (meaning_of w end nr) then sending_again e else e)))
  up-tells Sabm = cond_both end.called _ _ (λ (o : Outcome). TellsBytes Sabm o) (λ b bytes. absurd cc) (λ b bytes. absurd cc)
  up-tells Disc = λ bytes. absurd cc
  up-tells Dm = λ bytes. absurd cc
  up-tells Frmr = λ bytes. absurd cc
  up-tells Ua = λ bytes. absurd cc
  up-tells Ui = λ bytes. absurd cc

  calling-tells : (control : Control) → (calling_row end frame control).heard ≡ Bytes → ⊥
  calling-tells Ua bytes = cc
  calling-tells control bytes = cc

  ending-tells : (control : Control) → (ending_row end frame control).heard ≡ Bytes → ⊥
  ending-tells Ua bytes = cc
  ending-tells control bytes = cc

  state-tells : (state : LinkState) → TellsBytes frame.kind.control (row_of_state state w end frame)
  state-tells Calling = λ bytes. absurd (calling-tells frame.kind.control bytes)
  state-tells Up = up-tells frame.kind.control
  state-tells Ending = λ bytes. absurd (ending-tells frame.kind.control bytes)
  state-tells Down = λ bytes. absurd cc

  -- and of an end that is up
  told-up : (state : LinkState) → (row_of_state state w end frame).heard ≡ Bytes → state ≡ Up
  told-up Calling bytes = absurd (calling-tells frame.kind.control bytes)
  told-up Up bytes = refl
  told-up Ending bytes = absurd (ending-tells frame.kind.control bytes)
  told-up Down bytes = absurd cc

-- ---- the same of a link

module _ (link link_n : Kept) (some : StandsForSome link) (frame : FrameValue) (told : Heard) (up : link.state ≡ Up) (tells : Tells link (λ w end. heard_of w end frame) told) where
  end-up : some.end.state ≡ Up
  end-up = sym (ap (λ (k : Kept). k.state) some.stands.kept) ∙ up

  pub link-up : Steps link link_n (λ w end. after_frame w end frame) → IsOpen told → link_n.state ≡ Up
  link-up steps opens =
      ap (λ (k : Kept). k.state) (steps some.w some.end some.stands).kept
      ∙ frame-up some.w some.end frame end-up (subst (λ (h : Heard). IsOpen h) (tells some.w some.end some.stands) opens)

-- the same of a link
pub link-information : (link : Kept) (some : StandsForSome link) (frame : FrameValue) (told : Heard) → Tells link (λ w end. heard_of w end frame) told → told ≡ Bytes
    → IsTrue (is_information frame.kind.control)
link-information link some frame told tells bytes = state-tells some.w some.end frame some.end.state (sym (tells some.w some.end some.stands) ∙ bytes)

pub link-told-up : (link : Kept) (some : StandsForSome link) (frame : FrameValue) (told : Heard) → Tells link (λ w end. heard_of w end frame) told → told ≡ Bytes → link.state ≡ Up
link-told-up link some frame told tells bytes =
    ap (λ (k : Kept). k.state) some.stands.kept ∙ told-up some.w some.end frame some.end.state (sym (tells some.w some.end some.stands) ∙ bytes)

-- a link that stood for some end stands for one after each step
pub some-after : (link link_n : Kept) (next : Window → LinkEnd → LinkEnd) → StandsForSome link → Steps link link_n next → StandsForSome link_n
some-after link link_n next some steps = record { w = some.w; end = next some.w some.end; stands = steps some.w some.end some.stands }

-- octets that are pushed leave it up
pub push-up : (link link_n : Kept) (text : List ℕ) → StandsForSome link → link.state ≡ Up → Steps link link_n (λ w end. after_push end text) → link_n.state ≡ Up
push-up link link_n text some up steps = ap (λ (k : Kept). k.state) (steps some.w some.end some.stands).kept ∙ sym (ap (λ (k : Kept). k.state) some.stands.kept) ∙ up

-- ---- a tick

tick-cases : (end : LinkEnd) (down runs spent : Bool) → end.state ≡ Up
    → (if down then None else if runs && spent then Some why.NoAnswer else None) ≡ None
    → (if down then end else if runs then (if spent then entering end Down else trying end) else record end { count = end.count + 1 }).state ≡ Up
tick-cases end true runs spent up none = up
tick-cases end false true true up none = absurd cc
tick-cases end false true false up none = up
tick-cases end false false spent up none = up

pub tick-up : (link link_n : Kept) (told : Option Why) → StandsForSome link → link.state ≡ Up → Steps link link_n (λ w end. after_tick end) → Tells link (λ w end. told_of_tick end) told
    → told ≡ None → link_n.state ≡ Up
tick-up link link_n told some up steps tells none =
    let end = some.end in
    ap (λ (k : Kept). k.state) (steps some.w end some.stands).kept
    ∙ tick-cases end (is_down end.state) (runs_out end) (is_spent end) (sym (ap (λ (k : Kept). k.state) some.stands.kept) ∙ up) (sym (tells some.w end some.stands) ∙ none)

-- ---- a frame that is sent

-- what is sent leaves the state
abbrev LeavesState : LinkEnd → Option Sending → Type 0
LeavesState end None = ⊤
LeavesState end (Some sending) = sending.after.state ≡ end.state

new-state : (w : Window) (end : LinkEnd) → (after_new end).state ≡ end.state
new-state w end = cond_both _ _ _ (λ (e : LinkEnd). e.state ≡ end.state) (λ b. refl) (λ b. refl)

last-state : (end : LinkEnd) (farewell : Option Farewell) → LeavesState end (last_sending end farewell)
last-state end None = tt
last-state end (Some farewell) = refl

later-state : (w : Window) (end : LinkEnd) → LeavesState end (later_sending w end)
later-state w end =
    cond_both (nat_lt 0 end.again) _ _ (LeavesState end) (λ b. refl)
    (λ b. cond_both (has_new w end) _ _ (LeavesState end) (λ n. new-state w end) (λ n. last-state end end.farewell))

sending-state : (w : Window) (end : LinkEnd) (reply : Option Reply) → LeavesState end (sending_after w end reply)
sending-state w end None = later-state w end
sending-state w end (Some reply) = refl

handed : (w : Window) (link link_n : Kept) (end : LinkEnd) (old new : List ℕ) (answer : Bool) (sending : Option Sending) → StandsFor w link end → LeavesState end sending
    → HandsOut sending w link link_n old new answer → (link_n.state ≡ link.state) × StandsForSome link_n
handed w link link_n end old new answer None stands leaves hands =
    (ap (λ (k : Kept). k.state) hands.1.0, record { w = w; end = end; stands = subst (λ (k : Kept). StandsFor w k end) (sym hands.1.0) stands })
handed w link link_n end old new answer (Some sending) stands leaves hands =
    (ap (λ (k : Kept). k.state) hands.1.kept ∙ leaves ∙ sym (ap (λ (k : Kept). k.state) stands.kept), record { w = w; end = sending.after; stands = hands.1 })

-- the link after a frame was sent
pub link-sent : (link link_n : Kept) (old new : List ℕ) (answer : Bool) → StandsForSome link → GivesNext link link_n old new answer
    → (link_n.state ≡ link.state) × StandsForSome link_n
link-sent link link_n old new answer some gives =
    handed some.w link link_n some.end old new answer (next_sending some.w some.end) some.stands (sending-state some.w some.end some.end.reply) (gives some.w some.end some.stands)
