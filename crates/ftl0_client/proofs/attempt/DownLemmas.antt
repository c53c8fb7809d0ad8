-- What became of an attempt stays.
use Rattle.std.proofs.Common.{◌≡◌, ℕ, ◌+◌, ◌==◌, Bool, true, false, ◌&&◌, ◌||◌, List, [], refl, ap, sym, ◌∙◌}
use Rattle.std.specs.Prelude.{if◌then◌else◌}
use Rattle.ax25_link.specs.declared.state.LinkState.TheVariants as link
use Rattle.ax25_link.specs.declared.state.Why.TheVariants as why
use Rattle.ftl0_client.proofs.Names.{Option, None, Some, cond_both, Control, I, Rr, Rnr, Rej, Sabm, Disc, Dm, Ua, Frmr, Ui, FrameValue, Heard, Nothing, Opened, Reopened, Bytes, Closed, LinkState, Down, Why, applying, is_bad, is_good, meaning_of, LinkEnd, free_octets, refuse, receive_number, heard_of_tick, Outcome, after_frame, calling_row, ending_row, entering, heard_of, information_row, is_call, numbered_row, replying, row_of_state, sending_again, supervisory_row, up_row, with_busy, after_count, after_tick, is_down, is_spent, is_up, runs_out, told_of_tick, trying, Window, Lists, Ending, JobState, Attempted, outcome_by, outcome_of, after_told, closing, hearing, packets_told, settling, ticking, with_end, IsToldDown, OutcomeLaw, StaysReached, parting_later, queuing, settled, Happened, taking}
use Rattle.ftl0_client.proofs.attempt.EndedLemmas.{stays-law}
use Rattle.ftl0_client.proofs.attempt.TakingLemmas.{taking-keeps}
use Rattle.ftl0_client.proofs.attempt.SettlingLemmas.{settled-keeps}

-- ---- the link is down if that is reported

abbrev TellsDown : Outcome → Type 0
TellsDown o = (reason : Why) → o.heard ≡ Closed reason → o.after.state ≡ Down

module _ (w : Window) (end : LinkEnd) (frame : FrameValue) where
  numbered-down : (nr : ℕ) (next : LinkEnd → Outcome) → ((e : LinkEnd) → TellsDown (next e)) → TellsDown (numbered_row w end frame nr next)
  numbered-down nr next h = cond_both (is_bad (meaning_of w end nr)) _ _ TellsDown (λ b reason is. refl) (λ b. h (applying end (meaning_of w end nr)))

  information-down : (ns : ℕ) (e : LinkEnd) → TellsDown (information_row w e frame ns)
  information-down ns e = cond_both (ns == receive_number w e) _ _ TellsDown (λ b reason is. absurd (cc is)) (λ b reason is. absurd (cc is))

  silent-down : (e : LinkEnd) → TellsDown (supervisory_row e frame)
  silent-down e reason is = absurd (cc is)

  up-down : (control : Control) → TellsDown (up_row w end frame control)
  up-down (I ns nr) = numbered-down nr (λ e. information_row w e frame ns) (information-down ns)
  up-down (Rr nr) = numbered-down nr (λ e. supervisory_row (with_busy false e) frame) (λ e. silent-down (with_busy false e))
  up-down (Rnr nr) = numbered-down nr (λ e. supervisory_row (with_busy true e) frame) (λ e. silent-down (with_busy true e))
  up-down (Rej nr) =
      numbered-down nr (λ e. supervisory_row (with_busy false (if is_good (meaning_of w end nr) then sending_again e else e)) frame)
      (λ e. silent-down (with_busy false (if is_good (meaning_of w end nr) then sending_again e else e)))
  up-down Sabm = cond_both end.called _ _ TellsDown (λ b reason is. absurd (cc is)) (λ b reason is. absurd (cc is))
  up-down Disc = λ reason is. refl
  up-down Dm = λ reason is. refl
  up-down Frmr = λ reason is. refl
  up-down Ua = λ reason is. absurd (cc is)
  up-down Ui = λ reason is. absurd (cc is)

  calling-down : (control : Control) → TellsDown (calling_row end frame control)
  calling-down Dm = λ reason is. refl
  calling-down control = λ reason is. absurd (cc is)

  ending-down : (control : Control) → TellsDown (ending_row end frame control)
  ending-down Ua = λ reason is. refl
  ending-down Disc = λ reason is. refl
  ending-down Dm = λ reason is. refl
  ending-down control = λ reason is. absurd (cc is)

  state-down : (state : LinkState) → TellsDown (row_of_state state w end frame)
  state-down link.Calling = calling-down frame.kind.control
  state-down link.Up = up-down frame.kind.control
  state-down link.Ending = ending-down frame.kind.control
  state-down link.Down = λ reason is. absurd (cc is)

tick-down : (end : LinkEnd) (down runs spent : Bool) (reason : Why) → (if down then None else if runs && spent then Some why.NoAnswer else None) ≡ Some reason
    → (if down then end else if runs then (if spent then entering end Down else trying end) else record end { count = end.count + 1 }).state ≡ Down
tick-down end true runs spent reason is = absurd (cc is)
tick-down end false true true reason is = refl
tick-down end false true false reason is = absurd (cc is)
tick-down end false false spent reason is = absurd (cc is)

-- ---- a link that is down reports nothing, and stays down

module _ (w : Window) (end : LinkEnd) (frame : FrameValue) (is : end.state ≡ Down) where
  pub still-silent : heard_of w end frame ≡ Nothing
  still-silent = ap (λ (s : LinkState). (row_of_state s w end frame).heard) is

  still-down : (after_frame w end frame).state ≡ Down
  still-down =
      ap (λ (s : LinkState). (row_of_state s w end frame).after.state) is
      ∙ cond_both (is_call frame.kind.control || (frame.command && frame.poll)) (replying end (refuse frame.poll)) end (λ (e : LinkEnd). e.state ≡ end.state) (λ b. refl) (λ b. refl) ∙ is

-- ---- the end of an event

settled-still : (a : Attempted) → a.end.state ≡ Down → settled a ≡ a
settled-still a is = ap (λ (s : LinkState). if is_up s then parting_later (queuing (free_octets a.end) a) else a) is

-- why the link went down stays
settled-same : (a : Attempted) → (settled a).down ≡ a.down
settled-same a = settled-keeps (λ (now : Attempted). now.down ≡ a.down) (λ now due is same. same) (λ now same. same) a refl

-- ---- what became of it

-- what stays of an attempt at an event
pub record Stays (before now : Attempted) : Type 0 where
  pub told : IsToldDown now
  pub reached : StaysReached before now

-- By whether the job has an outcome: the job stays, or the link is down and all stays.
module _ (a now : Attempted) (told : IsToldDown a) (job : (ending : Ending) → a.job.ending ≡ Some ending → now.job ≡ a.job) (still : a.end.state ≡ Down → outcome_of now ≡ outcome_of a) where
  by-outcome : (e : Option Ending) (d : Option Why) → a.job.ending ≡ e → a.down ≡ d → StaysReached a now
  by-outcome (Some ending) d is down reached got =
      ap (λ (j : JobState). outcome_by j.ending now.down) (job ending is) ∙ ap (λ (o : Option Ending). outcome_by o now.down) is ∙ sym (ap (λ (o : Option Ending). outcome_by o a.down) is) ∙ got
  by-outcome None (Some reason) is down reached got = still (told reason down) ∙ got
  by-outcome None None is down reached got =
      let no : None ≡ Some reached = sym (ap (λ (o : Option Ending). outcome_by o a.down) is ∙ ap (outcome_by None) down) ∙ got in
      absurd (cc no)

  pub stays-reached : StaysReached a now
  stays-reached = by-outcome a.job.ending a.down refl refl

module _ (w : Window) (lists : Lists) (a : Attempted) (frame : FrameValue) (told : IsToldDown a) where
  abbrev octets : List ℕ
  octets = frame.kind.information

  abbrev b : Attempted
  b = with_end a (after_frame w a.end frame)

  -- the event, by what the link reported
  abbrev event : Heard → Happened
  event t = settling (taking lists (after_told t b octets) (packets_told t a octets))

  -- a link that is down
  heard-still : a.end.state ≡ Down → (hearing w lists a frame).after ≡ b
  heard-still is = ap (λ (t : Heard). (event t).after) (still-silent w a.end frame is) ∙ settled-still b (still-down w a.end frame is)

  -- if why it went down is as it was
  told-same : (hearing w lists a frame).after.down ≡ a.down → IsToldDown (hearing w lists a frame).after
  told-same same reason is =
      let down = told reason (sym same ∙ is) in
      ap (λ (now : Attempted). now.end.state) (heard-still down) ∙ still-down w a.end frame down

  same-as : (t : Heard) → (after_told t b octets).down ≡ a.down → (event t).after.down ≡ a.down
  same-as t same = settled-same (taking lists (after_told t b octets) (packets_told t a octets)).after ∙ (taking-keeps lists (after_told t b octets) (packets_told t a octets)).down ∙ same

  by-told : (t : Heard) → heard_of w a.end frame ≡ t → IsToldDown (hearing w lists a frame).after
  by-told Nothing is = told-same (ap (λ (t : Heard). (event t).after.down) is ∙ same-as Nothing refl)
  by-told Opened is = told-same (ap (λ (t : Heard). (event t).after.down) is ∙ same-as Opened refl)
  by-told Reopened is = told-same (ap (λ (t : Heard). (event t).after.down) is ∙ same-as Reopened refl)
  by-told Bytes is = told-same (ap (λ (t : Heard). (event t).after.down) is ∙ same-as Bytes refl)
  by-told (Closed why_now) is = λ reason got.
      let down : b.end.state ≡ Down = state-down w a.end frame a.end.state why_now is in
      ap (λ (t : Heard). (event t).after.end.state) is ∙ ap (λ (now : Attempted). now.end.state) (settled-still (closing b why_now) down) ∙ down

  pub stays-heard : Stays a (hearing w lists a frame).after
  stays-heard = record {
    told = by-told (heard_of w a.end frame) refl;
    reached = stays-reached a (hearing w lists a frame).after told (λ ending is. (stays-law w lists a frame ending is).0) (λ is. ap outcome_of (heard-still is));
  }

module _ (w : Window) (lists : Lists) (a : Attempted) (frame : FrameValue) (told : IsToldDown a) where
  abbrev ticked : Attempted
  ticked = with_end a (after_tick a.end)

  -- the event, by what is reported of the tick
  abbrev tick_event : Option Why → Attempted
  tick_event o = settled (after_told (heard_of_tick o) ticked [])

  tick-still : a.end.state ≡ Down → ticking a ≡ a
  tick-still is =
      let none : told_of_tick a.end ≡ None = ap (λ (s : LinkState). if is_down s then None else if runs_out a.end && is_spent a.end then Some why.NoAnswer else None) is in
      let same : after_tick a.end ≡ a.end = ap (λ (s : LinkState). if is_down s then a.end else after_count a.end) is in
      ap tick_event none ∙ ap (λ (e : LinkEnd). settled (with_end a e)) same ∙ settled-still a is

  by-tick : (o : Option Why) → told_of_tick a.end ≡ o → IsToldDown (ticking a)
  by-tick None is reason got =
      let same : (ticking a).down ≡ a.down = ap (λ (t : Option Why). (tick_event t).down) is ∙ settled-same ticked in
      let down = told reason (sym same ∙ got) in
      ap (λ (now : Attempted). now.end.state) (tick-still down) ∙ down
  by-tick (Some why_now) is reason got =
      let down : ticked.end.state ≡ Down = tick-down a.end (is_down a.end.state) (runs_out a.end) (is_spent a.end) why_now is in
      ap (λ (t : Option Why). (tick_event t).end.state) is ∙ ap (λ (now : Attempted). now.end.state) (settled-still (closing ticked why_now) down) ∙ down

  pub stays-ticked : Stays a (ticking a)
  stays-ticked = record {
    told = by-tick (told_of_tick a.end) refl;
    reached = stays-reached a (ticking a) told (λ ending is. (stays-law w lists a frame ending is).2) (λ is. ap outcome_of (tick-still is));
  }

pub outcome-law : OutcomeLaw
outcome-law w lists a frame told =
    let heard = stays-heard w lists a frame told in
    let ticked = stays-ticked w lists a frame told in
    ((heard.told, heard.reached), (ticked.told, ticked.reached))
