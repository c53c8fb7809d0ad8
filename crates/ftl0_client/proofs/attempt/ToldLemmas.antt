-- The end of an attempt's link is down only if something became of the attempt.
use Rattle.std.proofs.Common.{◌≡◌, ◌≢◌, ◌⊎◌, inl, inr, ⊎_elim, ℕ, ◌+◌, ◌==◌, Bool, true, false, ◌&&◌, ◌||◌}
use Rattle.std.proofs.Common.{List, [], ◌∷◌, refl, ap, sym, ◌∙◌, subst}
use Rattle.std.specs.Prelude.{if◌then◌else◌}
use Rattle.ax25_link.specs.declared.state.LinkState.TheVariants as link
use Rattle.ax25_link.specs.declared.state.Why.TheVariants as why
use Rattle.ftl0_client.proofs.Names.{Option, None, Some, nat_lt, cond_both, FrameValue, Control, I, Rr, Rnr, Rej, Sabm, Disc, Dm, Ua, Frmr, Ui, Heard, Nothing, Opened, Reopened, Bytes, Closed, LinkState, Down, Up, Why, Meaning, applying, bad, good, is_bad, is_good, meaning_of, stale, after_push, LinkEnd, free_octets, high, receive_number, heard_of_tick, Outcome, after_frame, calling_row, ending_row, entering, heard_of, information_row, numbered_row, row_of_state, sending_again, supervisory_row, up_row, with_busy, after_tick, is_down, is_spent, is_up, runs_out, told_of_tick, trying, Window, kind_of_item, texts, Item, fits, after_all, Lists, Ending, Work, Row, job_after, job_row, Attempted, outcome_by, outcome_of, after_hearing, after_ticking, after_told, down_by, hearing, packets_heard, ticking, with_end, is_all_free, is_later, parting_later, queuing, settled, Happened, after_replies, parting, replied, taking, taking_by, taking_one}
use Rattle.ftl0_client.proofs.attempt.SettlingLemmas.{queuing-keeps}

-- ---- a link goes down only if that is reported

-- the end was down before, or it is reported why it is
abbrev Tells : LinkEnd → Outcome → Type 0
Tells end o = o.after.state ≡ Down → (end.state ≡ Down) ⊎ ((reason : Why) × (o.heard ≡ Closed reason))

module _ (w : Window) (end : LinkEnd) (frame : FrameValue) where
  -- the state is as it was
  same-tells : (o : Outcome) → o.after.state ≡ end.state → Tells end o
  same-tells o same down = inl (sym same ∙ down)

  applied-state : (m : Meaning) → (applying end m).state ≡ end.state
  applied-state (good x) = cond_both (nat_lt end.acked x || (x == high end)) _ _ (λ (e : LinkEnd). e.state ≡ end.state) (λ b. refl) (λ b. refl)
  applied-state stale = cond_both (nat_lt end.acked end.acked || (end.acked == high end)) _ _ (λ (e : LinkEnd). e.state ≡ end.state) (λ b. refl) (λ b. refl)
  applied-state bad = refl

  numbered-tells : (nr : ℕ) (next : LinkEnd → Outcome) → ((e : LinkEnd) → (next e).after.state ≡ e.state) → Tells end (numbered_row w end frame nr next)
  numbered-tells nr next same =
      cond_both (is_bad (meaning_of w end nr)) _ _ (Tells end) (λ b down. inr (why.BadNr, refl))
      (λ b. same-tells (next (applying end (meaning_of w end nr))) (same (applying end (meaning_of w end nr)) ∙ applied-state (meaning_of w end nr)))

  information-state : (ns : ℕ) (e : LinkEnd) → (information_row w e frame ns).after.state ≡ e.state
  information-state ns e = cond_both (ns == receive_number w e) _ _ (λ (o : Outcome). o.after.state ≡ e.state) (λ b. refl) (λ b. refl)

  supervisory-state : (e : LinkEnd) → (supervisory_row e frame).after.state ≡ e.state
  supervisory-state e = cond_both (frame.command && frame.poll) _ _ (λ (n : LinkEnd). n.state ≡ e.state) (λ b. refl) (λ b. refl)

  again-state : (again : Bool) (e : LinkEnd) → (supervisory_row (with_busy false (if again then sending_again e else e)) frame).after.state ≡ e.state
  again-state true e = supervisory-state (with_busy false (sending_again e))
  again-state false e = supervisory-state (with_busy false e)

  up-tells : (control : Control) → Tells end (up_row w end frame control)
  up-tells (I ns nr) = numbered-tells nr (λ e. information_row w e frame ns) (information-state ns)
  up-tells (Rr nr) = numbered-tells nr (λ e. supervisory_row (with_busy false e) frame) (λ e. supervisory-state (with_busy false e))
  up-tells (Rnr nr) = numbered-tells nr (λ e. supervisory_row (with_busy true e) frame) (λ e. supervisory-state (with_busy true e))
  up-tells (Rej nr) =
      numbered-tells nr (λ e. supervisory_row (with_busy false (if is_good (meaning_of w end nr) then sending_again e else e)) frame) (again-state (is_good (meaning_of w end nr)))
  up-tells Sabm = cond_both end.called _ _ (Tells end) (λ b down. inl down) (λ b down. absurd (cc down))
  up-tells Disc = λ down. inr (why.Disc, refl)
  up-tells Dm = λ down. inr (why.Dm, refl)
  up-tells Frmr = λ down. inr (why.Frmr, refl)
  up-tells Ua = λ down. inl down
  up-tells Ui = λ down. inl down

  calling-tells : (control : Control) → Tells end (calling_row end frame control)
  calling-tells Ua = λ down. absurd (cc down)
  calling-tells Dm = λ down. inr (why.Dm, refl)
  calling-tells control = λ down. inl down

  ending-tells : (control : Control) → Tells end (ending_row end frame control)
  ending-tells Ua = λ down. inr (why.Disc, refl)
  ending-tells Disc = λ down. inr (why.Disc, refl)
  ending-tells Dm = λ down. inr (why.Dm, refl)
  ending-tells control = λ down. inl down

  state-tells : (state : LinkState) → end.state ≡ state → Tells end (row_of_state state w end frame)
  state-tells link.Calling is = calling-tells frame.kind.control
  state-tells link.Up is = up-tells frame.kind.control
  state-tells link.Ending is = ending-tells frame.kind.control
  state-tells link.Down is = λ down. inl is

tick-tells : (end : LinkEnd) (down runs spent : Bool) → (if down then end else if runs then (if spent then entering end Down else trying end) else record end { count = end.count + 1 }).state ≡ Down
    → (end.state ≡ Down) ⊎ ((reason : Why) × ((if down then None else if runs && spent then Some why.NoAnswer else None) ≡ Some reason))
tick-tells end true runs spent is = inl is
tick-tells end false true true is = inr (why.NoAnswer, refl)
tick-tells end false true false is = inl is
tick-tells end false false spent is = inl is

-- ---- an attempt

-- its end is down only if something became of it
abbrev pub DownTold : Attempted → Type 0
DownTold a = a.end.state ≡ Down → outcome_of a ≢ None

-- something became of it if its job has an outcome, or the link went down
ending-some : (o : Option Ending) (down : Option Why) (reason : Why) → outcome_by o (down_by o down reason) ≢ None
ending-some None down reason is = cc is
ending-some (Some ending) down reason is = cc is

-- by what the link reported
told-told : (told : Heard) (a : Attempted) (end : LinkEnd) (octets : List ℕ) → (end.state ≡ Down → (a.end.state ≡ Down) ⊎ ((reason : Why) × (told ≡ Closed reason))) → DownTold a
    → DownTold (after_told told (with_end a end) octets)
told-told Nothing a end octets tells was down = ⊎_elim was (λ (h : (reason : Why) × (Nothing ≡ Closed reason)). absurd (let e = h.1 in cc e)) (tells down)
told-told Opened a end octets tells was down = ⊎_elim was (λ (h : (reason : Why) × (Opened ≡ Closed reason)). absurd (let e = h.1 in cc e)) (tells down)
told-told Reopened a end octets tells was down = ⊎_elim was (λ (h : (reason : Why) × (Reopened ≡ Closed reason)). absurd (let e = h.1 in cc e)) (tells down)
told-told Bytes a end octets tells was down = ⊎_elim was (λ (h : (reason : Why) × (Bytes ≡ Closed reason)). absurd (let e = h.1 in cc e)) (tells down)
told-told (Closed reason) a end octets tells was down = ending-some a.job.ending a.down reason

-- ---- packets

replied-state : (end : LinkEnd) (text : List ℕ) → (replied end text).state ≡ end.state
replied-state end text = cond_both (fits end text) (after_push end text) end (λ (e : LinkEnd). e.state ≡ end.state) (λ b. refl) (λ b. refl)

-- a job whose packet was replied, by how it ends
replies-told : (o : Option Ending) (end : LinkEnd) (text : List ℕ) (down : Option Why) → (end.state ≡ Down → outcome_by None down ≢ None) → (parting o (replied end text)).state ≡ Down → outcome_by o down ≢ None
replies-told None end text down was is = was (sym (replied-state end text) ∙ is)
replies-told (Some ending) end text down was is = λ none. cc none

one-told : (o : Option Ending) (lists : Lists) (a : Attempted) (item : Item) → a.job.ending ≡ o → DownTold a → DownTold (taking_by o lists a item).after
one-told None lists a item none was =
    let row : Row Work = job_row lists a.job item in
    let before : a.end.state ≡ Down → outcome_by None a.down ≢ None = λ down. subst (λ (o : Option Ending). outcome_by o a.down ≢ None) none (was down) in
    replies-told (after_replies (job_after row) (kind_of_item item) (fits a.end (texts row.replies))).ending a.end (texts row.replies) a.down before
one-told (Some ending) lists a item some was = was

taking-told : (lists : Lists) (a : Attempted) (items : List Item) → DownTold a → DownTold (taking lists a items).after
taking-told lists a [] was = was
taking-told lists a (item ∷ items) was =
    let one : Happened = taking_one lists a item in
    taking-told (after_all lists one.noted) one.after items (one-told a.job.ending lists a item refl was)

-- ---- the end of an event

queuing-state : (count : ℕ) (a : Attempted) → (queuing count a).end.state ≡ a.end.state
queuing-state count a = queuing-keeps (λ (now : Attempted). now.end.state ≡ a.end.state) (λ now due is same. same) count a refl

up-state : (state : LinkState) → is_up state ≡ true → state ≡ Up
up-state link.Up up = refl
up-state link.Calling up = absurd (cc up)
up-state link.Ending up = absurd (cc up)
up-state link.Down up = absurd (cc up)

settled-told : (a : Attempted) → DownTold a → DownTold (settled a)
settled-told a was =
    let q : Attempted = queuing (free_octets a.end) a in
    let later : is_up a.end.state ≡ true → (parting_later q).end.state ≢ Down = λ up.
    let is : q.end.state ≡ Up = queuing-state (free_octets a.end) a ∙ up-state a.end.state up in
    cond_both (is_later q.job.ending && is_all_free q.end) _ _ (λ (now : Attempted). now.end.state ≢ Down) (λ both down. cc down)
    (λ not_both down. (let no : Up ≡ Down = sym is ∙ down in cc no)) in
    cond_both (is_up a.end.state) _ _ DownTold (λ up down. absurd (later up down)) (λ not_up. was)

-- ---- events

pub heard-told : (w : Window) (lists : Lists) (a : Attempted) (frame : FrameValue) → DownTold a → DownTold (hearing w lists a frame).after
heard-told w lists a frame was =
    let end : LinkEnd = after_frame w a.end frame in
    let b : Attempted = after_hearing w a frame in
    let told : DownTold b = told-told (heard_of w a.end frame) a end frame.kind.information (state-tells w a.end frame a.end.state refl) was in
    settled-told (taking lists b (packets_heard w a frame)).after (taking-told lists b (packets_heard w a frame) told)

-- what is reported of a tick
tick-heard : (o : Option Why) (reason : Why) → o ≡ Some reason → heard_of_tick o ≡ Closed reason
tick-heard o reason is = ap heard_of_tick is

pub ticked-told : (a : Attempted) → DownTold a → DownTold (ticking a)
ticked-told a was =
    let tells : (after_tick a.end).state ≡ Down → (a.end.state ≡ Down) ⊎ ((reason : Why) × (heard_of_tick (told_of_tick a.end) ≡ Closed reason)) = λ down.
    ⊎_elim (λ (is : a.end.state ≡ Down). inl is)
    (λ (h : (reason : Why) × (told_of_tick a.end ≡ Some reason)). inr (h.0, tick-heard (told_of_tick a.end) h.0 h.1))
    (tick-tells a.end (is_down a.end.state) (runs_out a.end) (is_spent a.end) down) in
    settled-told (after_ticking a) (told-told (heard_of_tick (told_of_tick a.end)) a (after_tick a.end) [] tells was)
