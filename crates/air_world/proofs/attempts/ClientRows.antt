-- What a frame and a tick make of the end of a link that called: what was pushed and what came, and its state.
use Rattle.std.proofs.Common.{◌≡◌, ℕ, ◌+◌, ◌==◌, List, [], Bool, true, false, None, Some, refl, sym, ◌∙◌, subst}
use Rattle.std.specs.Prelude.{if◌then◌else◌, ◌&&◌, ◌||◌}
use Rattle.ax25_link.specs.declared.state.LinkState.TheVariants.{Ending}
use Rattle.ax25_link.specs.declared.state.Why.TheVariants as why
use Rattle.air_world.proofs.attempts.Names.{cond_both, Control, I, Rr, Rnr, Rej, Sabm, Disc, Dm, Ua, Frmr, Ui, FrameValue, Meaning, applying, bad, good, is_bad, is_good, meaning_of, stale, Heard, Nothing, Opened, Reopened, Bytes, Closed, LinkState, Calling, Up, Down, LinkEnd, answering_end, ready, refuse, receive_number, heard_of_tick, Outcome, accepting, calling_row, down_row, ending_row, entering, information_row, is_call, numbered_row, out_of_sequence, outcome, passed_over, refusing, replying, row, row_of_state, sending_again, supervisory_row, up_row, with_busy, after_tick, is_down, is_spent, runs_out, told_of_tick, trying, Window, acknowledging-keeps}
use Rattle.air_world.proofs.attempts.LinkKeeps.{taken_as}

-- the state once this was reported
abbrev pub StateAs : Heard → LinkState → LinkState → Type 0
StateAs Nothing before now = now ≡ before
StateAs Opened before now = now ≡ Up
StateAs Reopened before now = now ≡ before
StateAs Bytes before now = now ≡ before
StateAs (Closed why) before now = now ≡ Down

-- Nothing was pushed; the piece that is reported came; and the state is as is reported.
pub record Comes (information : List ℕ) (end : LinkEnd) (o : Outcome) : Type 0 where
  pub pushed : o.after.pushed ≡ end.pushed
  pub taken : o.after.taken ≡ taken_as o.heard end.taken information
  pub state : StateAs o.heard end.state o.after.state

module _ (f : FrameValue) where
  abbrev Row : LinkEnd → Outcome → Type 0
  Row end o = Comes f.kind.information end o

  either : (end : LinkEnd) (b : Bool) (some other : Outcome) → Row end some → Row end other
      → Row end (if b then some else other)
  either end true some other first second = first
  either end false some other first second = second

  stays : (end : LinkEnd) → Row end (passed_over end)
  stays end = record { pushed = refl; taken = refl; state = refl }

  -- an end like this one, except for what isn't mentioned
  same-end : (end like : LinkEnd) (o : Outcome) → like.pushed ≡ end.pushed → like.taken ≡ end.taken
      → like.state ≡ end.state → Row like o → Row end o
  same-end end like o pushed taken state comes = record {
    pushed = comes.pushed ∙ pushed;
    taken = subst (λ (t : List (List ℕ)). o.after.taken ≡ taken_as o.heard t f.kind.information) taken comes.taken;
    state = subst (λ (s : LinkState). StateAs o.heard s o.after.state) state comes.state;
  }

  applied : (end : LinkEnd) (meaning : Meaning) (o : Outcome) → Row (applying end meaning) o → Row end o
  applied end (good x) o comes =
      let k = acknowledging-keeps end x in same-end end (applying end (good x)) o k.pushed k.taken k.state comes
  applied end stale o comes =
      let k = acknowledging-keeps end end.acked in same-end end (applying end stale) o k.pushed k.taken k.state comes
  applied end bad o comes = comes

  supervisory : (end : LinkEnd) → Row end (supervisory_row end f)
  supervisory end =
      cond_both (f.command && f.poll) (replying end (ready true)) end (λ (e : LinkEnd). Row end (passed_over e))
      (λ b. record { pushed = refl; taken = refl; state = refl }) (λ b. stays end)

  numbered : (w : Window) (end : LinkEnd) (nr : ℕ) (row : LinkEnd → Outcome) → ((e : LinkEnd) → Row e (row e))
      → Row end (numbered_row w end f nr row)
  numbered w end nr row each =
      either end (is_bad (meaning_of w end nr)) (refusing w end f) (row (applying end (meaning_of w end nr)))
      (record { pushed = refl; taken = refl; state = refl })
      (applied end (meaning_of w end nr) (row (applying end (meaning_of w end nr)))
      (each (applying end (meaning_of w end nr))))

  while-up : (w : Window) (end : LinkEnd) (control : Control) → end.called ≡ true → Row end (up_row w end f control)
  while-up w end (I ns nr) called =
      numbered w end nr (λ e. information_row w e f ns)
      (λ e. either e (ns == receive_number w e) (accepting e f) (out_of_sequence e f)
      (record { pushed = refl; taken = refl; state = refl }) (record { pushed = refl; taken = refl; state = refl }))
  while-up w end (Rr nr) called =
      numbered w end nr (λ e. supervisory_row (with_busy false e) f)
      (λ e. same-end e (with_busy false e) (supervisory_row (with_busy false e) f) refl refl refl
      (supervisory (with_busy false e)))
  while-up w end (Rnr nr) called =
      numbered w end nr (λ e. supervisory_row (with_busy true e) f)
      (λ e. same-end e (with_busy true e) (supervisory_row (with_busy true e) f) refl refl refl
      (supervisory (with_busy true e)))
  while-up w end (Rej nr) called =
      let again : Bool = is_good (meaning_of w end nr) in
      let made : Bool → LinkEnd → LinkEnd = λ b e. with_busy false (if b then sending_again e else e) in
      numbered w end nr (λ e. supervisory_row (made again e) f)
      (λ e. cond_both again (sending_again e) e (λ (x : LinkEnd). Row e (supervisory_row (with_busy false x) f))
      (λ b. same-end e (made true e) (supervisory_row (made true e) f) refl refl refl (supervisory (made true e)))
      (λ b. same-end e (made false e) (supervisory_row (made false e) f) refl refl refl (supervisory (made false e))))
  while-up w end Sabm called =
      subst (λ (b : Bool). Row end (if b then passed_over end else outcome
      (answering_end end.me end.peer f.poll) Reopened)) (sym called) (stays end)
  while-up w end Disc called = record { pushed = refl; taken = refl; state = refl }
  while-up w end Dm called = record { pushed = refl; taken = refl; state = refl }
  while-up w end Frmr called = record { pushed = refl; taken = refl; state = refl }
  while-up w end Ua called = stays end
  while-up w end Ui called = stays end

  while-calling : (end : LinkEnd) (control : Control) → Row end (calling_row end f control)
  while-calling end Ua = record { pushed = refl; taken = refl; state = refl }
  while-calling end Dm = record { pushed = refl; taken = refl; state = refl }
  while-calling end Disc = record { pushed = refl; taken = refl; state = refl }
  while-calling end control = stays end

  while-ending : (end : LinkEnd) (control : Control) → Row end (ending_row end f control)
  while-ending end Ua = record { pushed = refl; taken = refl; state = refl }
  while-ending end Dm = record { pushed = refl; taken = refl; state = refl }
  while-ending end Disc = record { pushed = refl; taken = refl; state = refl }
  while-ending end control = stays end

  while-down : (end : LinkEnd) → Row end (down_row end f)
  while-down end =
      cond_both (is_call f.kind.control || (f.command && f.poll)) (replying end (refuse f.poll)) end
      (λ (e : LinkEnd). Row end (passed_over e))
      (λ b. record { pushed = refl; taken = refl; state = refl }) (λ b. stays end)

  by-state : (w : Window) (state : LinkState) (end : LinkEnd) → end.called ≡ true → Row end (row_of_state state w end f)
  by-state w Calling end called = while-calling end f.kind.control
  by-state w Up end called = while-up w end f.kind.control called
  by-state w Ending end called = while-ending end f.kind.control
  by-state w Down end called = while-down end

  -- a frame, at an end that called
  pub frame-comes : (w : Window) (end : LinkEnd) → end.called ≡ true → Comes f.kind.information end (row w end f)
  frame-comes w end called = by-state w end.state end called

-- ---- a tick

-- the end after a tick, and what is reported of it
abbrev pub tick_outcome : LinkEnd → Outcome
tick_outcome end = outcome (after_tick end) (heard_of_tick (told_of_tick end))

pub tick-comes : (end : LinkEnd) → Comes [] end (tick_outcome end)
tick-comes end = by (is_down end.state) (runs_out end) (is_spent end)
  where
    by : (down runs spent : Bool)
        → Comes [] end (outcome (if down then end else (if
        runs then (if spent then entering end Down else trying end) else record end { count = end.count + 1 }))
        (heard_of_tick (if down then None else if runs && spent then Some why.NoAnswer else None)))
    by true runs spent = record { pushed = refl; taken = refl; state = refl }
    by false true true = record { pushed = refl; taken = refl; state = refl }
    by false true false = record { pushed = refl; taken = refl; state = refl }
    by false false spent = record { pushed = refl; taken = refl; state = refl }
