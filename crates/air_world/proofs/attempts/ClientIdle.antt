-- An end of a link that isn't up and has nothing to send; and what the timer has it send while it calls.
use Rattle.std.proofs.Common.{◌≡◌, ◌⊎◌, ℕ, ◌+◌, List, [], ◌∷◌, Bool, true, false, Option, None, Some, refl, inl, inr}
use Rattle.std.proofs.Common.{sym, ap, ◌∙◌, subst}
use Rattle.std.specs.Prelude.{if◌then◌else◌, ◌&&◌}
use Rattle.air_world.proofs.attempts.Names.{not, nat_lt, same_Some, FrameValue, Farewell, LinkEnd, Reply, call, outstanding, LinkState, Calling, Down, entering, is_call, replying, unless_oldest, Drains, IsQuiet, Sending, has_new, is_empty, last_sending, later_sending, sending_after, sends_again, sends_new, sends_reply, after_tick, is_down, is_spent, is_up, runs_out, timer_reply, trying, Window}

-- it isn't up, and has nothing to send
pub record Idle (end : LinkEnd) : Type 0 where
  pub not_up : is_up end.state ≡ false
  pub reply : end.reply ≡ None
  pub again : end.again ≡ 0
  pub farewell : end.farewell ≡ None

module _ (w : Window) (end : LinkEnd) (not_up : is_up end.state ≡ false) (again : end.again ≡ 0) where
  later-last : later_sending w end ≡ last_sending end end.farewell
  later-last =
      let none_again : nat_lt 0 end.again ≡ false = ap (nat_lt 0) again in
      let none_new : has_new w end ≡ false = ap
      (λ (up : Bool). up && nat_lt (outstanding end) w.size && not end.busy && not (is_empty end.queued)) not_up in
      ap (λ (b : Bool). if b then Some (sends_again w end) else (if has_new w end then Some
      (sends_new w end) else last_sending end end.farewell)) none_again
      ∙ ap (λ (b : Bool). if b then Some (sends_new w end) else last_sending end end.farewell) none_new

  last-none : (o : Option Farewell) → last_sending end o ≡ None → o ≡ None
  last-none None is = refl
  last-none (Some farewell) is = absurd (cc is)

  first-none : (o : Option Reply) → sending_after w end o ≡ None → (o ≡ None) × (later_sending w end ≡ None)
  first-none None is = (refl, is)
  first-none (Some reply) is = absurd (cc is)

  pub quiet-idle : IsQuiet w end → Idle end
  quiet-idle quiet =
      let first = first-none end.reply quiet in
      record {
        not_up = not_up;
        reply = first.0;
        again = again;
        farewell = last-none end.farewell (sym later-last ∙ first.1);
      }

pub idle-quiet : (w : Window) (end : LinkEnd) → Idle end → IsQuiet w end
idle-quiet w end idle =
    ap (sending_after w end) idle.reply ∙ later-last w end idle.not_up idle.again ∙ ap (last_sending end) idle.farewell

pub idle-down : (end : LinkEnd) → Idle end → Idle (entering end Down)
idle-down end idle =
    record { not_up = refl; reply = ap unless_oldest idle.reply; again = refl; farewell = idle.farewell }

idle-counted : (end : LinkEnd) (count : ℕ) → Idle end → Idle (record end { count = count })
idle-counted end count idle =
    record { not_up = idle.not_up; reply = idle.reply; again = idle.again; farewell = idle.farewell }

-- nothing is sent by an end with nothing to send
pub drains-nothing : (w : Window) (end last : LinkEnd) (frames : List FrameValue) → IsQuiet w end
    → Drains w end frames last → (frames ≡ []) × (last ≡ end)
drains-nothing w end last [] quiet drains = (refl, drains.1)
drains-nothing w end last (f ∷ frames) quiet drains =
    absurd (let no : None ≡ Some drains.0 = sym quiet ∙ drains.1 in cc no)

-- ---- the timer

-- only a SABM was sent, and the end calls still
pub record SendsCall (frames : List FrameValue) (last : LinkEnd) : Type 0 where
  pub frame : FrameValue
  pub frames_are : frames ≡ frame ∷ []
  pub calls : is_call frame.kind.control ≡ true
  pub state : last.state ≡ Calling

module _ (w : Window) (end : LinkEnd) (calls : end.state ≡ Calling) (idle : Idle end) where
  -- what is to be sent once the timer ran out
  abbrev tried : LinkEnd
  tried = record end { count = 0; tries = end.tries + 1 }

  trying-calls : trying end ≡ replying tried call
  trying-calls = ap (λ (s : LinkState). replying tried (timer_reply s end)) calls

  sends-call : (last : LinkEnd) (frames : List FrameValue) → Drains w (replying tried call) frames last
      → SendsCall frames last
  sends-call last [] drains = absurd (let x = drains.0 in cc x)
  sends-call last (f ∷ frames) drains =
      let e : LinkEnd = replying tried call in
      let same : sends_reply w e call ≡ drains.0 = same_Some (sends_reply w e call) drains.0 drains.1 in
      let after : LinkEnd = record e { reply = None } in
      let rest : Drains w after frames last = subst (λ (s : Sending). Drains w s.after frames last) (sym same)
      drains.3 in
      let quiet : IsQuiet w after = idle-quiet w after
      (record { not_up = idle.not_up; reply = refl; again = idle.again; farewell = idle.farewell }) in
      let none = drains-nothing w after last frames quiet rest in
      record {
        frame = f;
        frames_are = ap (λ (more : List FrameValue). f ∷ more) none.0;
        calls = ap (λ (g : FrameValue). is_call g.kind.control) (drains.2 ∙ ap (λ (s : Sending). s.frame) (sym same));
        state = ap (λ (e : LinkEnd). e.state) none.1 ∙ calls;
      }

  pub tick-sends : (last : LinkEnd) (frames : List FrameValue) → Drains w (after_tick end) frames last
      → (frames ≡ []) ⊎ SendsCall frames last
  tick-sends last frames drains = by (is_down end.state) (runs_out end) (is_spent end) drains
    where
      by : (down runs spent : Bool)
          → Drains w (if down then end else (if runs then (if spent then entering end Down else trying
          end) else record end { count = end.count + 1 })) frames last
          → (frames ≡ []) ⊎ SendsCall frames last
      by true runs spent drains = inl (drains-nothing w end last frames (idle-quiet w end idle) drains).0
      by false true true drains =
          inl (drains-nothing w (entering end Down) last frames
          (idle-quiet w (entering end Down) (idle-down end idle)) drains).0
      by false true false drains =
          inr (sends-call last frames (subst (λ (e : LinkEnd). Drains w e frames last) trying-calls drains))
      by false false spent drains =
          let e : LinkEnd = record end { count = end.count + 1 } in
          inl (drains-nothing w e last frames (idle-quiet w e (idle-counted end (end.count + 1) idle)) drains).0

-- an end that is down does nothing at a tick
pub tick-down : (end : LinkEnd) → end.state ≡ Down → after_tick end ≡ end
tick-down end is =
    ap (λ (s : LinkState). if is_down s then end else (if runs_out
    end then (if is_spent end then entering end Down else trying end) else record end { count = end.count + 1 })) is
