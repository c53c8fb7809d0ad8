-- A whole step of the end of a link that called, at a frame or a tick.
use Rattle.std.proofs.Common.{◌≡◌, ℕ, List, [], true, refl, sym, ap, ◌∙◌, subst}
use Rattle.air_world.proofs.attempts.Names.{FrameValue, Doing, Calling, LinkEnd, IsUnused, Coming, LinkStep, after_coming, frame, heard_of_coming, tick, Outcome, row, IsQuiet, SendsOwn, IsWindow, Window, stations_law}
use Rattle.air_world.proofs.attempts.ClientCalling.{called-before, does-calling, drains-unused, frame-unused, tick-unused}
use Rattle.air_world.proofs.attempts.ClientRows.{Comes, frame-comes, tick-comes, tick_outcome}
use Rattle.air_world.proofs.attempts.LinkKeeps.{KeepsStreams, drains-keep, drains-quiet}

-- what comes makes this of an end, and brings this information
abbrev pub outcome_of_coming : Window → LinkEnd → Coming → Outcome
outcome_of_coming w end (frame f) = row w end f
outcome_of_coming w end tick = tick_outcome end

abbrev pub information_of : Coming → List ℕ
information_of (frame f) = f.kind.information
information_of tick = []

pub coming-comes : (w : Window) (end : LinkEnd) (came : Coming) → end.called ≡ true
    → Comes (information_of came) end (outcome_of_coming w end came)
coming-comes w end (frame f) called = frame-comes f w end called
coming-comes w end tick called = tick-comes end

coming-after : (w : Window) (end : LinkEnd) (came : Coming)
    → after_coming w end came ≡ (outcome_of_coming w end came).after
coming-after w end (frame f) = refl
coming-after w end tick = refl

coming-unused : (w : Window) (end : LinkEnd) (came : Coming) → end.state ≡ Calling → IsUnused end
    → (after_coming w end came).state ≡ Calling → IsUnused (after_coming w end came)
coming-unused w end (frame f) = frame-unused w end f
coming-unused w end tick = tick-unused end

-- The end makes a step at what comes, by which it is this, and then that once it has sent these frames.
pub record StepOf (w : Window) (old : LinkEnd) (came : Coming) (made : LinkEnd) (frames : List FrameValue)
    (last : LinkEnd) : Type 0 where
  pub doings : List Doing
  pub link : LinkStep w old came (heard_of_coming w old came) doings frames last
  pub ends : link.end ≡ made

-- what a step keeps of an end that called
pub record StepKeeps (w : Window) (old : LinkEnd) (made : LinkEnd) (frames : List FrameValue)
    (last : LinkEnd) : Type 0 where
  pub keeps : KeepsStreams made last
  pub quiet : IsQuiet w last
  pub sends : SendsOwn w old frames last
  pub calling : last.state ≡ Calling → IsUnused last

pub step-keeps : (w : Window) (old : LinkEnd) (came : Coming) (made : LinkEnd) (frames : List FrameValue)
    (last : LinkEnd) → IsWindow w → old.called ≡ true
    → (old.state ≡ Calling → IsUnused old) → StepOf w old came made frames last → StepKeeps w old made frames last
step-keeps w old came made frames last window called unused step = record {
  keeps = subst (λ (e : LinkEnd). KeepsStreams e last) step.ends kept;
  quiet = drains-quiet w step.link.end last frames step.link.drains;
  sends = stations_law.step w old last came (heard_of_coming w old came) step.doings frames window step.link;
  calling = λ calls.
      let mid : LinkEnd = step.link.end in
      let mid_calls : mid.state ≡ Calling = sym kept.state ∙ calls in
      let same : mid ≡ after_coming w old came =
      does-calling (after_coming w old came) mid step.doings step.link.does mid_calls in
      let after_calls : (after_coming w old came).state ≡ Calling =
      ap (λ (e : LinkEnd). e.state) (sym same) ∙ mid_calls in
      let o : Outcome = outcome_of_coming w old came in
      let before : old.state ≡ Calling =
      called-before o.heard old.state o.after.state (coming-comes w old came called).state
      (ap (λ (e : LinkEnd). e.state) (sym (coming-after w old came)) ∙ after_calls) in
      let mid_unused : IsUnused mid = subst IsUnused (sym same)
      (coming-unused w old came before (unused before) after_calls) in
      (drains-unused w mid last frames step.link.drains (record { calls = mid_calls; unused = mid_unused })).unused;
}
  where
    kept : KeepsStreams step.link.end last
    kept = drains-keep w step.link.end last frames step.link.drains
