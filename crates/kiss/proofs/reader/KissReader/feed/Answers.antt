use Rattle.std.proofs.Common.{◌≡◌, rules}
use Rattle.kiss.specs.declared.reader.State.TheVariants as state
use Rattle.kiss.proofs.Steps.{step_verdict, step_frames, heard_in-no_part, no_frame}
use Rattle.kiss.proofs.reader.KissReader.feed.Goals as goal

pub returns-then-not-is_full-clause-verdict : goal.returns-then-not-is_full-clause-verdict
returns-then-not-is_full-clause-verdict c =
    let is : c.self.inside.state ≡ state.Within = search rules in
    rw (← c.self.view_is) (rw is (step_verdict _ _ _ _ _ _ c.push_itself.ensures))

pub returns-then-not-is_full-clause-frames : goal.returns-then-not-is_full-clause-frames
returns-then-not-is_full-clause-frames c = λ later.
    let is : c.self.inside.state ≡ state.Within = search rules in
    rw (← c.self.view_is) (rw is (step_frames _ _ _ _ _ _ c.push_itself.ensures later))

pub returns-then-not-is_full-clause-no_part : goal.returns-then-not-is_full-clause-no_part
returns-then-not-is_full-clause-no_part c = heard_in-no_part c.self.inside.state c.push_itself.new.text.items

pub returns-then-not-is_full-clause-no_frame : goal.returns-then-not-is_full-clause-no_frame
returns-then-not-is_full-clause-no_frame c = no_frame _ (heard_in-no_part c.self.inside.state c.push_itself.new.text.items)

pub returns-clause-verdict : goal.returns-clause-verdict
returns-clause-verdict c = rw (← c.self.view_is) (step_verdict _ _ _ _ _ _ c.step-state.ensures)

pub returns-clause-frames : goal.returns-clause-frames
returns-clause-frames c = λ later. rw (← c.self.view_is) (step_frames _ _ _ _ _ _ c.step-state.ensures later)

pub returns-clause-no_part : goal.returns-clause-no_part
returns-clause-no_part c = heard_in-no_part c.step-state.result.0 c.step-state.new.text.items

pub returns-clause-no_frame : goal.returns-clause-no_frame
returns-clause-no_frame c = no_frame _ (heard_in-no_part c.step-state.result.0 c.step-state.new.text.items)
