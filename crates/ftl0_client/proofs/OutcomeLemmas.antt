-- What became of what was asked stays, and is noted.
use Rattle.std.proofs.Common.{◌≡◌, ◌≢◌, ℕ, Bool, true, false, refl, sym, ◌∙◌, ap, subst}
use Rattle.std.specs.Prelude.{if◌then◌else◌}
use Rattle.ftl0_client_job.specs.declared.ending.Outcome.{Outcome}
use Rattle.ftl0_client_job.specs.declared.ending.Outcome.TheVariants as outcome
use Rattle.ftl0_client_job.specs.declared.work.Work.TheVariants as work
use Rattle.ftl0_client.specs.Attempt.Attempted as attempted
use Rattle.ftl0_client.specs.Attempt.Laws as of_attempts
use Rattle.ftl0_client.specs.Laws.{AckedLaw, FetchedLaw, OutcomeLaw}
use Rattle.ftl0_client.specs.Outcomes.{outcome_by}
use Rattle.ftl0_client.proofs.Names.{Option, None, Some, cond_both, FrameValue, is_answered, Why, is_same_call, Ending, Work, JobState, new_job, Attempted, outcome_of, hearing, AcknowledgesIn, IsFetchedBy, Client, hearing_by, hearing_stranger, refusing, ticking_by, IsToldDownOf, KeepsOutcome}

-- a frame of a station with which there is no link leaves the attempt
pub stranger-attempt : (client : Client) (frame : FrameValue) → (hearing_stranger client frame).attempt ≡ client.attempt
stranger-attempt client frame = cond_both (is_answered frame) (refusing client frame.src frame.poll) client (λ (c : Client). c.attempt ≡ client.attempt) (λ b. refl) (λ b. refl)

-- ---- it stays

as-kept : (before now : Option Outcome) → ((of : Outcome) → before ≡ Some of → now ≡ Some of) → before ≢ None → now ≡ before
as-kept None now stays some = absurd (some refl)
as-kept (Some of) now stays some = stays of refl

module _ (law : of_attempts.OutcomeLaw) (client : Client) (frame : FrameValue) (told : IsToldDownOf client.attempt) where
  same-keeps : (new : Client) → new.attempt ≡ client.attempt → KeepsOutcome client new
  same-keeps new same = record { down = subst (λ (o : Option Attempted). IsToldDownOf o) (sym same) told; stays = λ some. ap outcome_by same; idle = λ none. same ∙ none }

  stranger-keeps : KeepsOutcome client (hearing_stranger client frame)
  stranger-keeps = same-keeps (hearing_stranger client frame) (stranger-attempt client frame)

  some-keeps : (a now : Attempted) (new : Client) → client.attempt ≡ Some a → new.attempt ≡ Some now → of_attempts.IsToldDown now → of_attempts.StaysReached a now → KeepsOutcome client new
  some-keeps a now new was is down stays =
      let P : Option Attempted → Option Attempted → Type 0 = λ o n. outcome_by o ≢ None → outcome_by n ≡ outcome_by o in
      let kept : P (Some a) (Some now) = as-kept (outcome_of a) (outcome_of now) stays in
      record {
        down = subst (λ (o : Option Attempted). IsToldDownOf o) (sym is) down;
        stays = subst (λ (o : Option Attempted). P o new.attempt) (sym was) (subst (λ (n : Option Attempted). P (Some a) n) (sym is) kept);
        idle = λ none. let no : Some a ≡ None = sym was ∙ none in absurd (cc no);
      }

  told-of : (a : Attempted) → client.attempt ≡ Some a → of_attempts.IsToldDown a
  told-of a was = subst (λ (o : Option Attempted). IsToldDownOf o) was told

  heard-keeps : (o : Option Attempted) → client.attempt ≡ o → KeepsOutcome client (hearing_by client frame o).after
  heard-keeps None was = stranger-keeps
  heard-keeps (Some a) was =
      let of = (law client.window client.lists a frame (told-of a was)).0 in
      some-keeps a (hearing client.window client.lists a frame).after (hearing_by client frame (Some a)).after was refl of.0 of.1

  ticked-keeps : (o : Option Attempted) → client.attempt ≡ o → KeepsOutcome client (ticking_by client o)
  ticked-keeps None was = same-keeps client refl
  ticked-keeps (Some a) was =
      let of = (law client.window client.lists a frame (told-of a was)).1 in
      some-keeps a _ (ticking_by client (Some a)) was refl of.0 of.1

  by-same : (same : Bool) → KeepsOutcome client (hearing_by client frame (if same then client.attempt else None)).after
  by-same true = heard-keeps client.attempt refl
  by-same false = stranger-keeps

pub outcome-stays : of_attempts.OutcomeLaw → OutcomeLaw
outcome-stays law client frame told = (by-same law client frame told (is_same_call frame.src client.server), ticked-keeps law client frame told client.attempt refl)

-- ---- it is noted

-- a job without an outcome ended with none of these
none-acked : (down : Option Why) (number : ℕ) → attempted.outcome_by None down ≡ Some (outcome.Acked number) → ⊥
none-acked None number is = cc is
none-acked (Some why) number is = cc is

none-fetched : (down : Option Why) (number : ℕ) → attempted.outcome_by None down ≡ Some (outcome.Fetched number) → ⊥
none-fetched None number is = cc is
none-fetched (Some why) number is = cc is

module _ (client : Client) (frame : FrameValue) (a : Attempted) (was : client.attempt ≡ Some a) (doing : Work) (job : a.job ≡ new_job doing) where
  -- the outcome of a frame that another station sent
  other-outcome : outcome_by (hearing_stranger client frame).attempt ≡ attempted.outcome_by None a.down
  other-outcome =
      ap outcome_by (stranger-attempt client frame ∙ was) ∙ ap (λ (o : Option Ending). attempted.outcome_by o a.down) (ap (λ (j : JobState). j.ending) job)

pub acked : of_attempts.AckedLaw → AckedLaw
acked law client frame a at number was job has =
    let P : Option Attempted → Type 0 =
    λ o. outcome_by (hearing_by client frame o).after.attempt ≡ Some (outcome.Acked number) → AcknowledgesIn client.lists at.task number (hearing_by client frame o).noted in
    let attempt : P client.attempt =
    subst P (sym was) (λ is. law client.window client.lists a frame at number job has is) in
    cond_both (is_same_call frame.src client.server) client.attempt None P (λ same. attempt)
    (λ other is. absurd (none-acked a.down number (sym (other-outcome client frame a was (work.Upload at) job) ∙ is)))

pub fetched : of_attempts.FetchedLaw → FetchedLaw
fetched law client frame a at number was job has =
    let P : Option Attempted → Type 0 =
    λ o. outcome_by (hearing_by client frame o).after.attempt ≡ Some (outcome.Fetched number) → IsFetchedBy number client.lists at (hearing_by client frame o).noted in
    let attempt : P client.attempt =
    subst P (sym was) (λ is. law client.window client.lists a frame at number job has is) in
    cond_both (is_same_call frame.src client.server) client.attempt None P (λ same. attempt)
    (λ other is. absurd (none-fetched a.down number (sym (other-outcome client frame a was (work.Download at) job) ∙ is)))
