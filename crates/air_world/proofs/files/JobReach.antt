-- How a job gets from what was asked to its state now, entry by entry.
use Rattle.std.proofs.Common.{◌≡◌, ◌≢◌, List, [], ◌∷◌, ◌++◌, Option, None, Some, sym, ◌∙◌, ap, subst, append_assoc}
use Rattle.std.proofs.Common.{append-nil}
use Rattle.ftl0_client_job.specs.Due.{next_due}
use Rattle.air_world.proofs.files.Names.{kind_of_item, Item, Lists, Ending, Work, DuePacket, Row, JobState, item_row, job_after, job_row, row_by, JobEntry, after_losing, lost, passed, queued, took, JobReaches}

-- before the outcome a packet's row is that of the work
pub row-of-work : (lists : Lists) (job : JobState) (item : Item) → job.ending ≡ None
    → job_row lists job item ≡ item_row lists job.work item
unfolding job_row
row-of-work lists job item none = ap (λ (o : Option Ending). row_by lists job.work item o) none

-- What is so of the entries that came and the job stays so with each further entry.
pub record Stays (P : List JobEntry → JobState → Type 0) : Type 0 where
  pub taking :
      (es : List JobEntry) (job : JobState) (lists : Lists) (item : Item) → job.ending ≡ None → P es job
      → P (es ++ took item (item_row lists job.work item) ∷ []) (job_after (item_row lists job.work item))
  pub losing :
      (es : List JobEntry) (job : JobState) (lists : Lists) (item : Item) → job.ending ≡ None → P es job
      → P (es ++ lost item (item_row lists job.work item) ∷ [])
      (after_losing (kind_of_item item) (item_row lists job.work item))
  pub passing : (es : List JobEntry) (job : JobState) (item : Item) → job.ending ≢ None → P es job
      → P (es ++ passed item ∷ []) job
  pub queuing : (es : List JobEntry) (job : JobState) (due : DuePacket JobState) → next_due job ≡ Some due → P es job
      → P (es ++ queued due ∷ []) due.state

module _ (P : List JobEntry → JobState → Type 0) (stays : Stays P) where
  go-on : (es fs : List JobEntry) (job now : JobState) → P es job → JobReaches job fs now → P (es ++ fs) now
  go-on es [] job now holds is =
      subst (λ (l : List JobEntry). P l now) (sym (append-nil es)) (subst (P es) (sym is) holds)
  go-on es (took item row ∷ fs) job now holds h =
      let row_is : row ≡ item_row h.0.1.0 job.work item = h.0.1.1 ∙ row-of-work h.0.1.0 job item h.0.0 in
      let next = subst (λ (r : Row Work). P (es ++ took item r ∷ []) (job_after r)) (sym row_is)
      (stays.taking es job h.0.1.0 item h.0.0 holds) in
      subst (λ (l : List JobEntry). P l now) (append_assoc es (took item row ∷ []) fs)
      (go-on (es ++ took item row ∷ []) fs (job_after row) now next h.1)
  go-on es (lost item row ∷ fs) job now holds h =
      let row_is : row ≡ item_row h.0.1.0 job.work item = h.0.1.1 ∙ row-of-work h.0.1.0 job item h.0.0 in
      let next = subst (λ (r : Row Work). P (es ++ lost item r ∷ []) (after_losing (kind_of_item item) r)) (sym row_is)
      (stays.losing es job h.0.1.0 item h.0.0 holds) in
      subst (λ (l : List JobEntry). P l now) (append_assoc es (lost item row ∷ []) fs)
      (go-on (es ++ lost item row ∷ []) fs (after_losing (kind_of_item item) row) now next h.1)
  go-on es (passed item ∷ fs) job now holds h =
      subst (λ (l : List JobEntry). P l now) (append_assoc es (passed item ∷ []) fs)
      (go-on (es ++ passed item ∷ []) fs job now (stays.passing es job item h.0 holds) h.1)
  go-on es (queued due ∷ fs) job now holds h =
      subst (λ (l : List JobEntry). P l now) (append_assoc es (queued due ∷ []) fs)
      (go-on (es ++ queued due ∷ []) fs due.state now (stays.queuing es job due h.0 holds) h.1)

  -- so it is of all entries of a job
  pub of-reached : (es : List JobEntry) (job now : JobState) → P [] job → JobReaches job es now → P es now
  of-reached es job now begun reached = go-on [] es job now begun reached
