-- What becomes of a job that has an outcome: nothing.
use Rattle.std.proofs.Common.{◌≡◌, ℕ, List, [], ◌∷◌, refl, ap, ◌∙◌}
use Rattle.std.specs.Prelude.{◌&&◌}
use Rattle.ftl0_client.proofs.Names.{Option, None, Some, cond_both, Heard, Nothing, Opened, Reopened, Bytes, Closed, free_octets, heard_of_tick, after_frame, heard_of, after_tick, is_up, told_of_tick, Item, after_all, Lists, Ending, due_by, next_due, JobState, Attempted, after_hearing, after_ticking, after_told, packets_heard, with_end, StaysLaw, is_all_free, is_later, parting_later, queuing, settled, Happened, after_noting, quietly, taking, taking_by, taking_one}
use Rattle.ftl0_client.proofs.attempt.SettlingLemmas.{queuing-none}

-- packets that come after the outcome change nothing
pub taking-ended : (lists : Lists) (a : Attempted) (items : List Item) (ending : Ending) → a.job.ending ≡ Some ending → taking lists a items ≡ quietly a
taking-ended lists a [] ending is = refl
taking-ended lists a (item ∷ items) ending is =
    let one : taking_one lists a item ≡ quietly a = ap (λ (o : Option Ending). taking_by o lists a item) is in
    ap (λ (h : Happened). after_noting h.noted (taking (after_all lists h.noted) h.after items)) one ∙ taking-ended lists a items ending is

-- what the link reports leaves the job
pub told-job : (told : Heard) (a : Attempted) (octets : List ℕ) → (after_told told a octets).job ≡ a.job
told-job Nothing a octets = refl
told-job Opened a octets = refl
told-job Reopened a octets = refl
told-job Bytes a octets = refl
told-job (Closed why) a octets = refl

pub parting-job : (a : Attempted) → (parting_later a).job ≡ a.job
parting-job a = cond_both (is_later a.job.ending && is_all_free a.end) _ _ (λ (now : Attempted). now.job ≡ a.job) (λ both. refl) (λ not_both. refl)

-- nor does the end of an event change it, if nothing is due
settled-job : (a : Attempted) → next_due a.job ≡ None → (settled a).job ≡ a.job
settled-job a none =
    let q : Attempted = queuing (free_octets a.end) a in
    cond_both (is_up a.end.state) _ _ (λ (now : Attempted). now.job ≡ a.job)
    (λ up. parting-job q ∙ ap (λ (now : Attempted). now.job) (queuing-none (free_octets a.end) a none)) (λ not_up. refl)

none-due : (a : Attempted) (ending : Ending) → a.job.ending ≡ Some ending → next_due a.job ≡ None
none-due a ending is = ap (λ (o : Option Ending). due_by o a.job.work) is

pub stays-law : StaysLaw
stays-law w lists a frame ending is =
    let b : Attempted = after_hearing w a frame in
    let t : Attempted = after_ticking a in
    let heard : b.job ≡ a.job = told-job (heard_of w a.end frame) (with_end a (after_frame w a.end frame)) frame.kind.information in
    let ticked : t.job ≡ a.job = told-job (heard_of_tick (told_of_tick a.end)) (with_end a (after_tick a.end)) [] in
    let taken : taking lists b (packets_heard w a frame) ≡ quietly b = taking-ended lists b (packets_heard w a frame) ending (ap (λ (j : JobState). j.ending) heard ∙ is) in (
      ap (λ (h : Happened). (settled h.after).job) taken ∙ settled-job b (none-due b ending (ap (λ (j : JobState). j.ending) heard ∙ is)) ∙ heard,
      ap (λ (h : Happened). h.noted) taken,
      settled-job t (none-due t ending (ap (λ (j : JobState). j.ending) ticked ∙ is)) ∙ ticked,
    )
