-- What is true of an attempt is true after each event, and once something became of it nothing more is noted.
use Rattle.std.proofs.Common.{◌≡◌, ℕ, Bool, true, false, List, [], ◌∷◌, refl, ap, sym, ◌∙◌, subst}
use Rattle.ftl0_client_job.specs.declared.ending.Outcome.TheVariants as outcome
use Rattle.ftl0_client_job.specs.declared.work.Work.TheVariants as work
use Rattle.ftl0_client.proofs.Names.{Option, None, Some, Heard, Why, heard_of_tick, after_frame, heard_of, after_tick, told_of_tick, kind_of_item, texts, Item, fits, NotesCommand, after_all, Lists, after_all-append, Ending, Work, BegunLaw, DueLaw, PromisesLaw, JobStands, WorkPromises, Row, JobState, job_after, job_row, listing_of, Attempted, outcome_by, after_hearing, after_ticking, after_told, hearing, packets_heard, packets_told, with_end, CallingLaw, QuietLaw, StandsLaw, settled, Happened, after_replies, taking, taking_by, taking_one}
use Rattle.ftl0_client.proofs.attempt.DownLemmas.{outcome-law, still-silent}
use Rattle.ftl0_client.proofs.attempt.EndedLemmas.{stays-law, told-job}
use Rattle.ftl0_client.proofs.attempt.ToldLemmas.{heard-told, ticked-told}
use Rattle.ftl0_client.proofs.attempt.SettlingLemmas.{settled-keeps}

-- ---- packets

-- what is strange promises nothing
strange-promises : (lists : Lists) (asked : Work) (listing : List ℕ) (kind : ℕ) → WorkPromises lists asked listing (outcome.Strange kind)
strange-promises lists (work.Upload at) listing kind = tt
strange-promises lists (work.Directory at) listing kind = tt
strange-promises lists (work.Download at) listing kind = tt

-- whether the replies to a packet of this type fit or don't
replies-stand : (asked : Work) (lists : Lists) (job : JobState) (kind : ℕ) (fit : Bool) → JobStands asked lists job → JobStands asked lists (after_replies job kind fit)
replies-stand asked lists job kind true stands = stands
replies-stand asked lists job kind false stands =
    record { same = stands.same; go_with = tt; filled = stands.filled; promises = strange-promises lists asked (listing_of job.work) kind }

module _ (law : PromisesLaw) (asked : Work) where
  one-stands : (o : Option Ending) (lists : Lists) (a : Attempted) (item : Item) → JobStands asked lists a.job
      → JobStands asked (after_all lists (taking_by o lists a item).noted) (taking_by o lists a item).after.job
  one-stands None lists a item stands =
      let row : Row Work = job_row lists a.job item in
      replies-stand asked (after_all lists row.commands) (job_after row) (kind_of_item item) (fits a.end (texts row.replies)) (law asked lists a.job item stands)
  one-stands (Some ending) lists a item stands = stands

  taking-stands : (lists : Lists) (a : Attempted) (items : List Item) → JobStands asked lists a.job → JobStands asked (after_all lists (taking lists a items).noted) (taking lists a items).after.job
  taking-stands lists a [] stands = stands
  taking-stands lists a (item ∷ items) stands =
      let one : Happened = taking_one lists a item in
      let rest : Happened = taking (after_all lists one.noted) one.after items in
      subst (λ (l : Lists). JobStands asked l rest.after.job) (sym (after_all-append one.noted rest.noted lists))
      (taking-stands (after_all lists one.noted) one.after items (one-stands a.job.ending lists a item stands))

-- ---- the end of an event

module _ (law : DueLaw) (asked : Work) (lists : Lists) where
  settled-stands : (a : Attempted) → JobStands asked lists a.job → JobStands asked lists (settled a).job
  settled-stands = settled-keeps (λ (a : Attempted). JobStands asked lists a.job) (λ a due is stands. law asked lists a.job due stands is) (λ a stands. stands)

-- ---- events

pub stands-law : PromisesLaw → DueLaw → StandsLaw
stands-law law due asked w lists a frame stands =
    let b : Attempted = after_hearing w a frame in
    let t : Attempted = after_ticking a in
    let heard_job : b.job ≡ a.job = told-job (heard_of w a.end frame) (with_end a (after_frame w a.end frame)) frame.kind.information in
    let ticked_job : t.job ≡ a.job = told-job (heard_of_tick (told_of_tick a.end)) (with_end a (after_tick a.end)) [] in
    let h : Happened = taking lists b (packets_heard w a frame) in
    let down = outcome-law w lists a frame stands.told_down in (
      record {
        job = settled-stands due asked (after_all lists h.noted) h.after
            (taking-stands law asked lists b (packets_heard w a frame) (subst (JobStands asked lists) (sym heard_job) stands.job));
        told_down = down.0.0;
        down_told = heard-told w lists a frame stands.down_told;
      },
      record {
        job = settled-stands due asked lists t (subst (JobStands asked lists) (sym ticked_job) stands.job);
        told_down = down.1.0;
        down_told = ticked-told a stands.down_told;
      },
    )

pub calling-law : BegunLaw → CallingLaw
calling-law law me server lists job new goes = record { job = law lists job new goes; told_down = λ why is. cc is; down_told = λ down. absurd (cc down) }

-- ---- once something became of it

pub quiet-law : QuietLaw
quiet-law w lists a frame told some = by a.job.ending a.down refl refl
  where
    -- what is noted, by what the link reported
    by-told : (t : Heard) → List NotesCommand
    by-told t = (taking lists (after_told t (with_end a (after_frame w a.end frame)) frame.kind.information) (packets_told t a frame.kind.information)).noted

    by : (o : Option Ending) (d : Option Why) → a.job.ending ≡ o → a.down ≡ d → (hearing w lists a frame).noted ≡ []
    by (Some ending) d is down = (stays-law w lists a frame ending is).1
    by None (Some reason) is down = ap by-told (still-silent w a.end frame (told reason down))
    by None None is down = absurd (some (ap (λ (o : Option Ending). outcome_by o a.down) is ∙ ap (outcome_by None) down))
