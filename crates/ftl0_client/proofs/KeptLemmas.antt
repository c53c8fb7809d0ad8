-- What a client needs to hear a frame stays, while its notes do, and when a task is started.
use Rattle.std.proofs.Common.{◌⊎◌, refl, sym, ◌∙◌, ap, subst, inl, inr}
use Rattle.std.specs.Prelude.{◌∷◌}
use Rattle.client_notes.specs.declared.refusals.NotesRefusal.TheVariants as refusal
use Rattle.ftl0_client_job.specs.declared.work.Work.TheVariants as work
use Rattle.ftl0_client.proofs.Names.{ℕ, List, [], Option, None, Some, Result, Ok, Err, IsErr, IsErrOf, IsTrue, CallSign, Ghosts, fresh_task, start_reaches, after, new_task, Lists, Does, Untouched, IsReady, NotesState, StandsOn, Begun, NotesRefusal, task-more, Ending, Work, GoBy, GoWith, AttemptState, KeepsNotes, ClientState, GoWithAttempt, MayHear}

-- ---- the notes are as they were

pub may-kept : {D : Type 0} (g : Ghosts D) (old new : ClientState) (disk : D) → KeepsNotes old new → MayHear g old disk → MayHear g new disk
may-kept g old new disk keeps may =
    let back = sym keeps.notes in
    record {
      ready = subst (λ (n : NotesState). IsReady g n disk) back may.ready;
      notes_are = keeps.go_with new.notes.lists (subst (λ (n : NotesState). GoWithAttempt n.lists old.attempt) back may.notes_are);
    }

-- ---- starting a task

module _ (lists : Lists) (server caller : CallSign) (name : List ℕ) (len : ℕ) (digest : List ℕ) where
  -- the notes after a fresh task
  abbrev begun : Lists
  begun = after lists (fresh_task lists server caller name len digest)

  work-begun : (doing : Work) → GoWith lists doing → GoWith begun doing
  work-begun (work.Upload at) goes =
      record {
        entry = goes.entry;
        is_entry = task-more lists at.task (new_task server caller name len digest ∷ []) goes.entry goes.is_entry;
        going = goes.going;
        number = goes.number;
        file_length = goes.file_length;
      }
  work-begun (work.Directory at) goes = tt
  work-begun (work.Download at) goes = record { fits = goes.fits; checked = goes.checked }

  by-begun : (o : Option Ending) (doing : Work) → GoBy o lists doing → GoBy o begun doing
  by-begun None doing goes = work-begun doing goes
  by-begun (Some ending) doing goes = tt

  pub attempt-begun : (o : Option AttemptState) → GoWithAttempt lists o → GoWithAttempt begun o
  attempt-begun None goes = tt
  attempt-begun (Some attempt) goes = by-begun attempt.job.ending attempt.job.work goes

-- only if the disk failed a start reached it and answered no task
only-disk : (why : NotesRefusal) → IsTrue (start_reaches (Err why)) → IsErrOf {T = Begun} (Err why) refusal.Disk
only-disk refusal.Disk reaches = refl
only-disk refusal.Full reaches = absurd (cc reaches)
only-disk refusal.Failed reaches = absurd (cc reaches)
only-disk refusal.OutOfMemory reaches = absurd (cc reaches)
only-disk (refusal.Changed kept_length digest) reaches = absurd (cc reaches)

module _ {D : Type 0} (g : Ghosts D) (attempt : Option AttemptState) (old new : NotesState) (disk disk_now : D) (server caller : CallSign) (name : List ℕ) (len : ℕ)
    (digest : List ℕ) where
  -- what a client's notes need between events
  abbrev Goes : NotesState → D → Type 0
  Goes notes at = IsReady g notes at × GoWithAttempt notes.lists attempt

  still : Untouched old new disk disk_now → StandsOn g new disk_now → Goes old disk → Goes new disk_now
  still same stands goes = (
    record { healthy = ap (λ (n : NotesState). n.journal.failed) same.same ∙ goes.0.healthy; stands_on = stands },
    subst (λ (n : NotesState). GoWithAttempt n.lists attempt) (sym same.same) goes.1,
  )

  pub started-goes : (result : Result Begun NotesRefusal) → IsTrue (start_reaches result) ⊎ Untouched old new disk disk_now
      → (IsTrue (start_reaches result) → Does g (IsErr result) old new disk disk_now (fresh_task old.lists server caller name len digest)) → StandsOn g new disk_now
      → (IsErrOf result refusal.Disk → ⊥) → Goes old disk → Goes new disk_now
  started-goes result (inr same) does stands fine goes = still same stands goes
  started-goes (Err why) (inl reaches) does stands fine goes = absurd (fine (only-disk why reaches))
  started-goes (Ok begun_now) (inl reaches) does stands fine goes =
      let done = (does reaches).done (λ failed. cc failed) in
      (record { healthy = done.healthy; stands_on = stands }, subst (λ (l : Lists). GoWithAttempt l attempt) (sym done.lists) (attempt-begun old.lists server caller name len digest attempt goes.1))
