-- A job takes a packet as what it does takes it.
use Rattle.std.proofs.Common.{inl, ◌≡◌, ℕ, List, [], refl, sym, ap, subst}
use Rattle.disk_model.specs.declared.halt.Halt.TheVariants as stop
use Rattle.ftl0_client_job.specs.declared.work.Work.TheVariants as work
use Rattle.ftl0_client_job.proofs.Names.{⊤, true, false, is_some, take, Option, None, Some, Result, Ok, Err, Ghosts, Item, PacketValue, NotesCommand, after_all, Lists, DoesSeveral, IsReady, NotesState, Ending, Halt, Work, Directory, directory_row, GoBy, GoWith, HasNoted, IsBefore, Row, JobState, item_row, job_row, row_of, Gives, StopsAt, TakesPacket, TakesRow, with_notes}
use Rattle.ftl0_client_job.proofs.NotingLemmas.{none-by, noted-err}
use Rattle.ftl0_client_job.proofs.RowLemmas.{directory-silent, job-ended, job-in}
use Rattle.ftl0_client_job.proofs.StaysLemmas.{stays-item}

module _ {D : Type 0} (g : Ghosts D) where
  -- a list has no commands of the notes
  pub takes-list : (before now : Directory) (packet : PacketValue) (notes : NotesState) (disk : D) (replies : List ℕ) (ending : Option Ending) → IsReady g notes disk
      → g.lasts disk disk → Gives (directory_row before packet) now replies ending
      → TakesRow g (row_of work.Directory (directory_row before packet)) (with_notes (work.Directory before) notes disk) (with_notes (work.Directory now) notes disk) replies (Ok ending)
  takes-list before now packet notes disk replies ending ready lasts gives = record {
    answers = (ap work.Directory gives.0, gives.1, gives.2);
    noted = none-by g notes disk (directory_row before packet).commands (directory-silent before packet) ready lasts;
  }

  -- nor has one for which there is no memory
  pub takes-no-list : (before now : Directory) (packet : PacketValue) (notes : NotesState) (disk : D) (replies : List ℕ) (result : Result (Option Ending) Halt) → IsReady g notes disk
      → g.lasts disk disk → now ≡ before → replies ≡ [] → result ≡ Err stop.OutOfMemory
      → TakesRow g (row_of work.Directory (directory_row before packet)) (with_notes (work.Directory before) notes disk) (with_notes (work.Directory now) notes disk) replies result
  takes-no-list before now packet notes disk replies result ready lasts same none is =
      let commands = (directory_row before packet).commands in
      let silent = directory-silent before packet in
      subst (λ (r : Result (Option Ending) Halt).
      TakesRow g (row_of work.Directory (directory_row before packet)) (with_notes (work.Directory before) notes disk) (with_notes (work.Directory now) notes disk) replies r) (sym is)
      (record {
        answers = (ap work.Directory same, none);
        noted = (
          0,
          subst (λ (cs : List NotesCommand). IsBefore 0 cs) (sym silent) refl,
          none-by g notes disk (take 0 commands) (ap (take 0) silent) ready lasts,
        );
      })

  -- a packet after the outcome
  pub takes-ended : (item : Item) (job : JobState) (ending : Ending) (notes : NotesState) (disk : D) (replies : List ℕ) → job.ending ≡ Some ending → replies ≡ [] → IsReady g notes disk
      → g.lasts disk disk → TakesPacket g item (with_notes job notes disk) (with_notes job notes disk) replies (Ok tt)
  takes-ended item job ending notes disk replies is none ready lasts =
      let row = job-ended notes.lists job item ending is in
      record {
        answers = subst (λ (r : Row Work). Gives r job.work replies job.ending) (sym row) (refl, none, is);
        noted = subst (λ (r : Row Work). DoesSeveral g ⊥ notes notes disk disk r.commands) (sym row) (none-by g notes disk [] refl ready lasts);
        stops = tt;
      }

  module _ (item : Item) (job : JobState) (doing : Work) (notes notes_now : NotesState) (disk disk_now : D) (replies : List ℕ) (is : job.ending ≡ None) where
    -- what is done took it
    pub takes-item : (ending : Option Ending) → TakesRow g (item_row notes.lists job.work item) (with_notes job.work notes disk) (with_notes doing notes_now disk_now) replies (Ok ending)
        → TakesPacket g item (with_notes job notes disk) (with_notes (record { work = doing; ending = ending }) notes_now disk_now) replies (Ok tt)
    takes-item ending takes =
        let row = job-in notes.lists job item is in
        record {
          answers = subst (λ (r : Row Work). Gives r doing replies ending) (sym row) takes.answers;
          noted = subst (λ (r : Row Work). DoesSeveral g ⊥ notes notes_now disk disk_now r.commands) (sym row) takes.noted;
          stops = tt;
        }

    -- or stopped
    pub takes-stop : (why : Halt) → TakesRow g (item_row notes.lists job.work item) (with_notes job.work notes disk) (with_notes doing notes_now disk_now) replies (Err why) → StopsAt {T = Option Ending} job.work (Err why)
        → TakesPacket g item (with_notes job notes disk) (with_notes (record { work = doing; ending = job.ending }) notes_now disk_now) replies (Err why)
    takes-stop why takes stops =
        let row = job-in notes.lists job item is in
        record {
          answers = (ap (λ (w : Work). record { work = w; ending = job.ending }) takes.answers.0, takes.answers.1);
          noted = noted-err g (Option Ending) ⊤ notes notes_now disk disk_now (job_row notes.lists job item).commands why
              (subst (λ (r : Row Work). HasNoted {T = Option Ending} g notes notes_now disk disk_now r.commands (Err why)) (sym row) takes.noted);
          stops = stops-err job.work why stops;
        }
      where
        stops-err : (at : Work) (why : Halt) → StopsAt {T = Option Ending} at (Err why) → StopsAt {T = ⊤} at (Err why)
        stops-err at stop.Disk stops = stops
        stops-err at stop.OutOfMemory stops = stops

    -- the notes go with what is done then
    pub goes-on : (ending : Option Ending) → GoWith notes.lists job.work → TakesRow g (item_row notes.lists job.work item) (with_notes job.work notes disk) (with_notes doing notes_now disk_now) replies (Ok ending)
        → GoBy ending notes_now.lists doing
    goes-on ending goes takes =
        let gives = takes.answers in
        let lists : notes_now.lists ≡ after_all notes.lists (item_row notes.lists job.work item).commands = ((takes.noted.does.done (λ never. never)).0 (inl refl)) in
        subst (λ (l : Lists). GoBy ending l doing) (sym lists)
        (subst (λ (w : Work). GoBy ending (after_all notes.lists (item_row notes.lists job.work item).commands) w) (sym gives.0)
        (subst (λ (e : Option Ending). GoBy e (after_all notes.lists (item_row notes.lists job.work item).commands) (item_row notes.lists job.work item).state) (sym gives.2)
        (stays-item notes.lists job.work item goes)))

-- an ending that is there, and one that isn't
pub ending-some : (o : Option Ending) → is_some o ≡ true → (ending : Ending) × (o ≡ Some ending)
ending-some None some = absurd (cc some)
ending-some (Some ending) some = (ending, refl)

pub ending-none : (o : Option Ending) → is_some o ≡ false → o ≡ None
ending-none None none = refl
ending-none (Some ending) none = absurd (cc none)
