-- What an upload noted whose outcome is that its file was acknowledged.
use Rattle.std.proofs.Common.{◌≡◌, ℕ, ◌+◌, ◌-◌, List, [], ◌∷◌, ◌++◌, length, refl, ap, sym, ◌∙◌, subst, arith}
use Rattle.std.proofs.Common.{append_assoc, append-nil, length-append}
use Rattle.client_notes.specs.State.{StandsFor}
use Rattle.ftl0_client_job.specs.declared.ending.Outcome.TheVariants as outcome
use Rattle.ftl0_client_job.specs.declared.work.Work.TheVariants as work
use Rattle.ftl0_client_job.specs.Upload.{Upload, upload_row}
use Rattle.ftl0_client.proofs.Names.{Option, None, Some, Ok, Err, Item, PacketValue, NotesCommand, acked, AreAllowed, after_all, Lists, after_first, AreAllowed-split, after_first-then, Ending, GoBy, HasTask, Acknowledges, reached, Row, strange, job_row, new_job, row_of, acknowledged, job-in, stays-item, upload-rows, UploadRows, AckedLaw, AcknowledgesIn}
use Rattle.ftl0_client.proofs.attempt.ReachedLemmas.{reaches}

-- ---- an upload stays that of its task

task-row : (at : Upload) (packet : PacketValue) → (upload_row at packet).state.task ≡ at.task
task-row at packet = upload-rows (λ row. row.state.task ≡ at.task) at rows packet
  where
    rows : UploadRows (λ row. row.state.task ≡ at.task) at
    rows = record {
      strange_rows = λ kind. refl;
      login = λ is. refl;
      go = λ number offset is may. refl;
      complete = λ is. refl;
      refused_rows = λ code. refl;
      broken_off = λ code. refl;
      ack = λ number is. refl;
    }

-- ---- commands after others

acks-behind : (lists : Lists) (commands noted : List NotesCommand) (task number : ℕ) → AcknowledgesIn (after_all lists commands) task number noted → AcknowledgesIn lists task number (commands ++ noted)
acks-behind lists commands noted task number h = record {
  before = commands ++ h.before;
  last = ap (λ (cs : List NotesCommand). commands ++ cs) h.last ∙ sym (append_assoc commands h.before (acked task ∷ []));
  stands = λ others least most image allowed some makes.
      let sum : length (commands ++ noted) ≡ length commands + length noted = length-append commands noted in
      let all = append_assoc commands noted others in
      let count : ℕ = makes.0 - length commands in
      let is : makes.0 ≡ length commands + count = omega (arith, sum, some, makes.1) in
      let stands : StandsFor image (after_first makes.0 lists (commands ++ (noted ++ others))) = subst (λ (cs : List NotesCommand). StandsFor image (after_first makes.0 lists cs)) all makes.3 in
      let allowed_all : AreAllowed lists (commands ++ (noted ++ others)) =
      subst (λ (cs : List NotesCommand). AreAllowed lists cs) all allowed in
      let behind = (AreAllowed-split commands (noted ++ others) lists allowed_all).1 in
      h.stands others (length noted) count image behind (omega arith) (
        count,
        omega (arith, sum, some, makes.1),
        omega arith,
        subst (λ (l : Lists). StandsFor image l)
            (ap (λ (n : ℕ). after_first n lists (commands ++ (noted ++ others))) is ∙ after_first-then count commands (noted ++ others) lists) stands,
      );
}

acks-row : (lists : Lists) (task number : ℕ) (row : Row Upload) → Acknowledges lists task number row → AcknowledgesIn lists task number (row.commands ++ [])
acks-row lists task number row acks =
    let one : length row.commands ≡ 1 = ap length acks.commands in
    subst (λ (cs : List NotesCommand). AcknowledgesIn lists task number cs) (sym (append-nil row.commands))
    (record {
      before = [];
      last = acks.commands;
      stands = λ others least most image allowed some makes. acks.stands others least most image allowed (omega (arith, one, some)) makes;
    })

-- ---- packets

-- the row of a packet, malformed or not
abbrev item_row : Upload → Item → Row Upload
item_row at (Ok packet) = upload_row at packet
item_row at (Err malformed) = strange at malformed.kind

row-is : (lists : Lists) (at : Upload) (item : Item) → job_row lists (new_job (work.Upload at)) item ≡ row_of work.Upload (item_row at item)
row-is lists at (Ok packet) = job-in lists (new_job (work.Upload at)) (Ok packet) refl
row-is lists at (Err malformed) = job-in lists (new_job (work.Upload at)) (Err malformed) refl

task-item : (at : Upload) (item : Item) → (item_row at item).state.task ≡ at.task
task-item at (Ok packet) = task-row at packet
task-item at (Err malformed) = refl

goes-item : (lists : Lists) (at : Upload) (item : Item) → HasTask lists at → (item_row at item).ending ≡ None → HasTask (after_all lists (item_row at item).commands) (item_row at item).state
goes-item lists at (Ok packet) has none =
    let row : Row Upload = upload_row at packet in
    subst (λ (o : Option Ending). GoBy o (after_all lists row.commands) (work.Upload row.state)) none (stays-item lists (work.Upload at) (Ok packet) has)
goes-item lists at (Err malformed) has none = absurd (cc none)

acks-item : (lists : Lists) (at : Upload) (item : Item) (number : ℕ) → HasTask lists at → reached (item_row at item) ≡ Some (outcome.Acked number) → Acknowledges lists at.task number (item_row at item)
acks-item lists at (Ok packet) number has is = acknowledged lists at packet number has is
acks-item lists at (Err malformed) number has is = absurd (cc is)

pub acked-law : AckedLaw
acked-law w lists a frame at number is has got =
    reaches work.Upload (λ lists. item_row) HasTask (λ lists at noted. AcknowledgesIn lists at.task number noted) (outcome.Acked number) row-is goes-item
    (λ lists at item has is. acks-row lists at.task number (item_row at item) (acks-item lists at item number has is))
    (λ lists at item noted h.
    acks-behind lists (item_row at item).commands noted at.task number
    (subst (λ (task : ℕ). AcknowledgesIn (after_all lists (item_row at item).commands) task number noted) (task-item at item) h))
    (λ kind same. cc same) (λ why same. cc same) w lists a frame at is has got
