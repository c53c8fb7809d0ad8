-- How a client's command is stopped, and which status that is.
use Rattle.std.proofs.Common.{◌≡◌, ℕ, refl, ap, sym, ◌∙◌, inl, inr, Bool, true, false, List, ◌⊎◌, Option, None, Some, IsErrOf, IsTrue, Result, Ok, Err}
use Rattle.uploader.specs.NotesRefusal.TheVariants as refusal
use Rattle.uploader.specs.StoreFault.{StoreFault}
use Rattle.uploader.specs.StoreFault.TheVariants as fault
use Rattle.turn_loop.specs.declared.stop.NodeStop.TheVariants as node
use Rattle.uploader.specs.Turns.Carried.{CountsWhere}
use Rattle.uploader.specs.declared.stop.SendStop.TheVariants as stop
use Rattle.uploader.specs.Loading.{is_of_file as is_stop_of_file}
use Rattle.uploader.specs.Stops.{stop_of_fault}
use Rattle.pacsat_cli.specs.declared.status.BadStore.TheVariants as bad
use Rattle.pacsat_cli.specs.declared.status.RefusedBy.TheVariants as by
use Rattle.pacsat_cli.specs.declared.status.Status.TheVariants as status
use Rattle.pacsat_cli.proofs.Names.{Rose, Turn, NotesRefusal, Outcome, TurnsBy, Finished, NodeStop, SendStop, FileSum, IsPastFile, answer_of, stop_of_start, stop_of_turns, of_answer, of_turns, turned, Status, is_of_file, may_have_outcome, status_of_stop}

-- the stop that a status is of, where it is of one
abbrev pub stop_of_status : Status → Option SendStop
stop_of_status (status.Refused (by.Server code)) = Some (stop.Refused code)
stop_of_status (status.Refused (by.Fault code)) = Some (stop.BadFile code)
stop_of_status status.AirRead = Some stop.AirRead
stop_of_status status.AirWrite = Some stop.AirWrite
stop_of_status status.Disk = Some stop.Disk
stop_of_status status.NoSuch = Some stop.NoSuch
stop_of_status (status.FileChanged kept given) = Some (stop.Changed kept given)
stop_of_status (status.BadStore (bad.NotAStore found)) = Some (stop.NotAStore found)
stop_of_status (status.BadStore (bad.Damaged at)) = Some (stop.Damaged at)
stop_of_status status.OutOfMemory = Some stop.OutOfMemory
stop_of_status status.Spent = Some stop.Spent
stop_of_status status.Out = Some stop.Out
stop_of_status status.Shelf = Some stop.Shelf
stop_of_status status.LinkDown = Some stop.LinkDown
stop_of_status (status.Strange kind) = Some (stop.Strange kind)
stop_of_status status.NotesFull = Some stop.NotesFull
stop_of_status status.TooLong = Some stop.TooLong
stop_of_status s = None

pub stop-back : (why : SendStop) → stop_of_status (status_of_stop why) ≡ Some why
stop-back (stop.Refused code) = refl
stop-back (stop.BadFile code) = refl
stop-back stop.AirRead = refl
stop-back stop.AirWrite = refl
stop-back stop.Disk = refl
stop-back stop.NoSuch = refl
stop-back (stop.Changed kept given) = refl
stop-back (stop.NotAStore found) = refl
stop-back (stop.Damaged at) = refl
stop-back stop.OutOfMemory = refl
stop-back stop.Spent = refl
stop-back stop.Out = refl
stop-back stop.Shelf = refl
stop-back stop.LinkDown = refl
stop-back (stop.Strange kind) = refl
stop-back stop.NotesFull = refl
stop-back stop.TooLong = refl

-- whether a client's command can end with this status: with what is of a stop, or done
abbrev pub is_client_status : Status → Bool
is_client_status status.Usage = false
is_client_status (status.BadSchedule line) = false
is_client_status (status.Refused by.Shown) = false
is_client_status s = true

pub stop-client : (why : SendStop) → is_client_status (status_of_stop why) ≡ true
stop-client (stop.Refused code) = refl
stop-client (stop.BadFile code) = refl
stop-client stop.AirRead = refl
stop-client stop.AirWrite = refl
stop-client stop.Disk = refl
stop-client stop.NoSuch = refl
stop-client (stop.Changed kept given) = refl
stop-client (stop.NotAStore found) = refl
stop-client (stop.Damaged at) = refl
stop-client stop.OutOfMemory = refl
stop-client stop.Spent = refl
stop-client stop.Out = refl
stop-client stop.Shelf = refl
stop-client stop.LinkDown = refl
stop-client (stop.Strange kind) = refl
stop-client stop.NotesFull = refl
stop-client stop.TooLong = refl

-- where the status isn't one of the file, nor is the stop
pub stop-past : (why : SendStop) → (IsTrue (is_of_file (status_of_stop why)) → ⊥) → is_stop_of_file why ≡ false
stop-past (stop.Refused code) h = refl
stop-past (stop.BadFile code) h = absurd (h refl)
stop-past stop.AirRead h = refl
stop-past stop.AirWrite h = refl
stop-past stop.Disk h = refl
stop-past stop.NoSuch h = absurd (h refl)
stop-past (stop.Changed kept given) h = refl
stop-past (stop.NotAStore found) h = refl
stop-past (stop.Damaged at) h = refl
stop-past stop.OutOfMemory h = refl
stop-past stop.Spent h = refl
stop-past stop.Out h = refl
stop-past stop.Shelf h = absurd (h refl)
stop-past stop.LinkDown h = refl
stop-past (stop.Strange kind) h = refl
stop-past stop.NotesFull h = refl
stop-past stop.TooLong h = absurd (h refl)

-- The status is the one of the end of a command; once it is done its line may have failed.
pub record StatusBy {T : Type 0} (ended : Result T SendStop) (s : Status) : Type 0 where
  pub stopped : (why : SendStop) → ended ≡ Err why → s ≡ status_of_stop why
  pub done : (value : T) → ended ≡ Ok value → (s ≡ status.Done) ⊎ (s ≡ status.Out)

-- whether it is the stop by the output
abbrev pub is_out : SendStop → Bool
is_out stop.Out = true
is_out why = false

module _ {T : Type 0} where
  -- a status but Out is of one stop alone
  pub stopped-by : (ended : Result T SendStop) (s : Status) → StatusBy ended s → (other : SendStop) → is_out other ≡ false → s ≡ status_of_stop other → ended ≡ Err other
  stopped-by (Ok value) s h other isnt is =
      let back : stop_of_status s ≡ Some other = ap stop_of_status is ∙ stop-back other in
      absurd (elim (h.done value refl) [
        | inl done ↦ (let e = sym back ∙ ap stop_of_status done in cc)
        | inr out ↦
            (let e = sym back ∙ ap stop_of_status out in
            let same : other ≡ stop.Out = cc in
            let both = sym isnt ∙ ap is_out same in cc)
      ])
  stopped-by (Err why) s h other isnt is =
      let back : Some why ≡ Some other = sym (stop-back why) ∙ ap stop_of_status (sym (h.stopped why refl) ∙ is) ∙ stop-back other in
      let same : why ≡ other = cc in
      ap Err same

  -- nor is it Done where there is a stop
  pub done-ok : (ended : Result T SendStop) (s : Status) → StatusBy ended s → s ≡ status.Done → (why : SendStop) → ended ≡ Err why → ⊥
  done-ok ended s h is why e =
      let back : Some why ≡ None = sym (stop-back why) ∙ ap stop_of_status (sym (h.stopped why e) ∙ is) in cc

  pub client-status : (ended : Result T SendStop) (s : Status) → StatusBy ended s → is_client_status s ≡ true
  client-status (Ok value) s h = elim (h.done value refl) [ inl done ↦ ap is_client_status done | inr out ↦ ap is_client_status out ]
  client-status (Err why) s h = ap is_client_status (h.stopped why refl) ∙ stop-client why

  pub past-file : (ended : Result T SendStop) (s : Status) → StatusBy ended s → (IsTrue (is_of_file s) → ⊥) → IsPastFile ended
  past-file (Ok value) s h isnt = tt
  past-file (Err why) s h isnt = stop-past why (λ is. isnt (ap is_of_file (h.stopped why refl) ∙ is))

-- ---- which stops the parts of a command have

-- whether the notes' recovery or a job's carrying out can stop a command so
abbrev pub is_carried : SendStop → Bool
is_carried (stop.Refused code) = true
is_carried (stop.BadFile code) = true
is_carried stop.AirRead = true
is_carried stop.AirWrite = true
is_carried stop.Disk = true
is_carried (stop.NotAStore found) = true
is_carried (stop.Damaged at) = true
is_carried stop.OutOfMemory = true
is_carried stop.Spent = true
is_carried stop.LinkDown = true
is_carried (stop.Strange kind) = true
is_carried why = false

pub node-carried : (polls : ℕ) (turns : List Turn) (ended : Result Finished NodeStop) (reached : Option Outcome) (why : SendStop) → TurnsBy ended polls turns → answer_of ended reached ≡ Err why → is_carried why ≡ true
node-carried polls turns ended reached why ends e =
    of_answer (λ s. is_carried s ≡ true) (λ code. refl) (λ code. refl) refl (λ kind. refl) ended (of_turns (λ s. is_carried s ≡ true) refl refl refl refl refl refl ended polls turns ends) reached why e

pub fault-carried : (why : StoreFault) → is_carried (stop_of_fault why) ≡ true
fault-carried (fault.NotAStore found) = refl
fault-carried (fault.Damaged at) = refl
fault-carried fault.Disk = refl
fault-carried fault.OutOfMemory = refl

-- whether it is a stop by the air
abbrev pub is_of_air : SendStop → Bool
is_of_air stop.AirRead = true
is_of_air stop.AirWrite = true
is_of_air why = false

pub fault-not_air : (why : StoreFault) → is_of_air (stop_of_fault why) ≡ false
fault-not_air (fault.NotAStore found) = refl
fault-not_air (fault.Damaged at) = refl
fault-not_air fault.Disk = refl
fault-not_air fault.OutOfMemory = refl

pub start-not_air : (sum : FileSum) (why : NotesRefusal) → is_of_air (stop_of_start sum why) ≡ false
start-not_air sum (refusal.Changed kept digest) = refl
start-not_air sum refusal.Full = refl
start-not_air sum refusal.Disk = refl
start-not_air sum refusal.Failed = refl
start-not_air sum refusal.OutOfMemory = refl

pub start-not_out : (sum : FileSum) (why : NotesRefusal) → is_out (stop_of_start sum why) ≡ false
start-not_out sum (refusal.Changed kept digest) = refl
start-not_out sum refusal.Full = refl
start-not_out sum refusal.Disk = refl
start-not_out sum refusal.Failed = refl
start-not_out sum refusal.OutOfMemory = refl

-- ---- what the air counts

-- The air's counts by the stop, if there is one: where it is by the air that count rose, and each other stayed, but once
-- there may have been an outcome.
pub record AirBy {T : Type 0} (reads reads_now writes writes_now : ℕ) (ended : Result T SendStop) : Type 0 where
  pub rose_read : ended ≡ Err stop.AirRead → Rose reads reads_now
  pub rose_write : ended ≡ Err stop.AirWrite → Rose writes writes_now
  pub same_read :
      (why : SendStop) → ended ≡ Err why → (why ≡ stop.AirRead → ⊥) → may_have_outcome (status_of_stop why) ≡ false
      → reads_now ≡ reads
  pub same_write :
      (why : SendStop) → ended ≡ Err why → (why ≡ stop.AirWrite → ⊥) → may_have_outcome (status_of_stop why) ≡ false
      → writes_now ≡ writes

module _ (reads reads_now writes writes_now : ℕ) where
  -- neither count rose, and the stop isn't by the air
  pub air-stayed :
      {T : Type 0} (ended : Result T SendStop) → reads_now ≡ reads → writes_now ≡ writes
      → ((why : SendStop) → ended ≡ Err why → is_of_air why ≡ false) → AirBy reads reads_now writes writes_now ended
  air-stayed ended same_reads same_writes isnt = record {
    rose_read = λ e. absurd (let no = isnt stop.AirRead e in cc);
    rose_write = λ e. absurd (let no = isnt stop.AirWrite e in cc);
    same_read = λ _ _ _ _. same_reads;
    same_write = λ _ _ _ _. same_writes;
  }

  pub air-free :
      {T : Type 0} (ended : Result T SendStop)
      → ((why : SendStop) → ended ≡ Err why → (may_have_outcome (status_of_stop why) ≡ true) × (is_of_air why ≡ false))
      → AirBy reads reads_now writes writes_now ended
  air-free ended may = record {
    rose_read = λ e. absurd (let no = (may stop.AirRead e).1 in cc);
    rose_write = λ e. absurd (let no = (may stop.AirWrite e).1 in cc);
    same_read = λ why e _ isnt. absurd (let yes = (may why e).0 in let both = sym yes ∙ isnt in cc);
    same_write = λ why e _ isnt. absurd (let yes = (may why e).0 in let both = sym yes ∙ isnt in cc);
  }

  -- what holds of one end holds of another with the same stop
  pub air-along :
      {T U : Type 0} (came : Result T SendStop) (ended : Result U SendStop)
      → ((why : SendStop) → ended ≡ Err why → came ≡ Err why) → AirBy reads reads_now writes writes_now came
      → AirBy reads reads_now writes writes_now ended
  air-along came ended along h = record {
    rose_read = λ e. h.rose_read (along stop.AirRead e);
    rose_write = λ e. h.rose_write (along stop.AirWrite e);
    same_read = λ why e. h.same_read why (along why e);
    same_write = λ why e. h.same_write why (along why e);
  }

  -- what became of the job, behind which the air may have failed; or the turns' stop
  pub air-carried : (ended : Result Finished NodeStop) (reached : Option Outcome) → CountsWhere reads reads_now (IsErrOf ended node.AirRead) → CountsWhere writes writes_now (IsErrOf ended node.AirWrite)
      → AirBy reads reads_now writes writes_now (answer_of ended reached)
  air-carried ended reached h k = record {
    rose_read = λ e. h.rose (turned ended reached node.AirRead e);
    rose_write = λ e. k.rose (turned ended reached node.AirWrite e);
    same_read = λ why e. behind (reads_now ≡ reads) stop.AirRead (λ isnt. h.same (λ is. isnt (ap stop_of_turns is))) why e;
    same_write = λ why e. behind (writes_now ≡ writes) stop.AirWrite (λ isnt. k.same (λ is. isnt (ap stop_of_turns is))) why e;
  }
    where
      behind : (X : Type 0) (other : SendStop) → ((stop_of_turns ended ≡ other → ⊥) → X) → (why : SendStop) → answer_of ended reached ≡ Err why → (why ≡ other → ⊥) → may_have_outcome (status_of_stop why) ≡ false → X
      behind X other same why e =
          of_answer (λ s. (s ≡ other → ⊥) → may_have_outcome (status_of_stop s) ≡ false → X) (λ code isnt may. absurd (cc may)) (λ code isnt may. absurd (cc may)) (λ isnt may. absurd (cc may)) (λ kind isnt may. absurd (cc may)) ended
          (λ isnt may. same isnt) reached why e
