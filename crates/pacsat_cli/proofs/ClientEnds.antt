-- What the end of a client's command says of its counts, its disk's content and its output.
use Rattle.std.proofs.Common.{◌≡◌, ℕ, List, arith, refl, ap, sym, subst, ◌∙◌, inl, inr, Bool, true, false}
use Rattle.std.specs.Prelude.{◌⊎◌}
use Rattle.px_base.specs.declared.out.Out.{Ghosts as OutGhosts}
use Rattle.px_base.specs.declared.shelf.Shelf.{Ghosts as ShelfGhosts}
use Rattle.disk_model.specs.Runs.{Runs}
use Rattle.uploader.specs.State.{standing_of as notes_standing}
use Rattle.uploader.specs.Begun.TheVariants as begun
use Rattle.uploader.specs.declared.stop.SendStop.TheVariants as stop
use Rattle.turn_loop.specs.declared.stop.NodeStop.TheVariants as node
use Rattle.uploader.specs.OnDisk.{EndsExactly, RefusesNotes}
use Rattle.pacsat_cli.specs.declared.status.Status.TheVariants as status
use Rattle.pacsat_cli.proofs.Names.{err_from_is_err_and, codes, Option, None, Some, IfSome, IsTrue, Result, Ok, Err, IsErrAnd, IsErrOf, MatchResult, ⊤, Rose, Holding, NotesCommand, Lists, Begun, NotesRefusal, Outcome, SendStop, FileSum, ClientTerms, Sent, Lent, Seen, Asked, Carries, IsUnrecovered, FetchEnds, KeepsBy, file_asked, ListEnds, ShowsBy, files_asked, IsUnfit, sum_of, EndsAtStart, IsUnloaded, IsUnnoted, IsUnstarted, SendEnds, first_command, last_answer, stop_of_start, turned, AsksClient, AsksFetch, AsksList, AsksSend, numbered_line, Status, Closes, FetchRan, ListRan, SendRan, outside, HasStatusCause, HasDiskCause, HasReadCause, HasWriteCause, MayPassOver, RefusesExactly, is_of_file, may_have_outcome, status_of_end, status_of_stop}
use Rattle.pacsat_cli.proofs.ClientStops.{AirBy, StatusBy, air-along, air-carried, air-free, air-stayed, client-status, done-ok, fault-carried, fault-not_air, is_carried, is_client_status, is_of_air, is_out, node-carried, past-file, start-not_air, start-not_out, stop-back, stop_of_status, stopped-by}

-- the lines of a file that is sent and of one that is fetched
abbrev pub acked_line : Sent → List ℕ
acked_line sent = numbered_line (codes "acked ") sent.number

abbrev pub fetched_line : ℕ → List ℕ
fetched_line number = numbered_line (codes "fetched ") number

-- ---- the status

out-stop : (why : SendStop) → status_of_stop why ≡ status.Out → why ≡ stop.Out
out-stop why is =
    let back : Some why ≡ Some stop.Out = sym (stop-back why) ∙ ap stop_of_status is in cc

module _ {O T : Type 0} (o : OutGhosts O) (line : T → List ℕ) (before now : O) where
  pub closes-status : (ended : Result T SendStop) (s : Status) → Closes o line before now ended s → StatusBy ended s
  closes-status (Ok value) s h = record {
    stopped = λ why e. absurd (cc);
    done = λ _ _. elim h [ inl all ↦ inl all.0 | inr front ↦ inr front.0 ];
  }
  closes-status (Err other) s h = record {
    stopped = λ why e. (let same : other ≡ why = cc in h.0 ∙ ap status_of_stop same);
    done = λ value e. absurd (cc);
  }

  -- a status Out is of a line that couldn't be put
  pub closes-out : (ended : Result T SendStop) (s : Status) → Closes o line before now ended s → (ended ≡ Err stop.Out → ⊥) → s ≡ status.Out → Rose (o.faults before) (o.faults now)
  closes-out (Ok value) s h isnt out = elim h [ inl all ↦ absurd (let e = sym all.0 ∙ out in cc) | inr front ↦ front.2 ]
  closes-out (Err why) s h isnt out = absurd (isnt (ap Err (out-stop why (sym h.0 ∙ out))))

  -- and where it is done the line was put
  pub closes-done : (ended : Result T SendStop) (s : Status) → Closes o line before now ended s → s ≡ status.Done → o.faults now ≡ o.faults before
  closes-done (Ok value) s h done = elim h [ inl all ↦ all.2 | inr front ↦ absurd (let e = sym front.0 ∙ done in cc) ]
  closes-done (Err why) s h done = ap o.faults h.1

-- the status of a list is Out where a line of it couldn't be put
pub list-out : {T : Type 0} (ended : Result T SendStop) (s : Status) → s ≡ status_of_end ended → s ≡ status.Out → ended ≡ Err stop.Out
list-out (Ok value) s is out = absurd (let both = sym is ∙ out in cc)
list-out (Err why) s is out = ap Err (out-stop why (sym is ∙ out))

pub end-status : {T : Type 0} (ended : Result T SendStop) (s : Status) → s ≡ status_of_end ended → StatusBy ended s
end-status (Ok value) s is = record { stopped = λ why e. absurd (cc); done = λ _ _. inl is }
end-status (Err other) s is = record {
  stopped = λ why e. (let same : other ≡ why = cc in is ∙ ap status_of_stop same);
  done = λ value e. absurd (cc);
}

-- ---- the stops that each command has

module _ {A C D : Type 0} (see : Seen D A C) (old new : Lent D A C) where
  -- a job that was carried out
  carries-air : {asked : Asked} {came : Result Outcome SendStop} → Carries see old new asked came → AirBy (see.air.read_faults old.air) (see.air.read_faults new.air) (see.air.write_faults old.air) (see.air.write_faults new.air) came
  carries-air {came = came} h =
      let P : Result Outcome SendStop → Type 0 = λ r. AirBy (see.air.read_faults old.air) (see.air.read_faults new.air) (see.air.write_faults old.air) (see.air.write_faults new.air) r in
      subst P (sym h.answer) (air-carried _ _ _ _ h.run.ended h.run.reached h.air.reads h.air.writes)

  pub carries-kind : {asked : Asked} {came : Result Outcome SendStop} → Carries see old new asked came → (why : SendStop) → came ≡ Err why → is_carried why ≡ true
  carries-kind h why e = node-carried _ _ h.run.ended h.run.reached why h.ran.ends (sym h.answer ∙ e)

  -- notes that weren't recovered
  unrecovered-air : {T : Type 0} (ended : Result T SendStop) → IsErrAnd ended (IsUnrecovered see.disk old new) → AirBy (see.air.read_faults old.air) (see.air.read_faults new.air) (see.air.write_faults old.air) (see.air.write_faults new.air) ended
  unrecovered-air (Ok value) h = absurd h
  unrecovered-air (Err other) h =
      air-stayed _ _ _ _ (Err other) (ap see.air.read_faults h.air) (ap see.air.write_faults h.air)
      (λ why e. let same : why ≡ other = cc in ap is_of_air (same ∙ h.why_is) ∙ fault-not_air h.fault)

  unrecovered-kind : {T : Type 0} (ended : Result T SendStop) → IsErrAnd ended (IsUnrecovered see.disk old new) → (why : SendStop) → ended ≡ Err why → is_carried why ≡ true
  unrecovered-kind (Ok value) h why e = absurd h
  unrecovered-kind (Err other) h why e = let same : why ≡ other = cc in ap is_carried (same ∙ h.why_is) ∙ fault-carried h.fault

-- the end of a command that is the one of its job, but where that came to its outcome
pub match-err : {T U : Type 0} (ended : Result T SendStop) (P : T → Type 0) (came : Result U SendStop) → MatchResult ended P (λ why. came ≡ Err why) → (why : SendStop) → ended ≡ Err why → came ≡ Err why
match-err (Ok value) P came h why e = absurd (cc)
match-err (Err other) P came h why e = h ∙ sym (ap Err (let same : why ≡ other = cc in same))

-- what is kept, or shown, may fail behind the outcome
pub keeps-along : {S : Type 0} (held : S → Option Holding) (shelf shelf_now : S) (name octets : List ℕ) (came : Result Outcome SendStop) (ended : Result ⊤ SendStop) → KeepsBy held shelf shelf_now name octets came ended → (why : SendStop) → ended ≡ Err why → (came ≡ Err why) ⊎ (why ≡ stop.Shelf)
keeps-along held shelf shelf_now name octets (Ok reached) (Ok value) h why e = absurd (cc)
keeps-along held shelf shelf_now name octets (Ok reached) (Err other) h why e = inr (let same : why ≡ other = cc in same ∙ h.0)
keeps-along held shelf shelf_now name octets (Err other) ended h why e = inl (ap Err (let both = sym h.0 ∙ e in cc))

pub shows-along : {O : Type 0} (shown : O → Option (List ℕ)) (out out_now : O) (listing : List ℕ) (came : Result Outcome SendStop) (ended : Result ⊤ SendStop) → ShowsBy shown out out_now listing came ended → (why : SendStop) → ended ≡ Err why → (came ≡ Err why) ⊎ (why ≡ stop.Out)
shows-along shown out out_now listing (Ok reached) (Ok value) h why e = absurd (cc)
shows-along shown out out_now listing (Ok reached) (Err other) h why e = inr (let same : why ≡ other = cc in same ∙ h.0)
shows-along shown out out_now listing (Err other) ended h why e = inl (ap Err (let both = sym h.0 ∙ e in cc))

-- a stop that is handed on
err-along : {T : Type 0} (other : SendStop) (ended : Result T SendStop) → ended ≡ Err other → (why : SendStop) → ended ≡ Err why → other ≡ why
err-along other ended is why e = let both = sym is ∙ e in cc

-- the shelf's content of the name, the shelf, or want of memory
unfit-kind : (held : Option Holding) (name : List ℕ) (why : SendStop) → IsUnfit held name why → (is_of_air why ≡ false) × (is_out why ≡ false)
unfit-kind held name stop.NoSuch h = (refl, refl)
unfit-kind held name stop.TooLong h = (refl, refl)
unfit-kind held name (stop.BadFile code) h = (refl, refl)
unfit-kind held name stop.Shelf h = (refl, refl)
unfit-kind held name stop.OutOfMemory h = (refl, refl)
unfit-kind held name (stop.Refused code) h = absurd h
unfit-kind held name stop.AirRead h = absurd h
unfit-kind held name stop.AirWrite h = absurd h
unfit-kind held name stop.Disk h = absurd h
unfit-kind held name (stop.Changed kept given) h = absurd h
unfit-kind held name (stop.NotAStore found) h = absurd h
unfit-kind held name (stop.Damaged at) h = absurd h
unfit-kind held name stop.Spent h = absurd h
unfit-kind held name stop.Out h = absurd h
unfit-kind held name stop.LinkDown h = absurd h
unfit-kind held name (stop.Strange kind) h = absurd h
unfit-kind held name stop.NotesFull h = absurd h

unnoted-kind : (lists : Lists) (command : NotesCommand) (why : SendStop) (cut : List NotesCommand) → IsUnnoted lists command why cut → (is_of_air why ≡ false) × (is_out why ≡ false)
unnoted-kind lists command stop.NotesFull cut h = (refl, refl)
unnoted-kind lists command stop.Disk cut h = (refl, refl)
unnoted-kind lists command stop.OutOfMemory cut h = (refl, refl)
unnoted-kind lists command stop.NoSuch cut h = absurd h
unnoted-kind lists command stop.TooLong cut h = absurd h
unnoted-kind lists command (stop.BadFile code) cut h = absurd h
unnoted-kind lists command stop.Shelf cut h = absurd h
unnoted-kind lists command (stop.Refused code) cut h = absurd h
unnoted-kind lists command stop.AirRead cut h = absurd h
unnoted-kind lists command stop.AirWrite cut h = absurd h
unnoted-kind lists command (stop.Changed kept given) cut h = absurd h
unnoted-kind lists command (stop.NotAStore found) cut h = absurd h
unnoted-kind lists command (stop.Damaged at) cut h = absurd h
unnoted-kind lists command stop.Spent cut h = absurd h
unnoted-kind lists command stop.Out cut h = absurd h
unnoted-kind lists command stop.LinkDown cut h = absurd h
unnoted-kind lists command (stop.Strange kind) cut h = absurd h

-- so much of a stop that is one of these
kind-of : {T : Type 0} (ended : Result T SendStop) (P : SendStop → Type 0) → ((why : SendStop) → P why → (is_of_air why ≡ false) × (is_out why ≡ false)) → IsErrAnd ended P → (why : SendStop) → ended ≡ Err why → (is_of_air why ≡ false) × (is_out why ≡ false)
kind-of (Ok value) P f h why e = absurd h
kind-of (Err other) P f h why e =
    let same : why ≡ other = cc in
    let kind = f other h in
    (ap is_of_air same ∙ kind.0, ap is_out same ∙ kind.1)

start-kind : (lists : Lists) (command : NotesCommand) (sum : FileSum) (last : Result (Option Begun) NotesRefusal) (ended : Result Sent SendStop) (cut : List NotesCommand) → EndsAtStart lists command sum last ended cut → (why : SendStop) → ended ≡ Err why → (is_of_air why ≡ false) × (is_out why ≡ false)
start-kind lists command sum (Ok None) ended cut h = kind-of ended (λ why. IsUnnoted lists command why cut) (λ why. unnoted-kind lists command why cut) h
start-kind lists command sum (Ok (Some (begun.Already number))) ended cut h = λ why e. absurd (let both = sym h.0 ∙ e in cc)
start-kind lists command sum (Ok (Some (begun.Fresh task))) ended cut h = absurd h
start-kind lists command sum (Ok (Some (begun.Going task number))) ended cut h = absurd h
start-kind lists command sum (Err refused) ended cut h = λ why e.
    let same : why ≡ stop_of_start sum refused = (let both = sym e ∙ h.0 in cc) in
    (ap is_of_air same ∙ start-not_air sum refused, ap is_out same ∙ start-not_out sum refused)

-- a stop of a job isn't by the output
carried-not_out : (why : SendStop) → is_carried why ≡ true → why ≡ stop.Out → ⊥
carried-not_out why carried is = let same = ap is_carried is in cc

carried-not_shelf : (why : SendStop) → is_carried why ≡ true → why ≡ stop.Shelf → ⊥
carried-not_shelf why carried is = let same = ap is_carried is in cc

-- ---- the air, by how each command ended

module _ {A C D : Type 0} (see : Seen D A C) (old new : Lent D A C) (terms : ClientTerms) where
  untouched-air : {T : Type 0} (ended : Result T SendStop) → new ≡ old → ((why : SendStop) → ended ≡ Err why → is_of_air why ≡ false) → AirBy (see.air.read_faults old.air) (see.air.read_faults new.air) (see.air.write_faults old.air) (see.air.write_faults new.air) ended
  untouched-air ended same isnt =
      air-stayed _ _ _ _ ended (ap (λ (x : Lent D A C). see.air.read_faults x.air) same) (ap (λ (x : Lent D A C). see.air.write_faults x.air) same) isnt

  unloaded-air : (held : Option Holding) (name : List ℕ) (ended : Result Sent SendStop) → IsErrAnd ended (IsUnloaded old new held name) → AirBy (see.air.read_faults old.air) (see.air.read_faults new.air) (see.air.write_faults old.air) (see.air.write_faults new.air) ended
  unloaded-air held name (Ok sent) h = absurd h
  unloaded-air held name (Err other) h =
      untouched-air (Err other) h.untouched (λ why e. let same : why ≡ other = cc in ap is_of_air same ∙ (unfit-kind held name other h.cause).0)

  -- a file that wasn't loaded, or a task that wasn't started
  unloaded-kind : (held : Option Holding) (name : List ℕ) (ended : Result Sent SendStop) → IsErrAnd ended (IsUnloaded old new held name) → (why : SendStop) → ended ≡ Err why → (is_of_air why ≡ false) × (is_out why ≡ false)
  unloaded-kind held name ended h = kind-of ended (IsUnloaded old new held name) (λ why u. unfit-kind held name why u.cause) h

  start-of : (name file : List ℕ) (ended : Result Sent SendStop) → IsUnstarted see.disk old new terms name file ended → (why : SendStop) → ended ≡ Err why → (is_of_air why ≡ false) × (is_out why ≡ false)
  start-of name file ended h =
      start-kind h.start (first_command terms h.start name (sum_of file)) (sum_of file) (last_answer terms h.start name (sum_of file)) ended h.cut h.ends

  pub send-air : (held : Option Holding) (name : List ℕ) (ended : Result Sent SendStop) → SendEnds see old new held terms name ended → AirBy (see.air.read_faults old.air) (see.air.read_faults new.air) (see.air.write_faults old.air) (see.air.write_faults new.air) ended
  send-air held name ended (inl h) = unloaded-air held name ended h
  send-air held name ended (inr h) = elim h.ends [
    | inl unrecovered ↦ unrecovered-air see old new ended unrecovered
    | inr begun ↦ elim begun [
      | inl start ↦
          air-stayed _ _ _ _ ended (ap see.air.read_faults start.air) (ap see.air.write_faults start.air)
          (λ why e. (start-of name h.file ended start why e).0)
      | inr uploads ↦ air-along _ _ _ _ uploads.came ended (match-err ended _ uploads.came uploads.answer) (carries-air see old new uploads.carries)
    ]
  ]

  -- and `send` isn't stopped by the output
  pub send-not_out : (held : Option Holding) (name : List ℕ) (ended : Result Sent SendStop) → SendEnds see old new held terms name ended → ended ≡ Err stop.Out → ⊥
  send-not_out held name ended (inl h) e = (let no = (unloaded-kind held name ended h stop.Out e).1 in cc)
  send-not_out held name ended (inr h) e = elim h.ends [
    | inl unrecovered ↦ carried-not_out stop.Out (unrecovered-kind see old new ended unrecovered stop.Out e) refl
    | inr begun ↦ elim begun [
      | inl start ↦ (let no = (start-of name h.file ended start stop.Out e).1 in cc)
      | inr uploads ↦ carried-not_out stop.Out (carries-kind see old new uploads.carries stop.Out (match-err ended _ uploads.came uploads.answer stop.Out e)) refl
    ]
  ]

  -- what is fetched is kept, and that may fail behind the outcome
  keeps-air : {S : Type 0} (held : S → Option Holding) (shelf shelf_now : S) (name octets : List ℕ) (came : Result Outcome SendStop) (ended : Result ⊤ SendStop) → KeepsBy held shelf shelf_now name octets came ended → AirBy (see.air.read_faults old.air) (see.air.read_faults new.air) (see.air.write_faults old.air) (see.air.write_faults new.air) came → AirBy (see.air.read_faults old.air) (see.air.read_faults new.air) (see.air.write_faults old.air) (see.air.write_faults new.air) ended
  keeps-air held shelf shelf_now name octets (Ok reached) (Ok value) h a = air-free _ _ _ _ (Ok value) (λ why e. absurd (cc))
  keeps-air held shelf shelf_now name octets (Ok reached) (Err other) h a =
      air-free _ _ _ _ (Err other)
      (λ why e. let same : why ≡ stop.Shelf = (let both : why ≡ other = cc in both ∙ h.0) in (ap (λ (w : SendStop). may_have_outcome (status_of_stop w)) same, ap is_of_air same))
  keeps-air held shelf shelf_now name octets (Err other) ended h a = air-along _ _ _ _ (Err other) ended (λ why e. ap Err (err-along other ended h.0 why e)) a

  keeps-kind : {S : Type 0} (held : S → Option Holding) (shelf shelf_now : S) (name octets : List ℕ) (came : Result Outcome SendStop) (ended : Result ⊤ SendStop) → KeepsBy held shelf shelf_now name octets came ended → ((why : SendStop) → came ≡ Err why → is_carried why ≡ true) → ended ≡ Err stop.Out → ⊥
  keeps-kind held shelf shelf_now name octets (Ok reached) (Ok value) h a e = cc
  keeps-kind held shelf shelf_now name octets (Ok reached) (Err other) h a e = (let same : other ≡ stop.Out = cc in let both = sym h.0 ∙ same in cc)
  keeps-kind held shelf shelf_now name octets (Err other) ended h a e = carried-not_out stop.Out (a stop.Out (ap Err (err-along other ended h.0 stop.Out e))) refl

  pub fetch-air : {S : Type 0} (held : S → Option Holding) (shelf shelf_now : S) (number : ℕ) (name : List ℕ) (ended : Result ⊤ SendStop) → FetchEnds see held old new shelf shelf_now (file_asked terms number name) ended → AirBy (see.air.read_faults old.air) (see.air.read_faults new.air) (see.air.write_faults old.air) (see.air.write_faults new.air) ended
  fetch-air held shelf shelf_now number name ended (inl h) = unrecovered-air see old new ended h.0
  fetch-air held shelf shelf_now number name ended (inr h) = keeps-air held shelf shelf_now name h.octets h.came ended h.keeps (carries-air see old new h.carries)

  pub fetch-not_out : {S : Type 0} (held : S → Option Holding) (shelf shelf_now : S) (number : ℕ) (name : List ℕ) (ended : Result ⊤ SendStop) → FetchEnds see held old new shelf shelf_now (file_asked terms number name) ended → ended ≡ Err stop.Out → ⊥
  fetch-not_out held shelf shelf_now number name ended (inl h) e = carried-not_out stop.Out (unrecovered-kind see old new ended h.0 stop.Out e) refl
  fetch-not_out held shelf shelf_now number name ended (inr h) e = keeps-kind held shelf shelf_now name h.octets h.came ended h.keeps (carries-kind see old new h.carries) e

  -- what is listed is shown, and that may fail behind the outcome
  shows-air : {O : Type 0} (shown : O → Option (List ℕ)) (out out_now : O) (listing : List ℕ) (came : Result Outcome SendStop) (ended : Result ⊤ SendStop) → ShowsBy shown out out_now listing came ended → AirBy (see.air.read_faults old.air) (see.air.read_faults new.air) (see.air.write_faults old.air) (see.air.write_faults new.air) came → AirBy (see.air.read_faults old.air) (see.air.read_faults new.air) (see.air.write_faults old.air) (see.air.write_faults new.air) ended
  shows-air shown out out_now listing (Ok reached) (Ok value) h a = air-free _ _ _ _ (Ok value) (λ why e. absurd (cc))
  shows-air shown out out_now listing (Ok reached) (Err other) h a =
      air-free _ _ _ _ (Err other)
      (λ why e. let same : why ≡ stop.Out = (let both : why ≡ other = cc in both ∙ h.0) in (ap (λ (w : SendStop). may_have_outcome (status_of_stop w)) same, ap is_of_air same))
  shows-air shown out out_now listing (Err other) ended h a = air-along _ _ _ _ (Err other) ended (λ why e. ap Err (err-along other ended h.0 why e)) a

  shows-kind : {O : Type 0} (shown : O → Option (List ℕ)) (out out_now : O) (listing : List ℕ) (came : Result Outcome SendStop) (ended : Result ⊤ SendStop) → ShowsBy shown out out_now listing came ended → ((why : SendStop) → came ≡ Err why → is_carried why ≡ true) → ended ≡ Err stop.Shelf → ⊥
  shows-kind shown out out_now listing (Ok reached) (Ok value) h a e = cc
  shows-kind shown out out_now listing (Ok reached) (Err other) h a e = (let same : other ≡ stop.Shelf = cc in let both = sym h.0 ∙ same in cc)
  shows-kind shown out out_now listing (Err other) ended h a e = carried-not_shelf stop.Shelf (a stop.Shelf (ap Err (err-along other ended h.0 stop.Shelf e))) refl

  pub list-air : {O : Type 0} (shown : O → Option (List ℕ)) (out out_now : O) (tokens : List ℕ) (ended : Result ⊤ SendStop) → ListEnds see shown old new out out_now (files_asked terms tokens) ended → AirBy (see.air.read_faults old.air) (see.air.read_faults new.air) (see.air.write_faults old.air) (see.air.write_faults new.air) ended
  list-air shown out out_now tokens ended (inl h) = unrecovered-air see old new ended h.0
  list-air shown out out_now tokens ended (inr h) = shows-air shown out out_now h.carries.listing h.came ended h.shows (carries-air see old new h.carries)

  -- and `list` isn't stopped by the shelf
  pub list-not_shelf : {O : Type 0} (shown : O → Option (List ℕ)) (out out_now : O) (tokens : List ℕ) (ended : Result ⊤ SendStop) → ListEnds see shown old new out out_now (files_asked terms tokens) ended → ended ≡ Err stop.Shelf → ⊥
  list-not_shelf shown out out_now tokens ended (inl h) e = carried-not_shelf stop.Shelf (unrecovered-kind see old new ended h.0 stop.Shelf e) refl
  list-not_shelf shown out out_now tokens ended (inr h) e = shows-kind shown out out_now h.carries.listing h.came ended h.shows (carries-kind see old new h.carries) e

-- ---- the disk, by how each command ended

-- A write or a sync failed; or a read, before anything was heard or said.
abbrev FailedDisk : {A C D : Type 0} → Seen D A C → Lent D A C → Lent D A C → Type 0
FailedDisk see old new =
    Rose (see.disk.write_faults old.disk) (see.disk.write_faults new.disk) ⊎ (Rose (see.disk.read_faults old.disk) (see.disk.read_faults new.disk) × (new.air ≡ old.air))

module _ {A C D : Type 0} (see : Seen D A C) (old new : Lent D A C) where
  -- behind the recovery it is a write or a sync
  carries-disk : {asked : Asked} {came : Result Outcome SendStop} → Carries see old new asked came → came ≡ Err stop.Disk → FailedDisk see old new
  carries-disk h e = inl (h.counts.writes.rose (turned h.run.ended h.run.reached node.Disk (sym h.answer ∙ e)))

  -- in the recovery nothing was heard or said
  unrecovered-disk : {T : Type 0} (ended : Result T SendStop) → Runs see.disk (IsErrOf ended stop.Disk) old.disk new.disk → IsErrAnd ended (IsUnrecovered see.disk old new) → ended ≡ Err stop.Disk → FailedDisk see old new
  unrecovered-disk ended runs h e =
      elim (runs.faults.rose e) [ inl reads ↦ inr (reads, (err_from_is_err_and ended h).2.air) | inr writes ↦ inl writes ]

  module _ (terms : ClientTerms) where
    send-disk : (held : Option Holding) (name : List ℕ) (ended : Result Sent SendStop) → Runs see.disk (IsErrOf ended stop.Disk) old.disk new.disk → SendEnds see old new held terms name ended → ended ≡ Err stop.Disk → FailedDisk see old new
    send-disk held name ended runs (inl h) e =
        let u = err_from_is_err_and ended h in
        let same : u.0 ≡ stop.Disk = (let both = sym u.1 ∙ e in cc) in
        absurd (subst (λ (why : SendStop). IsUnfit held name why) same u.2.cause)
    send-disk held name ended runs (inr h) e = elim h.ends [
      | inl unrecovered ↦ unrecovered-disk ended runs unrecovered e
      | inr begun ↦ elim begun [
        | inl start ↦ inl (start.counts.writes.rose e)
        | inr up ↦ carries-disk up.carries (match-err ended _ up.came up.answer stop.Disk e)
      ]
    ]

    fetch-disk : {S : Type 0} (held : S → Option Holding) (shelf shelf_now : S) (number : ℕ) (name : List ℕ) (ended : Result ⊤ SendStop) → Runs see.disk (IsErrOf ended stop.Disk) old.disk new.disk
        → FetchEnds see held old new shelf shelf_now (file_asked terms number name) ended → ended ≡ Err stop.Disk → FailedDisk see old new
    fetch-disk held shelf shelf_now number name ended runs (inl h) e = unrecovered-disk ended runs h.0 e
    fetch-disk held shelf shelf_now number name ended runs (inr h) e =
        elim (keeps-along held shelf shelf_now name h.octets h.came ended h.keeps stop.Disk e) [ inl same ↦ carries-disk h.carries same | inr other ↦ absurd (cc other) ]

    list-disk : {O : Type 0} (shown : O → Option (List ℕ)) (out out_now : O) (tokens : List ℕ) (ended : Result ⊤ SendStop) → Runs see.disk (IsErrOf ended stop.Disk) old.disk new.disk
        → ListEnds see shown old new out out_now (files_asked terms tokens) ended → ended ≡ Err stop.Disk → FailedDisk see old new
    list-disk shown out out_now tokens ended runs (inl h) e = unrecovered-disk ended runs h.0 e
    list-disk shown out out_now tokens ended runs (inr h) e =
        elim (shows-along shown out out_now h.carries.listing h.came ended h.shows stop.Disk e) [ inl same ↦ carries-disk h.carries same | inr other ↦ absurd (cc other) ]

-- ---- what the clauses of a run say of any of the three

module _ {A C D T : Type 0} (see : Seen D A C) (old new : Lent D A C) (words : List (List ℕ)) (client : AsksClient words) (ended : Result T SendStop) (s : Status) (is : StatusBy ended s) where
  -- where the air stayed but for a failed poll
  stayed :
      (before now : ℕ) (of_air : Status) (stopped : SendStop)
      → ((why : SendStop) → ended ≡ Err why → (why ≡ stopped → ⊥) → may_have_outcome (status_of_stop why) ≡ false → now ≡ before)
      → status_of_stop stopped ≡ of_air → (s ≡ of_air → ⊥) → (MayPassOver words s → ⊥) → now ≡ before
  stayed before now of_air stopped same of_stop isnt pass = by_end ended refl
    where
      over : (b : Bool) (why : SendStop) → may_have_outcome (status_of_stop why) ≡ b → ended ≡ Err why → now ≡ before
      over true why may e = absurd (pass (client, ap may_have_outcome (is.stopped why e) ∙ may))
      over false why may e = same why e (λ it. isnt (is.stopped why e ∙ ap status_of_stop it ∙ of_stop)) may

      by_end : (r : Result T SendStop) → ended ≡ r → now ≡ before
      by_end (Ok value) e = absurd (elim (is.done value e) [ inl done ↦ pass (client, ap may_have_outcome done) | inr out ↦ pass (client, ap may_have_outcome out) ])
      by_end (Err why) e = over (may_have_outcome (status_of_stop why)) why refl e

  module _ (reads reads_now writes writes_now : ℕ) (h : AirBy reads reads_now writes writes_now ended) where
    pub client-read : HasReadCause words reads reads_now s
    client-read = record {
      rose = λ e. h.rose_read (stopped-by ended s is stop.AirRead refl e);
      same = λ isnt pass. stayed reads reads_now status.AirRead stop.AirRead h.same_read refl isnt pass;
    }

    pub client-write : HasWriteCause words writes writes_now s
    client-write = record {
      rose = λ e. h.rose_write (stopped-by ended s is stop.AirWrite refl e);
      same = λ isnt _ _ pass. stayed writes writes_now status.AirWrite stop.AirWrite h.same_write refl isnt pass;
    }

  pub client-disk : Runs see.disk (IsErrOf ended stop.Disk) old.disk new.disk → (ended ≡ Err stop.Disk → FailedDisk see old new) → HasDiskCause words see.disk.read_faults see.disk.write_faults old.disk new.disk old.air new.air s
  client-disk runs failed = record {
    asked = λ _. inr client;
    rose = λ e. failed (stopped-by ended s is stop.Disk refl e);
    same = λ isnt. (runs.faults.same (λ failed. isnt (is.stopped stop.Disk failed))).1;
    same_reads = λ isnt _. (runs.faults.same (λ failed. isnt (is.stopped stop.Disk failed))).0;
    no_less = (runs.faults.reads, runs.faults.writes);
  }

  -- each refusal of the notes, by what the content stands for
  exact-of : (octets : List ℕ) → EndsExactly octets ended → RefusesExactly (notes_standing octets) s
  exact-of octets h = record {
    not_a_store = λ found. (
      λ e. (h.not_a_store found).0 (stopped-by ended s is (stop.NotAStore found) refl e),
      λ stands. is.stopped (stop.NotAStore found) ((h.not_a_store found).1 stands),
    );
    damaged = λ at. (
      λ e. (h.damaged at).0 (stopped-by ended s is (stop.Damaged at) refl e),
      λ stands. is.stopped (stop.Damaged at) ((h.damaged at).1 stands),
    );
  }

  exact-told : (content : Option (List ℕ)) → IfSome content (λ octets. EndsExactly octets ended) → IfSome content (λ octets. RefusesExactly (notes_standing octets) s)
  exact-told None h = tt
  exact-told (Some octets) h = exact-of octets h

  pub client-exact : (content : Option (List ℕ)) → RefusesNotes content ended → (s ≡ status.Disk → ⊥) → (s ≡ status.OutOfMemory → ⊥) → IfSome content (λ octets. RefusesExactly (notes_standing octets) s)
  client-exact content h disk_not memory_not =
      exact-told content (h (λ failed. disk_not (is.stopped stop.Disk failed)) (λ none. memory_not (is.stopped stop.OutOfMemory none)))

  -- the shelf
  pub client-shelf : (before now : ℕ) → (IsErrOf ended stop.Shelf → Rose before now) → (¬ IsErrOf ended stop.Shelf → now ≡ before) → HasStatusCause status.Shelf before now s
  client-shelf before now rose same = record {
    rose = λ e. rose (stopped-by ended s is stop.Shelf refl e);
    same = λ isnt. same (λ failed. isnt (is.stopped stop.Shelf failed));
  }

-- What a client's command did to its counts, its disk's content and its output.
pub record ClientDid {A C D S O : Type 0} (see : Seen D A C) (sh : ShelfGhosts S) (o : OutGhosts O) (old new : Lent D A C) (shelf shelf_now : S) (out mid : O) (words : List (List ℕ)) (s : Status) : Type 0 where
  pub kind : is_client_status s ≡ true
  pub read : HasReadCause words (see.air.read_faults old.air) (see.air.read_faults new.air) s
  pub write : HasWriteCause words (see.air.write_faults old.air) (see.air.write_faults new.air) s
  pub disk : HasDiskCause words see.disk.read_faults see.disk.write_faults old.disk new.disk old.air new.air s
  pub of_shelf : HasStatusCause status.Shelf (sh.faults shelf) (sh.faults shelf_now) s
  pub exact : (s ≡ status.Disk → ⊥) → (s ≡ status.OutOfMemory → ⊥) → (AsksSend words → IsTrue (is_of_file s) → ⊥) → IfSome (see.disk.content old.disk) (λ octets. RefusesExactly (notes_standing octets) s)
  pub out_rose : s ≡ status.Out → Rose (o.faults out) (o.faults mid)
  pub out_same : s ≡ status.Done → o.faults mid ≡ o.faults out

module _ {A C D S O : Type 0} (see : Seen D A C) (sh : ShelfGhosts S) (o : OutGhosts O) (old new : Lent D A C) (shelf shelf_now : S) (out mid : O) (words : List (List ℕ)) (s : Status) (terms : ClientTerms) where
  pub send-did : (name : List ℕ) → AsksSend words → SendRan see sh o (outside old shelf out) (outside new shelf_now mid) terms name s → ClientDid see sh o old new shelf shelf_now out mid words s
  send-did name asks h =
      let is = closes-status o acked_line out mid h.ended s h.closes in
      let by_air = send-air see old new terms (sh.held shelf) name h.ended h.ends in
      let client : AsksClient words = inl asks in
      record {
        kind = client-status h.ended s is;
        read = client-read see old new words client h.ended s is _ _ _ _ by_air;
        write = client-write see old new words client h.ended s is _ _ _ _ by_air;
        disk = client-disk see old new words client h.ended s is h.causes.runs (send-disk see old new terms (sh.held shelf) name h.ended h.causes.runs h.ends);
        of_shelf = client-shelf see old new words client h.ended s is _ _ h.of_shelf.rose h.of_shelf.same;
        exact = λ disk_not memory_not file_not.
            client-exact see old new words client h.ended s is (see.disk.content old.disk) (h.notes (past-file h.ended s is (file_not asks))) disk_not memory_not;
        out_rose = closes-out o acked_line out mid h.ended s h.closes (send-not_out see old new terms (sh.held shelf) name h.ended h.ends);
        out_same = closes-done o acked_line out mid h.ended s h.closes;
      }

  pub fetch-did : (number : ℕ) (name : List ℕ) → AsksFetch words → FetchRan see sh o (outside old shelf out) (outside new shelf_now mid) (file_asked terms number name) s → ClientDid see sh o old new shelf shelf_now out mid words s
  fetch-did number name asks h =
      let line : ⊤ → List ℕ = λ _. fetched_line number in
      let is = closes-status o line out mid h.ended s h.closes in
      let by_air = fetch-air see old new terms sh.held shelf shelf_now number name h.ended h.ends in
      let client : AsksClient words = inr (inl asks) in
      record {
        kind = client-status h.ended s is;
        read = client-read see old new words client h.ended s is _ _ _ _ by_air;
        write = client-write see old new words client h.ended s is _ _ _ _ by_air;
        disk = client-disk see old new words client h.ended s is h.causes.runs (fetch-disk see old new terms sh.held shelf shelf_now number name h.ended h.causes.runs h.ends);
        of_shelf = client-shelf see old new words client h.ended s is _ _ h.of_shelf.rose h.of_shelf.same;
        exact = λ disk_not memory_not _. client-exact see old new words client h.ended s is (see.disk.content old.disk) h.notes disk_not memory_not;
        out_rose = closes-out o line out mid h.ended s h.closes (fetch-not_out see old new terms sh.held shelf shelf_now number name h.ended h.ends);
        out_same = closes-done o line out mid h.ended s h.closes;
      }

  pub list-did : (tokens : List ℕ) → AsksList words → shelf_now ≡ shelf → ListRan see o old new out mid (files_asked terms tokens) s → ClientDid see sh o old new shelf shelf_now out mid words s
  list-did tokens asks stayed_shelf h =
      let is = end-status h.ended s h.status_is in
      let by_air = list-air see old new terms o.shown out mid tokens h.ended h.ends in
      let client : AsksClient words = inr (inr asks) in
      record {
        kind = client-status h.ended s is;
        read = client-read see old new words client h.ended s is _ _ _ _ by_air;
        write = client-write see old new words client h.ended s is _ _ _ _ by_air;
        disk = client-disk see old new words client h.ended s is h.causes.runs (list-disk see old new terms o.shown out mid tokens h.ended h.causes.runs h.ends);
        of_shelf = client-shelf see old new words client h.ended s is _ _ (λ e. absurd (list-not_shelf see old new terms o.shown out mid tokens h.ended h.ends e)) (λ _. ap sh.faults stayed_shelf);
        exact = λ disk_not memory_not _. client-exact see old new words client h.ended s is (see.disk.content old.disk) h.notes disk_not memory_not;
        out_rose = λ e. h.of_out.rose (list-out h.ended s h.status_is e);
        out_same = λ e. h.of_out.same (λ failed. done-ok h.ended s is e stop.Out failed);
      }

  -- want of memory for the words, or for the tokens of a list
  pub unread-did : s ≡ status.OutOfMemory → new ≡ old → shelf_now ≡ shelf → mid ≡ out → ClientDid see sh o old new shelf shelf_now out mid words s
  unread-did memory same same_shelf same_out = record {
    kind = ap is_client_status memory;
    read = record { rose = λ e. absurd (let other = sym memory ∙ e in cc); same = λ _ _. ap (λ (x : Lent D A C). see.air.read_faults x.air) same };
    write = record { rose = λ e. absurd (let other = sym memory ∙ e in cc); same = λ _ _ _ _. ap (λ (x : Lent D A C). see.air.write_faults x.air) same };
    disk =
        let stay_reads = ap (λ (x : Lent D A C). see.disk.read_faults x.disk) same in
        let stay_writes = ap (λ (x : Lent D A C). see.disk.write_faults x.disk) same in
        record {
          asked = λ e. absurd (let other = sym memory ∙ e in cc);
          rose = λ e. absurd (let other = sym memory ∙ e in cc);
          same = λ _. stay_writes;
          same_reads = λ _ _. stay_reads;
          no_less = (omega (arith, stay_reads), omega (arith, stay_writes));
        };
    of_shelf = record { rose = λ e. absurd (let other = sym memory ∙ e in cc); same = λ _. ap sh.faults same_shelf };
    exact = λ _ memory_not _. absurd (memory_not memory);
    out_rose = λ e. absurd (let other = sym memory ∙ e in cc);
    out_same = λ _. ap o.faults same_out;
  }
