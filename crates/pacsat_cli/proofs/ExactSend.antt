-- The status of `send`, exactly.
use Rattle.std.proofs.Common.{◌≡◌, ℕ, List, length, refl, ap, sym, subst, ◌∙◌, inl, inr, arith, true, false}
use Rattle.std.specs.Prelude.{◌⊎◌}
use Rattle.px_base.specs.declared.out.Out.{Ghosts as OutGhosts}
use Rattle.px_base.specs.declared.shelf.Shelf.{Ghosts as ShelfGhosts}
use Rattle.file_store.proofs.Offered.{told_weaker}
use Rattle.uploader.specs.Answers.{IsFull}
use Rattle.uploader.specs.Begun.TheVariants as begun
use Rattle.uploader.specs.NotesRefusal.TheVariants as refusal
use Rattle.ftl0_client.specs.Outcome.TheVariants as outcome
use Rattle.uploader.specs.declared.stop.SendStop.TheVariants as stop
use Rattle.command_words.specs.declared.terms.ClientTerms.{ClientTerms as AskedTerms}
use Rattle.pacsat_cli.specs.declared.status.Status.TheVariants as status
use Rattle.pacsat_cli.proofs.Names.{err_from_is_err_and, Option, None, Some, IfSome, Result, Ok, Err, MatchResult, Holding, content_of, OneRunLaw, Lent, Seen, fault_code, NotesCommand, Lists, Begun, NotesRefusal, StaysLaw, OneStepLaw, Outcome, SendStop, FileSum, ClientTerms, Sent, asked_of, ComesBy, IsLedTo, IsSendable, IsUnfit, sum_of, EndsAtStart, IsTaskFor, IsUnloaded, IsUnnoted, IsUnstarted, Uploads, first_command, last_answer, upload_of, led-law, IsOfTask, of_task, Status, RunsSend, SendRan, client_terms, outside, FileRefusedExactly, IsNoFault, SendEndsExactly, SendRefuses, SendStarts, SendTold, StartsExactly, UploadLed, status_of_stop}
use Rattle.pacsat_cli.proofs.ClientEnds.{carries-kind, closes-status, match-err, acked_line}
use Rattle.pacsat_cli.proofs.ClientStops.{StatusBy, is_carried, stopped-by}
use Rattle.pacsat_cli.proofs.ExactCarried.{recovered-start, unrecovered-never}
use Rattle.pacsat_cli.proofs.ExactJob.{EndsAs, at-disk, at-memory, at-out, at-shelf, comes-exactly, no-fault}

-- ---- a file that is told and may be sent stops nothing

unfit-never : (holding : Holding) (name file : List ℕ) → content_of holding name ≡ Some file → IsSendable file → (why : SendStop) → IsUnfit (Some holding) name why → (why ≡ stop.Shelf) ⊎ (why ≡ stop.OutOfMemory)
unfit-never holding name file there sendable stop.Shelf h = inl refl
unfit-never holding name file there sendable stop.OutOfMemory h = inr refl
unfit-never holding name file there sendable stop.NoSuch h = absurd (let both = sym there ∙ h in cc)
unfit-never holding name file there sendable stop.TooLong h =
    let same : h.0 ≡ file = (let both = sym h.1 ∙ there in cc) in
    let size : length h.0 ≡ length file = ap length same in
    absurd (omega (arith, size, h.2, sendable.most))
unfit-never holding name file there sendable (stop.BadFile code) h =
    let same : h.0 ≡ file = (let both = sym h.1 ∙ there in cc) in
    absurd (let both = sym sendable.faultless ∙ sym (ap fault_code same) ∙ h.3 in cc)
unfit-never holding name file there sendable (stop.Refused code) h = absurd h
unfit-never holding name file there sendable stop.AirRead h = absurd h
unfit-never holding name file there sendable stop.AirWrite h = absurd h
unfit-never holding name file there sendable stop.Disk h = absurd h
unfit-never holding name file there sendable (stop.Changed kept given) h = absurd h
unfit-never holding name file there sendable (stop.NotAStore found) h = absurd h
unfit-never holding name file there sendable (stop.Damaged at) h = absurd h
unfit-never holding name file there sendable stop.Spent h = absurd h
unfit-never holding name file there sendable stop.Out h = absurd h
unfit-never holding name file there sendable stop.LinkDown h = absurd h
unfit-never holding name file there sendable (stop.Strange kind) h = absurd h
unfit-never holding name file there sendable stop.NotesFull h = absurd h

-- ---- by the last task

-- which answers of the last task end the command so, and how each does
module _ (start : Lists) (command : NotesCommand) (sum : FileSum) (cut : List NotesCommand) where
  at-changed : (answer : Result (Option Begun) NotesRefusal) (kept given : FileSum) → IsOfTask answer → EndsAtStart start command sum answer (Err (stop.Changed kept given)) cut
      → (given ≡ sum) × (answer ≡ Err (refusal.Changed kept.length kept.digest))
  at-changed (Ok None) kept given of h = absurd h
  at-changed (Ok (Some (begun.Already number))) kept given of h = absurd (let x = h.0 in cc)
  at-changed (Ok (Some (begun.Fresh task))) kept given of h = absurd h
  at-changed (Ok (Some (begun.Going task number))) kept given of h = absurd h
  at-changed (Err (refusal.Changed size digest)) kept given of h =
      let x = h.0 in
      let mine : record { length = size; digest = digest } ≡ kept = cc in
      let same : given ≡ sum = cc in
      (same, ap (λ (k : FileSum). Err (refusal.Changed k.length k.digest)) mine)
  at-changed (Err refusal.Full) kept given of h = absurd of
  at-changed (Err refusal.Disk) kept given of h = absurd of
  at-changed (Err refusal.Failed) kept given of h = absurd of
  at-changed (Err refusal.OutOfMemory) kept given of h = absurd of

  at-full : (answer : Result (Option Begun) NotesRefusal) → IsOfTask answer → EndsAtStart start command sum answer (Err stop.NotesFull) cut → (answer ≡ Ok None) × IsFull start
  at-full (Ok None) of h = (refl, h.0)
  at-full (Ok (Some (begun.Already number))) of h = absurd (let x = h.0 in cc)
  at-full (Ok (Some (begun.Fresh task))) of h = absurd h
  at-full (Ok (Some (begun.Going task number))) of h = absurd h
  at-full (Err (refusal.Changed size digest)) of h = absurd (let x = h.0 in cc)
  at-full (Err refusal.Full) of h = absurd of
  at-full (Err refusal.Disk) of h = absurd of
  at-full (Err refusal.Failed) of h = absurd of
  at-full (Err refusal.OutOfMemory) of h = absurd of

  -- a fresh task isn't noted
  unnoted : (why : SendStop) → IsUnnoted start command why cut → ((why ≡ stop.NotesFull) × IsFull start) ⊎ ((why ≡ stop.Disk) ⊎ (why ≡ stop.OutOfMemory))
  unnoted stop.NotesFull h = inl (refl, h.0)
  unnoted stop.Disk h = inr (inl refl)
  unnoted stop.OutOfMemory h = inr (inr refl)
  unnoted stop.NoSuch h = absurd h
  unnoted stop.TooLong h = absurd h
  unnoted (stop.BadFile code) h = absurd h
  unnoted stop.Shelf h = absurd h
  unnoted (stop.Refused code) h = absurd h
  unnoted stop.AirRead h = absurd h
  unnoted stop.AirWrite h = absurd h
  unnoted (stop.Changed kept given) h = absurd h
  unnoted (stop.NotAStore found) h = absurd h
  unnoted (stop.Damaged at) h = absurd h
  unnoted stop.Spent h = absurd h
  unnoted stop.Out h = absurd h
  unnoted stop.LinkDown h = absurd h
  unnoted (stop.Strange kind) h = absurd h

-- a file has one task to be uploaded by
same-task :
    (terms : ClientTerms) (lists : Lists) (name : List ℕ) (sum : FileSum) (task other number another : ℕ) (first second : List NotesCommand) → IsTaskFor terms lists name sum task number first
    → IsTaskFor terms lists name sum other another second → (task ≡ other) × (number ≡ another) × (first ≡ second)
same-task terms lists name sum task other number another first second (inl h) (inl k) = (h.2 ∙ sym k.2, h.3 ∙ sym k.3, h.4 ∙ sym k.4)
same-task terms lists name sum task other number another first second (inl h) (inr k) = absurd (let both = sym h.0 ∙ k.0 in cc)
same-task terms lists name sum task other number another first second (inr h) (inl k) = absurd (let both = sym h.0 ∙ k.0 in cc)
same-task terms lists name sum task other number another first second (inr h) (inr k) =
    let both = sym h.0 ∙ k.0 in
    let one : task ≡ other = cc in
    let two : number ≡ another = cc in
    (one, two, h.1 ∙ sym k.1)

-- where the file was acknowledged the number is the one that came
match-ok : (ended : Result Sent SendStop) (came : Result Outcome SendStop) → MatchResult ended (λ sent. came ≡ Ok (outcome.Acked sent.number)) (λ why. came ≡ Err why) → (value : Sent) → ended ≡ Ok value
    → came ≡ Ok (outcome.Acked value.number)
match-ok (Ok sent) came h value e = (let same : sent ≡ value = cc in h ∙ ap (λ (v : Sent). Ok (outcome.Acked v.number)) same)
match-ok (Err why) came h value e = absurd (cc)

module _ {A C D S O : Type 0} (see : Seen D A C) (sh : ShelfGhosts S) (o : OutGhosts O) (words : List (List ℕ)) (old new : Lent D A C) (shelf shelf_now : S) (s : Status) where
  module _ (of : SendTold words see.disk sh old shelf) (fine : IsNoFault s) (mid out : O) (ran : SendRan see sh o (outside old shelf out) (outside new shelf_now mid) (client_terms of.asked) of.name s) where
    abbrev terms : ClientTerms
    terms = client_terms of.asked

    is : StatusBy ran.ended s
    is = closes-status o acked_line out mid ran.ended s ran.closes

    -- the file was loaded, and the notes were recovered
    past : IsUnstarted see.disk old new terms of.name of.file ran.ended ⊎ Uploads see old new terms of.name of.file ran.ended
    past = elim ran.ends [
      | inl unloaded ↦ (let e = err_from_is_err_and ran.ended unloaded in never e.0 e.1 e.2)
      | inr sends ↦
          (let there : content_of of.holding of.name ≡ Some sends.file = subst (λ (h : Option Holding). IfSome h (λ x. content_of x of.name ≡ Some sends.file)) of.held sends.there in
          let both : Some sends.file ≡ Some of.file = sym there ∙ of.there in
          let same : sends.file ≡ of.file = cc in
          elim sends.ends [
            | inl unrecovered ↦ unrecovered-never see.disk old new of.start ran.ended s is fine of.notes unrecovered
            | inr h ↦ subst (λ (f : List ℕ). IsUnstarted see.disk old new terms of.name f ran.ended ⊎ Uploads see old new terms of.name f ran.ended) same h
          ])
    ]
      where
        never : {X : Type 0} (why : SendStop) → ran.ended ≡ Err why → IsUnloaded old new (sh.held shelf) of.name why → X
        never why e u =
            let unfit : IsUnfit (Some of.holding) of.name why = subst (λ (h : Option Holding). IsUnfit h of.name why) of.held u.cause in
            elim (unfit-never of.holding of.name of.file of.there of.sendable why unfit) [
              | inl same ↦ no-fault s status.Shelf fine (is.stopped why e ∙ ap status_of_stop same) at-shelf
              | inr same ↦ no-fault s status.OutOfMemory fine (is.stopped why e ∙ ap status_of_stop same) at-memory
            ]

    abbrev answer : Result (Option Begun) NotesRefusal
    answer = last_answer terms of.start of.name (sum_of of.file)

    of-one : IsOfTask answer
    of-one = of_task of.start terms.server terms.me of.name (length of.file) (sum_of of.file).digest

    -- how it ended, where no job was asked
    at-start : (h : IsUnstarted see.disk old new terms of.name of.file ran.ended) → EndsAtStart of.start (first_command terms of.start of.name (sum_of of.file)) (sum_of of.file) answer ran.ended h.cut
    at-start h =
        subst (λ (l : Lists). EndsAtStart l (first_command terms l of.name (sum_of of.file)) (sum_of of.file) (last_answer terms l of.name (sum_of of.file)) ran.ended h.cut)
        (recovered-start see.disk old.disk h.recovered h.start of.start h.recovers of.notes) h.ends

    of-task : (h : Uploads see old new terms of.name of.file ran.ended) → IsTaskFor terms of.start of.name (sum_of of.file) h.task h.number h.first
    of-task h =
        subst (λ (l : Lists). IsTaskFor terms l of.name (sum_of of.file) h.task h.number h.first)
        (recovered-start see.disk old.disk h.carries.recovered h.start of.start h.carries.recovers of.notes) h.task_for

    -- no upload stops so
    upload-not : {X : Type 0} (h : Uploads see old new terms of.name of.file ran.ended) (why : SendStop) → is_carried why ≡ false → ran.ended ≡ Err why → X
    upload-not h why isnt e =
        let kind : is_carried why ≡ true = carries-kind see old new h.carries why (match-err ran.ended _ h.came h.answer why e) in
        absurd (let both = sym isnt ∙ kind in cc)

    -- a fresh task that is wanted isn't noted
    not-noted : (h : IsUnstarted see.disk old new terms of.name of.file ran.ended) → answer ≡ Ok None → (s ≡ status.NotesFull) × IsFull of.start
    not-noted h is_none =
        let command = first_command terms of.start of.name (sum_of of.file) in
        let ends = subst (λ (a : Result (Option Begun) NotesRefusal). EndsAtStart of.start command (sum_of of.file) a ran.ended h.cut) is_none (at-start h) in
        let e = err_from_is_err_and ran.ended ends in
        elim (unnoted of.start command (sum_of of.file) h.cut e.0 e.2) [
          | inl full ↦ (is.stopped e.0 e.1 ∙ ap status_of_stop full.0, full.1)
          | inr others ↦ elim others [
            | inl disk ↦ no-fault s status.Disk fine (is.stopped e.0 e.1 ∙ ap status_of_stop disk) at-disk
            | inr memory ↦ no-fault s status.OutOfMemory fine (is.stopped e.0 e.1 ∙ ap status_of_stop memory) at-memory
          ]
        ]

    changed-there : (kept given_sum : FileSum) → s ≡ status.FileChanged kept given_sum → (given_sum ≡ sum_of of.file) × (answer ≡ Err (refusal.Changed kept.length kept.digest))
    changed-there kept given_sum e =
        let why : SendStop = stop.Changed kept given_sum in
        let stopped : ran.ended ≡ Err why = stopped-by ran.ended s is why refl e in
        elim past [
          | inl h ↦
              at-changed of.start (first_command terms of.start of.name (sum_of of.file)) (sum_of of.file) h.cut answer kept given_sum of-one
              (subst (λ (r : Result Sent SendStop). EndsAtStart of.start (first_command terms of.start of.name (sum_of of.file)) (sum_of of.file) answer r h.cut) stopped (at-start h))
          | inr h ↦ upload-not h why refl stopped
        ]

    changed-back : (kept given_sum : FileSum) → (given_sum ≡ sum_of of.file) × (answer ≡ Err (refusal.Changed kept.length kept.digest)) → s ≡ status.FileChanged kept given_sum
    changed-back kept given_sum both = elim past [
      | inl h ↦
          (let ends = subst (λ (a : Result (Option Begun) NotesRefusal). EndsAtStart of.start (first_command terms of.start of.name (sum_of of.file)) (sum_of of.file) a ran.ended h.cut) both.1 (at-start h) in
          is.stopped (stop.Changed kept (sum_of of.file)) ends.0 ∙ ap (λ (f : FileSum). status.FileChanged kept f) (sym both.0))
      | inr h ↦ elim (of-task h) [ inl fresh ↦ absurd (let x = sym fresh.0 ∙ both.1 in cc) | inr going ↦ absurd (let x = sym going.0 ∙ both.1 in cc) ]
    ]

    full-there : s ≡ status.NotesFull → (answer ≡ Ok None) × IsFull of.start
    full-there e =
        let stopped : ran.ended ≡ Err stop.NotesFull = stopped-by ran.ended s is stop.NotesFull refl e in
        elim past [
          | inl h ↦
              at-full of.start (first_command terms of.start of.name (sum_of of.file)) (sum_of of.file) h.cut answer of-one
              (subst (λ (r : Result Sent SendStop). EndsAtStart of.start (first_command terms of.start of.name (sum_of of.file)) (sum_of of.file) answer r h.cut) stopped (at-start h))
          | inr h ↦ upload-not h stop.NotesFull refl stopped
        ]

    full-back : (answer ≡ Ok None) × IsFull of.start → s ≡ status.NotesFull
    full-back both = elim past [
      | inl h ↦ (not-noted h both.0).0
      | inr h ↦ elim (of-task h) [ inl fresh ↦ absurd (fresh.1 both.1) | inr going ↦ absurd (let x = sym going.0 ∙ both.0 in cc) ]
    ]

    already-done : (number : ℕ) → answer ≡ Ok (Some (begun.Already number)) → s ≡ status.Done
    already-done number e = elim past [
      | inl h ↦
          (let ends = subst (λ (a : Result (Option Begun) NotesRefusal). EndsAtStart of.start (first_command terms of.start of.name (sum_of of.file)) (sum_of of.file) a ran.ended h.cut) e (at-start h) in
          elim (is.done _ ends.0) [ inl done ↦ done | inr out_ ↦ no-fault s status.Out fine out_ at-out ])
      | inr h ↦ elim (of-task h) [ inl fresh ↦ absurd (let x = sym fresh.0 ∙ e in cc) | inr going ↦ absurd (let x = sym going.0 ∙ e in cc) ]
    ]

    starts : StartsExactly terms of.start of.name (sum_of of.file) s
    starts = record {
      changed = λ kept given_sum. (changed-there kept given_sum, changed-back kept given_sum);
      full = (full-there, full-back);
      already = already-done;
    }

    module _ (led : UploadLed words see sh old new shelf of) where
      -- a task by which the file is uploaded is begun
      uploads : Uploads see old new terms of.name of.file ran.ended
      uploads = elim past [
        | inr h ↦ h
        | inl h ↦ elim led.task_for [
          | inl fresh ↦ absurd (fresh.1 (not-noted h fresh.0).1)
          | inr going ↦
              absurd (subst (λ (a : Result (Option Begun) NotesRefusal). EndsAtStart of.start (first_command terms of.start of.name (sum_of of.file)) (sum_of of.file) a ran.ended h.cut) going.0 (at-start h))
        ]
      ]

      uploads-as : EndsAs uploads.came ran.ended
      uploads-as = record {
        along = λ why e. inl (match-err ran.ended _ uploads.came uploads.answer why e);
        some = λ value e. (outcome.Acked value.number, match-ok ran.ended uploads.came uploads.answer value e, tt);
      }

      comes : OneRunLaw → OneStepLaw → StaysLaw → ComesBy terms.polls led.turns led.reached uploads.came
      comes runs steps stays =
          let start_is : uploads.start ≡ of.start = recovered-start see.disk old.disk uploads.carries.recovered uploads.start of.start uploads.carries.recovers of.notes in
          let same = same-task terms of.start of.name (sum_of of.file) uploads.task led.task uploads.number led.number uploads.first led.first (of-task uploads) led.task_for in
          let at_first = subst (λ (f : List NotesCommand). IsLedTo see old new (asked_of terms of.start f (upload_of led.task led.number of.file)) led.turns led.reached) (sym same.2) led.led in
          let at_start = subst (λ (l : Lists). IsLedTo see old new (asked_of terms l uploads.first (upload_of led.task led.number of.file)) led.turns led.reached) (sym start_is) at_first in
          let at_task = subst (λ (t : ℕ). IsLedTo see old new (asked_of terms uploads.start uploads.first (upload_of t led.number of.file)) led.turns led.reached) (sym same.0) at_start in
          let at_number = subst (λ (n : ℕ). IsLedTo see old new (asked_of terms uploads.start uploads.first (upload_of uploads.task n of.file)) led.turns led.reached) (sym same.1) at_task in
          led-law see runs steps stays old new (asked_of terms uploads.start uploads.first (upload_of uploads.task uploads.number of.file)) uploads.came led.turns led.reached uploads.carries at_number

  module _ (out now : O) (all : RunsSend words see sh o (outside old shelf out) (outside new shelf_now now) s) where
    pub send-starts : SendStarts words see.disk sh old shelf s
    send-starts of fine =
        let went = all of.asked of.name of.asks in
        elim went.ran [ inl unread ↦ no-fault s status.OutOfMemory fine unread.0 at-memory | inr ran ↦ starts of fine went.mid out ran ]

    pub send-refuses : SendRefuses words sh shelf s
    send-refuses asked name asks no_shelf no_memory =
        let went = all asked name asks in
        elim went.ran [ inl unread ↦ absurd (no_memory unread.0) | inr ran ↦ refuses asked name no_shelf no_memory went.mid ran ]
      where
        refuses : (asked : AskedTerms) (name : List ℕ) → ¬ (s ≡ status.Shelf) → ¬ (s ≡ status.OutOfMemory) → (mid : O) → SendRan see sh o (outside old shelf out) (outside new shelf_now mid) (client_terms asked) name s
            → IfSome (sh.held shelf) (λ holding. FileRefusedExactly (content_of holding name) s)
        refuses asked name no_shelf no_memory mid ran =
            let is : StatusBy ran.ended s = closes-status o acked_line out mid ran.ended s ran.closes in
            told_weaker (sh.held shelf) _ _ (λ holding told exact. record {
              no_such = (λ e. exact.no_such.0 (stopped-by ran.ended s is stop.NoSuch refl e), λ c. is.stopped stop.NoSuch (exact.no_such.1 c));
              too_long = (λ e. exact.too_long.0 (stopped-by ran.ended s is stop.TooLong refl e), λ c. is.stopped stop.TooLong (exact.too_long.1 c));
              bad_file = λ code. (
                λ e. (exact.bad_file code).0 (stopped-by ran.ended s is (stop.BadFile code) refl e),
                λ c. is.stopped (stop.BadFile code) ((exact.bad_file code).1 c),
              );
            }) (ran.file (λ failed. no_shelf (is.stopped stop.Shelf failed)) (λ none. no_memory (is.stopped stop.OutOfMemory none)))

    pub send-exactly : OneRunLaw → OneStepLaw → StaysLaw → SendEndsExactly words see sh old new shelf s
    send-exactly runs steps stays of led fine other =
        let went = all of.asked of.name of.asks in
        elim went.ran [
          | inl unread ↦ no-fault s status.OutOfMemory fine unread.0 at-memory
          | inr ran ↦
              comes-exactly (uploads of fine went.mid out ran led).came ran.ended s (is of fine went.mid out ran) (uploads-as of fine went.mid out ran led) fine of.asked.polls led.turns led.reached
              (comes of fine went.mid out ran led runs steps stays) other
        ]
