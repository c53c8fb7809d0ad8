-- What carrying out a job comes to, and what its outcomes are to the command that asked for it.
use Rattle.std.proofs.Common.{inl, ◌≡◌, ℕ, Bool, true, false, List, [], ◌++◌, refl, sym, ◌∙◌, ap, subst, append-nil, Option, None, Some, IfSome, Result, Ok, Err, IfErr, IsErrOf, ◌≢◌, IfOk, ◌≤◌, length, arith}
use Rattle.client_notes.specs.Laws.{after_all}
use Rattle.turn_loop.specs.Turns as turns
use Rattle.turn_loop.specs.declared.finished.Finished.TheVariants as finished
use Rattle.turn_loop.specs.declared.stop.NodeStop.TheVariants as node
use Rattle.ftl0_client.specs.Outcome.TheVariants as outcome
use Rattle.uploader.specs.declared.stop.SendStop.TheVariants as stop
use Rattle.uploader.specs.Causes.{HasAirCause}
use Rattle.client_notes.specs.declared.answers.Noted.TheVariants as noted
use Rattle.ftl0_client.specs.Work.{Work}
use Rattle.ftl0_client.specs.Work.TheVariants as work
use Rattle.ftl0_client.specs.Directory.{Directory, new_directory}
use Rattle.ftl0_client.specs.Download.{Download, new_download}
use Rattle.ftl0_client.specs.Short.{are_short_headers}
use Rattle.client_notes.specs.Limits.{longest_file}
use Rattle.uploader.proofs.Names.{⊤, MatchResult, common_steps, Runs, state, GoesThrough, goes_through, images-here, recovered-ready, runs_same, Several-none, Several-then, told_weaker, NotesCommand, Lists, got_of, EachImage, CutsOff, DoesSeveral, StandsFor, standing_of, Lent, Seen, lent_party, Turn, Finished, NodeStop, JobState, new_job, Client, ClientEvent, ClientState, listing_in, Promises, Outcome, CarriesOut, CountsWhere, EndsOver, Run, asked_first, before_last, SendStop, ClientTerms, Carries, asked_of, client_from, HasCauses, is_before_outcome, RefusesNotes, RecoversClient, IsUpload, answer_of, stop_of_node, stop_of_turns, fault_code, Ghosts, noted_at, TurnsBy, IsAckedIn, Upload, CallSign, Holding, NotesGoWith, Fetches, FileAsked, KeepsBy, download_of, FilesAsked, ListsFiles, ShowsBy, directory_of}

-- ---- the stops of a command

-- the error is the error
error-is : (T : Type 0) (a b : SendStop) → IsErrOf {T = T} (Err a) b → a ≡ b
error-is T a b is = cc is

same-stop : (T U : Type 0) (a b : SendStop) → IsErrOf {T = T} (Err a) b → IsErrOf {T = U} (Err a) b
same-stop T U a b is = ap Err (error-is T a b is)

-- what is done isn't stopped
pub ok-never : {T : Type 0} (value : T) (why : SendStop) → ¬ (Ok value ≡ Err why)
ok-never value why is = cc is

-- a stop that fails a test that all stops of a result pass
pub never : {T : Type 0} (test : SendStop → Bool) (result : Result T SendStop) → IfErr result (λ why. test why ≡ true) → (other : SendStop) → test other ≡ false → ¬ (result ≡ Err other)
never {T} test (Ok value) pass other none is = cc is
never {T} test (Err why) pass other none is = cc (sym pass ∙ ap test (error-is T why other is) ∙ none)

-- where none is, the content may stand for notes
pub recovered_exactly : {T : Type 0} (test : SendStop → Bool) → ((found : List ℕ) → test (stop.NotAStore found) ≡ false) → ((at : ℕ) → test (stop.Damaged at) ≡ false) → (content : Option (List ℕ)) (start : Lists) (result : Result T SendStop)
    → IfSome content (λ before. standing_of before ≡ state start) → IfErr result (λ why. test why ≡ true) → RefusesNotes content result
recovered_exactly test no_begin no_damage content start result stood pass no_disk no_memory = told_weaker content _ _ (λ before told is. record {
  not_a_store = λ found. (λ e. absurd (never test result pass (stop.NotAStore found) (no_begin found) e), λ none. absurd (cc (sym is ∙ none)));
  damaged = λ at. (λ e. absurd (never test result pass (stop.Damaged at) (no_damage at) e), λ none. absurd (cc (sym is ∙ none)));
}) stood

-- ---- the stops that come of carrying out a job

-- what holds of each stop that turns are
pub of_turns : (P : SendStop → Type 0) → P stop.LinkDown → P stop.AirRead → P stop.AirWrite → P stop.Disk → P stop.Spent → P stop.OutOfMemory → (ended : Result Finished NodeStop) (polls : ℕ) (heard : List Turn)
    → turns.TurnsBy ended polls heard → P (stop_of_turns ended)
of_turns P down read write disk spent memory (Ok finished) polls heard ends = down
of_turns P down read write disk spent memory (Err node.AirRead) polls heard ends = read
of_turns P down read write disk spent memory (Err node.AirWrite) polls heard ends = write
of_turns P down read write disk spent memory (Err node.Disk) polls heard ends = disk
of_turns P down read write disk spent memory (Err node.Spent) polls heard ends = spent
of_turns P down read write disk spent memory (Err node.OutOfMemory) polls heard ends = memory
of_turns P down read write disk spent memory (Err why) polls heard ends = absurd ends

-- what holds of each stop that an outcome is, and of the one that these turns are
module _ (P : SendStop → Type 0) (refused : (code : ℕ) → P (stop.Refused code)) (bad : (code : ℕ) → P (stop.BadFile code)) (down : P stop.LinkDown) (strange : (kind : ℕ) → P (stop.Strange kind))
    (ended : Result Finished NodeStop) (turned : P (stop_of_turns ended)) where
  pub of_answer : (reached : Option Outcome) (s : SendStop) → answer_of ended reached ≡ Err s → P s
  of_answer None s is = subst P (error-is Outcome (stop_of_turns ended) s is) turned
  of_answer (Some (outcome.Refused code)) s is = subst P (error-is Outcome (stop.Refused code) s is) (refused code)
  of_answer (Some (outcome.BadFile code)) s is = subst P (error-is Outcome (stop.BadFile code) s is) (bad code)
  of_answer (Some (outcome.LinkDown why)) s is = subst P (error-is Outcome stop.LinkDown s is) down
  of_answer (Some (outcome.Strange kind)) s is = subst P (error-is Outcome (stop.Strange kind) s is) (strange kind)
  of_answer (Some reached) s is = absurd (cc is)

-- whether a job's carrying out may stop so
abbrev pub is_carried : SendStop → Bool
is_carried (stop.Refused code) = true
is_carried (stop.BadFile code) = true
is_carried stop.AirRead = true
is_carried stop.AirWrite = true
is_carried stop.Disk = true
is_carried stop.OutOfMemory = true
is_carried stop.Spent = true
is_carried stop.LinkDown = true
is_carried (stop.Strange kind) = true
is_carried why = false

-- the stop of the node that a stop is, if it is one
node_of : SendStop → Option NodeStop
node_of stop.AirRead = Some node.AirRead
node_of stop.AirWrite = Some node.AirWrite
node_of stop.Disk = Some node.Disk
node_of stop.Spent = Some node.Spent
node_of stop.OutOfMemory = Some node.OutOfMemory
node_of (stop.NotAStore found) = Some (node.NotAStore found)
node_of (stop.Damaged at) = Some (node.Damaged at)
node_of why = None

node-of : (why : NodeStop) → node_of (stop_of_node why) ≡ Some why
unfolding node_of
node-of node.AirRead = refl
node-of why = refl

-- it stops by the node exactly where the turns ended by that
pub turned : (ended : Result Finished NodeStop) (reached : Option Outcome) (why : NodeStop) → answer_of ended reached ≡ Err (stop_of_node why) → ended ≡ Err why
unfolding node_of
turned ended reached why is =
    of_answer (λ s. node_of s ≡ Some why → ended ≡ Err why) (λ code e. absurd (cc e)) (λ code e. absurd (cc e)) (λ e. absurd (cc e)) (λ kind e. absurd (cc e)) ended (by ended) reached (stop_of_node why) is (node-of why)
  where
    by : (those : Result Finished NodeStop) → node_of (stop_of_turns those) ≡ Some why → those ≡ Err why
    by (Ok finished) e = absurd (cc e)
    by (Err other) e = let same : other ≡ why = cc (sym (node-of other) ∙ e) in ap Err same

-- ---- what the air counts

module _ (reads reads_n writes writes_n : ℕ) where
  abbrev Same : Type 0
  Same = (reads_n ≡ reads) × (writes_n ≡ writes)

  -- turns that neither hearing nor saying ended
  same-turns : (ended : Result Finished NodeStop) → CountsWhere reads reads_n (IsErrOf ended node.AirRead) → CountsWhere writes writes_n (IsErrOf ended node.AirWrite) → is_before_outcome (stop_of_turns ended) ≡ true → Same
  same-turns (Ok finished) h k before = absurd (cc before)
  same-turns (Err node.AirRead) h k before = absurd (cc before)
  same-turns (Err node.AirWrite) h k before = absurd (cc before)
  same-turns (Err why) h k before = (h.same (λ e. cc e), k.same (λ e. cc e))

  if-err : (result : Result Outcome SendStop) (P : SendStop → Type 0) → ((why : SendStop) → result ≡ Err why → P why) → IfErr result P
  if-err (Ok value) P h = tt
  if-err (Err why) P h = h why refl

  air-cause : (ended : Result Finished NodeStop) (reached : Option Outcome) (result : Result Outcome SendStop) → result ≡ answer_of ended reached → CountsWhere reads reads_n (IsErrOf ended node.AirRead)
      → CountsWhere writes writes_n (IsErrOf ended node.AirWrite) → HasAirCause reads reads_n writes writes_n result
  air-cause ended reached result is h k = record {
    read = λ e. h.rose (turned ended reached node.AirRead (sym is ∙ e));
    write = λ e. k.rose (turned ended reached node.AirWrite (sym is ∙ e));
    same = if-err result (λ why. is_before_outcome why ≡ true → Same) (λ why e.
        of_answer (λ s. is_before_outcome s ≡ true → Same) (λ code q. absurd (cc q)) (λ code q. absurd (cc q)) (λ q. absurd (cc q)) (λ kind q. absurd (cc q)) ended (same-turns ended h k) reached why (sym is ∙ e));
  }

-- ---- the causes of a command's end

-- whether a command stops so only behind the outcome of its job
abbrev pub is_late : SendStop → Bool
is_late stop.Shelf = true
is_late stop.Out = true
is_late why = false

late-after : (why : SendStop) → is_late why ≡ true → is_before_outcome why ≡ true → ⊥
late-after stop.Shelf late before = cc before
late-after stop.Out late before = cc before
late-after why late before = cc late

pub late-by : (result : Result ⊤ SendStop) (P Q : Type 0) (s : SendStop) → is_late s ≡ true → MatchResult result (λ _. P) (λ why. (why ≡ s) × Q) → IfErr result (λ why. is_late why ≡ true)
late-by (Ok done) P Q s late by = tt
late-by (Err why) P Q s late by = ap is_late by.0 ∙ late

module _ {A C D : Type 0} (see : Seen D A C) (old new : Lent D A C) where
  -- of another answer with the same stop
  pub causes-err : (T U : Type 0) (why : SendStop) → HasCauses {T = T} see old new (Err why) → HasCauses {T = U} see old new (Err why)
  causes-err T U why causes = grind (arith, common_steps, runs_same, same-stop)

  -- of an answer behind an outcome
  pub causes-late : {T U : Type 0} (value : T) (result : Result U SendStop) → IfErr result (λ why. is_late why ≡ true) → HasCauses see old new (Ok value) → HasCauses see old new result
  causes-late value (Ok other) late causes =
      record { runs = runs_same see.disk _ _ old.disk new.disk (λ e. absurd (cc e)) (λ e. absurd (cc e)) causes.runs; of_air = record { read = λ e. absurd (cc e); write = λ e. absurd (cc e); same = tt } }
  causes-late {T} {U} value (Err why) late causes = record {
    runs = runs_same see.disk _ _ old.disk new.disk (λ e. absurd (cc e)) (λ e. absurd (never {T = U} is_late (Err why) late stop.Disk refl e)) causes.runs;
    of_air = record {
      read = λ e. absurd (never {T = U} is_late (Err why) late stop.AirRead refl e);
      write = λ e. absurd (never {T = U} is_late (Err why) late stop.AirWrite refl e);
      same = λ before. absurd (late-after why late before);
    };
  }

  -- where nothing is heard or said
  pub causes-still : {T : Type 0} (result : Result T SendStop) → ¬ (result ≡ Err stop.AirRead) → ¬ (result ≡ Err stop.AirWrite) → new.air ≡ old.air → Runs see.disk (IsErrOf result stop.Disk) old.disk new.disk
      → HasCauses see old new result
  causes-still {T} result no_read no_write same runs = record {
    runs = runs;
    of_air = record {
      read = λ e. absurd (no_read e);
      write = λ e. absurd (no_write e);
      same = always result (ap see.air.read_faults same, ap see.air.write_faults same);
    };
  }
    where
      always : {X : Type 0} (r : Result T SendStop) → X → IfErr r (λ why. is_before_outcome why ≡ true → X)
      always (Ok value) x = tt
      always (Err why) x = λ p. x

-- ---- the whole

-- nothing is cut off but where the disk failed
cut-none : (ended : Result Finished NodeStop) (least : List ClientEvent) (client : Client) (events : List ClientEvent) (reached : Option Outcome) (text : List ℕ) (done cut : List NotesCommand)
    → ¬ (ended ≡ Err node.Disk) → EndsOver ended least client events reached text done cut → cut ≡ []
cut-none (Ok (finished.Over count)) least client events reached text done cut fine h = h.4
cut-none (Ok (finished.Closed count)) least client events reached text done cut fine h = h.4
cut-none (Err node.AirRead) least client events reached text done cut fine h = h.4
cut-none (Err node.Spent) least client events reached text done cut fine h = h.4
cut-none (Err node.AirWrite) least client events reached text done cut fine h = h.stops.stops.5
cut-none (Err node.Disk) least client events reached text done cut fine h = absurd (fine refl)
cut-none (Err node.OutOfMemory) least client events reached text done cut fine h = h.stops.stops.4
cut-none (Err why) least client events reached text done cut fine h = absurd h

-- A client whose notes were recovered did these first commands, was asked for this job, and carried it out.
pub record HasCarried {A C D : Type 0} (see : Seen D A C) (old new : Lent D A C) (terms : ClientTerms) (first : List NotesCommand) (job : JobState) (result : Result Outcome SendStop) : Type 0 where
  pub mid : D
  pub between : D
  pub made : ClientState
  pub asked : ClientState
  pub end : ClientState
  pub ready : RecoversClient see.disk terms old.disk mid made
  pub starts : DoesSeveral see.disk ⊥ made.notes asked.notes mid between first
  pub out : CarriesOut see (lent_party asked between old.air old.clock) (lent_party end new.disk new.air new.clock) job terms.polls (client_from terms (after_all made.notes.lists first)) result

-- no command came first
abbrev pub just-asked : {A C D : Type 0} (see : Seen D A C) → ((disk : D) → see.disk.lasts disk disk) → (old new : Lent D A C) (mid : D) (terms : ClientTerms) (made end : ClientState) (made_job job : JobState)
    (result : Result Outcome SendStop) → made_job ≡ job → RecoversClient see.disk terms old.disk mid made
    → CarriesOut see (lent_party made mid old.air old.clock) (lent_party end new.disk new.air new.clock) made_job terms.polls (client_from terms made.notes.lists) result → HasCarried see old new terms [] job result
just-asked see lasts old new mid terms made end made_job job result is ready out = record {
  mid = mid;
  between = mid;
  made = made;
  asked = made;
  end = end;
  ready = ready;
  starts = Several-none see.disk ⊥ made.notes mid (λ never. never) (recovered-ready see.disk old.disk mid made.notes ready.recovers.recovered) (lasts mid);
  out = subst (λ (j : JobState). CarriesOut see (lent_party made mid old.air old.clock) (lent_party end new.disk new.air new.clock) j terms.polls (client_from terms made.notes.lists) result) is out;
}

module _ {A C D : Type 0} (see : Seen D A C) (on : (first second third : D) → see.disk.lasts first second → see.disk.lasts second third → see.disk.lasts first third) (old new : Lent D A C) (terms : ClientTerms)
    (first : List NotesCommand) (job : JobState) (result : Result Outcome SendStop) (h : HasCarried see old new terms first job result) where
  abbrev run : Run
  run = h.out.run

  abbrev start : Lists
  start = h.made.notes.lists

  abbrev Failed : Type 0
  Failed = IsErrOf run.ended node.Disk

  pub cuts : CutsOff see.disk Failed h.made.notes h.end.notes h.mid new.disk (first ++ run.done) run.cut
  cuts = record {
    notes_then = h.out.cuts.notes_then;
    disk_then = h.out.cuts.disk_then;
    first = Several-then see.disk on ⊥ ⊥ h.made.notes h.asked.notes h.out.cuts.notes_then h.mid h.between h.out.cuts.disk_then first run.done (λ never. never) h.starts h.out.cuts.first;
    second = h.out.cuts.second;
  }

  pub all : DoesSeveral see.disk Failed h.made.notes h.end.notes h.mid new.disk ((first ++ run.done) ++ run.cut)
  all = Several-then see.disk on ⊥ Failed h.made.notes cuts.notes_then h.end.notes h.mid cuts.disk_then new.disk (first ++ run.done) run.cut (λ never. never) cuts.first cuts.second

  pub through : GoesThrough see.disk Failed old.disk h.mid new.disk h.made.notes (first ++ run.done) run.cut
  through = goes_through see.disk on Failed old.disk h.mid new.disk h.made.notes h.end.notes (first ++ run.done) run.cut h.ready.recovers cuts

  -- where the disk failed nothing had become of the job
  pub failed-working : Failed → run.reached ≡ None
  failed-working is =
      (subst (λ (e : Result Finished NodeStop). EndsOver e (before_last run.turns job h.out.ran.least) (client_from terms (after_all start first)) (asked_first job h.out.ran.events) run.reached run.text run.done run.cut) is h.out.ran.ends_over).stops.stops.4

  -- an outcome comes only where it didn't
  pub outcome-fine : (reached : Outcome) → result ≡ Ok reached → ¬ Failed
  outcome-fine reached ok is = cc (sym ok ∙ h.out.answer ∙ ap (answer_of run.ended) (failed-working is))

  -- then the notes at the end are those after all commands,
  pub lists-at-end : ¬ Failed → h.end.notes.lists ≡ after_all start (first ++ run.done)
  lists-at-end fine =
      ((all.does.done fine).0 (inl refl))
      ∙ ap (after_all start) (ap (λ (cs : List NotesCommand). (first ++ run.done) ++ cs) (cut-none run.ended _ _ _ _ _ _ _ fine h.out.ran.ends_over) ∙ append-nil (first ++ run.done))

  -- and each image stands for them
  pub images-at-end : ¬ Failed → EachImage see.disk new.disk (λ image. StandsFor image h.end.notes.lists)
  images-at-end fine = images-here see.disk h.end.notes.journal new.disk h.end.notes.lists (all.does.done fine).1 all.does.stands_on

  unfoldable pub carries : Carries see old new (asked_of terms start first job) result
  carries = record {
    recovered = h.mid;
    recovers = record { stood = h.ready.recovers.recovered.content; octets = h.ready.recovers.recovered.octets };
    run = run;
    listing = listing_in h.end.attempt;
    answer = h.out.answer;
    air = h.out.air;
    ran = h.out.ran;
    became = record {
      over = h.out.became.over;
      came = h.out.became.came;
      promises = λ some. subst (λ (l : Lists). Promises l job.work (listing_in h.end.attempt) run.reached) (lists-at-end (λ e. some (failed-working e))) (h.out.became.promises some);
    };
    stands = through.stands;
    ready = through.ready;
    counts = through.counts;
    none = through.none;
  }

  pub causes : HasCauses see old new result
  causes = record {
    runs =
        runs_same see.disk Failed (IsErrOf result stop.Disk) old.disk new.disk (λ e. h.out.answer ∙ ap (answer_of run.ended) (failed-working e) ∙ ap (λ (r : Result Finished NodeStop). Err (stop_of_turns r)) e)
        (λ e. turned run.ended run.reached node.Disk (sym h.out.answer ∙ e))
        through.runs;
    of_air = air-cause _ _ _ _ run.ended run.reached result h.out.answer h.out.air.reads h.out.air.writes;
  }

  pub carried : (why : SendStop) → result ≡ Err why → is_carried why ≡ true
  carried why is = of_answer (λ s. is_carried s ≡ true) (λ code. refl) (λ code. refl) refl (λ kind. refl) run.ended (of_turns (λ s. is_carried s ≡ true) refl refl refl refl refl refl run.ended _ _ h.out.ran.ends) run.reached why (sym h.out.answer ∙ is)

-- an upload came to that its file was acknowledged, and that is noted
pub upload-reached : (lists : Lists) (at : Upload) (listing : List ℕ) (ended : Result Finished NodeStop) (reached : Option Outcome) (answer : Outcome) → (reached ≢ None → Promises lists (work.Upload at) listing reached)
    → answer_of ended reached ≡ Ok answer → (number : ℕ) × (answer ≡ outcome.Acked number) × (noted_at lists at.task ≡ Some (noted.Acked at.task number))
upload-reached lists at listing ended None answer h is = absurd (cc is)
upload-reached lists at listing ended (Some (outcome.Acked number)) answer h is = (number, cc is, h (λ e. cc e))
upload-reached lists at listing ended (Some (outcome.Fetched number)) answer h is = absurd (h (λ e. cc e))
upload-reached lists at listing ended (Some outcome.Listed) answer h is = absurd (h (λ e. cc e))
upload-reached lists at listing ended (Some reached) answer h is = absurd (cc is)

-- a download to that its file was fetched, which has no fault
pub download-reached : (lists : Lists) (at : Download) (listing : List ℕ) (ended : Result Finished NodeStop) (reached : Option Outcome) (answer : Outcome) → (reached ≢ None → Promises lists (work.Download at) listing reached)
    → answer_of ended reached ≡ Ok answer → (answer ≡ outcome.Fetched at.number) × (fault_code (got_of lists at.server at.number) ≡ None)
download-reached lists at listing ended None answer h is = absurd (cc is)
download-reached lists at listing ended (Some (outcome.Acked number)) answer h is = absurd (h (λ e. cc e))
download-reached lists at listing ended (Some (outcome.Fetched number)) answer h is = (let e : answer ≡ outcome.Fetched number = cc is in e ∙ ap outcome.Fetched (h (λ e. cc e)).0, (h (λ e. cc e)).1)
download-reached lists at listing ended (Some outcome.Listed) answer h is = absurd (h (λ e. cc e))
download-reached lists at listing ended (Some reached) answer h is = absurd (cc is)

-- a list to that it is whole short headers
pub list-reached : (lists : Lists) (at : Directory) (listing : List ℕ) (ended : Result Finished NodeStop) (reached : Option Outcome) (answer : Outcome) → (reached ≢ None → Promises lists (work.Directory at) listing reached)
    → answer_of ended reached ≡ Ok answer → (answer ≡ outcome.Listed) × (are_short_headers listing ≡ true)
list-reached lists at listing ended None answer h is = absurd (cc is)
list-reached lists at listing ended (Some (outcome.Acked number)) answer h is = absurd (h (λ e. cc e))
list-reached lists at listing ended (Some (outcome.Fetched number)) answer h is = absurd (h (λ e. cc e))
list-reached lists at listing ended (Some outcome.Listed) answer h is = (cc is, h (λ e. cc e))
list-reached lists at listing ended (Some reached) answer h is = absurd (cc is)

-- where each image stands for notes by which a task was acknowledged, it was in each
pub acked-in : {D : Type 0} (g : Ghosts D) (disk : D) (lists : Lists) (task number : ℕ) → EachImage g disk (λ image. StandsFor image lists) → noted_at lists task ≡ Some (noted.Acked task number)
    → EachImage g disk (IsAckedIn task number)
acked-in g disk lists task number images is = told_weaker (g.content disk) _ _ (λ octets told each image here. (lists, each image here, is)) images

-- what holds of the value, if there is one
if-ok : {T E : Type 0} (result : Result T E) (P : T → Type 0) → ((value : T) → result ≡ Ok value → P value) → IfOk result P
if-ok (Ok value) P holds = holds value refl
if-ok (Err why) P holds = tt

-- an upload that came to what a command asks for came to that its file was acknowledged
pub acked-alone : (lists : Lists) (asked : Work) (listing : List ℕ) (ended : Result Finished NodeStop) (reached : Option Outcome) (answer : Outcome) → IsUpload asked → (reached ≢ None → Promises lists asked listing reached)
    → answer_of ended reached ≡ Ok answer → (number : ℕ) × (answer ≡ outcome.Acked number)
acked-alone lists (work.Upload at) listing ended reached answer upload h is = let came = upload-reached lists at listing ended reached answer h is in (came.0, came.1)
acked-alone lists (work.Directory at) listing ended reached answer upload h is = absurd upload
acked-alone lists (work.Download at) listing ended reached answer upload h is = absurd upload

-- an upload comes to no bad file
pub never-bad : (lists : Lists) (at : Upload) (listing : List ℕ) (ended : Result Finished NodeStop) (reached : Option Outcome) (code : ℕ) (polls : ℕ) (turns : List Turn) → TurnsBy ended polls turns → (reached ≢ None → Promises lists (work.Upload at) listing reached)
    → ¬ (answer_of ended reached ≡ Err (stop.BadFile code))
never-bad lists at listing ended None code polls turns ends h is =
    of_turns (λ s. ¬ (s ≡ stop.BadFile code)) (λ e. cc e) (λ e. cc e) (λ e. cc e) (λ e. cc e) (λ e. cc e) (λ e. cc e) ended polls turns ends (let e : stop_of_turns ended ≡ stop.BadFile code = cc is in e)
never-bad lists at listing ended (Some (outcome.BadFile other)) code polls turns ends h is = h (λ e. cc e)
never-bad lists at listing ended (Some reached) code polls turns ends h is = cc is

-- the notes go with the download that was just made
pub download-goes : (lists : Lists) (server : CallSign) (number held : ℕ) → held ≡ length (got_of lists server number) → held ≤ longest_file → (job : JobState) → job ≡ new_job (work.Download (new_download server number))
    → NotesGoWith lists job
download-goes lists server number held is most job job_is =
    subst (NotesGoWith lists) (sym job_is) (record { fits = omega (arith, is, most); checked = tt })

module _ {A C D S : Type 0} (see : Seen D A C) (held : S → Option Holding) (on : (first second third : D) → see.disk.lasts first second → see.disk.lasts second third → see.disk.lasts first third) (old new : Lent D A C)
    (file : FileAsked) (result : Result Outcome SendStop) (h : HasCarried see old new file.terms [] (download_of file) result) where
  -- the shelf keeps what was fetched, or can't; it isn't touched where the download stopped
  pub fetch-ends : (shelf shelf_n : S) (octets : List ℕ) → octets ≡ got_of h.end.notes.lists file.terms.server file.number → (last : Result ⊤ SendStop) → KeepsBy held shelf shelf_n file.name octets result last
      → Fetches see held old new shelf shelf_n file last
  unfolding carries
  fetch-ends shelf shelf_n octets octets_are last keeps = record {
    start = h.made.notes.lists;
    came = result;
    carries = carries see on old new file.terms [] (download_of file) result h;
    octets = octets;
    got = if-ok result (λ _. octets ≡ got_of (after_all h.made.notes.lists h.out.run.done) file.terms.server file.number) (λ answer is.
        octets_are
        ∙ ap (λ (l : Lists). got_of l file.terms.server file.number)
        (lists-at-end see on old new file.terms [] (download_of file) result h (outcome-fine see on old new file.terms [] (download_of file) result h answer is)));
    fetched = if-ok result (λ reached. (reached ≡ outcome.Fetched file.number) × (fault_code octets ≡ None)) (λ answer is.
        let came =
        download-reached h.end.notes.lists (new_download file.terms.server file.number) (listing_in h.end.attempt) h.out.run.ended h.out.run.reached answer h.out.became.promises (sym h.out.answer ∙ is) in
        (came.0, ap fault_code octets_are ∙ came.1));
    keeps = keeps;
  }

module _ {A C D O : Type 0} (see : Seen D A C) (shown : O → Option (List ℕ)) (on : (first second third : D) → see.disk.lasts first second → see.disk.lasts second third → see.disk.lasts first third) (old new : Lent D A C)
    (files : FilesAsked) (result : Result Outcome SendStop) (h : HasCarried see old new files.terms [] (directory_of files.tokens) result) where
  -- the lines of a list that came whole are shown, or can't be; where it stopped the output isn't touched
  pub list-ends : (out out_n : O) (last : Result ⊤ SendStop) → ShowsBy shown out out_n (listing_in h.end.attempt) result last → ListsFiles see shown old new out out_n files last
  unfolding carries
  list-ends out out_n last shows = record {
    start = h.made.notes.lists;
    came = result;
    carries = carries see on old new files.terms [] (directory_of files.tokens) result h;
    listed = if-ok result (λ reached. (reached ≡ outcome.Listed) × (are_short_headers (listing_in h.end.attempt) ≡ true)) (λ answer is.
        list-reached h.end.notes.lists (new_directory files.tokens) (listing_in h.end.attempt) h.out.run.ended h.out.run.reached answer h.out.became.promises (sym h.out.answer ∙ is));
    shows = shows;
  }
