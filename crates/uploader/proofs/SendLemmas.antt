-- How `send` ends.
use Rattle.std.proofs.Common.{◌≡◌, ◌⊎◌, ⊎_elim, inl, inr, ℕ, Bool, true, false, List, [], ◌∷◌, length, refl, sym, ap, ◌∙◌, subst, arith, Some, Option, IfSome, Result, Ok, Err, IfErr, IfOk, IsErr, IsErrOf, IsTrue, MatchResult}
use Rattle.client_notes.specs.Answers.{answer_of}
use Rattle.client_notes.specs.declared.answers.Begun.TheVariants as begun
use Rattle.client_notes.specs.declared.answers.Noted.TheVariants as noted
use Rattle.client_notes.specs.declared.refusals.NotesRefusal.TheVariants as refusal
use Rattle.ftl0_client.specs.Outcome.TheVariants as outcome
use Rattle.uploader.specs.declared.stop.SendStop.TheVariants as stop
use Rattle.uploader.proofs.Names.{common_steps, CallSign, Holding, content_of, fault_code, Ghosts, Runs, acked-last, alike_same, begun-fresh, begun-kept, goes_through, images-here, not-failed, of_task, recovered-ready, Several-none, Several-one, Several-same, stops_none, told_weaker, state, StartsBy, fresh_task, start_reaches, NotesCommand, Begun, NotesRefusal, Lists, last_task, Does, EachImage, Untouched, CutsOff, DoesSeveral, IsReady, NotesState, StandsFor, standing_of, Lent, Seen, lent_party, lent, IsAckedIn, JobState, new_upload, Client, ClientState, GoWithAttempt, IsClient, MayHear, client_pending, listing_in, Outcome, CarriesOut, MayCarryOut, SendStop, FileSum, ClientTerms, Sent, client_from, HasCauses, HasShelfCause, IsPastFile, IsSendable, IsUnfit, LoadsExactly, RefusesFile, sum_of, RefusesNotes, RecoversClient, UploadsJob, EndsAtStart, IsLastAcked, IsTaskFor, IsUnstarted, SendEnds, Uploads, first_command, last_answer, upload_of, stop_of_start}
use Rattle.uploader.proofs.CarryLemmas.{acked-in, carries, causes, causes-err, causes-late, causes-still, HasCarried, images-at-end, never, never-bad, of_answer, of_turns, outcome-fine, recovered_exactly, upload-reached}
use Rattle.uploader.proofs.StartLemmas.{cut_of, refused-start}

-- nothing is called
pub runs_still : {D : Type 0} (g : Ghosts D) (P : Type 0) (disk : D) → ¬ P → g.lasts disk disk → Runs g P disk disk
runs_still g P disk fine same = grind (arith, common_steps, alike_same, stops_none)

-- the upload that was made, by what was begun
pub made-upload : (made : JobState) (task number one other : ℕ) (file : List ℕ) → made ≡ upload_of one other file → one ≡ task → other ≡ number
    → made ≡ upload_of task number file
made-upload made task number one other file is same same_number = cc

-- the content of a name stops the command by what it may alone
pub unfit-never : (held : Option Holding) (name : List ℕ) (why other : SendStop) → IsUnfit held name why → ¬ IsUnfit held name other → ¬ IsErrOf {T = Sent} (Err why) other
unfit-never held name why other unfit never_ is = never_ (subst (IsUnfit held name) (let e : why ≡ other = cc is in e) unfit)

-- ---- behind the loading of the file and the recovery

-- whether a stop comes neither of the file or the shelf nor of what the content of the disk stands for
abbrev is_past : SendStop → Bool
is_past stop.NoSuch = false
is_past stop.TooLong = false
is_past (stop.BadFile code) = false
is_past stop.Shelf = false
is_past (stop.NotAStore found) = false
is_past (stop.Damaged at) = false
is_past why = true

-- whether a start may stop so
abbrev is_start : SendStop → Bool
is_start (stop.Changed kept given) = true
is_start stop.NotesFull = true
is_start stop.Disk = true
is_start stop.OutOfMemory = true
is_start why = false

start-stops : (test : SendStop → Bool) → ((kept given : FileSum) → test (stop.Changed kept given) ≡ true) → test stop.NotesFull ≡ true → test stop.Disk ≡ true → test stop.OutOfMemory ≡ true
    → (sum : FileSum) (why : NotesRefusal) → test (stop_of_start sum why) ≡ true
start-stops test changed full disk memory sum (refusal.Changed length digest) = changed _ sum
start-stops test changed full disk memory sum refusal.Full = full
start-stops test changed full disk memory sum refusal.Disk = disk
start-stops test changed full disk memory sum refusal.Failed = disk
start-stops test changed full disk memory sum refusal.OutOfMemory = memory

-- what the shelf has under the name stops nothing, where it is a file that may be sent
loaded_exactly : (content : Option (List ℕ)) (file : List ℕ) → content ≡ Some file → IsSendable file → (result : Result Sent SendStop) → IfErr result (λ why. is_past why ≡ true) → LoadsExactly content result
loaded_exactly content file there sendable result past = record {
  no_such = (λ e. absurd (never is_past result past stop.NoSuch refl e), λ none. absurd (cc (sym there ∙ none)));
  too_long = (
    λ e. absurd (never is_past result past stop.TooLong refl e),
    λ long. let same : long.0 ≡ file = cc (sym long.1 ∙ there) in let len : length long.0 ≡ length file = ap length same in absurd (omega (arith, len, long.2, sendable.most)),
  );
  bad_file = λ code. (
    λ e. absurd (never is_past result past (stop.BadFile code) refl e),
    λ bad. let same : bad.0 ≡ file = cc (sym bad.1 ∙ there) in absurd (cc (sym sendable.faultless ∙ sym (ap fault_code same) ∙ bad.3)),
  );
}

-- all that is said of a sending behind that
pub record SendsAll {A C D : Type 0} (see : Seen D A C) (old new : Lent D A C) (held : Option Holding) (faults faults_n : ℕ) (terms : ClientTerms) (name : List ℕ) (result : Result Sent SendStop) : Type 0 where
  pub file_is : RefusesFile held name result
  pub notes : IsPastFile result → RefusesNotes (see.disk.content old.disk) result
  pub ends : SendEnds see old new held terms name result
  pub shelf : HasShelfCause faults faults_n result
  pub causes_are : HasCauses see old new result

module _ {A C D : Type 0} (see : Seen D A C) (lasts : (disk : D) → see.disk.lasts disk disk) (on : (first second third : D) → see.disk.lasts first second → see.disk.lasts second third → see.disk.lasts first third)
    (old : Lent D A C) (terms : ClientTerms) (name file : List ℕ) (held : Option Holding) (faults faults_n : ℕ) (there : IfSome held (λ shelf. content_of shelf name ≡ Some file)) (sendable : IsSendable file) (same : faults_n ≡ faults) where
  sends-all : (new : Lent D A C) (start : Lists) (result : Result Sent SendStop) → IfSome (see.disk.content old.disk) (λ before. standing_of before ≡ state start) → IfErr result (λ why. is_past why ≡ true)
      → IsUnstarted see.disk old new terms name file result ⊎ Uploads see old new terms name file result → HasCauses see old new result → SendsAll see old new held faults faults_n terms name result
  sends-all new start result stood past ends causes_are = record {
    file_is = λ no_shelf no_memory. told_weaker held _ _ (λ shelf told content. loaded_exactly (content_of shelf name) file content sendable result past) there;
    notes = λ later. recovered_exactly is_past (λ found. refl) (λ at. refl) (see.disk.content old.disk) start result stood past;
    ends = inr (record { file = file; sendable = sendable; there = there; ends = inr ends });
    shelf = record { no_less = omega (arith, same); rose = λ e. absurd (never is_past result past stop.Shelf refl e); same = λ _. same };
    causes_are = causes_are;
  }

-- ---- the start of a task

-- what the start of a task for a file of this sum did
pub record StartsTask {D : Type 0} (g : Ghosts D) (old new : NotesState) (disk disk_n : D) (server caller : CallSign) (name : List ℕ) (sum : FileSum) (result : Result Begun NotesRefusal) : Type 0 where
  pub answers : StartsBy old (answer_of old.lists server caller name sum.length sum.digest) result
  pub untouched : IsTrue (start_reaches result) ⊎ Untouched old new disk disk_n
  pub does : IsTrue (start_reaches result) → Does g (IsErr result) old new disk disk_n (fresh_task old.lists server caller name sum.length sum.digest)

-- a client whose notes were recovered started a task for this file
pub record HasStarted {D : Type 0} (g : Ghosts D) (terms : ClientTerms) (name file : List ℕ) (disk now : D) (result : Result Begun NotesRefusal) : Type 0 where
  pub mid : D
  pub made : ClientState
  pub asked : ClientState
  pub ready : RecoversClient g terms disk mid made
  pub same : asked ≡ record made { notes = asked.notes }
  pub becomes : (client : Client) → IsClient made client → IsClient asked (record client { lists = asked.notes.lists })
  pub starts : StartsTask g made.notes asked.notes mid now terms.server terms.me name (sum_of file) result

-- the start as one of the terms' calls and the file's sum
pub at_terms : {D : Type 0} (g : Ghosts D) (terms : ClientTerms) (name file : List ℕ) (disk mid now : D) (made asked : ClientState) → RecoversClient g terms disk mid made → (sum : FileSum) → sum ≡ sum_of file
    → (given result : Result Begun NotesRefusal) → given ≡ result → StartsTask g made.notes asked.notes mid now made.server made.me name sum given
    → StartsTask g made.notes asked.notes mid now terms.server terms.me name (sum_of file) result
at_terms g terms name file disk mid now made asked ready sum is given result same starts =
    let P : CallSign → Type 0 = λ server. StartsTask g made.notes asked.notes mid now server made.me name (sum_of file) result in
    let Q : CallSign → Type 0 = λ caller. StartsTask g made.notes asked.notes mid now terms.server caller name (sum_of file) result in
    subst Q (ap (λ (s : ClientState). s.me) ready.state)
    (subst P (ap (λ (s : ClientState). s.server) ready.state)
    (subst (λ (s : FileSum). StartsTask g made.notes asked.notes mid now made.server made.me name s result) is
    (subst (λ (r : Result Begun NotesRefusal). StartsTask g made.notes asked.notes mid now made.server made.me name sum r) same starts)))

abbrev pub started : {D : Type 0} (g : Ghosts D) (terms : ClientTerms) (name file : List ℕ) (disk mid now : D) (made asked : ClientState) → RecoversClient g terms disk mid made → asked ≡ record made { notes = asked.notes }
    → ((client : Client) → IsClient made client → IsClient asked (record client { lists = asked.notes.lists })) → (sum : FileSum) → sum ≡ sum_of file → (given result : Result Begun NotesRefusal) → given ≡ result
    → StartsTask g made.notes asked.notes mid now made.server made.me name sum given → HasStarted g terms name file disk now result
started g terms name file disk mid now made asked ready same becomes sum is given result same_result starts = record {
  mid = mid;
  made = made;
  asked = asked;
  ready = ready;
  same = same;
  becomes = becomes;
  starts = at_terms g terms name file disk mid now made asked ready sum is given result same_result starts;
}

module _ {D : Type 0} (g : Ghosts D) (lasts : (disk : D) → g.lasts disk disk) (terms : ClientTerms) (name file : List ℕ) (disk now : D) where
  abbrev Started : Result Begun NotesRefusal → Type 0
  Started result = HasStarted g terms name file disk now result

  abbrev command : Lists → NotesCommand
  command start = first_command terms start name (sum_of file)

  module _ (result : Result Begun NotesRefusal) (s : Started result) where
    made-ready : IsReady g s.made.notes s.mid
    made-ready = recovered-ready g disk s.mid s.made.notes s.ready.recovers.recovered

    -- the client may be asked for its job
    pub may-carry : (MayHear g s.made s.mid → MayHear g s.asked now) → MayCarryOut g s.asked now
    may-carry may =
        let after = may (record {
          ready = made-ready;
          notes_are = subst (λ (c : ClientState). GoWithAttempt c.notes.lists c.attempt) (sym s.ready.state) tt;
        }) in
        record { ready = after.ready; quiet = ap client_pending (s.same ∙ ap (λ (c : ClientState). record c { notes = s.asked.notes }) s.ready.state) }

    -- and stands for one over the notes then
    pub asked-is : IsClient s.asked (client_from terms s.asked.notes.lists)
    asked-is = s.becomes _ s.ready.is

    does-idle : (P : Type 0) → ¬ P → DoesSeveral g P s.made.notes s.made.notes s.mid s.mid []
    does-idle P fine = Several-none g P s.made.notes s.mid fine made-ready (lasts s.mid)

    -- the disk wasn't reached
    kept : start_reaches result ≡ false → Untouched s.made.notes s.asked.notes s.mid now
    kept none = ⊎_elim (λ (reaches : IsTrue (start_reaches result)). absurd (cc (sym none ∙ reaches))) (λ untouched. untouched) s.starts.untouched

    does-none : (P : Type 0) → ¬ P → start_reaches result ≡ false → DoesSeveral g P s.made.notes s.asked.notes s.mid now []
    does-none P fine none =
        let same = kept none in
        subst (λ (d : D). DoesSeveral g P s.made.notes s.asked.notes s.mid d []) (sym same.same_disk)
        (subst (λ (n : NotesState). DoesSeveral g P s.made.notes n s.mid s.mid []) (sym same.same) (does-idle P fine))

    none-cut : (P : Type 0) → ¬ P → start_reaches result ≡ false → CutsOff g P s.made.notes s.asked.notes s.mid now [] []
    none-cut P fine none = record { notes_then = s.made.notes; disk_then = s.mid; first = does-idle ⊥ (λ never_. never_); second = does-none P fine none }

  -- a fresh task was noted
  pub does-first : (task : ℕ) (s : Started (Ok (begun.Fresh task))) → DoesSeveral g ⊥ s.made.notes s.asked.notes s.mid now (command s.made.notes.lists ∷ [])
  does-first task s =
      Several-same g _ ⊥ s.made.notes s.asked.notes s.mid now _ (λ e. absurd (cc e)) (λ never_. absurd never_) (Several-one g _ s.made.notes s.asked.notes s.mid now _ (s.starts.does refl))

  -- the last one is gone on with
  pub does-going : (task number : ℕ) (s : Started (Ok (begun.Going task number))) → DoesSeveral g ⊥ s.made.notes s.asked.notes s.mid now []
  does-going task number s = does-none (Ok (begun.Going task number)) s ⊥ (λ never_. never_) refl

  -- the task isn't started
  refused-cuts : (refused : NotesRefusal) (s : Started (Err refused))
      → CutsOff g (IsErrOf {T = Sent} (Err (stop_of_start (sum_of file) refused)) stop.Disk) s.made.notes s.asked.notes s.mid now [] (cut_of s.made.notes s.ready.recovers.recovered.healthy (command s.made.notes.lists) refused)
  refused-cuts (refusal.Changed length digest) s = none-cut _ s _ (λ e. cc e) refl
  refused-cuts refusal.Full s = none-cut _ s _ (λ e. cc e) refl
  refused-cuts refusal.OutOfMemory s = none-cut _ s _ (λ e. cc e) refl
  refused-cuts refusal.Failed s = absurd (not-failed s.made.notes s.ready.recovers.recovered.healthy _ (of_task s.made.notes.lists terms.server terms.me name (length file) (sum_of file).digest) s.starts.answers)
  refused-cuts refusal.Disk s = record {
    notes_then = s.made.notes;
    disk_then = s.mid;
    first = does-idle _ s ⊥ (λ never_. never_);
    second = Several-same g _ _ s.made.notes s.asked.notes s.mid now _ (λ e. refl) (λ e. refl) (Several-one g _ s.made.notes s.asked.notes s.mid now _ (s.starts.does refl));
  }

  -- which task the file is uploaded by
  pub fresh-task-for : (task : ℕ) (s : Started (Ok (begun.Fresh task))) → IsTaskFor terms s.made.notes.lists name (sum_of file) task 0 (command s.made.notes.lists ∷ [])
  fresh-task-for task s =
      let fresh = begun-fresh s.made.notes s.ready.recovers.recovered.healthy _ task (of_task s.made.notes.lists terms.server terms.me name (length file) (sum_of file).digest) s.starts.answers in
      inl (fresh.0, fresh.1, fresh.2, refl, refl)

  pub going-task-for : (task number : ℕ) (s : Started (Ok (begun.Going task number))) → IsTaskFor terms s.made.notes.lists name (sum_of file) task number []
  going-task-for task number s = inr (begun-kept s.made.notes s.ready.recovers.recovered.healthy _ (begun.Going task number) (λ other e. cc e) s.starts.answers, refl)

-- ---- the whole

module _ {A C D : Type 0} (see : Seen D A C) (lasts : (disk : D) → see.disk.lasts disk disk) (on : (first second third : D) → see.disk.lasts first second → see.disk.lasts second third → see.disk.lasts first third)
    (old : Lent D A C) (terms : ClientTerms) (name file : List ℕ) (held : Option Holding) (faults faults_n : ℕ) (there : IfSome held (λ shelf. content_of shelf name ≡ Some file)) (sendable : IsSendable file) (same : faults_n ≡ faults)
    (now : D) where
  -- no job was asked
  module _ (given : Result Begun NotesRefusal) (s : HasStarted see.disk terms name file old.disk now given) where
    abbrev still : Lent D A C
    still = lent now old.air old.clock

    unstarted : (result : Result Sent SendStop) (cut : List NotesCommand) → IfErr result (λ why. is_past why ≡ true) → IfErr result (λ why. is_start why ≡ true)
        → CutsOff see.disk (IsErrOf result stop.Disk) s.made.notes s.asked.notes s.mid now [] cut
        → EndsAtStart s.made.notes.lists (first_command terms s.made.notes.lists name (sum_of file)) (sum_of file) (last_answer terms s.made.notes.lists name (sum_of file)) result cut
        → IfOk result (λ sent. IsLastAcked see.disk now terms s.made.notes.lists name sent.number) → SendsAll see old still held faults faults_n terms name result
    unstarted result cut past start cuts ends acked =
        let through = goes_through see.disk on (IsErrOf result stop.Disk) old.disk s.mid now s.made.notes s.asked.notes [] cut s.ready.recovers cuts in
        sends-all see lasts on old terms name file held faults faults_n there sendable same still s.made.notes.lists result s.ready.recovers.recovered.content past
        (inl (record {
          start = s.made.notes.lists;
          recovered = s.mid;
          recovers = record { stood = s.ready.recovers.recovered.content; octets = s.ready.recovers.recovered.octets };
          air = refl;
          clock = refl;
          cut = cut;
          ends = ends;
          stands = through.stands;
          ready = through.ready;
          counts = through.counts;
          none = through.none;
          acked = acked;
        }))
        (causes-still see old still result (never is_start result start stop.AirRead refl) (never is_start result start stop.AirWrite refl) refl through.runs)

  -- the task isn't started
  pub refused-all : (refused : NotesRefusal) → HasStarted see.disk terms name file old.disk now (Err refused)
      → SendsAll see old (lent now old.air old.clock) held faults faults_n terms name (Err (stop_of_start (sum_of file) refused))
  refused-all refused s =
      unstarted (Err refused) s (Err (stop_of_start (sum_of file) refused)) _ (start-stops is_past (λ kept given. refl) refl refl refl (sum_of file) refused) (start-stops is_start (λ kept given. refl) refl refl refl (sum_of file) refused)
      (refused-cuts see.disk lasts terms name file old.disk now refused s)
      (refused-start s.made.notes s.ready.recovers.recovered.healthy _ (sum_of file) _ refused (of_task s.made.notes.lists terms.server terms.me name (length file) (sum_of file).digest) s.starts.answers) tt

  -- the file was acknowledged before
  pub already-all : (sent : Sent) → HasStarted see.disk terms name file old.disk now (Ok (begun.Already sent.number)) → SendsAll see old (lent now old.air old.clock) held faults faults_n terms name (Ok sent)
  already-all sent s =
      let given : Result Begun NotesRefusal = Ok (begun.Already sent.number) in
      let untouched = kept see.disk lasts terms name file old.disk now given s refl in
      let answer = begun-kept s.made.notes s.ready.recovers.recovered.healthy _ (begun.Already sent.number) (λ task e. cc e) s.starts.answers in
      let last = acked-last s.made.notes.lists (length file) sent.number (sum_of file).digest (last_task s.made.notes.lists terms.server terms.me name) answer in
      let images = subst (λ (d : D). EachImage see.disk d (λ image. StandsFor image s.made.notes.lists)) (sym untouched.same_disk)
      (images-here see.disk s.made.notes.journal s.mid s.made.notes.lists s.ready.recovers.recovered.healthy s.ready.recovers.recovered.keeps) in
      unstarted given s (Ok sent) [] tt tt (none-cut see.disk lasts terms name file old.disk now given s _ (λ e. cc e) refl)
      (subst (λ a. EndsAtStart s.made.notes.lists (first_command terms s.made.notes.lists name (sum_of file)) (sum_of file) a (Ok sent) []) (sym answer) (refl, refl))
      (last.0, last.1, acked-in see.disk now s.made.notes.lists last.0 sent.number images last.2)

  -- it was uploaded, as far as that came
  module _ (new : Lent D A C) (given : Result Begun NotesRefusal) (s : HasStarted see.disk terms name file old.disk now given) (task number : ℕ) (first : List NotesCommand)
      (starts : DoesSeveral see.disk ⊥ s.made.notes s.asked.notes s.mid now first) (task_for : IsTaskFor terms s.made.notes.lists name (sum_of file) task number first) (end : ClientState) (made_job : JobState)
      (made_is : made_job ≡ upload_of task number file) (result : Result Sent SendStop)
      (uploads : UploadsJob see (lent_party s.asked now old.air old.clock) (lent_party end new.disk new.air new.clock) made_job terms.polls (client_from terms s.asked.notes.lists) result) where
    abbrev job : JobState
    job = upload_of task number file

    abbrev Carrying : JobState → Lists → Type 0
    Carrying j lists = CarriesOut see (lent_party s.asked now old.air old.clock) (lent_party end new.disk new.air new.clock) j terms.polls (client_from terms lists) uploads.came

    abbrev h : HasCarried see old new terms first job uploads.came
    h = record {
      mid = s.mid;
      between = now;
      made = s.made;
      asked = s.asked;
      end = end;
      ready = s.ready;
      starts = starts;
      out = subst (λ (l : Lists). Carrying job l) ((starts.does.done (λ never_. never_)).0 (inl refl)) (subst (λ (j : JobState). Carrying j s.asked.notes.lists) made_is uploads.carries);
    }

    abbrev Answered : Result Sent SendStop → Type 0
    Answered r = MatchResult r (λ sent. uploads.came ≡ Ok (outcome.Acked sent.number)) (λ why. uploads.came ≡ Err why)

    -- where the file was acknowledged its task was in each image
    acked-of : (r : Result Sent SendStop) → Answered r → IfOk r (λ sent. EachImage see.disk new.disk (IsAckedIn task sent.number))
    acked-of (Err why) is = tt
    acked-of (Ok sent) is =
        let images = images-at-end see on old new terms first job uploads.came h (outcome-fine see on old new terms first job uploads.came h (outcome.Acked sent.number) is) in
        let acked =
        upload-reached end.notes.lists (new_upload task number file) (listing_in end.attempt) h.out.run.ended h.out.run.reached (outcome.Acked sent.number) h.out.became.promises (sym h.out.answer ∙ is) in
        let same_number : acked.0 ≡ sent.number = cc (sym acked.1) in
        acked-in see.disk new.disk end.notes.lists task sent.number images (acked.2 ∙ ap (λ (n : ℕ). Some (noted.Acked task n)) same_number)

    causes-of : (r : Result Sent SendStop) → Answered r → HasCauses see old new r
    causes-of (Ok sent) is =
        causes-late see old new (outcome.Acked sent.number) (Ok sent) tt (subst (λ (r : Result Outcome SendStop). HasCauses see old new r) is (causes see on old new terms first job uploads.came h))
    causes-of (Err why) is = causes-err see old new Outcome Sent why (subst (λ (r : Result Outcome SendStop). HasCauses see old new r) is (causes see on old new terms first job uploads.came h))

    past-of : (r : Result Sent SendStop) → Answered r → IfErr r (λ why. is_past why ≡ true)
    past-of (Ok sent) is = tt
    past-of (Err why) is =
        of_answer (λ s. ((code : ℕ) → ¬ (s ≡ stop.BadFile code)) → is_past s ≡ true) (λ code good. refl) (λ code good. absurd (good code refl)) (λ good. refl) (λ kind good. refl) h.out.run.ended
        (λ good. of_turns (λ s. is_past s ≡ true) refl refl refl refl refl refl h.out.run.ended _ _ h.out.ran.ends) h.out.run.reached why (sym h.out.answer ∙ is)
        (λ code bad. never-bad end.notes.lists (new_upload task number file) (listing_in end.attempt) h.out.run.ended h.out.run.reached code _ _ h.out.ran.ends h.out.became.promises (sym h.out.answer ∙ is ∙ ap Err bad))

    pub upload-all : SendsAll see old new held faults faults_n terms name result
    upload-all =
        sends-all see lasts on old terms name file held faults faults_n there sendable same new s.made.notes.lists result s.ready.recovers.recovered.content (past-of result uploads.answer)
        (inr (record {
          start = s.made.notes.lists;
          task = task;
          number = number;
          first = first;
          task_for = task_for;
          came = uploads.came;
          carries = carries see on old new terms first job uploads.came h;
          answer = uploads.answer;
          acked = acked-of result uploads.answer;
        }))
        (causes-of result uploads.answer)
