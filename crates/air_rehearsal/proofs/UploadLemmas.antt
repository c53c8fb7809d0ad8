-- What becomes of a client that is asked for a new upload: the task of its file is begun.
use Rattle.std.proofs.Common.{◌≡◌, ◌≢◌, ◌⊎◌, ℕ, ◌+◌, ◌-◌, ◌<◌, ◌≤◌, ◌^◌, ◌&&◌, List, [], ◌∷◌, ◌++◌, length, reverse}
use Rattle.std.proofs.Common.{refl, sym, ap, ◌∙◌, subst, inl, inr, arith, Bool, true, false, Option, None, Some, Result, Ok, Err}
use Rattle.std.proofs.Common.{get_or, length-append}
use Rattle.std.specs.Prelude.{if◌then◌else◌}
use Rattle.std.proofs.lemmas.List.Quantifiers.{position-Some}
use Rattle.sha2.specs.Sha256.{sha256}
use Rattle.disk_model.specs.declared.halt.Halt.TheVariants as halt
use Rattle.client_notes.specs.OnDisk.{Does, IsBeforeOrAfter, Untouched}
use Rattle.client_notes.specs.Several as notes
use Rattle.client_notes.specs.declared.answers.Begun.TheVariants as begun
use Rattle.client_notes.specs.declared.refusals.NotesRefusal.TheVariants as refusal
use Rattle.ftl0_client_job.specs.declared.work.Work.TheVariants as work
use Rattle.ftl0_client.specs.ClientStep.{happening}
use Rattle.air_world.specs.Attempts.Party.{Party}
use Rattle.air_world.specs.Files.Tasks.{AreTasks}
use Rattle.air_rehearsal.proofs.Names.{IfSome, IsErr, IsErrOf, IsTrue, OnOk, decimal, nat_lt, slice_get, option_map, bytes_eq, Decides-ltb, eqb_tells, decimal_injective, get_or-reverse, length-reverse, slice_get-get_or, slice_get_within, bytes_eq-Decides, CallSign, Failed, Ghosts, Halt, EachImage, alone, cut_makes, room_always, told_weaker, weaker, StartsBy, answer_last, answer_of, fresh_task, start_reaches, NotesCommand, after, new_task, Lists, Task, is_task_for, last_task, place_from_end, task_count, task_of, notes_form, NotesState, StandsFor, Several-one, one-half, Begun, NotesRefusal, JobState, new_job, new_upload, Becomes, asking, asks, ClientState, IsClient, Asked, upload_file, client_commands, ClientPart, client_started, HasLanes, lanes_of, BeginsPart, KeepsButNotes, StartsTask, TouchesDisk, TouchesPart, uploads_then, KeepsParty, least_done, AreNamed, AsksNext, CarriesPart, HasAll, IsSeat, Seat, Party as StoredParty}
use Rattle.air_rehearsal.proofs.PartLemmas.{carries_none}

-- ---- no task has the name

both_right : (a b : Bool) → (a && b) ≡ true → b ≡ true
both_right true b is = is
both_right false b is = absurd (cc is)

-- where no task has this name there is no last one of it
none_last : (lists : Lists) (server caller : CallSign) (name : List ℕ)
    → ((task : ℕ) (entry : Task) → task_of lists task ≡ Some entry → entry.name ≢ name)
    → last_task lists server caller name ≡ None
none_last lists server caller name none = by (place_from_end lists server caller name) refl
  where
    test : Task → Bool
    test = is_task_for server caller name

    no_task : Task
    no_task = new_task (record { chars = []; ssid = 0 }) (record { chars = []; ssid = 0 }) [] 0 []

    there : (place : ℕ) → place < length lists.tasks → test (get_or (reverse lists.tasks) place no_task) ≡ true → ⊥
    there place below passes =
        let task : ℕ = length lists.tasks - place in
        let before : length lists.tasks - 1 - place ≡ task - 1 = omega arith in
        let entry : Task = get_or lists.tasks (task - 1) no_task in
        let is : get_or (reverse lists.tasks) place no_task ≡ entry =
        get_or-reverse lists.tasks place no_task below ∙ ap (λ i. get_or lists.tasks i no_task) before in
        let found : task_of lists task ≡ Some entry =
        at task (omega arith) (slice_get-get_or lists.tasks (task - 1) no_task (omega arith)) in
        none task entry found
        ((bytes_eq-Decides entry.name name).0 (both_right _ (bytes_eq entry.name name) (sym (ap test is) ∙ passes)))
      where
        at : (task : ℕ) → 1 ≤ task → {entry : Task} → slice_get lists.tasks (task - 1) ≡ Some entry
            → task_of lists task ≡ Some entry
        at task some is = elim (eqb_tells task 0) [
          | inl w ↦ absurd (let zero_is = w.1 in omega (arith, zero_is, some))
          | inr w ↦ rw w.0 is
        ]

    by : (o : Option ℕ) → place_from_end lists server caller name ≡ o → last_task lists server caller name ≡ None
    by None at = ap (option_map (λ place. task_count lists - place)) at
    by (Some place) at =
        let found = position-Some test (reverse lists.tasks) place no_task at in
        absurd (there place (subst (λ n. place < n) (length-reverse lists.tasks) found.0) found.1)

-- so it is of the next upload
pub answers_none : (files : List Asked) (c : ℕ) (party : Party) (upload : ℕ) (server caller : CallSign)
    (file_length : ℕ) (digest : List ℕ) → AreTasks files c party → AreNamed files → upload ≡ length files
    → upload < 2 ^ 32
    → answer_of party.client.lists server caller (decimal upload) file_length digest ≡ Ok None
answers_none files c party upload server caller file_length digest tasks named is fits =
    ap (answer_last party.client.lists file_length digest)
    (none_last party.client.lists server caller (decimal upload) other)
  where
    other : (task : ℕ) (entry : Task) → task_of party.client.lists task ≡ Some entry → entry.name ≢ decimal upload
    other task entry found same =
        let it = tasks.each task entry found in
        let below : it.upload < length files = slice_get_within files it.upload it.asked it.is_asked in
        let names : decimal it.upload ≡ decimal upload =
        sym (named it.upload it.asked it.is_asked) ∙ sym it.name_is ∙ same in
        let same_upload : it.upload ≡ upload =
        decimal_injective it.upload upload (omega (arith, below, is, fits)) (omega (arith, fits)) names in
        omega (arith, same_upload, below, is)

-- ---- one command

module _ {D : Type 0} (g : Ghosts D) (whole : ClientPart) (old new : NotesState) (disk disk_now : D)
    (command : NotesCommand) where
  -- A part with one command, which is done, or in which the disk failed.
  pub does_touches : {T : Type 0} (came : Result T Halt) (failed : Type 0) → old.lists ≡ whole.party.client.lists
      → client_commands whole ≡ command ∷ [] → Does g failed old new disk disk_now command
      → OnOk came (¬ failed) → (IsErrOf came halt.Disk → failed) → TouchesDisk g whole disk disk_now came
  does_touches {T} came failed lists_is commands_is does fine fails = record {
    carries = record {
      told = does.puts.told;
      since =
          told_weaker (g.content disk) _ _
          (λ before told left. weaker g.moment g.images_since disk disk_now _ _ first left) does.since;
      lasts = does.puts.lasts;
    };
    reads = does.puts.reads;
    fails = λ is. does.puts.faults.rose (fails is);
    cut = λ is calls passed.
        let several = Several-one g failed old new disk disk_now command does in
        let makes = cut_makes g notes_form (alone g failed) failed (command ∷ []) [] (notes.notes_on old disk)
        (notes.notes_on new disk_now) calls (fails is)
        (room_always notes_form old.journal (command ∷ []) one-half) several.does passed in
        subst
        (λ (commands : List NotesCommand). IfSome (g.content disk) (λ _. EachImage g disk_now
        (notes.MakesBetween (least_done Failed calls Lists NotesCommand notes_form commands) (length commands) whole.party.client.lists
        commands))) (sym commands_is)
        (subst
        (λ (l : Lists). IfSome (g.content disk) (λ _. EachImage g disk_now
        (notes.MakesBetween (least_done Failed calls Lists NotesCommand notes_form (command ∷ [])) 1 l (command ∷ [])))) lists_is makes);
    done = by came fine;
  }
    where
      first : (image : List ℕ) → IsBeforeOrAfter old.lists command image
          → notes.MakesFirst whole.party.client.lists (client_commands whole) image
      first image stands =
          subst (λ (commands : List NotesCommand). notes.MakesFirst whole.party.client.lists commands image)
          (sym commands_is)
          (subst (λ (l : Lists). notes.MakesFirst l (command ∷ []) image) lists_is (one stands))
        where
          one : StandsFor image old.lists ⊎ StandsFor image (after old.lists command)
              → notes.MakesFirst old.lists (command ∷ []) image
          one (inl before) = (0, omega arith, omega arith, before)
          one (inr now) = (1, omega arith, omega arith, now)

      all : (image : List ℕ) → StandsFor image (after old.lists command) → HasAll whole image
      all image stands =
          subst
          (λ (commands : List NotesCommand). notes.MakesBetween (length commands) (length commands)
          whole.party.client.lists commands image) (sym commands_is)
          (subst (λ (l : Lists). notes.MakesBetween 1 1 l (command ∷ []) image) lists_is
          (1, omega arith, omega arith, stands))

      by : (came : Result T Halt) → OnOk came (¬ failed) → OnOk came (EachImage g disk_now (HasAll whole))
      by (Ok x) fine =
          told_weaker (g.content disk_now) _ _ (λ before told each image now. all image (each image now))
          (does.done fine).images
      by (Err why) fine = tt

-- ---- the next upload

-- the part in which the upload of this number and file is asked
abbrev pub part_for : Seat → ℕ → List ℕ → ClientPart
part_for seat upload file =
    record {
      party = seat.party;
      coming = asks (new_job (work.Upload (new_upload (task_count seat.party.client.lists + 1) 0 file)));
      started =
          fresh_task seat.party.client.lists seat.party.client.server seat.party.client.me (decimal upload)
          (length file) (sha256 file)
          ∷ [];
      begun = upload ∷ [];
      asked = (record { client = seat.c; name = decimal upload; file = file }) ∷ [];
    }

pub part_is_for : (seat : Seat) (upload : ℕ) (file : List ℕ) (whole : ClientPart) → AsksNext seat upload file whole
    → whole ≡ part_for seat upload file
part_is_for seat upload file whole asked =
    asked.part_is ∙ ap (λ n. part_for seat n (upload_file n asked.count)) (sym asked.upload_is)
    ∙ ap (part_for seat upload) (sym asked.file_is)

-- asking delivers nothing
pub lanes_asked : (self : StoredParty) (seat : Seat) → IsSeat self seat → (upload : ℕ) (file : List ℕ)
    (whole : ClientPart) → AsksNext seat upload file whole
    → HasLanes self.attempt (lanes_of whole.party.attempts)
lanes_asked self seat at_seat upload file whole asked =
    subst (λ (p : ClientPart). HasLanes self.attempt (lanes_of p.party.attempts))
    (sym (part_is_for seat upload file whole asked)) at_seat.plays.lanes

-- the calls, the file and its name are those of the code
pub record Names (self : ClientState) (seat : Seat) (name : List ℕ) (upload file_length : ℕ) (digest file : List ℕ)
    : Type 0 where
  pub client : IsClient self seat.party.client
  pub name_is : name ≡ decimal upload
  pub length_is : file_length ≡ length file
  pub digest_is : digest ≡ sha256 file

-- the command by which the task is begun
abbrev pub start_of : Seat → ℕ → List ℕ → NotesCommand
start_of seat upload file =
    fresh_task seat.party.client.lists seat.party.client.server seat.party.client.me (decimal upload) (length file)
    (sha256 file)

pub start_is : (self : ClientState) (seat : Seat) (name : List ℕ) (upload file_length : ℕ) (digest file : List ℕ)
    → Names self seat name upload file_length digest file
    → fresh_task self.notes.lists self.server self.me name file_length digest ≡ start_of seat upload file
start_is self seat name upload file_length digest file names =
    let lists = names.client.lists in
    let server = names.client.server in
    let me = names.client.me in
    let name_is = names.name_is in
    let length_is = names.length_is in
    let digest_is = names.digest_is in
    cc

module _ {D : Type 0} (g : Ghosts D) (lasts : (disk : D) → g.lasts disk disk) (self : StoredParty) (seat : Seat)
    (at_seat : IsSeat self seat) (upload : ℕ) (file : List ℕ) (whole : ClientPart)
    (asked : AsksNext seat upload file whole) (new : ClientState) (disk disk_now : D) where
  -- what the code's call says, in terms of the world
  pub record Started (result : Result Begun NotesRefusal) : Type 0 where
    pub untouched : IsTrue (start_reaches result) ⊎ Untouched self.client.notes new.notes disk disk_now
    pub does :
        IsTrue (start_reaches result)
        → Does g (IsErr result) self.client.notes new.notes disk disk_now (start_of seat upload file)

  abbrev it : ClientPart
  it = part_for seat upload file

  to_whole : {T : Type 0} (came : Result T Halt) → TouchesDisk g it disk disk_now came
      → TouchesDisk g whole disk disk_now came
  to_whole came touches =
      subst (λ (p : ClientPart). TouchesDisk g p disk disk_now came) (sym (part_is_for seat upload file whole asked))
      touches

  -- a fresh task was begun
  pub fresh_touches : (task : ℕ) → Started (Ok (begun.Fresh task)) → TouchesDisk g whole disk disk_now (Ok task)
  fresh_touches task started =
      to_whole (Ok task)
      (does_touches g it self.client.notes new.notes disk disk_now (start_of seat upload file) (Ok task) _
      at_seat.plays.client.lists refl (started.does refl) (λ failed. cc failed) (λ failed. absurd (cc failed)))

  -- the disk failed
  pub cut_touches : {T : Type 0} → Started (Err refusal.Disk) → TouchesDisk g {T = T} whole disk disk_now (Err halt.Disk)
  cut_touches {T} started =
      to_whole {T = T} (Err halt.Disk)
      (does_touches g it self.client.notes new.notes disk disk_now (start_of seat upload file) {T = T} (Err halt.Disk) _
      at_seat.plays.client.lists refl (started.does refl) tt (λ failed. refl))

  -- nothing was touched
  pub rest_touches : {T : Type 0} (result : Result Begun NotesRefusal) → Started result
      → (IsTrue (start_reaches result) → ⊥) → TouchesDisk g {T = T} whole disk disk_now (Err halt.OutOfMemory)
  rest_touches {T} result started none = by started.untouched
    where
      same : Untouched self.client.notes new.notes disk disk_now
          → TouchesDisk g {T = T} whole disk disk_now (Err halt.OutOfMemory)
      same is = record {
        carries =
            subst (λ (d : D). CarriesPart g whole disk d) (sym is.same_disk) (carries_none g lasts whole disk);
        reads = ap g.read_faults is.same_disk;
        fails = λ failed. absurd (cc failed);
        cut = λ failed. absurd (cc failed);
        done = tt;
      }

      by : IsTrue (start_reaches result) ⊎ Untouched self.client.notes new.notes disk disk_now
          → TouchesDisk g {T = T} whole disk disk_now (Err halt.OutOfMemory)
      by (inl reaches) = absurd (none reaches)
      by (inr is) = same is

  -- the client then, and how many tasks there are
  pub fresh_starts : (task : ℕ) → Started (Ok (begun.Fresh task))
      → StartsBy self.client.notes (Ok None) (Ok (begun.Fresh task))
      → Becomes self.client new (λ client. record client { lists = new.notes.lists })
      → (stored : StoredParty) → stored.client ≡ new → stored.uploads.items ≡ self.uploads.items → StartsTask whole task stored
  fresh_starts task started starts becomes stored client_is uploads_are =
      let lists : new.notes.lists ≡ after self.client.notes.lists (start_of seat upload file) =
      ((started.does refl).done (λ failed. cc failed)).lists in
      let lists_now : new.notes.lists ≡ after seat.party.client.lists (start_of seat upload file) =
      lists ∙ ap (λ (l : Lists). after l (start_of seat upload file)) at_seat.plays.client.lists in
      let task_is : task ≡ task_count self.client.notes.lists + 1 = cc starts.1 in
      let as_many = (at_seat.sound.parties seat.c seat.party at_seat.is_party).tasks.as_many in
      subst (λ (p : ClientPart). StartsTask p task stored) (sym (part_is_for seat upload file whole asked))
      (record {
        client =
            subst (λ (s : ClientState). IsClient s (client_started it)) (sym client_is)
            (subst (λ (l : Lists). IsClient new (record seat.party.client { lists = l })) lists_now
            (becomes seat.party.client at_seat.plays.client));
        task_is = task_is ∙ ap (λ (l : Lists). task_count l + 1) at_seat.plays.client.lists;
        count =
            ap (λ (s : ClientState). task_count s.notes.lists) client_is ∙ ap task_count lists_now
            ∙ length-append seat.party.client.lists.tasks _
            ∙ ap (λ n. n + 1) (sym as_many ∙ ap length (sym at_seat.plays.uploads_are))
            ∙ ap (λ (items : List ℕ). length items + 1) (sym uploads_are);
      })

-- the uploads with one task more
pub uploads_more : (tasks upload : ℕ) (uploads : List ℕ) → tasks ≡ length uploads + 1
    → uploads_then tasks upload uploads ≡ uploads ++ upload ∷ []
uploads_more tasks upload uploads is =
    ap (λ b. if b then uploads ++ upload ∷ [] else uploads)
    ((Decides-ltb (length uploads) tasks).1 (omega (arith, is)))

-- and where no task was begun
pub uploads_same : (tasks upload : ℕ) (uploads : List ℕ) → tasks ≡ length uploads
    → uploads_then tasks upload uploads ≡ uploads
uploads_same tasks upload uploads is =
    ap (λ b. if b then uploads ++ upload ∷ [] else uploads) (by (nat_lt (length uploads) tasks) refl)
  where
    by : (b : Bool) → nat_lt (length uploads) tasks ≡ b → nat_lt (length uploads) tasks ≡ false
    by false at = at
    by true at = absurd (let less = (Decides-ltb (length uploads) tasks).0 at in omega (arith, less, is))

-- ---- what the code's call says, in terms of the world

pub started_by : {D : Type 0} (g : Ghosts D) (lasts : (disk : D) → g.lasts disk disk) (self : StoredParty)
    (seat : Seat) (at_seat : IsSeat self seat) (upload : ℕ) (file : List ℕ) (whole : ClientPart)
    (asked : AsksNext seat upload file whole) (new : ClientState) (disk disk_now : D)
    (result : Result Begun NotesRefusal) (name : List ℕ) (file_length : ℕ) (digest : List ℕ)
    → Names self.client seat name upload file_length digest file
    → IsTrue (start_reaches result) ⊎ Untouched self.client.notes new.notes disk disk_now
    → (IsTrue (start_reaches result) → Does g (IsErr result) self.client.notes new.notes disk disk_now
    (fresh_task self.client.notes.lists self.client.server self.client.me name file_length digest))
    → Started g lasts self seat at_seat upload file whole asked new disk disk_now result
started_by g lasts self seat at_seat upload file whole asked new disk disk_now result name file_length digest names
    untouched does =
    record {
      untouched = untouched;
      does = λ reaches.
          subst (λ (c : NotesCommand). Does g (IsErr result) self.client.notes new.notes disk disk_now c)
          (start_is self.client seat name upload file_length digest file names) (does reaches);
    }

-- a fresh task is wanted
pub wants_fresh : (self : StoredParty) (seat : Seat) → IsSeat self seat → (upload : ℕ) (file : List ℕ)
    (whole : ClientPart) → AsksNext seat upload file whole → upload < 2 ^ 32 → (name : List ℕ) (file_length : ℕ)
    (digest : List ℕ) → Names self.client seat name upload file_length digest file
    → answer_of self.client.notes.lists self.client.server self.client.me name file_length digest ≡ Ok None
wants_fresh self seat at_seat upload file whole asked fits name file_length digest names =
    ap (λ (l : Lists). answer_of l self.client.server self.client.me name file_length digest)
    at_seat.plays.client.lists
    ∙ ap (λ (n : List ℕ). answer_of seat.party.client.lists self.client.server self.client.me n file_length digest)
    names.name_is
    ∙ answers_none seat.world.files seat.c seat.party upload self.client.server self.client.me file_length digest
    (at_seat.sound.parties seat.c seat.party at_seat.is_party).tasks at_seat.named asked.upload_is fits

-- ---- the client that is asked for the upload

module _ {D : Type 0} (g : Ghosts D) (self begun new : StoredParty) (seat : Seat) (upload : ℕ) (file : List ℕ)
    (whole : ClientPart) (task : ℕ) (now : ClientState) (job : JobState) (disk disk_now : D) where
  pub begins_upload : IsSeat self seat → AsksNext seat upload file whole
      → TouchesPart g whole begun disk disk_now (Ok task) → StartsTask whole task begun → KeepsButNotes self begun
      → Becomes begun.client now (λ client. asking client job)
      → job ≡ new_job (work.Upload (new_upload task 0 file)) → now.notes ≡ begun.client.notes
      → KeepsParty (record begun { client = now }) new
      → new.uploads.items ≡ uploads_then (task_count now.notes.lists) upload begun.uploads.items
      → BeginsPart g whole self new disk disk_now
  begins_upload at_seat asked touches starts keeps becomes job_is notes kept uploads =
      let is : whole ≡ part_for seat upload file = part_is_for seat upload file whole asked in
      let asked_is : IsClient now (asking (client_started whole) job) =
      becomes (client_started whole) starts.client in
      let task_is : task ≡ task_count seat.party.client.lists + 1 =
      subst (λ (p : ClientPart). task ≡ task_count p.party.client.lists + 1) is starts.task_is in
      let job_for : job ≡ new_job (work.Upload (new_upload (task_count seat.party.client.lists + 1) 0 file)) =
      job_is ∙ ap (λ n. new_job (work.Upload (new_upload n 0 file))) task_is in
      let client : IsClient new.client (asking (client_started (part_for seat upload file)) job) =
      subst (λ (s : ClientState). IsClient s (asking (client_started (part_for seat upload file)) job))
      (sym kept.client)
      (subst (λ (p : ClientPart). IsClient now (asking (client_started p) job)) is asked_is) in
      let more : new.uploads.items ≡ seat.party.uploads ++ upload ∷ [] =
      uploads
      ∙ uploads_more (task_count now.notes.lists) upload begun.uploads.items
      (ap (λ (n : NotesState). task_count n.lists) notes ∙ starts.count)
      ∙ ap (λ (items : List ℕ). items ++ upload ∷ [])
      (ap (λ (p : StoredParty). p.uploads.items) keeps ∙ at_seat.plays.uploads_are) in
      record {
        client =
            subst (λ (p : ClientPart). IsClient new.client (happening (client_started p) p.coming).after) (sym is)
            (subst (λ (j : JobState). IsClient new.client (asking (client_started (part_for seat upload file)) j))
            job_for client);
        lanes = subst (λ attempt. HasLanes attempt (lanes_of whole.party.attempts)) (sym kept.attempt) touches.lanes;
        uploads =
            subst (λ (p : ClientPart). new.uploads.items ≡ p.party.uploads ++ p.begun) (sym is) more;
        cut = kept.cut ∙ ap (λ (p : StoredParty). p.cut) keeps;
        carries = touches.touches.carries;
      }
