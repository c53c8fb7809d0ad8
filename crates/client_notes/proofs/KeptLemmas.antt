-- The notes as a state that is kept.
use Rattle.std.proofs.Common.{◌≡◌, ◌≢◌, ◌↔◌, inl, inr, ⊎_elim, ℕ, zero, suc, ◌+◌, ◌<◌, ◌≤◌, List, [], ◌∷◌, IfSome, Result, Ok, Err, IsErr, IsErrOf, OnErr, OnOk, refl, sym, ◌∙◌, ap, subst, arith}
use Rattle.file_journal.specs.Commands.{MakesBetween, after_first}
use Rattle.file_journal.proofs.Offered.{good_header}
use Rattle.file_journal.specs.Journal.{HasGoodHeader, journal_of}
use Rattle.file_journal.specs.Kept as kept
use Rattle.file_journal.specs.Recovery.{IsFailedSync, IsSyncedFirst}
use Rattle.file_journal.specs.declared.faults.StoreFault.{StoreFault}
use Rattle.file_journal.specs.declared.faults.StoreFault.TheVariants as fault
use Rattle.file_journal.specs.declared.faults.JournalFault.{JournalFault}
use Rattle.file_journal.specs.declared.faults.JournalFault.TheVariants as journal_fault
use Rattle.file_journal.specs.declared.layout.Layout.TheVariants as layout
use Rattle.client_notes.specs.declared.noted_lists.Coming.{Coming}
use Rattle.client_notes.specs.declared.noted_lists.Coming.TheVariants as coming
use Rattle.client_notes.specs.declared.noted_lists.NotedLists.{NotedLists}
use Rattle.client_notes.specs.declared.refusals.NotesRefusal.TheVariants as refusal
use Rattle.client_notes.proofs.Names.{Ghosts, kept_on, Position, does_same, paced_always, room_always, runs_same, told_weaker, weaker, Noting, NotesCommand, Lists, lists_of, without, Answers, Does, EachImage, IsBeforeOrAfter, notes_form, notes_seen, notes_steps, AnswersRecovery, IsRecovered, Recovers, StandsAlike, IsReady, NotesState, StandsFor, StandsOn}
use Rattle.client_notes.proofs.PutLemmas.{IsPut, images-here, stands-notes}

-- some number of one command
before-or-after : (low high : ℕ) (lists : Lists) (command : NotesCommand) (image : List ℕ) → high ≤ 1 → MakesBetween notes_form low high lists (command ∷ []) image → IsBeforeOrAfter lists command image
before-or-after low high lists command image most (zero, least, few, stands) = inl stands
before-or-after low high lists command image most (suc zero, least, few, stands) = inr stands
before-or-after low high lists command image most (suc (suc more), least, few, stands) = absurd (omega (arith, few, most))

-- the journal of notes has but one half
pub one-half : notes_form.layout ≢ layout.Halves
one-half halves = absurd (cc halves)

module _ {D : Type 0} (g : Ghosts D) where
  module _ (old new : NotesState) (disk disk_now : D) (command : NotesCommand) where
    -- one command, said as the notes say it
    pub does-of : (P : Type 0) → StandsOn g new disk_now → kept.Does g notes_form P (command ∷ []) (kept_on old.lists old.journal disk) (kept_on new.lists new.journal disk_now)
        → Does g P old new disk disk_now command
    does-of P stands does = let exact = paced_always notes_form old.journal (g.moment disk) (command ∷ []) does.time one-half does.paces 1 (omega arith) in record {
      stands_on = stands;
      healthy = does.healthy;
      allowed = (does.allowed (inl refl)).0;
      since = told_weaker (g.content disk) _ _ (λ before told left.
          weaker g.moment g.images_since disk disk_now _ (IsBeforeOrAfter old.lists command) (λ image here. before-or-after 0 1 old.lists command image (omega arith) here) left) does.since;
      done = λ fine.
          let all = does.done fine in
          record {
            lists = all.0 (inl refl);
            healthy = all.1;
            images = subst (λ (l : Lists). EachImage g disk_now (λ image. StandsFor image l)) (all.0 (inl refl))
                (images-here g new.journal disk_now new.lists all.1 stands);
            calls = told_weaker (g.content disk) _ _ (λ before told is. omega (arith, is, exact)) (does.calls fine);
          };
      cut = λ failed.
          let some = does.cut failed in
          record {
            lists = none-done some.count some.fewer (some.state (inl refl));
            failed = some.failed;
            images = told_weaker (g.content disk_now) _ _ (λ now told each image here. before-or-after some.count (some.count + 1) old.lists command image (omega (arith, some.fewer)) (each image here)) some.images;
          };
      at_most = omega (arith, does.at_most, exact);
      puts = does.puts;
      journal = does.journal;
      moves = λ fine.
          let moved = does.moves fine (room_always notes_form old.journal (command ∷ []) one-half) in
          record { half = moved.half; place = omega (arith, moved.place) };
    }
      where
        none-done : (count : ℕ) → count < 1 → new.lists ≡ after_first notes_form count old.lists (command ∷ []) → new.lists ≡ old.lists
        none-done zero few is = is
        none-done (suc more) few is = absurd (omega (arith, few))

    -- what a call answers by a put that failed exactly where it does
    answers-of : {T U E : Type 0} (came : Result U E) (result : Result T JournalFault) → (IsErr came → IsErr result) → (IsErr result → IsErr came) → ¬ IsErrOf result journal_fault.Failed
        → IsPut g command (kept_on old.lists old.journal disk) (kept_on new.lists new.journal disk_now) came → Answers g old new disk disk_now command result
    answers-of came result there back fine put = record {
      failed = (λ was. absurd (fine was), λ before. absurd (cc (sym put.does.healthy ∙ before)));
      untouched = λ was. absurd (fine was);
      does = λ _. does-of (IsErr result) (stands-notes g new.journal new.lists disk_now put.stands_at) (does_same g notes_form _ _ (command ∷ []) _ _ there back put.does);
      stands_on = stands-notes g new.journal new.lists disk_now put.stands_at;
    }

    pub noting-done : {T U E : Type 0} (x : T) (y : U) → IsPut {T = T} {E = E} g command (kept_on old.lists old.journal disk) (kept_on new.lists new.journal disk_now) (Ok x)
        → Noting {T = U} g old new disk disk_now command (Ok y)
    noting-done x y put = record {
      refused = tt;
      can = λ was. cc (sym put.does.healthy ∙ was);
      untouched = inl refl;
      does = λ reaches. does-of _ (stands-notes g new.journal new.lists disk_now put.stands_at) (does_same g notes_form _ _ (command ∷ []) _ _ (λ is. is) (λ is. is) put.does);
      stands_on = stands-notes g new.journal new.lists disk_now put.stands_at;
    }

    pub noting-cut : {T U E : Type 0} (e : E) → IsPut {T = T} g command (kept_on old.lists old.journal disk) (kept_on new.lists new.journal disk_now) (Err e)
        → Noting {T = U} g old new disk disk_now command (Err refusal.Disk)
    noting-cut e put = record {
      refused = λ was. cc (sym put.does.healthy ∙ was);
      can = tt;
      untouched = inl refl;
      does = λ reaches. does-of _ (stands-notes g new.journal new.lists disk_now put.stands_at) (does_same g notes_form _ _ (command ∷ []) _ _ (λ is. refl) (λ is. refl) put.does);
      stands_on = stands-notes g new.journal new.lists disk_now put.stands_at;
    }

-- nothing is coming once a change was made, or where nothing was
pub nothing-comes : {T E : Type 0} (result : Result T E) (old new : NotedLists) → OnOk result (new.coming ≡ coming.Nothing) → OnErr result (new ≡ old) → old.coming ≡ coming.Nothing → new.coming ≡ coming.Nothing
nothing-comes (Ok x) old new made same nothing = made
nothing-comes (Err e) old new made same nothing = ap (λ (l : NotedLists). l.coming) same ∙ nothing

-- the lists are those that are noted then
pub all-noted : (noted : NotedLists) → noted.coming ≡ coming.Nothing → lists_of noted ≡ noted.lists
all-noted noted nothing = ap (λ (k : Coming). without k noted.lists) nothing

module _ {D T U E : Type 0} (g : Ghosts D) (before after : NotedLists) (journal journal_now : Position) (disk disk_now : D) (command : NotesCommand) (came : Result U E) (result : Result T JournalFault) where
  -- a command that takes no memory
  pub put-answers : (IsErr came → IsErr result) → (IsErr result → IsErr came) → ¬ IsErrOf result journal_fault.Failed → before.coming ≡ coming.Nothing → OnOk came (after.coming ≡ coming.Nothing) → OnErr came (after ≡ before)
      → IsPut g command (kept_on (lists_of before) journal disk) (kept_on (lists_of after) journal_now disk_now) came
      → Answers g (record { lists = before.lists; journal = journal }) (record { lists = after.lists; journal = journal_now }) disk disk_now command result
  put-answers there back fine nothing made same put =
      answers-of g (record { lists = before.lists; journal = journal }) (record { lists = after.lists; journal = journal_now }) disk disk_now command came result there back fine
      (subst (λ (l : Lists). IsPut g command (kept_on before.lists journal disk) (kept_on l journal_now disk_now) came)
      (all-noted after (nothing-comes came before after made same nothing))
      (subst (λ (l : Lists). IsPut g command (kept_on l journal disk) (kept_on (lists_of after) journal_now disk_now) came) (all-noted before nothing) put))

-- a command whose octets or task were brought first
module _ {D T U E : Type 0} (g : Ghosts D) (before brought after : NotedLists) (journal journal_now : Position) (disk disk_now : D) (command : NotesCommand) (noted : lists_of brought ≡ before.lists) where
  pub brought-done : (x : T) (y : U) → after.coming ≡ coming.Nothing
      → IsPut {T = T} {E = E} g command (kept_on (lists_of brought) journal disk) (kept_on (lists_of after) journal_now disk_now) (Ok x)
      → Noting {T = U} g (record { lists = before.lists; journal = journal }) (record { lists = after.lists; journal = journal_now }) disk disk_now command (Ok y)
  brought-done x y made put =
      noting-done g (record { lists = before.lists; journal = journal }) (record { lists = after.lists; journal = journal_now }) disk disk_now command x y
      (subst (λ (l : Lists). IsPut {T = T} {E = E} g command (kept_on before.lists journal disk) (kept_on l journal_now disk_now) (Ok x)) (all-noted after made)
      (subst (λ (l : Lists). IsPut {T = T} {E = E} g command (kept_on l journal disk) (kept_on (lists_of after) journal_now disk_now) (Ok x)) noted put))

  pub brought-cut : (e : E) (taken : NotedLists) → taken.lists ≡ lists_of after
      → IsPut {T = T} g command (kept_on (lists_of brought) journal disk) (kept_on (lists_of after) journal_now disk_now) (Err e)
      → Noting {T = U} g (record { lists = before.lists; journal = journal }) (record { lists = taken.lists; journal = journal_now }) disk disk_now command (Err refusal.Disk)
  brought-cut e taken back put =
      noting-cut g (record { lists = before.lists; journal = journal }) (record { lists = taken.lists; journal = journal_now }) disk disk_now command e
      (subst (λ (l : Lists). IsPut {T = T} g command (kept_on before.lists journal disk) (kept_on l journal_now disk_now) (Err e)) (sym back)
      (subst (λ (l : Lists). IsPut {T = T} g command (kept_on l journal disk) (kept_on (lists_of after) journal_now disk_now) (Err e)) noted put))

-- ---- a recovery

-- what a recovery gave is ready
pub recovered-ready : {D : Type 0} (g : Ghosts D) (disk disk_now : D) (self : NotesState) → IsRecovered g disk disk_now self → IsReady g self disk_now
recovered-ready g disk disk_now self is = record { healthy = is.healthy; stands_on = is.keeps }

-- and what it answers is what it did to the disk
pub recovers-as : {D T : Type 0} (g : Ghosts D) (disk disk_now : D) (self : NotesState) (x : T) → IsRecovered g disk disk_now self → AnswersRecovery {T = T} g (Ok x) disk disk_now → Recovers g disk disk_now self
recovers-as {T} g disk disk_now self x is answers = record {
  recovered = is;
  since_start = answers.since_start;
  since_sync = told_weaker (g.content disk) _ _ (λ before told. ⊎_elim
      (λ (synced : IsSyncedFirst g disk disk_now (StandsAlike before)). synced)
      (λ (failed : IsErrOf {T = T} (Ok x) fault.Disk × IsFailedSync g disk disk_now). absurd (cc failed.0))) answers.since_sync;
  runs = runs_same g _ ⊥ disk disk_now (λ failed. cc failed) (λ never. absurd never) answers.runs;
}

-- the content that it was given of begins as that of a store, or is of none yet
pub recovers-good : {D : Type 0} (g : Ghosts D) (disk disk_now : D) (self : NotesState) → Recovers g disk disk_now self
    → IfSome (g.content disk) (λ before. HasGoodHeader (journal_of notes_form.magic notes_form.layout before))
recovers-good g disk disk_now self recovers =
    told_weaker (g.content disk) _ _ (λ before told stands. good_header g notes_steps (λ held now. now) notes_form notes_seen 1 before self.lists stands) recovers.recovered.content

-- what a recovery answers, it answers as well where the same is refused
pub answers-as : {D T U : Type 0} (g : Ghosts D) (old now : D) (one : Result T StoreFault) (other : Result U StoreFault) → ((fault : StoreFault) → IsErrOf one fault ↔ IsErrOf other fault)
    → AnswersRecovery g one old now → AnswersRecovery g other old now
answers-as g old now one other same answers = record {
  refuses = λ healthy room. told_weaker (g.content old) _ _ (λ before told exact. record {
    not_a_store = λ found. also (fault.NotAStore found) (exact.not_a_store found);
    damaged = λ at. also (fault.Damaged at) (exact.damaged at);
  }) (answers.refuses (λ is. healthy ((same fault.Disk).0 is)) (λ is. room ((same fault.OutOfMemory).0 is)));
  untouched = λ found is. answers.untouched found ((same (fault.NotAStore found)).1 is);
  untouched_damage = λ at is. answers.untouched_damage at ((same (fault.Damaged at)).1 is);
  memory = λ is. answers.memory ((same fault.OutOfMemory).1 is);
  runs = runs_same g _ _ old now (same fault.Disk).0 (same fault.Disk).1 answers.runs;
  within = answers.within;
  since_start = answers.since_start;
  since_sync = told_weaker (g.content old) _ _ (λ before told. ⊎_elim
      (λ (synced : IsSyncedFirst g old now (StandsAlike before)). inl synced)
      (λ (failed : IsErrOf one fault.Disk × IsFailedSync g old now). inr ((same fault.Disk).0 failed.0, failed.1))) answers.since_sync;
}
  where
    also : {P : Type 0} (why : StoreFault) → IsErrOf one why ↔ P → IsErrOf other why ↔ P
    also why both = (λ is. both.0 ((same why).1 is), λ stands. (same why).0 (both.1 stands))

-- so where it wasn't refused, whatever it gave
pub answers-ok : {D T U : Type 0} (g : Ghosts D) (old now : D) (x : T) (y : U) → AnswersRecovery {T = T} g (Ok x) old now → AnswersRecovery {T = U} g (Ok y) old now
answers-ok g old now x y = answers-as g old now (Ok x) (Ok y) (λ why. (λ is. cc is, λ is. cc is))

-- and where it was
pub answers-err : {D T U : Type 0} (g : Ghosts D) (old now : D) (why : StoreFault) (other : Result U StoreFault) → other ≡ Err why → AnswersRecovery {T = T} g (Err why) old now → AnswersRecovery g other old now
answers-err {T} g old now why other same = answers-as {T = T} g old now (Err why) other (λ fault. (
  λ (is : IsErrOf {T = T} (Err why) fault). let one : why ≡ fault = cc is in same ∙ ap Err one,
  λ is. let one : why ≡ fault = cc (sym same ∙ is) in ap Err one,
))
