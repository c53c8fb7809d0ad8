-- A session or a server from the recovery of its store, which is refused or gives one, to its end by the turns of its
-- node; what it does to its disk, and what stands there.
use Rattle.std.proofs.Common.{◌≡◌, inl, inr, ℕ, List, ◌++◌, refl, ◌∙◌, ap, subst, arith, [], ◌∷◌, false, sym, Result, Ok, IfSome, Err, IsErrAnd, IsErrOf, Option}
use Rattle.disk_model.specs.AtDisk.{AtDisk, at}
use Rattle.file_journal.specs.Bounds.{RecoversInHalves}
use Rattle.file_journal.specs.Position.{Position}
use Rattle.file_journal.specs.Through.{StandsThrough}
use Rattle.disk_model.specs.Runs.{Runs, TakesStep}
use Rattle.server_node.specs.OnDisk.{NodeRuns}
use Rattle.file_journal.proofs.Offered.{known_told, recovers_on, runs_same}
use Rattle.disk_model.proofs.Offered.{runs_among, runs_missed}
use Rattle.server_node.proofs.Names.{AnswersRecovery, AtDisk, Command, Course, CutsOffAmongReads, DoesAmongReads, Ends, EndsOver, Finished, Ghosts, HasAirCause, IsBeforeTurns, IsButLast, IsKnown, IsNotOver, IsRead, IsReadOn, IsRecovered, Lent, LentParty, Made, MomentsOf, NodeHasCause, NodeStop, NodeTurnsBy, PutsAmongReads, RanBy, RefusesSession, Run, Seen, Served, Steps, StoppedInLast, StopsBehind, Store, StoreState, TakesAll, TookAll, TookTurns, Turn, TurnTerms, TurnsBy, at_told, common_steps, cuts-among-all, if_told, known_on, lent, made, party_at, served_by, stands-through, store_form, store_layout, store_magic, store_on, told_weaker}
use Rattle.server_node.proofs.StepsLemmas.{DidOnDisk}
use Rattle.turn_loop.specs.Stops.{stop_of_fault}
use Rattle.std.proofs.lemmas.Result.{err_from_is_err_and}
use Rattle.file_store.specs.IsStore.{IsStore}
use Rattle.file_store.specs.Journal.{HasGoodHeader, IsAfterRecovery, journal_of}
use Rattle.file_store.specs.StoreFault.{StoreFault}
use Rattle.turn_loop.specs.declared.stop.NodeStop.TheVariants as stop
use Rattle.file_store.specs.StoreFault.TheVariants as fault
use Rattle.turn_loop.specs.declared.finished.Finished.TheVariants as finished

-- what the clauses of serving say
pub record Serves {A C D : Type 0} (seen : Seen D A C) (blocks : ℕ) (given : Option ℕ) (Ran : Result Served NodeStop → Store → Run → Type 0) (old new : Lent D A C) (result : Result Served NodeStop) : Type 0 where
  pub refuses : RefusesSession blocks (seen.disk.content old.disk) result
  pub ends : Ends seen blocks given (Ran result) old new result
  pub counts : HasAirCause seen.air.read_faults seen.air.write_faults old.air new.air result
  pub memory : IsErrOf result stop.OutOfMemory → IsBeforeTurns old.air new.air old.clock new.clock
  pub runs : NodeRuns seen.disk (IsErrOf result stop.Disk) old.disk new.disk

-- ---- a recovery that is refused, whatever it would have given

-- the content, where it is told, is that of a store, or of none yet
abbrev IsOfStore : Option (List ℕ) → Type 0
IsOfStore content = IfSome content (λ before. HasGoodHeader (journal_of store_magic store_layout before))

-- one fault is one stop
same_fault : (why other : StoreFault) → stop_of_fault why ≡ stop_of_fault other → why ≡ other
same_fault why other is = grind (arith, common_steps)

-- the error of an answer
error_of : {T E : Type 0} (a b : E) → IsErrOf {T = T} (Err a) b → a ≡ b
error_of a b is = cc is

-- The answer of the recovery fails by the disk exactly where this fault is the disk's: it is that fault, or there was no
-- memory behind it.
module _ {A C D T : Type 0} (seen : Seen D A C) (blocks : ℕ) (given : Option ℕ) (Ran : Result Served NodeStop → Store → Run → Type 0) (old : Lent D A C) (disk_n : D) (answer : Result T StoreFault)
    (answers : AnswersRecovery seen.disk store_form blocks answer old.disk disk_n) (why : StoreFault) (there : IsErrOf answer fault.Disk → why ≡ fault.Disk) (back : why ≡ fault.Disk → IsErrOf answer fault.Disk)
    (untouched : (found : List ℕ) → why ≡ fault.NotAStore found → seen.disk.content disk_n ≡ seen.disk.content old.disk)
    (damage : (at : ℕ) → why ≡ fault.Damaged at → seen.disk.content disk_n ≡ seen.disk.content old.disk)
    (good : why ≡ fault.OutOfMemory → IsOfStore (seen.disk.content old.disk))
    (refuses : RefusesSession {T = Served} blocks (seen.disk.content old.disk) (Err (stop_of_fault why))) where
  abbrev Refused : Result Served NodeStop
  Refused = Err (stop_of_fault why)

  refused_runs : Runs seen.disk (IsErrOf Refused stop.Disk) old.disk disk_n
  refused_runs = runs_same seen.disk _ _ old.disk disk_n (λ is. rw (there is) refl) (λ is. back (same_fault why fault.Disk (error_of (stop_of_fault why) stop.Disk is))) answers.runs

  pub unserved : Serves seen blocks given Ran old (lent disk_n old.air old.clock) Refused
  unserved = record {
    refuses = refuses;
    ends = inl (record {
      fault = why;
      answer = refl;
      air = refl;
      clock = refl;
      runs = refused_runs;
      leaves = record { since_sync = told_weaker (seen.disk.content old.disk) _ _ (λ before told left. grind (arith, common_steps, there, left)) answers.since_sync; since_start = answers.since_start; not_a_store = untouched; damaged = damage; memory = good };
      within = answers.within;
    });
    counts = grind (arith, common_steps);
    memory = λ is. record { same_air = refl; same_clock = refl };
    runs = grind (arith, common_steps, refused_runs);
  }

module _ {A C D T : Type 0} (seen : Seen D A C) (blocks : ℕ) (given : Option ℕ) (Ran : Result Served NodeStop → Store → Run → Type 0) (old : Lent D A C) (disk_n : D) where
  -- the recovery was refused
  pub refused : (why : StoreFault) (result : Result Served NodeStop) → IsErrAnd result (λ e. e ≡ stop_of_fault why) → AnswersRecovery {T = T} seen.disk store_form blocks (Err why) old.disk disk_n
      → Serves seen blocks given Ran old (lent disk_n old.air old.clock) result
  refused why result is answers =
      let error = err_from_is_err_and result is in rw (error.1, error.2) (unserved seen blocks given Ran old disk_n (Err why) answers why (λ e. error_of why fault.Disk e) (λ e. ap Err e)
      (λ found e. answers.untouched found (ap Err e)) (λ at e. answers.untouched_damage at (ap Err e)) (λ e. answers.memory (ap Err e)) refuses_so)
    where
      refuses_so : RefusesSession {T = Served} blocks (seen.disk.content old.disk) (Err (stop_of_fault why))
      refuses_so no_disk no_memory =
          told_weaker (seen.disk.content old.disk) _ _ (λ before told exact. record {
            not_a_store = λ found. grind (arith, common_steps, exact.not_a_store found, same_fault why (fault.NotAStore found));
            damaged = λ at. grind (arith, common_steps, exact.damaged at, same_fault why (fault.Damaged at));
          }) (answers.refuses (λ e. no_disk (rw (error_of why fault.Disk e) refl)) (λ e. no_memory (rw (error_of why fault.OutOfMemory e) refl)))

  -- it gave this, and there was no memory behind it
  pub unlisted : (value : T) → AnswersRecovery {T = T} seen.disk store_form blocks (Ok value) old.disk disk_n → IsOfStore (seen.disk.content old.disk)
      → Serves seen blocks given Ran old (lent disk_n old.air old.clock) (Err stop.OutOfMemory)
  unlisted value answers good =
      unserved seen blocks given Ran old disk_n (Ok value) answers fault.OutOfMemory (λ e. cc e) (λ e. cc e) (λ found e. cc e) (λ at e. cc e) (λ e. good) (λ no_disk no_memory. absurd (no_memory refl))

-- ---- a recovery that gave a store

-- The recovery gave this, with this store on the disk.
pub record Recovers {D T : Type 0} (g : Ghosts D) (blocks : ℕ) (old mid : D) (value : T) (start : StoreState) : Type 0 where
  pub recovered : IsRecovered g blocks old mid start
  pub rules : IsStore (store_on g start mid)
  pub octets : TakesStep g old mid (IsAfterRecovery store_magic store_layout blocks)
  pub answers : AnswersRecovery {T = T} g store_form blocks (Ok value) old mid

-- all turns but the last
pub but_last : (turns : List Turn) → (earlier : List Turn) × IsButLast turns earlier
but_last [] = ([], inl (refl, refl))
but_last (next ∷ turns) = by (but_last turns).0 (but_last turns).1
  where
    by : (earlier : List Turn) → IsButLast turns earlier → (all : List Turn) × IsButLast (next ∷ turns) all
    by earlier (inl none) = ([], inr (next, cc none.0))
    by earlier (inr some) = (next ∷ earlier, inr (some.0, cc some.1))

-- nothing but two empty lists
pub append-none : {X : Type 0} (a b : List X) → a ++ b ≡ [] → (a ≡ []) × (b ≡ [])
append-none [] b none = (refl, none)
append-none (c ∷ a) b none = absurd (cc none)

-- ---- by how the turns ended: all that they bring was taken, or it stopped at an event of the last one

module _ {P A C D E : Type 0} (seen : Seen D A C) (Brings : List Turn → List ℕ → List E → Type 0) (course : Course P D E) (old new : LentParty P D A C) (terms : TurnTerms) (ended : Result Finished NodeStop)
    (took : TookTurns Brings course seen.air seen.given old new terms ended) where
  abbrev pub Causes : Result Served NodeStop → Type 0
  Causes result = HasAirCause seen.air.read_faults seen.air.write_faults old.air new.air result

  module _ (is_over : (p : P) → course.is_over p ≡ false) where
    pub never-over : IsNotOver ended
    never-over turns is = let over = rw is at took.ran in absurd (cc (sym over.2 ∙ is_over new.party))

    module _ {S F : Type 0} (steps : Steps S F) (from : S) (events : List F) (Came : Result Served NodeStop → Type 0) where
      abbrev pub Taken : Type 0
      Taken =
          (result : Result Served NodeStop) → TurnsBy result terms.polls took.all.turns → Causes result → ¬ IsErrOf result stop.Disk
          → ((least : List F) (made : Made) → TakesAll steps from events made [] → EndsOver result least steps from events took.unsaid made [])
          → TookAll course (party_at old) took.all.events took.text (party_at new) false → Came result

      abbrev pub Stopped : Type 0
      Stopped =
          (why : NodeStop) → TurnsBy (Err why) terms.polls took.all.turns → Causes (Err why)
          → ((least : List F) (made : Made) (cut : List Command) → StopsBehind least steps from events why took.unsaid made cut → EndsOver (Err why) least steps from events took.unsaid made cut)
          → StoppedInLast Brings course (party_at old) took.all why took.text took.unsaid (party_at new) → Came (Err why)

      -- it never halts for want of memory
      pub came-by : ((start now : AtDisk P D) (events : List E) (text : List ℕ) → ¬ course.halts start events stop.OutOfMemory took.unsaid text now) → Taken → Stopped → Came (served_by ended)
      came-by full taken stopped = by ended refl took.ends took.counts took.ran
        where
          by : (e : Result Finished NodeStop) → ended ≡ e → NodeTurnsBy e terms.polls took.all.turns → NodeHasCause seen.air old.air new.air e
              → RanBy Brings course (party_at old) took.all e took.text took.unsaid (party_at new) → Came (served_by e)
          by (Ok (finished.Over n)) is ends counts ran = absurd (never-over n is)
          by (Ok (finished.Closed n)) is ends counts ran = taken (Ok (record { turns = n })) ends counts (λ e. cc e) (λ l m h. h) ran
          by (Err stop.AirRead) is ends counts ran = taken (Err stop.AirRead) ends counts (λ e. cc e) (λ l m h. h) ran
          by (Err stop.Spent) is ends counts ran = taken (Err stop.Spent) ends counts (λ e. cc e) (λ l m h. h) ran
          by (Err stop.AirWrite) is ends counts ran = stopped stop.AirWrite ends counts (λ l m c h. h) ran
          by (Err stop.Disk) is ends counts ran = stopped stop.Disk ends counts (λ l m c h. h) ran
          by (Err stop.OutOfMemory) is ends counts ran = absurd (elim ran.ends [
            | inl none ↦ full _ _ _ _ none.3
            | inr some ↦ full _ _ _ _ some.2
          ])
          by (Err (stop.NotAStore found)) is ends counts ran = absurd ends
          by (Err (stop.Damaged at)) is ends counts ran = absurd ends

  -- ---- what that says of the disk

  -- what it came to at these moments
  abbrev pub run_of : {result : Result Served NodeStop} {before now : AtDisk StoreState D} → List ℕ → DidOnDisk seen.disk result before now → Run
  run_of moments did = record { turns = took.all.turns; moments = moments; all = made took.text did.done did.missed; cut = did.cut; unsaid = took.unsaid }

  -- It came to such a run over the store that the recovery gave, and ended so.
  pub record Came (given : Option ℕ) (first : C) (Ran : Result Served NodeStop → Store → Run → Type 0) (start store : StoreState) (result : Result Served NodeStop) : Type 0 where
    pub did : DidOnDisk seen.disk result (at start old.disk) (at store new.disk)
    pub moments : List ℕ
    pub moments_given : MomentsOf given (seen.given first) (seen.given new.clock) moments
    pub ran : Ran result (store_on seen.disk start old.disk) (run_of moments did)
    pub ends : TurnsBy result terms.polls took.all.turns
    pub counts : Causes result

  module _ {T : Type 0} (on : (first second third : D) → seen.disk.lasts first second → seen.disk.lasts second third → seen.disk.lasts first third) (blocks : ℕ) (given : Option ℕ)
      (Ran : Result Served NodeStop → Store → Run → Type 0) (disk : D) (clock : C) (value : T) (start store : StoreState) (result : Result Served NodeStop)
      (h : Recovers {T = T} seen.disk blocks disk old.disk value start) (came : Came given clock Ran start store result) where
    abbrev g : Ghosts D
    g = seen.disk

    abbrev did : DidOnDisk g result (at start old.disk) (at store new.disk)
    did = came.did

    abbrev Failed : Type 0
    Failed = IsErrOf result stop.Disk

    fine : ¬ IsErrOf {T = T} (Ok value) fault.Disk
    fine is = cc is

    -- what is known at the start is known behind the recovery
    cuts : IsKnown g disk → CutsOffAmongReads g Failed did.missed (at start old.disk) (at store new.disk) did.done did.cut
    cuts known = did.cuts (known_on g disk old.disk h.answers.runs.told known)

    standing :
        IsKnown g disk → (stands : StandsThrough g store_form Failed (store_on g start old.disk) did.done did.cut disk new.disk)
        × (stands.ready ≡ g.moment old.disk) × (stands.journal ≡ start.journal)
    standing known = stands-through g Failed blocks disk old.disk new.disk start store did.done did.cut did.missed h.answers.runs.told h.recovered.content h.answers.since_start
        (told_weaker (g.content disk) _ _ (λ octets told left. grind (arith, common_steps, left, fine)) h.answers.since_sync) (cuts known)

    puts : PutsAmongReads g Failed disk new.disk
    puts = runs_among g on _ Failed disk old.disk new.disk fine h.answers.runs did.puts

    -- all that it did
    did-all : IsKnown g disk → DoesAmongReads g Failed did.missed start store old.disk new.disk (did.done ++ did.cut)
    did-all known = cuts-among-all g on Failed did.missed (at start old.disk) (at store new.disk) did.done did.cut (cuts known)

    -- how long a disk gets is asked only where it tells its content, and then it is known what the files have
    within : RecoversInHalves g store_layout blocks disk new.disk
    within = if_told (g.content disk) _ (λ before told.
        at_told _ before told (recovers_on g store_layout blocks start.journal.blocks disk old.disk new.disk h.recovered.number h.answers.within (did-all (known_told store_form before told)).within))

    pub served : Serves seen blocks given Ran (lent disk old.air clock) (lent new.disk new.air new.clock) result
    served = record {
      refuses = λ no_disk no_memory. told_weaker (g.content disk) _ _ (λ octets told stood. grind (arith, common_steps, came.ends, stood)) h.recovered.content;
      ends = inr (record {
        start = store_on g start old.disk;
        rules = h.rules;
        stood = h.recovered.content;
        recovered = old.disk;
        octets = h.octets;
        run = run_of came.moments did;
        turns_heard = took.turns_heard;
        moments_given = came.moments_given;
        text_said = took.text_said;
        is_unsaid = took.is_unsaid;
        ran = came.ran;
        puts = puts;
        within = within;
        reads = λ known. runs_missed g on _ Failed disk old.disk new.disk fine h.answers.runs did.missed (did-all known).reads;
        stands = λ known. (standing known).0;
        ready = λ known. (standing known).1;
        journal = λ known.
            let ready = h.recovered.ready in
            let at = ready.stands_on in
            let read : IsRead start.journal =
            record { magic_is = at.magic_is; layout_is = at.layout_is; ended = at.holds.keeps.ended ready.healthy } in
            let on : IsReadOn g start.journal old.disk =
            record { read = read; healthy = ready.healthy; stands_on = at.holds.keeps.stands_on } in
            subst (λ (journal : Position). IsReadOn g journal old.disk) (sym (standing known).2) on;
        none = λ known none. (did-all known).none none;
      });
      counts = came.counts;
      memory = λ is. absurd (grind (arith, common_steps, came.ends, is));
      runs = grind (arith, common_steps, puts);
    }
