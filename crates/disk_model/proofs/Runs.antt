-- How a run of disk calls is put together of others.
use Rattle.std.proofs.Common.{◌≡◌, ◌⊎◌, inl, inr, ⊎_elim, ℕ, ◌+◌, ◌<◌, ◌≤◌, Bool, true, false, true≢false, List, Some, IfSome, Result, Ok, Err, IsErr, OnErr, OnOk, refl, sym, ◌∙◌, subst, arith}
use Rattle.disk_model.specs.declared.disk.Disk.{Ghosts}
use Rattle.disk_model.proofs.Names.{common_steps, HasCause, Only, SinceNow, TimePasses, ChangesReads, CountsFault, CountsSome, IsQuietNow, Makes, Puts, PutsAmongReads, Reads, Runs, StopsAtFault, TellsAlike, images_now, one_if}
use Rattle.disk_model.proofs.Told.{reads, weaker, alike_on, alike_same, at_told, told_weaker}

-- from two facts of an `Ok`
pub on_ok_both : {T E P Q R : Type 0} (result : Result T E) → (P → Q → R) → OnOk result P → OnOk result Q → OnOk result R
on_ok_both (Ok x) step p q = step p q
on_ok_both (Err e) step p q = tt

-- from a fact of an `Err`
pub on_err : {T E P Q : Type 0} (result : Result T E) → (P → Q) → OnErr result P → OnErr result Q
on_err (Ok x) step p = tt
on_err (Err e) step p = step p

-- where it is known which one came
pub ok_there : {T E P : Type 0} (result : Result T E) → ¬ IsErr result → OnOk result P → P
ok_there (Ok x) fine done = done
ok_there (Err e) fine done = absurd (fine refl)

pub err_there : {T E P : Type 0} (result : Result T E) → IsErr result → OnErr result P → P
err_there (Ok x) bad failed = absurd (true≢false (sym bad))
err_there (Err e) bad failed = failed

-- what both answers give
pub either_way : {T E P : Type 0} (result : Result T E) → OnOk result P → OnErr result P → P
either_way (Ok x) done failed = done
either_way (Err e) done failed = failed

-- One count.
pub counts_none : (count : ℕ) (P : Type 0) → ¬ P → CountsFault count count P
counts_none count P fine = record { no_less = omega arith; rose = λ failed. absurd (fine failed); same = λ still. refl }

pub counts_same : (before now : ℕ) (P Q : Type 0) → (P → Q) → (Q → P) → CountsFault before now P → CountsFault before now Q
counts_same before now P Q there back counts = record { no_less = counts.no_less; rose = λ q. counts.rose (back q); same = λ fine. counts.same (λ p. fine (there p)) }

-- behind calls that didn't fail
pub counts_on : (before mid now : ℕ) (P : Type 0) → mid ≡ before → CountsFault mid now P → CountsFault before now P
counts_on before mid now P same counts = subst (λ (n : ℕ). CountsFault n now P) same counts

module _ {D : Type 0} (g : Ghosts D) where
  pub still : (disk : D) → TimePasses g.moment g.images g.images_since disk disk
  still disk = record { later = omega arith; nothing_else = λ t image le since. inl since; keeps = λ t image le past. past }

  -- reads change nothing, one run of them and another
  pub changes_none : (disk : D) → ChangesReads g disk disk
  changes_none disk = record { same_content = refl; same_images = λ image. (λ now. now, λ was. was); same_moment = refl; same_past = λ t image. (λ now. now, λ was. was); same_write_faults = refl }

  pub changes_on : (old mid new : D) → ChangesReads g old mid → ChangesReads g mid new → ChangesReads g old new
  changes_on old mid new first second = grind (arith, common_steps)

  -- no call
  pub stops_none : (disk : D) → g.lasts disk disk → StopsAtFault g disk disk
  stops_none disk same = record { last = disk; lasts = same; lasts_on = same; reads = refl; writes = refl; since = inl (refl, omega arith, still disk) }

  -- reads alone
  pub stops_reads : (old new : D) → g.lasts old old → g.lasts old new → ChangesReads g old new → StopsAtFault g old new
  stops_reads old new same lasts only = record { last = old; lasts = same; lasts_on = lasts; reads = refl; writes = refl; since = inr only }

  module _ (on : (first second third : D) → g.lasts first second → g.lasts second third → g.lasts first third) where
    -- behind calls that didn't fail
    pub stops_on : (old mid new : D) → g.lasts old mid → g.read_faults mid ≡ g.read_faults old → g.write_faults mid ≡ g.write_faults old
        → StopsAtFault g mid new → StopsAtFault g old new
    stops_on old mid new lasts reads writes stops = grind (arith, common_steps)

    pub puts_on : (old mid new : D) (P Q : Type 0) → ¬ P → Puts g P old mid → Puts g Q mid new → Puts g Q old new
    puts_on old mid new P Q fine first second = record {
      told = alike_on _ _ _ first.told second.told;
      reads = second.reads ∙ first.reads;
      faults = counts_on _ _ _ Q (first.faults.same fine) second.faults;
      stops = stops_on old mid new first.lasts first.reads (first.faults.same fine) second.stops;
      lasts = on old mid new first.lasts second.lasts;
    }

    pub reads_on : (old mid new : D) (P Q : Type 0) → ¬ P → Reads g P old mid → Reads g Q mid new → Reads g Q old new
    reads_on old mid new P Q fine first second = record {
      only = changes_on old mid new first.only second.only;
      faults = counts_on _ _ _ Q (first.faults.same fine) second.faults;
      lasts = on old mid new first.lasts second.lasts;
    }

  -- one call of `write_at` or `sync`
  pub puts_once : {T E : Type 0} (result : Result T E) (old new : D) → g.lasts old old → TellsAlike (g.content old) (g.content new) → g.read_faults new ≡ g.read_faults old
      → HasCause (g.write_faults old) (g.write_faults new) result → g.moment new ≤ g.moment old + 1
      → TimePasses g.moment g.images g.images_since old new → g.lasts old new → Puts g (IsErr result) old new
  puts_once result old new same told reads cause one time lasts = grind (arith, common_steps)

  pub puts_none : (disk : D) (P : Type 0) → ¬ P → g.lasts disk disk → Puts g P disk disk
  puts_none disk P fine same = record { told = alike_same _ _ refl; reads = refl; faults = counts_none _ P fine; stops = stops_none disk same; lasts = same }

  pub puts_same : (old new : D) (P Q : Type 0) → (P → Q) → (Q → P) → Puts g P old new → Puts g Q old new
  puts_same old new P Q there back puts = record {
    told = puts.told;
    reads = puts.reads;
    faults = counts_same _ _ P Q there back puts.faults;
    stops = puts.stops;
    lasts = puts.lasts;
  }

  -- after a sync that passed
  pub quiet_by_sync : (old new : D) → g.content new ≡ g.content old → IfSome (g.content old) (Only (g.images new)) → IfSome (g.content old) (λ octets. g.moment new ≡ g.moment old + 1)
      → SinceNow g.moment g.images g.images_since old new → IsQuietNow g new
  quiet_by_sync old new same durable one since_now = grind (arith, common_steps)

  -- what a crash leaves of a quiet disk
  pub quiet_images : (disk : D) → ((t : ℕ) (image : List ℕ) → t ≤ g.moment disk → g.images disk image → g.images_since disk t image) → IsQuietNow g disk
      → (before : List ℕ) → g.content disk ≡ Some before → Only (g.images disk) before
  quiet_images disk counts_now rest before told image here = at_told (Only (images_now g disk)) before told rest image (counts_now (g.moment disk) image (omega arith) here)

  -- what a run makes and leaves is what is asked
  pub makes_weaker : {T E : Type 0} (result : Result T E) (old new : D) (step leaves other_step other_leaves : List ℕ → List ℕ → Type 0)
      → ((before now : List ℕ) → g.content old ≡ Some before → step before now → other_step before now)
      → ((before image : List ℕ) → g.content old ≡ Some before → leaves before image → other_leaves before image)
      → Makes g result old new step leaves → Makes g result old new other_step other_leaves
  makes_weaker result old new step leaves other_step other_leaves steps more makes = grind (arith, common_steps)

  -- A run that failed, of which more may be left than is asked.
  pub makes_failed : {T U E F : Type 0} (result : Result T E) (other : Result U F) (old new : D) (step leaves other_step other_leaves : List ℕ → List ℕ → Type 0) → IsErr other
      → ((before image : List ℕ) → g.content old ≡ Some before → leaves before image → other_leaves before image)
      → Makes g result old new step leaves → IsErr result → Makes g other old new other_step other_leaves
  makes_failed result (Ok x) old new step leaves other_step other_leaves failed more makes was = absurd (true≢false (sym failed))
  makes_failed result (Err e) old new step leaves other_step other_leaves failed more makes was = record {
    ok = tt;
    quiet = tt;
    since = told_weaker (g.content old) _ _ (λ before told left. weaker g.moment g.images_since old new _ _ (λ image here. more before image told here) left) makes.since;
    puts = puts_same old new (IsErr result) _ (λ p. failed) (λ p. was) makes.puts;
  }

  -- Two runs, one after the other, of which the first didn't fail.
  module _ (on : (first second third : D) → g.lasts first second → g.lasts second third → g.lasts first third) {T U E F : Type 0} (x : T) (result : Result U F) (old mid new : D)
      (first_step first_leaves second_step second_leaves step leaves : List ℕ → List ℕ → Type 0) where
    pub makes_on : Makes {E = E} g (Ok x) old mid first_step first_leaves → Makes g result mid new second_step second_leaves
        → ((before middle now : List ℕ) → g.content old ≡ Some before → first_step before middle → second_step middle now → step before now)
        → ((before image : List ℕ) → g.content old ≡ Some before → first_leaves before image → leaves before image)
        → ((before middle image : List ℕ) → g.content old ≡ Some before → g.content mid ≡ Some middle → first_step before middle → second_leaves middle image → leaves before image)
        → Makes g result old new step leaves
    makes_on first second steps early late = grind (arith, common_steps)

  -- no call, and reads that failed exactly where they are said to
  pub reads_none : (disk : D) (P : Type 0) → ¬ P → g.lasts disk disk → Reads g P disk disk
  reads_none disk P fine same = record { only = changes_none disk; faults = counts_none _ P fine; lasts = same }

  pub reads_same : (old new : D) (P Q : Type 0) → (P → Q) → (Q → P) → Reads g P old new → Reads g Q old new
  reads_same old new P Q there back run = record { only = run.only; faults = counts_same _ _ P Q there back run.faults; lasts = run.lasts }

  -- reads change nothing of what a crash since this moment might have left
  pub reads_now : (old new : D) → ChangesReads g old new → (image : List ℕ) → images_now g new image → images_now g old image
  reads_now old new only image now = subst (λ (t : ℕ). g.images_since old t image) only.same_moment ((only.same_past (g.moment new) image).0 now)

-- ---- a count of failed reads

-- none failed
pub some_still : (before now : ℕ) → now ≡ before → CountsSome before now 0
some_still before now same = record { no_less = omega (arith, same); rose = inl (omega (arith, same)); same = λ none. same }

-- one run, of which a call failed or none did
pub some_one : (before now : ℕ) (failed : Bool) → CountsFault before now (failed ≡ true) → CountsSome before now (one_if failed)
some_one before now true counts =
    let rose : before < 18446744073709551615 → before < now = counts.rose refl in
    record { no_less = counts.no_less; rose = rises before now counts.no_less rose; same = λ none. absurd (cc none) }
  where
    rises : (before now : ℕ) → before ≤ now → (before < 18446744073709551615 → before < now) → (before + 1 ≤ now) ⊎ (18446744073709551615 ≤ now)
    rises before now le rose = grind arith
some_one before now false counts = some_still before now (counts.same (λ e. cc e))

module _ {D : Type 0} (g : Ghosts D) where
  -- ---- writes and syncs, with reads among them

  -- reads alone, and no write that failed
  pub puts_among_reads : (P Q : Type 0) (old new : D) → g.lasts old old → ¬ Q → Reads g P old new → PutsAmongReads g Q old new
  puts_among_reads P Q old new same fine run = record {
    told = alike_same _ _ run.only.same_content;
    reads = run.faults.no_less;
    faults = record { no_less = omega (arith, run.only.same_write_faults); rose = λ failed. absurd (fine failed); same = λ still. run.only.same_write_faults };
    stops = record { last = old; lasts = same; lasts_on = run.lasts; writes = refl; since = inr run.only };
    lasts = run.lasts;
  }

  pub puts_among : (P : Type 0) (old new : D) → Puts g P old new → PutsAmongReads g P old new
  puts_among P old new puts = record {
    told = puts.told;
    reads = omega (arith, puts.reads);
    faults = puts.faults;
    stops = record {
      last = puts.stops.last;
      lasts = puts.stops.lasts;
      lasts_on = puts.stops.lasts_on;
      writes = puts.stops.writes;
      since = ⊎_elim (λ one. inl (one.1, one.2)) (λ only. inr only) puts.stops.since;
    };
    lasts = puts.lasts;
  }

  pub puts_among_same : (P Q : Type 0) (old new : D) → (P → Q) → (Q → P) → PutsAmongReads g P old new → PutsAmongReads g Q old new
  puts_among_same P Q old new there back puts = record {
    told = puts.told;
    reads = puts.reads;
    faults = counts_same _ _ P Q there back puts.faults;
    stops = puts.stops;
    lasts = puts.lasts;
  }

  -- behind calls of which no write and no sync failed
  pub among_on : ((first second third : D) → g.lasts first second → g.lasts second third → g.lasts first third) → (Q : Type 0) (old mid new : D) → g.lasts old mid → TellsAlike (g.content old) (g.content mid)
      → g.read_faults old ≤ g.read_faults mid → g.write_faults mid ≡ g.write_faults old → PutsAmongReads g Q mid new → PutsAmongReads g Q old new
  among_on on Q old mid new lasts told reads writes second = record {
    told = alike_on _ _ _ told second.told;
    reads = omega (arith, reads, second.reads);
    faults = counts_on _ _ _ Q writes second.faults;
    stops = record { last = second.stops.last; lasts = on old mid second.stops.last lasts second.stops.lasts; lasts_on = second.stops.lasts_on; writes = second.stops.writes ∙ writes; since = second.stops.since };
    lasts = on old mid new lasts second.lasts;
  }

  pub puts_among_then : ((first second third : D) → g.lasts first second → g.lasts second third → g.lasts first third) → (P Q : Type 0) (old mid new : D) → ¬ P
      → PutsAmongReads g P old mid → PutsAmongReads g Q mid new → PutsAmongReads g Q old new
  puts_among_then on P Q old mid new fine first second = among_on on Q old mid new first.lasts first.told first.reads (first.faults.same fine) second

-- ---- all calls of the disk of both

module _ {D : Type 0} (g : Ghosts D) (on : (first second third : D) → g.lasts first second → g.lasts second third → g.lasts first third) (P failed : Type 0) (old mid new : D) (fine : ¬ P)
    (first : Runs g P old mid) where
  -- writes and syncs behind a recovery, with reads among them
  pub runs_among : PutsAmongReads g failed mid new → PutsAmongReads g failed old new
  runs_among second = let same = first.faults.same fine in among_on g on failed old mid new first.lasts first.told (omega (arith, same.0)) same.1 second

  -- no more reads that failed are told of than were counted
  pub runs_missed : (missed : ℕ) → CountsSome (g.read_faults mid) (g.read_faults new) missed → CountsSome (g.read_faults old) (g.read_faults new) missed
  runs_missed missed second = subst (λ (n : ℕ). CountsSome n (g.read_faults new) missed) (first.faults.same fine).0 second
