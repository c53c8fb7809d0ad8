-- What short reads and writes add up to.
use Rattle.std.proofs.Common.{◌≡◌, inl, inr, ⊎_elim, ℕ, ◌+◌, ◌-◌, ◌<◌, ◌≤◌, List, [], ◌∷◌, ◌++◌, length, take, drop, Bool, true, Ok, Err, refl, sym, ◌∙◌, ap, subst, arith, rules, add-zero, add_assoc, length-take-le}
use Rattle.std.specs.List.{AllByRecursion}
use Rattle.real_outside.specs.Disk.DeviceLaws.{IsTrueRead, octets_after}
use Rattle.disk_model.specs.Disk.{Torn}
use Rattle.disk_model.specs.Surface.{write_over}
use Rattle.real_outside.specs.declared.disk.device.DeviceCall.TheVariants as call
use Rattle.disk_model.proofs.Writes.{get_or-write_over_outside, length-write_over, torn_by_places}
use Rattle.real_outside.proofs.Names.{take-add, cases_lt, false≢true, append-nil, drop-drop, places, same_lists, take_all, GoesOn, IsReadOf, IsWriteOf, all_given, DeviceCall}

-- octets written after others
pub write_over_twice : (old : List ℕ) (at : ℕ) (first second : List ℕ) → write_over (write_over old at first) (at + length first) second ≡ write_over old at (first ++ second)
write_over_twice old at first second = same_lists _ _ (search (rules, places)) (λ k d h. grind (arith, places))

-- no more is moved than there is
goes_within : (IsNext : ℕ → DeviceCall → Type 0) (all before : ℕ) (calls : List DeviceCall) (done : Bool) → GoesOn IsNext all before calls done → before ≤ all
goes_within IsNext all before [] done run = omega (arith, run.0)
goes_within IsNext all before (next ∷ later) done run = omega (arith, run.0)

module _ (octets written : List ℕ) (at : ℕ) where
  -- this number of octets was written: what is written after them is there after them, and if there are any, they are
  -- there
  record Wrote (before : ℕ) (now : List ℕ) : Type 0 where
    pub behind : (more : List ℕ) → write_over now (at + before) more ≡ write_over octets at (take before written ++ more)
    pub there : 0 < before → now ≡ write_over octets at (take before written)
    pub none : before ≡ 0 → now ≡ octets

  wrote_none : Wrote 0 octets
  wrote_none = record {
    behind = λ more. ap (λ (n : ℕ). write_over octets n more) (add-zero at);
    there = λ some. absurd (omega (arith, some));
    none = λ is. refl;
  }

  wrote_more : (before count : ℕ) (now : List ℕ) → before + count ≤ length written → 0 < count → Wrote before now → Wrote (before + count) (write_over now (at + before) (take count (drop before written)))
  wrote_more before count now within some wrote = record { behind = behind; there = λ _. there; none = λ is. absurd (omega (arith, is, some)) }
    where
      there : write_over now (at + before) (take count (drop before written)) ≡ write_over octets at (take (before + count) written)
      there = wrote.behind (take count (drop before written)) ∙ ap (λ (l : List ℕ). write_over octets at l) (sym (take-add before count written))

      behind : (more : List ℕ) → write_over (write_over now (at + before) (take count (drop before written))) (at + (before + count)) more ≡ write_over octets at (take (before + count) written ++ more)
      behind more =
          ap (λ (l : List ℕ). write_over l (at + (before + count)) more) there
          ∙ ap (λ (n : ℕ). write_over (write_over octets at (take (before + count) written)) (at + n) more) (sym (length-take-le (before + count) written within))
          ∙ write_over_twice octets at (take (before + count) written) more

  one_write_from : (before : ℕ) (now : List ℕ) (calls : List DeviceCall) → 0 < length written → Wrote before now → GoesOn (λ b. IsWriteOf (at + b) (drop b written)) (length written) before calls true → octets_after now calls ≡ write_over octets at written
  one_write_from before now [] some wrote run =
      wrote.there (omega (arith, run.0, some)) ∙ ap (λ (l : List ℕ). write_over octets at l) (take_all before written (omega (arith, run.0)))
  one_write_from before now (call.Len answer ∷ later) some wrote run = absurd run.1
  one_write_from before now (call.Read place count answer ∷ later) some wrote run = absurd run.1
  one_write_from before now (call.Sync answer ∷ later) some wrote run = absurd run.1
  one_write_from before now (call.Write place bytes (Err down) ∷ later) some wrote run =
      absurd (⊎_elim (λ stop. false≢true (sym stop.2)) (λ goes. omega (arith, goes.0)) run.2)
  one_write_from before now (call.Write place bytes (Ok count) ∷ later) some wrote run =
      ap (λ (p : ℕ). octets_after (write_over now p (take count bytes)) later) run.1.0
      ∙ ap (λ (b : List ℕ). octets_after (write_over now (at + before) (take count b)) later) run.1.1
      ∙ ⊎_elim (λ stop. absurd (false≢true (sym stop.2)))
      (λ goes.
      one_write_from (before + count) (write_over now (at + before) (take count (drop before written))) later some
      (wrote_more before count now (goes_within (λ b. IsWriteOf (at + b) (drop b written)) (length written) (before + count) later true goes.1) goes.0 wrote) goes.1)
      run.2

  pub one_write : (calls : List DeviceCall) → 0 < length written → GoesOn (λ b. IsWriteOf (at + b) (drop b written)) (length written) 0 calls true → octets_after octets calls ≡ write_over octets at written
  one_write calls some run = one_write_from 0 octets calls some wrote_none run

  -- the first octets, this number of them, over what was there
  torn_front : (n : ℕ) → n ≤ length written → Torn at (length written) octets (write_over octets at (take n written))
  torn_front n within =
      let size : length (take n written) ≡ n = length-take-le n written within in
      let long = length-write_over octets at (take n written) in
      torn_by_places at (length written) octets (write_over octets at (take n written)) (omega (arith, long, size, within)) (omega (arith, long, size, within))
      (λ place below outside.
      get_or-write_over_outside octets at (take n written) place below (λ inside. outside (inside.0, omega (arith, inside.1, size, within))))

  torn_none : Torn at (length written) octets octets
  torn_none = torn_by_places at (length written) octets octets (omega arith) (omega arith) (λ place below outside. refl)

  torn_so_far : (before : ℕ) (now : List ℕ) → before ≤ length written → Wrote before now → Torn at (length written) octets now
  torn_so_far before now within wrote = elim (cases_lt 0 before) [
    | inl some ↦ subst (λ (l : List ℕ). Torn at (length written) octets l) (sym (wrote.there some)) (torn_front before within)
    | inr none ↦ subst (λ (l : List ℕ). Torn at (length written) octets l) (sym (wrote.none (omega (arith, none)))) torn_none
  ]

  -- a write of none after this number of octets
  torn_at_none : (before : ℕ) (now : List ℕ) → before ≤ length written → Wrote before now → Torn at (length written) octets (write_over now (at + before) [])
  torn_at_none before now within wrote =
      subst (λ (l : List ℕ). Torn at (length written) octets l)
      (sym (wrote.behind [] ∙ ap (λ (l : List ℕ). write_over octets at l) (append-nil (take before written)))) (torn_front before within)

  torn_write_from : (before : ℕ) (now : List ℕ) (calls : List DeviceCall) (done : Bool) → Wrote before now → GoesOn (λ b. IsWriteOf (at + b) (drop b written)) (length written) before calls done → Torn at (length written) octets (octets_after now calls)
  torn_write_from before now [] done wrote run = torn_so_far before now (omega (arith, run.0)) wrote
  torn_write_from before now (call.Len answer ∷ later) done wrote run = absurd run.1
  torn_write_from before now (call.Read place count answer ∷ later) done wrote run = absurd run.1
  torn_write_from before now (call.Sync answer ∷ later) done wrote run = absurd run.1
  torn_write_from before now (call.Write place bytes (Err down) ∷ later) done wrote run =
      ⊎_elim
      (λ stop.
      subst (λ (l : List DeviceCall). Torn at (length written) octets (octets_after now l)) (sym stop.1) (torn_so_far before now (omega (arith, run.0)) wrote))
      (λ goes. absurd (omega (arith, goes.0)))
      run.2
  torn_write_from before now (call.Write place bytes (Ok count) ∷ later) done wrote run =
      let same : octets_after (write_over now (at + before) (take count (drop before written))) later ≡ octets_after (write_over now place (take count bytes)) later =
      sym
      (ap (λ (p : ℕ). octets_after (write_over now p (take count bytes)) later) run.1.0
      ∙ ap (λ (b : List ℕ). octets_after (write_over now (at + before) (take count b)) later) run.1.1) in
      subst (λ (l : List ℕ). Torn at (length written) octets l) same
      (⊎_elim
      (λ stop.
      subst (λ (l : List DeviceCall). Torn at (length written) octets (octets_after (write_over now (at + before) (take count (drop before written))) l)) (sym stop.1)
      (subst (λ (n : ℕ). Torn at (length written) octets (write_over now (at + before) (take n (drop before written)))) (sym stop.0)
      (torn_at_none before now (omega (arith, run.0)) wrote)))
      (λ goes.
      torn_write_from (before + count) (write_over now (at + before) (take count (drop before written))) later done
      (wrote_more before count now (goes_within (λ b. IsWriteOf (at + b) (drop b written)) (length written) (before + count) later done goes.1) goes.0 wrote) goes.1)
      run.2)

  pub torn_write : (calls : List DeviceCall) (done : Bool) → GoesOn (λ b. IsWriteOf (at + b) (drop b written)) (length written) 0 calls done → Torn at (length written) octets (octets_after octets calls)
  torn_write calls done run = torn_write_from 0 octets calls done wrote_none run

module _ (octets : List ℕ) (at count : ℕ) where
  one_read_from : (before : ℕ) (calls : List DeviceCall) → AllByRecursion (IsTrueRead octets) calls → GoesOn (λ b. IsReadOf (at + b) (count - b)) count before calls true → all_given calls ≡ take (count - before) (drop (at + before) octets)
  one_read_from before [] true_reads run =
      let none : count - before ≡ 0 = omega (arith, run.0) in sym (ap (λ (n : ℕ). take n (drop (at + before) octets)) none)
  one_read_from before (call.Len answer ∷ later) true_reads run = absurd run.1
  one_read_from before (call.Write place bytes answer ∷ later) true_reads run = absurd run.1
  one_read_from before (call.Sync answer ∷ later) true_reads run = absurd run.1
  one_read_from before (call.Read place wanted (Err down) ∷ later) true_reads run =
      absurd (⊎_elim (λ stop. false≢true (sym stop.2)) (λ goes. omega (arith, goes.0)) run.2)
  one_read_from before (call.Read place wanted (Ok given) ∷ later) true_reads run =
      ⊎_elim (λ stop. absurd (false≢true (sym stop.2)))
      (λ goes.
      let n = length given in
      let m = count - (before + n) in
      let l = drop (at + before) octets in
      let within : before + n ≤ count = goes_within (λ b. IsReadOf (at + b) (count - b)) count (before + n) later true goes.1 in
      let all : n + m ≡ count - before = omega (arith, within) in
      let rest : drop (at + (before + n)) octets ≡ drop n l =
      ap (λ (k : ℕ). drop k octets) (sym (add_assoc at before n)) ∙ sym (drop-drop n (at + before) octets) in
      ap (λ (g : List ℕ). g ++ all_given later) (true_reads.0 ∙ ap (λ (p : ℕ). take n (drop p octets)) run.1.0)
      ∙ ap (λ (g : List ℕ). take n l ++ g) (one_read_from (before + n) later true_reads.1 goes.1 ∙ ap (λ (g : List ℕ). take m g) rest)
      ∙ sym (take-add n m l)
      ∙ ap (λ (k : ℕ). take k l) all)
      run.2

  pub one_read : (calls : List DeviceCall) → AllByRecursion (IsTrueRead octets) calls → GoesOn (λ b. IsReadOf (at + b) (count - b)) count 0 calls true → all_given calls ≡ take count (drop at octets)
  one_read calls true_reads run =
      let whole : count - 0 ≡ count = omega arith in
      one_read_from 0 calls true_reads run
      ∙ ap (λ (n : ℕ). take n (drop (at + 0) octets)) whole
      ∙ ap (λ (n : ℕ). take count (drop n octets)) (add-zero at)
