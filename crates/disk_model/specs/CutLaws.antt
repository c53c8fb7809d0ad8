-- What lasts, lasts where nothing is called, and from one call to the next.
use Rattle.std.specs.Prelude.{◌≡◌, ◌⊎◌, ℕ, ◌<◌, ◌≤◌, Bool, true, false, refl}
use Rattle.std.proofs.Common.{inl, inr, sym, ◌∙◌, subst, arith}
use Rattle.std.proofs.lemmas.Bool.{cases_Bool}
use Rattle.disk_model.specs.Cuts.{Arming, CutState, Failed, FailsSo, LastsSo, Passes, PassesOn, SameFaults, Unarmed}
use Rattle.disk_model.specs.Cuts.{Use, UsesUp}

uses_still : (arming : Arming) (use_now : Use) → use_now.arming ≡ arming → UsesUp arming use_now use_now
uses_still Unarmed use_now is = (is, record { reads = refl; writes = refl })
uses_still (Passes calls) use_now is =
    inl (record { left = calls; armed = is; passed = refl; faults = record { reads = refl; writes = refl } })
uses_still Failed use_now is = tt

same_on : (first second third : Use) → SameFaults first second → SameFaults second third → SameFaults first third
same_on first second third early late =
    record { reads = late.reads ∙ early.reads; writes = late.writes ∙ early.writes }

-- a call failed by the arming later on
fails_later :
    (calls : ℕ) (first second third : Use) → (early : PassesOn calls first second) → FailsSo early.left second third
    → FailsSo calls first third
fails_later calls first second third early late =
    record {
      failed = late.failed;
      passed = omega (arith, early.passed, late.passed);
      rose = λ below.
          let rose = late.rose (omega (arith, early.faults.writes, below)) in
          omega (arith, early.faults.writes, rose);
    }

passes_on :
    (calls : ℕ) (first second third : Use)
    → PassesOn calls first second
    → ((left : ℕ) → second.arming ≡ Passes left → UsesUp (Passes left) second third)
    → PassesOn calls first third ⊎ FailsSo calls first third
passes_on calls first second third early late =
    elim (late early.left early.armed) [
      | inl on ↦
          inl
          (record {
            left = on.left;
            armed = on.armed;
            passed = omega (arith, on.passed, early.passed);
            faults = same_on first second third early.faults on.faults;
          })
      | inr fails ↦ inr (fails_later calls first second third early fails)
    ]

uses_longer :
    (arming : Arming) (first second third : Use)
    → (second.arming ≡ Failed → third.arming ≡ Failed)
    → second.moment ≤ third.moment
    → second.write_faults ≤ third.write_faults
    → UsesUp arming first second
    → UsesUp second.arming second third
    → UsesUp arming first third
uses_longer Unarmed first second third stays later no_fewer early late =
    let more = subst (λ (a : Arming). UsesUp a second third) early.0 late in
    (more.0, same_on first second third early.1 more.1)
uses_longer (Passes calls) first second third stays later no_fewer early late = elim early [
  | inl on ↦ passes_on calls first second third on (λ left is. subst (λ (a : Arming). UsesUp a second third) is late)
  | inr fails ↦
      inr
      (record {
        failed = stays fails.failed;
        passed = omega (arith, fails.passed, later);
        rose = λ below. let rose = fails.rose below in omega (arith, rose, no_fewer);
      })
]
uses_longer Failed first second third stays later no_fewer early late = tt

pub lasts_still : (state : CutState) → LastsSo state state
lasts_still state = record {
  restarts = refl;
  plain = (λ is. is, λ is. is);
  starved = λ is. is;
  failed = λ is. is;
  moments = omega arith;
  reads = omega arith;
  writes = omega arith;
  uses = λ plain memory. uses_still state.use_of.arming state.use_of refl;
}

memory_before : (before now : Bool) → (before ≡ true → now ≡ true) → now ≡ false → before ≡ false
memory_before before now stays memory = elim (cases_Bool before) [
  | inl starved ↦ absurd (let e : true ≡ false = sym (stays starved) ∙ memory in cc)
  | inr not ↦ not
]

pub lasts_longer : (first second third : CutState) → LastsSo first second → LastsSo second third → LastsSo first third
lasts_longer first second third early late = record {
  restarts = late.restarts ∙ early.restarts;
  plain = (λ is. early.plain.0 (late.plain.0 is), λ is. late.plain.1 (early.plain.1 is));
  starved = λ is. late.starved (early.starved is);
  failed = λ is. late.failed (early.failed is);
  moments = omega (arith, early.moments, late.moments);
  reads = omega (arith, early.reads, late.reads);
  writes = omega (arith, early.writes, late.writes);
  uses = λ plain memory.
      uses_longer first.use_of.arming first.use_of second.use_of third.use_of late.failed late.moments late.writes
      (early.uses plain (memory_before second.starved third.starved late.starved memory))
      (late.uses (early.plain.1 plain) memory);
}

-- Where the count of failed writes and syncs stayed, and isn't at its last number, that of failed reads stayed too, unless
-- a call had failed by the arming before.
abbrev pub ReadsStayLaw : Type 0
ReadsStayLaw =
    (arming : Arming) (old new : Use)
    → UsesUp arming old new
    → (arming ≡ Failed → ⊥)
    → old.write_faults < 18446744073709551615
    → new.write_faults ≡ old.write_faults
    → new.read_faults ≡ old.read_faults

pub reads_stay : ReadsStayLaw
reads_stay Unarmed old new used not_failed below same = used.1.reads
reads_stay (Passes calls) old new used not_failed below same = elim used [
  | inl on ↦ on.faults.reads
  | inr fails ↦ absurd (let rose = fails.rose below in omega (arith, rose, same))
]
reads_stay Failed old new used not_failed below same = absurd (not_failed refl)
