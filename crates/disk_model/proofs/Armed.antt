-- What the calls of a disk in memory leave of its counts, and of how a fuse round it is armed.
use Rattle.std.proofs.Common.{◌≡◌, inl, inr, ℕ, ◌+◌, ◌≤◌, List, [], ◌∷◌, ◌++◌, length, true, false, refl, sym, ◌∙◌, ap, subst, arith, Ok, Err, Result, Contains}
use Rattle.disk_model.specs.declared.disk_call.DiskCall.TheVariants as call
use Rattle.disk_model.specs.declared.fuse_disk.FuseStage.{FuseStage}
use Rattle.disk_model.specs.declared.fuse_disk.FuseStage.TheVariants as stage
use Rattle.disk_model.proofs.Names.{common_steps, DiskState, IsFailingSync, IsPowerCut, IsSyncing, IsTearing, IsWriting, content_of, images_of, images_since_of, moment_of, surface, with_starved, IsCrash, Arming, Failed, LastsSo, Passes, Unarmed, UsesUp, Only, Rose, cases_Bool, FuseState, IsTornNext, arming_in, cut_of, SamePast, ImagesSince, IsImage, Surface, left_by, moments_in, quiet_surface, surface_after, DiskCall}
use Rattle.disk_model.proofs.Ranges.{cut_surface}
use Rattle.disk_model.proofs.Steps.{cut_keeps_past, moments_in-push}
use Rattle.disk_model.proofs.Surfaces.{quiet_leaves_only, surface_after-push}

-- no fault was counted in a call of `write_at` or `sync`
pub record Passed (before now : DiskState) : Type 0 where
  pub reads : now.read_faults ≡ before.read_faults
  pub writes : now.write_faults ≡ before.write_faults
  pub moment : moment_of now ≡ moment_of before + 1

-- the moment never falls in a call
no_earlier : (calls : List DiskCall) (done : DiskCall) → moments_in calls ≤ moments_in (calls ++ done ∷ [])
no_earlier calls done = omega (arith, moments_in-push calls done)

-- what such a call does to the counts: of a plain disk that has memory it passes
pub record DiskLasts (before now : DiskState) : Type 0 where
  pub failing : now.counter.failing ≡ before.counter.failing
  pub starved : before.counter.starved ≡ true → now.counter.starved ≡ true
  pub later : moment_of before ≤ moment_of now
  pub reads : before.read_faults ≤ now.read_faults
  pub passes : before.counter.failing ≡ [] → now.counter.starved ≡ false → Passed before now

none_listed : (failing : List ℕ) (number : ℕ) → failing ≡ [] → Contains failing number → ⊥
none_listed failing number none listed = let here = subst (λ (l : List ℕ). Contains l number) none listed in grind (arith, common_steps, here)

module _ {T E : Type 0} (before now : DiskState) where
  pub writing_lasts : (at : ℕ) (octets : List ℕ) (result : Result T E) → IsWriting before now at octets result → DiskLasts before now
  writing_lasts at octets (Ok done) step =
      subst (DiskLasts before) (sym step.ok.2)
      (record { failing = refl; starved = λ is. is; later = no_earlier before.calls (call.Write at octets); reads = omega arith; passes = λ plain memory. record { reads = refl; writes = refl; moment = moments_in-push before.calls (call.Write at octets) } })
  writing_lasts at octets (Err fault) step = elim step.err [
    | inl listed ↦ subst (DiskLasts before) (sym listed.2)
        (record { failing = refl; starved = λ is. is; later = no_earlier before.calls (call.TornWrite at (length octets)); reads = omega arith; passes = λ plain memory. absurd (none_listed before.counter.failing _ plain listed.0) })
    | inr rest ↦ elim rest [
      | inl lost ↦ subst (DiskLasts before) (sym lost.1)
          (record { failing = refl; starved = λ is. refl; later = no_earlier before.calls (call.TornWrite at (length octets)); reads = omega arith; passes = λ plain memory. absurd (cc) })
      | inr refused ↦ subst (DiskLasts before) (sym refused.1)
          (record { failing = refl; starved = λ is. refl; later = omega arith; reads = omega arith; passes = λ plain memory. absurd (cc) })
    ]
  ]

  pub syncing_lasts : (result : Result T E) → IsSyncing before now result → DiskLasts before now
  syncing_lasts (Ok done) step =
      subst (DiskLasts before) (sym step.ok.2)
      (record { failing = refl; starved = λ is. is; later = no_earlier before.calls call.Sync; reads = omega arith; passes = λ plain memory. record { reads = refl; writes = refl; moment = moments_in-push before.calls call.Sync } })
  syncing_lasts (Err fault) step = elim step.err [
    | inl failed ↦ subst (DiskLasts before) (sym failed.2)
        (record { failing = refl; starved = λ is. is; later = no_earlier before.calls call.FailedSync; reads = omega arith; passes = λ plain memory. absurd (none_listed before.counter.failing _ plain failed.0) })
    | inr starved ↦ subst (DiskLasts before) (sym starved)
        (record { failing = refl; starved = λ is. refl; later = omega arith; reads = omega arith; passes = λ plain memory. absurd (cc) })
  ]

-- a call that the fuse lets pass
pub passes_lasts : (before : FuseState) (disk : DiskState) (had left : ℕ) → before.stage ≡ stage.Passes had → had ≡ left + 1 → before.disk.write_faults ≤ disk.write_faults → DiskLasts before.disk disk
    → LastsSo (cut_of before) (cut_of (record before { disk = disk; stage = stage.Passes left }))
passes_lasts before disk had left is one_less no_fewer lasts = record {
  restarts = refl;
  plain = (λ plain. sym lasts.failing ∙ plain, λ plain. lasts.failing ∙ plain);
  starved = lasts.starved;
  failed = λ failed. absurd (let e : Passes had ≡ Failed = sym armed ∙ failed in cc);
  moments = lasts.later;
  reads = omega (arith, lasts.reads);
  writes = omega (arith, no_fewer);
  uses = λ plain memory.
      let passed = lasts.passes plain memory in
      subst (λ (a : Arming). UsesUp a (cut_of before).use_of (cut_of (record before { disk = disk; stage = stage.Passes left })).use_of) (sym armed)
      (inl (record { left = left; armed = refl; passed = omega (arith, passed.moment, one_less); faults = record { reads = ap (λ (n : ℕ). n + before.read_faults) passed.reads; writes = ap (λ (n : ℕ). n + before.write_faults) passed.writes } }));
}
  where
    armed : arming_in before.stage ≡ Passes had
    armed = ap arming_in is

-- a call where it isn't armed
pub unarmed_lasts : (before : FuseState) (disk : DiskState) → before.stage ≡ stage.Unarmed → before.disk.write_faults ≤ disk.write_faults → DiskLasts before.disk disk → LastsSo (cut_of before) (cut_of (record before { disk = disk }))
unarmed_lasts before disk is no_fewer lasts = record {
  restarts = refl;
  plain = (λ plain. sym lasts.failing ∙ plain, λ plain. lasts.failing ∙ plain);
  starved = lasts.starved;
  failed = λ failed. failed;
  moments = lasts.later;
  reads = omega (arith, lasts.reads);
  writes = omega (arith, no_fewer);
  uses = λ plain memory.
      let passed = lasts.passes plain memory in
      subst (λ (a : Arming). UsesUp a (cut_of before).use_of (cut_of (record before { disk = disk })).use_of) (sym armed)
      (armed, record { reads = ap (λ (n : ℕ). n + before.read_faults) passed.reads; writes = ap (λ (n : ℕ). n + before.write_faults) passed.writes });
}
  where
    armed : arming_in before.stage ≡ Unarmed
    armed = ap arming_in is

-- what a call that the fuse lets fail does to the disk: it is a moment, where the disk has memory
pub record FailsAt (before now : DiskState) : Type 0 where
  pub failing : now.counter.failing ≡ before.counter.failing
  pub starved : before.counter.starved ≡ true → now.counter.starved ≡ true
  pub reads : now.read_faults ≡ before.read_faults
  pub later : moment_of before ≤ moment_of now
  pub moment : now.counter.starved ≡ false → moment_of now ≡ moment_of before + 1

pub starved_fails : (before now : DiskState) → now ≡ with_starved before → FailsAt before now
starved_fails before now is =
    subst (FailsAt before) (sym is)
    (record { failing = refl; starved = λ is. refl; reads = refl; later = omega arith; moment = λ memory. absurd (cc memory) })

pub syncing_fails : (before now : DiskState) → IsFailingSync before now → FailsAt before now
syncing_fails before now (inl failed) =
    subst (FailsAt before) (sym failed.1)
    (record { failing = refl; starved = λ is. is; reads = refl; later = no_earlier before.calls call.FailedSync; moment = λ memory. moments_in-push before.calls call.FailedSync })
syncing_fails before now (inr starved) = starved_fails before now starved

pub tearing_fails : (before now : DiskState) (at count : ℕ) → IsTearing before now at count → FailsAt before now
tearing_fails before now at count step = elim (cases_Bool before.down) [
  | inl is ↦ starved_fails before now (step.down is)
  | inr up ↦ elim (step.up up) [
    | inl torn ↦ subst (FailsAt before) (sym torn)
        (record { failing = refl; starved = λ is. is; reads = refl; later = no_earlier before.calls (call.TornWrite at count); moment = λ memory. moments_in-push before.calls (call.TornWrite at count) })
    | inr torn ↦ subst (FailsAt before) (sym torn)
        (record { failing = refl; starved = λ is. refl; reads = refl; later = no_earlier before.calls (call.TornWrite at count); moment = λ memory. absurd (cc memory) })
  ]
]

-- a call that the fuse lets fail, which failed one before or does now
pub fails_lasts : (before now : FuseState) → IsTornNext before.stage → arming_in now.stage ≡ Failed → now.read_faults ≡ before.read_faults
    → before.disk.write_faults + before.write_faults ≤ now.disk.write_faults + now.write_faults
    → Rose (before.disk.write_faults + before.write_faults) (now.disk.write_faults + now.write_faults) → FailsAt before.disk now.disk
    → LastsSo (cut_of before) (cut_of now)
fails_lasts before now torn failed reads no_fewer rose fails = record {
  restarts = refl;
  plain = (λ plain. sym fails.failing ∙ plain, λ plain. fails.failing ∙ plain);
  starved = fails.starved;
  failed = λ was. failed;
  moments = fails.later;
  reads = omega (arith, fails.reads, reads);
  writes = no_fewer;
  uses = λ plain memory. by before.stage torn memory;
}
  where
    by : (at : FuseStage) → IsTornNext at → now.disk.counter.starved ≡ false → UsesUp (arming_in at) (cut_of before).use_of (cut_of now).use_of
    by stage.Unarmed never memory = absurd never
    by (stage.Passes left) none memory = inr (record { failed = failed; passed = omega (arith, none, fails.moment memory); rose = rose })
    by stage.Blown is memory = tt
    by stage.Down never memory = absurd never

-- what a power cut by this number leaves of a disk that has memory
pub record CutLeft (before now : DiskState) (pick : ℕ) : Type 0 where
  pub image : images_of before (content_of now)
  pub only : Only (images_of now) (content_of now)
  pub picked : IsCrash (surface before) pick (content_of now)
  pub up : now.down ≡ false

pub record CutKeeps (before now : DiskState) (pick : ℕ) : Type 0 where
  pub moment : moment_of now ≡ moment_of before
  pub reads : now.read_faults ≡ before.read_faults
  pub writes : now.write_faults ≡ before.write_faults
  pub failing : now.counter.failing ≡ before.counter.failing
  pub starved : before.counter.starved ≡ true → now.counter.starved ≡ true
  pub past : SamePast (images_since_of before) (images_since_of now)
  pub left : now.counter.starved ≡ false → CutLeft before now pick

pub cut_keeps : (before now : DiskState) (pick : ℕ) → IsPowerCut before now pick → CutKeeps before now pick
cut_keeps before now pick (inl ((inside, behind, pushed, crash), is)) = record {
  moment = ap moments_in pushed ∙ moments_in-push before.calls done ∙ omega arith;
  reads = ap (λ (s : DiskState). s.read_faults) is;
  writes = ap (λ (s : DiskState). s.write_faults) is;
  failing = ap (λ (s : DiskState). s.counter.failing) is;
  starved = λ starved. ap (λ (s : DiskState). s.counter.starved) is ∙ starved;
  past =
      subst (λ (f : List ℕ). SamePast (images_since_of before) (ImagesSince f now.calls)) (sym first)
      (subst (λ (l : List DiskCall). SamePast (images_since_of before) (ImagesSince before.first l)) (sym pushed)
      (cut_keeps_past before.first before.calls done refl left crash.left (subst (λ (s : Surface). Only (IsImage s) left) (sym (surface_after-push before.first before.calls done)) (quiet_leaves_only left))));
  left = λ memory. record {
    image = subst (images_of before) (sym content) crash.left;
    only = subst (λ (s : Surface). Only (IsImage s) s.content) (sym surface_is) (quiet_leaves_only left);
    picked = subst (IsCrash (surface before) pick) (sym content) crash;
    up = ap (λ (s : DiskState). s.down) is;
  };
}
  where
    done : DiskCall
    done = call.PowerCut inside behind

    left : List ℕ
    left = left_by (surface before) inside behind

    first : now.first ≡ before.first
    first = ap (λ (s : DiskState). s.first) is

    surface_is : surface now ≡ quiet_surface left
    surface_is = ap (λ (f : List ℕ). surface_after f now.calls) first ∙ cut_surface before.first before.calls now.calls inside behind pushed

    content : content_of now ≡ left
    content = ap (λ (s : Surface). s.content) surface_is
cut_keeps before now pick (inr is) = record {
  moment = ap moment_of is;
  reads = ap (λ (s : DiskState). s.read_faults) is;
  writes = ap (λ (s : DiskState). s.write_faults) is;
  failing = ap (λ (s : DiskState). s.counter.failing) is;
  starved = λ starved. ap (λ (s : DiskState). s.counter.starved) is;
  past =
      subst (λ (f : List ℕ). SamePast (images_since_of before) (ImagesSince f now.calls)) (sym (ap (λ (s : DiskState). s.first) is))
      (subst (λ (l : List DiskCall). SamePast (images_since_of before) (ImagesSince before.first l)) (sym (ap (λ (s : DiskState). s.calls) is))
      (λ t image. (λ since. since, λ past. past)));
  left = λ memory. absurd (let e : true ≡ false = sym (ap (λ (s : DiskState). s.counter.starved) is) ∙ memory in cc);
}
