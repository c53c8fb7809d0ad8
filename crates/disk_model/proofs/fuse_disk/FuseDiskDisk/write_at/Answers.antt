use Rattle.std.proofs.Common.{◌≡◌, ◌⊎◌, inl, inr, ⊎_elim, ℕ, ◌+◌, ◌-◌, ◌^◌, ◌<◌, length, true, sym, ◌∙◌, ap, subst, arith, rules}
use Rattle.disk_model.specs.declared.fuse_disk.FuseStage.TheVariants as stage
use Rattle.disk_model.proofs.Names.{cases_lt, common_steps, DiskState, Failed, FuseState, IsTornNext, arming_in, fuse, state, content_is_image}
use Rattle.disk_model.proofs.Armed.{FailsAt, fails_lasts, passes_lasts, starved_fails, tearing_fails, unarmed_lasts, writing_lasts}
use Rattle.disk_model.proofs.Steps.{Opens, Untouched, cause_of_sum, elapses_either, follows_either, kept_either, leaves_now_either, leaves_open_either, tearing_opens}
use Rattle.disk_model.proofs.fuse_disk.FuseDiskDisk.write_at.Goals.{in_default-via-in-Passes+else-left-gt0, in_default-via-in_default}
use Rattle.disk_model.proofs.fuse_disk.FuseDiskDisk.write_at.Goals as goal

-- the write was cut short, or reached no disk
opens : (c : goal.After-tear) → Opens (state c.args.self.now.disk) (state c.tear.new.self.disk) c.args.at (length c.args.bytes.now)
    ⊎ ((((state c.args.self.now.disk).down ≡ true) ⊎ (2 ^ 63 < c.args.at + length c.args.bytes.now)) × Untouched (state c.args.self.now.disk) (state c.tear.new.self.disk))
opens c = elim (cases_lt (2 ^ 63) (c.args.at + length c.args.bytes.now)) [
  | inl far ↦
      let same = ap (λ (f : FuseState). f.disk) (c.tear.ensures.cut_short.far far) in
      inr (inr far, record { first = ap (λ (s : DiskState). s.first) same; calls = ap (λ (s : DiskState). s.calls) same })
  | inr within ↦ elim (tearing_opens _ _ _ _ (c.tear.ensures.cut_short.within within).0) [ inl torn ↦ inl torn | inr same ↦ inr (inl same.0, same.1) ]
]

-- the fuse fails the call
torn : (c : goal.After-tear) → IsTornNext c.args.self.now.stage
torn c = elim c.in_default.branch [
  | in_default-via-in-Passes+else-left-gt0 w ↦
      let none : w.in-Passes.left ≡ 0 = omega (arith, w.if-left-gt0.false) in
      subst IsTornNext (sym w.in-Passes.is) none
  | in_default-via-in_default w ↦ subst IsTornNext (sym w.in_default.is) tt
]

-- it has blown then, and the call was a moment, unless no memory was found
fails : (c : goal.After-tear) → (arming_in (fuse c.tear.new.self).stage ≡ Failed) × ((fuse c.tear.new.self).read_faults ≡ (fuse c.args.self.now).read_faults)
    × FailsAt (state c.args.self.now.disk) (state c.tear.new.self.disk)
fails c = elim (cases_lt (2 ^ 63) (c.args.at + length c.args.bytes.now)) [
  | inl far ↦
      let is = c.tear.ensures.cut_short.far far in
      (ap (λ (f : FuseState). arming_in f.stage) is, ap (λ (f : FuseState). f.read_faults) is, starved_fails _ _ (ap (λ (f : FuseState). f.disk) is))
  | inr within ↦
      let is = c.tear.ensures.cut_short.within within in
      (ap (λ (f : FuseState). arming_in f.stage) is.1, ap (λ (f : FuseState). f.read_faults) is.1, tearing_fails _ _ _ _ is.0)
]

pub returns-in_default-clause-promises : goal.returns-in_default-clause-promises
returns-in_default-clause-promises c =
    let before = fuse c.args.self.now in
    let now = fuse c.tear.new.self in
    record {
      written = search rules;
      told = search rules;
      untold = search rules;
      torn = follows_either _ _ _ _ _ (opens c) (content_is_image c.args.self.now.disk);
      leaves_open = λ up within. leaves_open_either _ _ _ _ _ (opens c) (⊎_elim (λ down. up (inr down)) (λ far. omega (arith, far, within)));
      kept = kept_either _ _ _ _ _ (opens c);
      far = search rules;
      down = search rules;
      stays_down = search rules;
      goes_down = search rules;
      moment = grind (arith, common_steps);
      past = elapses_either _ _ _ _ _ (opens c);
      since_now = leaves_now_either _ _ _ _ _ (opens c);
      read_faults = search rules;
      write_faults = record { no_less = c.tear.ensures.counts.no_less; rose = c.tear.ensures.counts.rose; same = tt };
      lasts = fails_lasts before now (torn c) (fails c).0 (fails c).1 c.tear.ensures.counts.no_less c.tear.ensures.counts.rose (fails c).2;
    }

pub returns-in-Passes-clause-promises : goal.returns-in-Passes-clause-promises
returns-in-Passes-clause-promises c =
    let done = c.write_at.ensures.promises in
    let of_disk = ⊎_elim (λ (is : c.args.self.now.stage ≡ stage.Down). absurd (let e : stage.Passes c.in-Passes.left ≡ stage.Down = sym c.in-Passes.is ∙ is in cc)) (λ is. is) in
    record {
      written = search rules;
      told = search rules;
      untold = search rules;
      torn = search rules;
      leaves_open = λ up. done.leaves_open (λ down. up (inr down));
      kept = search rules;
      far = λ far. let same = done.far far in
          (same.0, record { same_content = same.1.same_content; same_images = same.1.same_images; same_moment = same.1.same_moment; same_past = same.1.same_past });
      down = λ down. let same = done.down (of_disk down) in
          (same.0, record { same_content = same.1.same_content; same_images = same.1.same_images; same_moment = same.1.same_moment; same_past = same.1.same_past });
      stays_down = λ down. inr (done.stays_down (of_disk down));
      goes_down = ⊎_elim (λ is. absurd (cc)) (λ is. ⊎_elim (λ before. inl (inr before)) (λ fault. inr fault) (done.goes_down is));
      moment = search rules;
      past = search rules;
      since_now = search rules;
      read_faults = search rules;
      write_faults = cause_of_sum (state c.args.self.now.disk).write_faults (state c.write_at.new.self).write_faults c.args.self.now.write_faults c.write_at.result done.write_faults;
      lasts = passes_lasts (fuse c.args.self.now) (state c.write_at.new.self) c.in-Passes.left _ c.in-Passes.is (omega arith) done.write_faults.no_less
          (writing_lasts (state c.args.self.now.disk) (state c.write_at.new.self) c.args.at c.args.bytes.now c.write_at.result c.write_at.ensures.writing);
    }

pub returns-in-Passes-clause-writing : goal.returns-in-Passes-clause-writing
returns-in-Passes-clause-writing c =
    let here : c.args.self.now.stage ≡ stage.Passes c.in-Passes.left = c.in-Passes.is in
    record {
      passes = λ left is.
          let same : stage.Passes c.in-Passes.left ≡ stage.Passes (left + 1) = sym here ∙ is in
          let one_more : c.in-Passes.left ≡ left + 1 = cc in
          let one_less : c.in-Passes.left - 1 ≡ left = omega (arith, one_more) in
          (c.write_at.ensures.writing, ap (λ (n : ℕ). fuse (record { disk = c.write_at.new.self; stage = stage.Passes n; read_faults = c.args.self.now.read_faults; write_faults = c.args.self.now.write_faults })) one_less);
      unarmed = λ is. absurd (let e : stage.Passes c.in-Passes.left ≡ stage.Unarmed = sym here ∙ is in cc);
      cut_short = λ next. absurd (let none = subst IsTornNext here next in omega (arith, none, c.if-left-gt0.true));
      down = λ is. absurd (let e : stage.Passes c.in-Passes.left ≡ stage.Down = sym here ∙ is in cc);
    }

pub returns-in-Unarmed-clause-promises : goal.returns-in-Unarmed-clause-promises
returns-in-Unarmed-clause-promises c =
    let done = c.write_at-in-Unarmed.ensures.promises in
    let of_disk = ⊎_elim (λ (is : c.args.self.now.stage ≡ stage.Down). absurd (let e : stage.Unarmed ≡ stage.Down = sym c.in-Unarmed.is ∙ is in cc)) (λ is. is) in
    record {
      written = search rules;
      told = search rules;
      untold = search rules;
      torn = search rules;
      leaves_open = λ up. done.leaves_open (λ down. up (inr down));
      kept = search rules;
      far = λ far. let same = done.far far in
          (same.0, record { same_content = same.1.same_content; same_images = same.1.same_images; same_moment = same.1.same_moment; same_past = same.1.same_past });
      down = λ down. let same = done.down (of_disk down) in
          (same.0, record { same_content = same.1.same_content; same_images = same.1.same_images; same_moment = same.1.same_moment; same_past = same.1.same_past });
      stays_down = λ down. inr (done.stays_down (of_disk down));
      goes_down = ⊎_elim (λ is. absurd (cc)) (λ is. ⊎_elim (λ before. inl (inr before)) (λ fault. inr fault) (done.goes_down is));
      moment = search rules;
      past = search rules;
      since_now = search rules;
      read_faults = search rules;
      write_faults = cause_of_sum (state c.args.self.now.disk).write_faults (state c.write_at-in-Unarmed.new.self).write_faults c.args.self.now.write_faults c.write_at-in-Unarmed.result done.write_faults;
      lasts = unarmed_lasts (fuse c.args.self.now) (state c.write_at-in-Unarmed.new.self) c.in-Unarmed.is done.write_faults.no_less
          (writing_lasts (state c.args.self.now.disk) (state c.write_at-in-Unarmed.new.self) c.args.at c.args.bytes.now c.write_at-in-Unarmed.result c.write_at-in-Unarmed.ensures.writing);
    }
