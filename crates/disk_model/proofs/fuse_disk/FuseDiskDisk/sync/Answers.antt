use Rattle.std.proofs.Common.{◌≡◌, ◌∙◌, ⊎_elim, inr, Some, ap, refl, subst, sym, arith, rules}
use Rattle.disk_model.specs.declared.fuse_disk.FuseStage.TheVariants as stage
use Rattle.disk_model.proofs.Names.{DiskState, content_of, images_of, images_since_of, moment_of, FuseState, IsTornNext, arming_in, fuse, state, SameImages, SamePast, IsImage, Surface}
use Rattle.disk_model.proofs.Armed.{fails_lasts, passes_lasts, syncing_fails, syncing_lasts}
use Rattle.disk_model.proofs.Steps.{cause_of_sum, failing_at_most, failing_down, failing_elapses, failing_leaves_now, failing_starves, failing_surface}
use Rattle.disk_model.proofs.fuse_disk.FuseDiskDisk.sync.Goals.{in_default-via-in-Passes+else-left-gt0, in_default-via-in_default}
use Rattle.disk_model.proofs.fuse_disk.FuseDiskDisk.sync.Goals as goal

pub returns-in-Passes-clause-promises : goal.returns-in-Passes-clause-promises
returns-in-Passes-clause-promises c =
    let done = c.sync.ensures.promises in
    record {
      durable = search rules;
      content = search rules;
      images = search rules;
      kept = search rules;
      down = search rules;
      stays_down = search rules;
      moment = search rules;
      past = search rules;
      since_now = search rules;
      read_faults = search rules;
      write_faults = cause_of_sum (state c.args.self.now.disk).write_faults (state c.sync.new.self).write_faults c.args.self.now.write_faults c.sync.result done.write_faults;
      lasts = passes_lasts (fuse c.args.self.now) (state c.sync.new.self) c.in-Passes.left _ c.in-Passes.is (omega arith) done.write_faults.no_less
          (syncing_lasts (state c.args.self.now.disk) (state c.sync.new.self) c.sync.result c.sync.ensures.syncing);
    }

-- the fuse fails the call
torn : (c : goal.After-fail_sync) → IsTornNext c.args.self.now.stage
torn c = elim c.in_default.branch [
  | in_default-via-in-Passes+else-left-gt0 w ↦
      let none : w.in-Passes.left ≡ 0 = omega (arith, w.if-left-gt0.false) in
      subst IsTornNext (sym w.in-Passes.is) none
  | in_default-via-in_default w ↦ subst IsTornNext (sym w.in_default.is) tt
]

pub returns-in_default-clause-promises : goal.returns-in_default-clause-promises
returns-in_default-clause-promises c =
    let before = fuse c.args.self.now in
    let now = fuse c.fail_sync.new.self in
    let fails = c.fail_sync.ensures.fails in
    let counted = c.fail_sync.ensures.counted in
    let surface_is = failing_surface before.disk now.disk fails in
    record {
      durable = search rules;
      content = ap (λ (s : Surface). Some s.content) surface_is;
      images = λ image left. subst (λ (s : Surface). IsImage s image) surface_is left;
      kept = λ image left. subst (λ (s : Surface). IsImage s image) (sym surface_is) left;
      down = ⊎_elim (λ is. absurd (subst IsTornNext is (torn c)))
          (λ down.
          let same = failing_starves before.disk now.disk fails down in (
            refl,
            record {
              same_content = ap (λ (d : DiskState). Some (content_of d)) same;
              same_images = subst (λ (d : DiskState). SameImages (images_of before.disk) (images_of d)) (sym same) (λ image. (λ is. is, λ is. is));
              same_moment = ap moment_of same;
              same_past = subst (λ (d : DiskState). SamePast (images_since_of before.disk) (images_since_of d)) (sym same) (λ t image. (λ is. is, λ is. is));
            },
          ));
      stays_down = (
        ⊎_elim (λ is. absurd (let e : stage.Blown ≡ stage.Down = sym (ap (λ (f : FuseState). f.stage) counted) ∙ is in cc))
            (λ down. inr (sym (failing_down before.disk now.disk fails) ∙ down)),
        ⊎_elim (λ is. absurd (subst IsTornNext is (torn c))) (λ down. inr (failing_down before.disk now.disk fails ∙ down)),
      );
      moment = record { one = tt; at_most = failing_at_most before.disk now.disk fails };
      past = failing_elapses before.disk now.disk fails;
      since_now = failing_leaves_now before.disk now.disk fails;
      read_faults = omega (arith, (syncing_fails before.disk now.disk fails).reads, ap (λ (f : FuseState). f.read_faults) counted);
      write_faults = record { no_less = c.fail_sync.ensures.counts.no_less; rose = c.fail_sync.ensures.counts.rose; same = tt };
      lasts =
          fails_lasts before now (torn c) (ap (λ (f : FuseState). arming_in f.stage) counted)
          (ap (λ (f : FuseState). f.read_faults) counted) c.fail_sync.ensures.counts.no_less c.fail_sync.ensures.counts.rose
          (syncing_fails before.disk now.disk fails);
    }
