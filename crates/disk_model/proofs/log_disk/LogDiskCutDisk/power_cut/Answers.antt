use Rattle.std.proofs.Common.{◌≡◌, ◌↔◌, ◌+◌, [], sym, ◌∙◌, ap, subst, arith}
use Rattle.disk_model.proofs.Names.{common_steps, images_since_of, moment_of, FuseState, fuse, images_since, starved_fuse, SamePast}
use Rattle.disk_model.proofs.log_disk.LogDiskCutDisk.power_cut.Goals as goal

-- no memory was found for what was left
pub returns-then-is_err-clause-stays : goal.returns-then-is_err-clause-stays
returns-then-is_err-clause-stays c =
    let was = c.args.self.now.disk in
    let kept = c.power_cut.ensures.stays in
    let same : fuse c.starve.new.self ≡ starved_fuse (fuse c.power_cut.new.self) = c.starve.ensures in
    record {
      moment = ap (λ (f : FuseState). moment_of f.disk) same ∙ kept.moment;
      reads = ap (λ (f : FuseState). f.disk.read_faults + f.read_faults) same ∙ kept.reads;
      writes = ap (λ (f : FuseState). f.disk.write_faults + f.write_faults) same ∙ kept.writes;
      past = subst (λ (f : FuseState). SamePast (images_since was) (images_since_of f.disk)) (sym same) kept.past;
      told = (λ told. told, λ told. told);
      plain = subst (λ (f : FuseState). (f.disk.counter.failing ≡ []) ↔ ((fuse was).disk.counter.failing ≡ [])) (sym same) kept.plain;
      stays_starved = λ before. ap (λ (f : FuseState). f.disk.counter.starved) same;
      restarts = λ starved. grind (arith, common_steps);
    }
