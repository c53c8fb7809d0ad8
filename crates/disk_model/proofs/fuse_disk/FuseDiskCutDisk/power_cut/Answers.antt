use Rattle.std.proofs.Common.{◌≡◌, ⊎_elim, ◌+◌, ℕ, true, false, refl, sym, ◌∙◌, ap}
use Rattle.disk_model.specs.declared.fuse_disk.FuseStage.TheVariants as stage
use Rattle.disk_model.proofs.Names.{state}
use Rattle.disk_model.proofs.Armed.{cut_keeps}
use Rattle.disk_model.proofs.fuse_disk.FuseDiskCutDisk.power_cut.Goals as goal

pub returns-clause-left : goal.returns-clause-left
returns-clause-left c = λ memory.
    let here = (cut_keeps (state c.args.self.now.disk) (state c.power_cut.new.self) c.args.pick c.power_cut.ensures).left memory in
    record {
      left = here.image;
      only = here.only;
      up = ⊎_elim (λ (is : stage.Unarmed ≡ stage.Down). absurd (cc)) (λ down. absurd (let e : true ≡ false = sym down ∙ here.up in cc));
      disarmed = refl;
      restarted = refl;
    }

pub returns-clause-picked : goal.returns-clause-picked
returns-clause-picked c = λ memory.
    ((cut_keeps (state c.args.self.now.disk) (state c.power_cut.new.self) c.args.pick c.power_cut.ensures).left memory).picked

pub returns-clause-stays : goal.returns-clause-stays
returns-clause-stays c =
    let here = cut_keeps (state c.args.self.now.disk) (state c.power_cut.new.self) c.args.pick c.power_cut.ensures in
    record {
      moment = here.moment;
      reads = ap (λ (n : ℕ). n + c.args.self.now.read_faults) here.reads;
      writes = ap (λ (n : ℕ). n + c.args.self.now.write_faults) here.writes;
      past = here.past;
      told = (λ told. told, λ told. told);
      plain = (λ plain. sym here.failing ∙ plain, λ plain. here.failing ∙ plain);
      stays_starved = here.starved;
      restarts = λ starved. refl;
    }
