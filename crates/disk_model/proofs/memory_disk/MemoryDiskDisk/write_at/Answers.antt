use Rattle.std.proofs.Common.{◌≡◌, ◌⊎◌, ⊎_elim, ◌+◌, ◌^◌, ◌<◌, length, true, arith, rules}
use Rattle.disk_model.proofs.Names.{common_steps, state, content_is_image}
use Rattle.disk_model.proofs.Steps.{Opens, Untouched, elapses_either, follows_either, kept_either, leaves_now_either, leaves_open_either, writing_opens, writing_writes}
use Rattle.disk_model.proofs.memory_disk.MemoryDiskDisk.write_at.Goals as goal

-- the write left its range open, or changed nothing
opens : (c : goal.After-record_write) → Opens (state c.args.self.now) (state c.record_write.new.self) c.args.at (length c.args.bytes.now)
    ⊎ ((((state c.args.self.now).down ≡ true) ⊎ (2 ^ 63 < c.args.at + length c.args.bytes.now)) × Untouched (state c.args.self.now) (state c.record_write.new.self))
opens c = writing_opens (state c.args.self.now) (state c.record_write.new.self) c.args.at c.args.bytes.now c.record_write.result c.record_write.ensures.writing

pub returns-clause-promises : goal.returns-clause-promises
returns-clause-promises c = record {
  written = writing_writes (state c.args.self.now) (state c.record_write.new.self) c.args.at c.args.bytes.now c.record_write.result c.record_write.ensures.writing;
  told = search rules;
  untold = search rules;
  torn = follows_either _ _ _ _ _ (opens c) (content_is_image c.args.self.now);
  leaves_open = λ up within. leaves_open_either _ _ _ _ _ (opens c) (⊎_elim up (λ far. omega (arith, far, within)));
  kept = kept_either _ _ _ _ _ (opens c);
  far = grind (arith, common_steps);
  down = grind (arith, common_steps);
  stays_down = grind (arith, common_steps);
  goes_down = grind (arith, common_steps);
  moment = grind (arith, common_steps);
  past = elapses_either _ _ _ _ _ (opens c);
  since_now = leaves_now_either _ _ _ _ _ (opens c);
  read_faults = search rules;
  write_faults = search rules;
  lasts = search rules;
}
