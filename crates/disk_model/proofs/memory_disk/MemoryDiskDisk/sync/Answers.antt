use Rattle.std.proofs.Common.{arith, rules}
use Rattle.disk_model.proofs.Names.{common_steps, state}
use Rattle.disk_model.proofs.Steps.{syncing_elapses, syncing_leaves_now, syncing_leaves_only}
use Rattle.disk_model.proofs.memory_disk.MemoryDiskDisk.sync.Goals as goal

pub returns-clause-promises : goal.returns-clause-promises
returns-clause-promises c =
    let before = state c.args.self.now in
    let now = state c.record_sync.new.self in
    let done = c.record_sync.ensures.syncing in
    record {
      durable = syncing_leaves_only before now c.record_sync.result done;
      content = grind (arith, common_steps);
      images = grind (arith, common_steps);
      kept = grind (arith, common_steps);
      down = search rules;
      stays_down = search rules;
      moment = grind (arith, common_steps);
      past = syncing_elapses before now c.record_sync.result done;
      since_now = syncing_leaves_now before now c.record_sync.result done;
      read_faults = search rules;
      write_faults = search rules;
      lasts = search rules;
    }
