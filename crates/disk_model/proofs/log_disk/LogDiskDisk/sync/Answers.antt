use Rattle.disk_model.proofs.log_disk.LogDiskDisk.sync.Goals as goal

pub returns-clause-down : goal.returns-clause-down
returns-clause-down c = λ down.
    let same = c.sync.ensures.promises.down down in
    (same.0, record { same_content = same.1.same_content; same_images = same.1.same_images; same_moment = same.1.same_moment; same_past = same.1.same_past })
