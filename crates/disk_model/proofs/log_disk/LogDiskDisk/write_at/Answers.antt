use Rattle.disk_model.proofs.log_disk.LogDiskDisk.write_at.Goals as goal

pub returns-clause-far : goal.returns-clause-far
returns-clause-far c = λ far.
    let same = c.write_at.ensures.promises.far far in
    (same.0, record { same_content = same.1.same_content; same_images = same.1.same_images; same_moment = same.1.same_moment; same_past = same.1.same_past })

pub returns-clause-down : goal.returns-clause-down
returns-clause-down c = λ down.
    let same = c.write_at.ensures.promises.down down in
    (same.0, record { same_content = same.1.same_content; same_images = same.1.same_images; same_moment = same.1.same_moment; same_past = same.1.same_past })
