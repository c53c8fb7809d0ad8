use Rattle.std.proofs.Common.{subst, sym}
use Rattle.pfh_items.specs.Layout.{HeaderText}
use Rattle.part_rows.proofs.StampSums.{sum_of}
use Rattle.part_rows.proofs.writer.stamping.sum_with.Goals as goal

pub returns : goal.returns
returns c =
    sum_of c.args.file.now c.args.sums.now
    (record { number = c.args.with.now.number; by = c.args.with.now.by; moment = c.args.with.now.moment })
    c.stamped_sum.result c.requires
    (λ items text. c.stamped_sum.ensures items (subst (HeaderText items) (sym c.split_at.ensures.front) text))
