use Rattle.std.proofs.Common.{◌≡◌, ◌-◌, ◌≤◌, ℕ, take, ◌∙◌, ap, arith}
use Rattle.disk_model.proofs.Names.{common_steps, places, before_writes}
use Rattle.disk_model.proofs.BeforeWrites.{undo_next}
use Rattle.disk_model.proofs.undoing.undo.Goals as goal
use borrow.Rule.Slice.PartMut.{put_mid, take_put}

pub loop-i-preserved : goal.loop-i-preserved
loop-i-preserved c =
    let here = c.loop-i.invariant in
    let writes = c.args.writes.now in
    let i = c.loop-i.i - 1 in
    let start = c.saturating_sub-start.result in
    let kept = put_mid start (c.loop-i.end - start) c.loop-i.kept c.exchange.new.others in
    let start_within : start ≤ c.loop-i.end = grind (arith, common_steps) in
    let same : take start kept ≡ take start c.loop-i.kept = take_put start (c.loop-i.end - start) c.loop-i.kept c.exchange.new.others (omega (arith, start_within, here.within)) in
    record {
      within = grind (arith, common_steps, places);
      rest =
          ap (before_writes (take i writes) (take start kept)) c.exchange.ensures.octets
          ∙ undo_next writes i _ c.loop-i.kept kept c.loop-i.octets start c.loop-i.end (grind (arith, common_steps)) here.within c.saturating_sub-start.ensures same
          ∙ ap (λ (n : ℕ). before_writes (take n writes) (take c.loop-i.end c.loop-i.kept) c.loop-i.octets) (grind (arith, common_steps))
          ∙ here.rest;
    }
