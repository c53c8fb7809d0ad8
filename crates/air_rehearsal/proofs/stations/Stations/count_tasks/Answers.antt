-- One task more is counted.
use Rattle.std.proofs.Common.{ℕ, ◌+◌, List, [], ◌∷◌, map, sym, subst, arith}
use Rattle.air_rehearsal.proofs.Names.{range_with_len, map-range_with_len_more, CountsAcked, ClientTask}
use Rattle.air_rehearsal.proofs.AckedLemmas.{counts-append}
use Rattle.air_rehearsal.proofs.LooksLemmas.{looks-at-end, looks-on}
use Rattle.air_rehearsal.proofs.stations.Stations.count_tasks.Goals as goal

pub loop-before-preserved : goal.loop-before-preserved
loop-before-preserved g c = record {
  looks =
      looks-on g.D.Disk g.met.D.Disk.lasts_on c.args.store.now c.loop-before.store c.count_task.new.store
      c.args.disk.now c.loop-before.disk c.count_task.new.disk c.loop-before.invariant.looks c.count_task.ensures.looks;
  counts = λ seat at.
      let before = c.loop-before.before in
      let of : ℕ → ClientTask = λ (task : ℕ). record { party = seat.party; task = task } in
      let here =
      looks-at-end g.D.Disk c.args.store.now c.loop-before.store c.args.disk.now c.loop-before.disk c.args.self.now
      c.args.party.now seat c.loop-before.invariant.looks at
      in
      let more = map-range_with_len_more of 1 before (before + 1) (omega arith) in
      subst (λ (tasks : List ClientTask). CountsAcked tasks c.args.report.now c.count_task.new.report) (sym more)
      (counts-append (map of (range_with_len 1 before)) (of (before + 1) ∷ []) c.args.report.now c.loop-before.report
      c.count_task.new.report (c.loop-before.invariant.counts seat at)
      (subst (λ (task : ℕ). CountsAcked (of task ∷ []) c.loop-before.report c.count_task.new.report) c.new.ensures
      (c.in_ok-count_task.ensures.counts seat here)));
}
