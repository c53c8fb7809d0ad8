use Rattle.std.proofs.Common.{sym, ◌∙◌, ap, arith}
use Rattle.file_journal.proofs.Names.{common_steps, err_from_is_err_and, reads_on, reads_same, end_of}
use Rattle.file_journal.proofs.ReadingLemmas.{readable_on}
use Rattle.file_journal.proofs.PositionLemmas.{all_damaged, all_read, on_end, on_more, on_walk}
use Rattle.file_journal.proofs.journal.Journal.read_into.Goals as goal

pub returns-in_err-apply_next-clause-all : goal.returns-in_err-apply_next-clause-all
returns-in_err-apply_next-clause-all g c healthy memory = grind (arith, common_steps, err_from_is_err_and, all_damaged, on_walk)

pub loop-preserved : goal.loop-preserved
loop-preserved g c =
    let same = c.apply_next.ensures.reads.only.same_content in (
      (
        c.apply_next.ensures.stands_on,
        grind (arith, common_steps),
        reads_on g.D.Disk g.met.D.Disk.lasts_on c.args.disk.now c.loop.disk c.apply_next.new.disk ⊥ ⊥ (λ none. none) c.loop.invariant.0.2
            (reads_same g.D.Disk c.loop.disk c.apply_next.new.disk _ ⊥ (λ is. cc (sym is ∙ c.in_ok-apply_next.was)) (λ none. absurd none) c.apply_next.ensures.reads),
        grind (arith, common_steps, on_more),
        grind (arith, common_steps),
        grind (arith, common_steps),
      ),
      readable_on g.D.Disk c.loop.self c.apply_next.new.self c.loop.disk c.apply_next.new.disk c.readable-end.result (ap end_of c.apply_next.ensures.journal) same c.loop.invariant.1,
    )

pub returns-clause-all : goal.returns-clause-all
returns-clause-all g c healthy memory = grind (arith, common_steps, all_read, on_end)
