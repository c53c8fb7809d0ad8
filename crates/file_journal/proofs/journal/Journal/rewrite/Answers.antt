use Rattle.std.proofs.Common.{refl, sym, ◌∙◌}
use Rattle.file_journal.proofs.Names.{puts_none}
use Rattle.file_journal.proofs.RewriteLemmas.{anew_none, anew_other}
use Rattle.file_journal.proofs.journal.Journal.rewrite.Goals as goal

pub returns-then-failed-clause-anew : goal.returns-then-failed-clause-anew
returns-then-failed-clause-anew g c =
    anew_none g.D.Disk (g.R.Records.left c.args.records.now) c.args.self.now c.args.disk.now _ (sym c.failed.ensures ∙ c.if-failed.true) c.requires.stands_on

pub returns-then-failed-clause-puts : goal.returns-then-failed-clause-puts
returns-then-failed-clause-puts g c = puts_none g.D.Disk c.args.disk.now _ (λ is. cc is) (g.met.D.Disk.lasts_same c.args.disk.now)

pub returns-in_err-put_records-clause-anew : goal.returns-in_err-put_records-clause-anew
returns-in_err-put_records-clause-anew g c =
    anew_other g.D.Disk (g.R.Records.left c.args.records.now) c.args.self.now c.put_records.new.self c.args.disk.now c.put_records.new.disk _ _ (λ bad. c.from_residual.ensures.0) (λ bad. refl) c.in_err-put_records.ensures.anew

pub returns-clause-anew : goal.returns-clause-anew
returns-clause-anew g c =
    anew_other g.D.Disk (g.R.Records.left c.args.records.now) c.args.self.now c.put_records.new.self c.args.disk.now c.put_records.new.disk _ _ (λ bad. bad) (λ bad. bad) c.in_ok-put_records.ensures.anew
