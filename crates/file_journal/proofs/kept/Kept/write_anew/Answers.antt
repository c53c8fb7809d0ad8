use Rattle.std.proofs.Common.{sym, ◌∙◌, subst}
use Rattle.file_journal.proofs.Names.{MayRewrite, WritesAnew}
use Rattle.file_journal.proofs.HoldLemmas.{anew_stays}
use Rattle.file_journal.proofs.BoundLemmas.{may_anew}
use Rattle.file_journal.proofs.kept.Kept.write_anew.Goals as goal

pub put_records-requires-clause-may : goal.put_records-requires-clause-may
put_records-requires-clause-may g c =
    let change = g.C.Change in
    let asked = c.requires in
    let now = c.args.self.now in
    let halves = sym asked.stands_at.layout_is ∙ asked.in_halves in
    let anew = g.met.C.Change.anew_of_ledger now.ledger halves ∙ sym (g.met.L.Ledger.all_left now.ledger (sym g.met.C.Change.of_ledger.layout ∙ halves)) in
    subst (MayRewrite now.journal) anew (may_anew g.D.Disk change.steps change.seen change.form g.met.C.Change.is_seen now.journal (change.state now.ledger) c.args.disk.now asked.stands_at asked.healthy asked.in_halves)

pub returns-clause-anew : goal.returns-clause-anew
returns-clause-anew g c =
    let asked = c.requires in
    let now = c.args.self.now in
    let halves = sym asked.stands_at.layout_is ∙ asked.in_halves in
    let anew = g.met.C.Change.anew_of_ledger now.ledger halves ∙ sym (g.met.L.Ledger.all_left now.ledger (sym g.met.C.Change.of_ledger.layout ∙ halves)) in
    subst (λ entries. WritesAnew g.D.Disk entries now.journal c.put_records.new.self c.args.disk.now c.put_records.new.disk c.put_records.result) (sym anew) c.put_records.ensures.anew

pub returns-clause-stays : goal.returns-clause-stays
returns-clause-stays g c =
    let change = g.C.Change in
    let disk = g.met.D.Disk in
    let asked = c.requires in
    let now = c.args.self.now in
    let halves = sym asked.stands_at.layout_is ∙ asked.in_halves in
    let anew = g.met.C.Change.anew_of_ledger now.ledger halves ∙ sym (g.met.L.Ledger.all_left now.ledger (sym g.met.C.Change.of_ledger.layout ∙ halves)) in
    let new = c.put_records.new in
    let made = c.put_records.ensures in
    let done = subst (λ entries. WritesAnew g.D.Disk entries now.journal new.self c.args.disk.now new.disk c.put_records.result) (sym anew) made.anew in
    anew_stays g.D.Disk change.steps change.seen change.form g.met.C.Change.is_seen disk.counts_now disk.earlier disk.content_is_image c.args.disk.now new.disk now.journal _ asked.stands_at asked.healthy made.puts.told
    new.self halves done.since c.put_records.result done made.puts
