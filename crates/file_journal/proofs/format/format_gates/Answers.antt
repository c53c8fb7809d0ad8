use Rattle.std.proofs.Common.{◌+◌, rules}
use Rattle.file_journal.proofs.Names.{IsMakingGates, MakesGates, makes_failed, makes_on, at_told}
use Rattle.file_journal.proofs.FormatLemmas.{first_gate_crash, gates_by, second_gate_crash, torn_quiet}
use Rattle.file_journal.proofs.format.format_gates.Goals as goal

pub returns-in_err-write_synced-clause-makes : goal.returns-in_err-write_synced-clause-makes
returns-in_err-write_synced-clause-makes g c =
    let D = g.D.Disk in
    let old = c.args.disk.now in
    makes_failed D c.write_synced.result c.from_residual.result old c.write_synced.new.disk _ _ (MakesGates c.args.gate) (IsMakingGates c.args.gate) (search rules)
    (λ before image told torn.
    first_gate_crash c.args.gate before c.requires.behind (at_told _ before told c.requires.long) (at_told _ before told c.requires.short) image (torn_quiet D old (g.met.D.Disk.counts_now old) c.requires.quiet c.args.gate 1 before told image torn))
    c.write_synced.ensures.makes (search rules)

pub returns-clause-makes : goal.returns-clause-makes
returns-clause-makes g c =
    let D = g.D.Disk in
    let old = c.args.disk.now in
    let mid = c.write_synced.new.disk in
    let first = c.in_ok-write_synced.ensures.makes in
    makes_on D g.met.D.Disk.lasts_on _ c.write_synced-2.result old mid c.write_synced-2.new.disk _ _ _ _ (MakesGates c.args.gate) (IsMakingGates c.args.gate) first c.write_synced-2.ensures.makes
    (λ before middle now told put opened. gates_by c.args.gate before c.requires.behind (at_told _ before told c.requires.long) (at_told _ before told c.requires.short) middle now put opened)
    (λ before image told torn.
    first_gate_crash c.args.gate before c.requires.behind (at_told _ before told c.requires.long) (at_told _ before told c.requires.short) image (torn_quiet D old (g.met.D.Disk.counts_now old) c.requires.quiet c.args.gate 1 before told image torn))
    (λ before middle image told told_mid put torn.
    second_gate_crash c.args.gate before c.requires.behind (at_told _ before told c.requires.long) (at_told _ before told c.requires.short) middle image put (torn_quiet D mid (g.met.D.Disk.counts_now mid) first.quiet (c.args.gate + 1) 1 middle told_mid image torn))
