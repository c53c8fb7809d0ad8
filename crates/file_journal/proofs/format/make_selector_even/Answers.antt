use Rattle.std.proofs.Common.{arith}
use Rattle.file_journal.proofs.Names.{IsMakingEven, MakesEven, makes_weaker, at_told}
use Rattle.file_journal.proofs.FormatLemmas.{even_by, even_crash, torn_quiet}
use Rattle.file_journal.proofs.format.make_selector_even.Goals as goal

pub returns-clause-makes : goal.returns-clause-makes
returns-clause-makes g c =
    let D = g.D.Disk in
    let old = c.args.disk.now in
    makes_weaker D c.write_synced.result old c.write_synced.new.disk _ _ MakesEven IsMakingEven
    (λ before now told writes.
    even_by before now (at_told _ before told c.requires.long) (omega (arith, at_told _ before told c.requires.selector)) writes)
    (λ before image told torn.
    even_crash before image (at_told _ before told c.requires.long) (torn_quiet D old (g.met.D.Disk.counts_now old) c.requires.quiet 15 1 before told image torn))
    c.write_synced.ensures.makes
