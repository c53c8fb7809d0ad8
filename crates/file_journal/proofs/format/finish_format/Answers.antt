use Rattle.std.proofs.Common.{◌≡◌, ℕ, ◌+◌, ◌<◌, List, length, Some, subst, arith}
use Rattle.file_journal.proofs.Names.{IsFinishing, IsMakingGates, MakesGates, IsAfterFinishing, makes_on, at_told}
use Rattle.file_journal.proofs.FormatLemmas.{even_finishing, finished_by, gates_finishing}
use Rattle.file_journal.proofs.format.finish_format.Goals as goal

pub returns-clause-makes : goal.returns-clause-makes
returns-clause-makes g c =
    let D = g.D.Disk in
    let gate = c.args.gate in
    let long : (before : List ℕ) → D.content c.args.disk.now ≡ Some before → 16 < length before = λ before told. at_told _ before told c.requires.long in
    let short : (before : List ℕ) → D.content c.args.disk.now ≡ Some before → length before < gate + 2 = λ before told. at_told _ before told c.requires.short in
    makes_on D g.met.D.Disk.lasts_on _ c.format_gates.result c.args.disk.now c.make_selector_even.new.disk c.format_gates.new.disk _ _ _ _ (IsAfterFinishing gate) (IsFinishing gate)
    c.in_ok-make_selector_even.ensures.makes c.format_gates.ensures.makes
    (λ before middle now told even gates. finished_by before (long before told) gate (short before told) now (subst (λ (l : List ℕ). MakesGates gate l now) even gates))
    (λ before image told making. even_finishing before (long before told) gate (short before told) image making)
    (λ before middle image told told_mid even making. gates_finishing before (long before told) gate (short before told) image (subst (λ (l : List ℕ). IsMakingGates gate l image) even making))
