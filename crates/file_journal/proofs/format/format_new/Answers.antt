use Rattle.std.proofs.Common.{◌≡◌, ◌≤◌, ℕ, List, length, take, rules, ◌∙◌, ap, subst, arith, take_all}
use Rattle.file_journal.proofs.Names.{Writes, IsMakingGates, HasGates, IsAfterRecovery, header_text, first_gate, IsRecovering, makes_failed, makes_on, at_told}
use Rattle.file_journal.proofs.FormatLemmas.{all_by, torn_quiet}
use Rattle.file_journal.proofs.JournalLemmas.{header_length}
use Rattle.file_journal.proofs.RecoverLemmas.{new_after, recovering_gates, recovering_short}
use Rattle.file_journal.proofs.format.format_new.Goals as goal

pub returns-in_err-write_synced-clause-makes : goal.returns-in_err-write_synced-clause-makes
returns-in_err-write_synced-clause-makes g c =
    let D = g.D.Disk in
    let old = c.args.disk.now in
    let eight : length c.args.magic ≡ 8 = search rules in
    makes_failed D c.write_synced.result c.from_residual.result old c.write_synced.new.disk _ _ _ _ (search rules)
    (λ before image told torn.
    let short = at_told _ before told c.requires.short in
    let left = torn_quiet D old (g.met.D.Disk.counts_now old) c.requires.quiet 0 _ before told image torn in
    recovering_short c.args.magic c.args.layout c.args.blocks before short image (omega (arith, left.no_longer, ap length (c.as_slice.ensures.value ∙ c.encode_header.ensures) ∙ header_length c.args.magic c.args.blocks eight, short)))
    c.write_synced.ensures.makes (search rules)

pub returns-clause-makes : goal.returns-clause-makes
returns-clause-makes g c =
    let D = g.D.Disk in
    let old = c.args.disk.now in
    let eight : length c.args.magic ≡ 8 = search rules in
    let text : c.as_slice.result.now ≡ header_text c.args.magic c.args.blocks = c.as_slice.ensures.value ∙ c.encode_header.ensures in
    let size : length c.as_slice.result.now ≡ 16 = ap length text ∙ header_length c.args.magic c.args.blocks eight in
    let gate = c.first_gate.result in
    let gate_is : gate ≡ first_gate c.args.layout c.args.blocks = c.first_gate.ensures.place in
    let header : (before middle : List ℕ) → length before ≤ 16 → Writes 0 c.as_slice.result.now before middle → middle ≡ header_text c.args.magic c.args.blocks =
    λ before middle short put. all_by c.as_slice.result.now before middle (omega (arith, size, short)) put ∙ text in
    makes_on D g.met.D.Disk.lasts_on _ c.format_gates.result old c.write_synced.new.disk c.format_gates.new.disk _ _ _ _ (IsAfterRecovery c.args.magic c.args.layout c.args.blocks) (IsRecovering c.args.magic c.args.layout c.args.blocks)
    c.in_ok-write_synced.ensures.makes c.format_gates.ensures.makes
    (λ before middle now told put gates.
    let short = at_told _ before told c.requires.short in
    let front : take 16 middle ≡ header_text c.args.magic c.args.blocks =
    ap (λ (l : List ℕ). take 16 l) (header before middle short put) ∙ take_all 16 (header_text c.args.magic c.args.blocks) (omega (arith, header_length c.args.magic c.args.blocks eight)) in
    new_after c.args.magic c.args.layout c.args.blocks before short now
    (subst (λ (n : ℕ). HasGates n (header_text c.args.magic c.args.blocks) now) gate_is (subst (λ (l : List ℕ). HasGates gate l now) front gates)))
    (λ before image told torn.
    let short = at_told _ before told c.requires.short in
    recovering_short c.args.magic c.args.layout c.args.blocks before short image (omega (arith, (torn_quiet D old (g.met.D.Disk.counts_now old) c.requires.quiet 0 _ before told image torn).no_longer, size, short)))
    (λ before middle image told told_mid put making.
    let short = at_told _ before told c.requires.short in
    recovering_gates c.args.magic c.args.layout c.args.blocks before short image eight c.requires.blocks.some c.requires.blocks.most
    (subst (λ (n : ℕ). IsMakingGates n (header_text c.args.magic c.args.blocks) image) gate_is (subst (λ (l : List ℕ). IsMakingGates gate l image) (header before middle short put) making)))
