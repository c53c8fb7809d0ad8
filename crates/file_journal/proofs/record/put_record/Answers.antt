use Rattle.std.proofs.Common.{arith, [], ◌∷◌, List, ℕ, inl, subst}
use Rattle.file_journal.proofs.Names.{common_steps, Torn, Writes, IsPutting, OpensGate, makes_failed, makes_on, at_told}
use Rattle.file_journal.proofs.FormatLemmas.{torn_quiet}
use Rattle.file_journal.proofs.OctetLemmas.{gate_crash, opened_by, staged_by}
use Rattle.file_journal.proofs.record.put_record.Goals as goal

pub returns-in_err-write_synced-clause-makes : goal.returns-in_err-write_synced-clause-makes
returns-in_err-write_synced-clause-makes g c = grind (arith, common_steps, inl, makes_failed)

pub returns-clause-makes : goal.returns-clause-makes
returns-clause-makes g c =
    let D = g.D.Disk in
    let old = c.args.disk.now in
    let mid = c.write_synced.new.disk in
    let place = c.args.place in
    let text = c.args.octets.now in
    let first = c.in_ok-write_synced.ensures.makes in
    makes_on D g.met.D.Disk.lasts_on _ c.write_synced-2.result old mid c.write_synced-2.new.disk _ _ _ _ (OpensGate place text) (IsPutting place text (D.images old))
    first c.write_synced-2.ensures.makes
    (λ before middle now told put opened.
    let there = at_told _ before told c.requires.gate in
    opened_by place text before there now (subst (λ (l : List ℕ). Writes place (1 ∷ []) l now) (staged_by place text before there middle put) opened))
    (λ before image told torn. inl torn)
    (λ before middle image told told_mid put torn.
    let there = at_told _ before told c.requires.gate in
    gate_crash place text before there (D.images old) image
    (subst (λ (l : List ℕ). Torn place 1 l image) (staged_by place text before there middle put)
    (torn_quiet D mid (g.met.D.Disk.counts_now mid) first.quiet place 1 middle told_mid image torn)))
