use Rattle.std.proofs.Common.{◌≡◌, ℕ, ◌+◌, ◌<◌, ◌≤◌, length, IfSome, Err, Ok, refl, ◌∙◌, ap, sym, arith}
use Rattle.file_journal.specs.declared.faults.RecoverFault.TheVariants as fault
use Rattle.file_journal.specs.declared.found.Owed.TheVariants as owed
use Rattle.file_journal.proofs.Names.{Header, err_from_is_err_and, half_by, if_told, at_told, told_weaker, First}
use Rattle.file_journal.proofs.RecoverLemmas.{refuses_alike, refuses_none}
use Rattle.file_journal.proofs.LookingLemmas.{found_as, found_good, is_formatted, is_interrupted, is_unformatted, stands_formatted}
use Rattle.file_journal.proofs.journal.Journal.look.Goals as goal

pub returns-then-len-le-HEADER-clause-found : goal.returns-then-len-le-HEADER-clause-found
returns-then-len-le-HEADER-clause-found g c =
    let D = g.D.Disk in
    let new = c.len.new.self in
    found_as D c.args.magic c.args.layout c.args.blocks new c.at_first_gate.result c.args.blocks First owed.Formatting c.at_first_gate.ensures c.requires.blocks (refl, refl)
    (if_told (D.content new) _ (λ now told. is_unformatted c.args.magic c.args.layout c.args.blocks now (omega (arith, at_told _ now (sym c.len.ensures.only_reads.same_content ∙ told) c.in_ok-len.ensures.len, c.if-len-le-HEADER.true))))
    (λ is. cc is)

pub returns-then-len-le-HEADER-clause-refuses : goal.returns-then-len-le-HEADER-clause-refuses
returns-then-len-le-HEADER-clause-refuses g c healthy =
    if_told (g.D.Disk.content c.args.disk.now) _ (λ before told.
    let is = is_unformatted c.args.magic c.args.layout c.args.blocks before (omega (arith, at_told _ before told c.in_ok-len.ensures.len, c.if-len-le-HEADER.true)) in
    refuses_none c.args.magic c.args.layout before _ (found_good _ owed.Formatting before is))

pub returns-in_err-header-clause-refuses : goal.returns-in_err-header-clause-refuses
returns-in_err-header-clause-refuses g c healthy =
    let p = err_from_is_err_and c.from_residual-in_err-header.result c.from_residual-in_err-header.ensures.1 in
    let e = c.in_err-header.field-0.0 in
    let is : c.from_residual-in_err-header.result ≡ Err e = p.1 ∙ ap Err p.2 in
    if_told (g.D.Disk.content c.args.disk.now) _
    (λ before told. refuses_alike c.args.magic c.args.layout before {T = Header} (Err e) _
    (λ other. (λ same. let here : e ≡ other = cc same in is ∙ ap Err here, λ same. let here : e ≡ other = cc (is, same) in ap Err here))
    (at_told _ before (c.len.ensures.only_reads.same_content ∙ told) (c.in_err-header.ensures.refuses c.args.layout (λ disk. let here : e ≡ fault.Disk = cc disk in healthy (is ∙ ap Err here)))))

pub returns-then-len-gate-clause-found : goal.returns-then-len-gate-clause-found
returns-then-len-gate-clause-found g c =
    let D = g.D.Disk in
    let new = c.read_header.new.disk in
    let number = c.in_ok-header.header.blocks in
    found_as D c.args.magic c.args.layout c.args.blocks new c.at_first_gate-then-len-gate.result number First (owed.Gates c.in_ok-header.header.selector) c.at_first_gate-then-len-gate.ensures c.in_ok-header.ensures.blocks refl
    (if_told (D.content new) _ (λ now told.
    let mid = sym c.read_header.ensures.reads.only.same_content ∙ told in
    let len : c.in_ok-len.len ≡ length now = at_told _ now (sym c.len.ensures.only_reads.same_content ∙ mid) c.in_ok-len.ensures.len in
    is_interrupted c.args.magic c.args.layout number now c.in_ok-header.header.selector (omega (arith, len, c.if-len-le-HEADER.false)) (at_told _ now mid c.in_ok-header.ensures.header)
    (omega (arith, len, c.if-len-gate.true, c.first_gate-gate.ensures.place)) (at_told _ now mid c.in_ok-header.ensures.selector)))
    (λ is. cc is)

pub returns-then-len-gate-clause-refuses : goal.returns-then-len-gate-clause-refuses
returns-then-len-gate-clause-refuses g c healthy =
    if_told (g.D.Disk.content c.args.disk.now) _ (λ before told.
    refuses_alike c.args.magic c.args.layout before (Ok c.in_ok-header.header) _ (λ e. (λ is. cc, λ is. cc))
    (at_told _ before (c.len.ensures.only_reads.same_content ∙ told) (c.in_ok-header.ensures.refuses c.args.layout (λ is. cc is))))

pub returns-clause-found : goal.returns-clause-found
returns-clause-found g c =
    let D = g.D.Disk in
    let new = c.read_header.new.disk in
    let number = c.in_ok-header.header.blocks in
    let formatted =
    if_told (D.content new) _ (λ now told.
    let mid = sym c.read_header.ensures.reads.only.same_content ∙ told in
    let len : c.in_ok-len.len ≡ length now = at_told _ now (sym c.len.ensures.only_reads.same_content ∙ mid) c.in_ok-len.ensures.len in
    is_formatted c.args.magic c.args.layout number now c.half-half.result (at_told _ now mid c.in_ok-header.ensures.header)
    (omega (arith, len, c.if-len-gate.false, c.first_gate-gate.ensures.place))
    (sym (c.half-half.ensures ∙ ap (half_by c.args.layout) (at_told _ now mid c.in_ok-header.ensures.selector)))) in
    found_as D c.args.magic c.args.layout c.args.blocks new c.at_first_gate-2.result number c.half-half.result owed.Nothing c.at_first_gate-2.ensures c.in_ok-header.ensures.blocks tt
    formatted
    (λ is rest. stands_formatted D c.args.magic c.args.layout c.args.blocks new number c.half-half.result
    (told_weaker (D.content new) _ _ (λ now told image. (g.met.D.Disk.images_fit new now image).0) (g.met.D.Disk.content_is_image new)) formatted rest)

pub returns-clause-refuses : goal.returns-clause-refuses
returns-clause-refuses g c healthy =
    if_told (g.D.Disk.content c.args.disk.now) _ (λ before told.
    refuses_alike c.args.magic c.args.layout before (Ok c.in_ok-header.header) _ (λ e. (λ is. cc, λ is. cc))
    (at_told _ before (c.len.ensures.only_reads.same_content ∙ told) (c.in_ok-header.ensures.refuses c.args.layout (λ is. cc is))))
