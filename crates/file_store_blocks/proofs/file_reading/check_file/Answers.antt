use Rattle.std.proofs.Common.{◌≡◌, ◌≤◌, ℕ, List, length, Some, sym, ap, ◌∙◌, subst}
use Rattle.file_store_blocks.proofs.Names.{flat_map, header_octets, blocks_on, fault_code, StampValue, HasChecked, IsSealable, IsFaultCode, stamp_of, header_within, blocks_of, whole_block, FileCheck}
use Rattle.file_store_blocks.proofs.BlankedLemmas.{code_found}
use Rattle.file_store_blocks.proofs.ReadLemmas.{took_whole}
use Rattle.file_store_blocks.proofs.file_reading.check_file.Goals as goal

abbrev took : StampValue → FileCheck → List ℕ → Type 0
took stamp check fed = HasChecked stamp check fed

pub end-requires : goal.end-requires
end-requires g c =
    let front = c.in_ok-pass_octets.ensures.took in
    let stamp = stamp_of c.args.stamp in
    (stamp, front.fed, front.took_all stamp c.new-check.ensures.checked)

pub returns-in-Ok-clause-header : goal.returns-in-Ok-clause-header
returns-in-Ok-clause-header g c = λ told.
    let content = g.D.Disk.content c.args.disk.now in
    let front = c.in_ok-pass_octets.ensures.took in
    subst (λ (l : List ℕ). IsSealable (stamp_of c.args.stamp) l c.in-Ok.header.sum c.in-Ok.header.len)
    (took_whole took content (flat_map (whole_block (blocks_on content)) (blocks_of c.args.table.now c.args.file)) c.args.file.held
    c.new-check.result c.pass_octets.new.taker front told)
    (c.in-Ok.ensures (stamp_of c.args.stamp) front.fed (front.took_all (stamp_of c.args.stamp) c.new-check.ensures.checked))

pub returns-in-Ok-clause-inside : goal.returns-in-Ok-clause-inside
returns-in-Ok-clause-inside g c =
    let front = c.in_ok-pass_octets.ensures.took in
    let is = c.in-Ok.ensures (stamp_of c.args.stamp) front.fed (front.took_all (stamp_of c.args.stamp) c.new-check.ensures.checked) in
    let within = header_within front.fed is.faultless in
    subst (λ (n : ℕ). n ≤ c.args.file.held) (sym is.len_is)
    (subst (λ (n : ℕ). length (header_octets front.fed) ≤ n) front.size within)

pub returns-in-Err-clause-fault : goal.returns-in-Err-clause-fault
returns-in-Err-clause-fault g c = λ code is told.
    let content = g.D.Disk.content c.args.disk.now in
    let front = c.in_ok-pass_octets.ensures.took in
    let same : c.in-Err.fault.code ≡ code = cc in
    ap fault_code
    (sym
    (took_whole took content (flat_map (whole_block (blocks_on content)) (blocks_of c.args.table.now c.args.file)) c.args.file.held
    c.new-check.result c.pass_octets.new.taker front told))
    ∙ c.in-Err.ensures (stamp_of c.args.stamp) front.fed (front.took_all (stamp_of c.args.stamp) c.new-check.ensures.checked)
    ∙ ap (λ (n : ℕ). Some n) same

pub returns-in-Err-clause-code : goal.returns-in-Err-clause-code
returns-in-Err-clause-code g c = λ code is.
    let front = c.in_ok-pass_octets.ensures.took in
    let same : c.in-Err.fault.code ≡ code = cc in
    subst (λ (n : ℕ). IsFaultCode n) same
    (code_found front.fed c.in-Err.fault.code
    (c.in-Err.ensures (stamp_of c.args.stamp) front.fed (front.took_all (stamp_of c.args.stamp) c.new-check.ensures.checked)))
