use Rattle.std.proofs.Common.{inl, refl, ◌≡◌, ℕ, ◌+◌, ◌-◌, ◌*◌, ◌/◌, ◌<◌, ◌++◌, List, drop, length, take, rules, sym, ap, ◌∙◌, subst, arith, length-append, length-drop, drop-drop}
use Rattle.arrayvec.specs.declared.array_vec.ArrayVec.{ArrayVec}
use Rattle.ftl0_client_job.proofs.Names.{⊤, Result, Err, DoesSeveral, Several-ready, Halt, gots, HasNoted}
use Rattle.ftl0_client_job.proofs.BlockLemmas.{block-allowed, gots-allowed, more-noted, one-stopped}
use Rattle.ftl0_client_job.proofs.NotingLemmas.{noted-none}
use Rattle.ftl0_client_job.proofs.download.note_blocks.Goals as goal

-- octets that are left
abbrev Block : Type 0
Block = ArrayVec ℕ 512 (Unit {0})

pub note_got-requires : goal.note_got-requires
note_got-requires g c =
    let all = c.args.rest.now.items ++ c.args.octets.now in
    let n = length all / 512 in
    let same : c.len.result + length c.args.octets.now ≡ length all =
    ap (λ (k : ℕ). k + length c.args.octets.now) c.len.ensures.value ∙ sym (length-append c.args.rest.now.items c.args.octets.now) in
    let below : c.loop.counter < n = subst (λ (k : ℕ). c.loop.counter < k / 512) same c.loop-test.true in
    let is : c.as_slice-in-loop.result.now ≡ take 512 (drop (512 * c.loop.counter) all) =
    c.as_slice-in-loop.ensures.value ∙ c.fill_block-left.ensures.block ∙ ap (take 512) c.loop.invariant.octets in
    record {
      ready = Several-ready g.D.Disk c.args.notes.now c.loop.notes c.args.disk.now c.loop.disk _ c.loop.invariant.noted;
      allowed =
          block-allowed c.args.server c.args.number n c.loop.counter all c.args.notes.now.lists c.loop.notes.lists c.requires.some (omega arith) c.requires.fits below
          ((c.loop.invariant.noted.does.done (λ never. never)).0 (inl refl)) c.as_slice-in-loop.result.now is;
    }

pub returns-in_err-note_got-clause-noted : goal.returns-in_err-note_got-clause-noted
returns-in_err-note_got-clause-noted g c =
    let all = c.args.rest.now.items ++ c.args.octets.now in
    let n = length all / 512 in
    let why = c.in_err-note_got.field-0.0 in
    let same : c.len.result + length c.args.octets.now ≡ length all =
    ap (λ (k : ℕ). k + length c.args.octets.now) c.len.ensures.value ∙ sym (length-append c.args.rest.now.items c.args.octets.now) in
    let below : c.loop.counter < n = subst (λ (k : ℕ). c.loop.counter < k / 512) same c.loop-test.true in
    let is : c.as_slice-in-loop.result.now ≡ take 512 (drop (512 * c.loop.counter) all) =
    c.as_slice-in-loop.ensures.value ∙ c.fill_block-left.ensures.block ∙ ap (take 512) c.loop.invariant.octets in
    let fits = c.requires.fits in
    let allowed = gots-allowed c.args.server c.args.number n all c.args.notes.now.lists c.requires.some (omega arith) (omega (arith, fits)) in
    let stops : c.from_residual.result ≡ Err why = search rules in
    subst (λ (r : Result Block Halt). HasNoted g.D.Disk c.args.notes.now c.note_got.new.notes c.args.disk.now c.note_got.new.disk (gots c.args.server c.args.number n all) r) (sym stops)
    (one-stopped g.D.Disk g.met.D.Disk.lasts_on c.args.server c.args.number n c.loop.counter all c.as_slice-in-loop.result.now c.args.notes.now c.loop.notes c.note_got.new.notes c.args.disk.now c.loop.disk
    c.note_got.new.disk is c.loop.invariant.noted ⊤ Block why below allowed c.in_err-note_got.ensures)

pub loop-preserved : goal.loop-preserved
loop-preserved g c =
    let all = c.args.rest.now.items ++ c.args.octets.now in
    let block = c.as_slice-in-loop.result.now in
    let is : block ≡ take 512 (drop (512 * c.loop.counter) all) =
    c.as_slice-in-loop.ensures.value ∙ c.fill_block-left.ensures.block ∙ ap (take 512) c.loop.invariant.octets in
    let step : 512 * c.loop.counter + 512 ≡ 512 * (c.loop.counter + 1) = omega arith in
    record {
      octets = ap (λ (os : List ℕ). os ++ c.fill_block-left.result.now) c.clear.ensures
          ∙ c.fill_block-left.ensures.left ∙ ap (drop 512) c.loop.invariant.octets ∙ drop-drop 512 (512 * c.loop.counter) all ∙ ap (λ (k : ℕ). drop k all) step;
      few = subst (λ (os : List ℕ). length os < 512) (sym c.clear.ensures) (omega arith);
      noted = more-noted g.D.Disk g.met.D.Disk.lasts_on c.args.server c.args.number (length all / 512) c.loop.counter all block c.args.notes.now c.loop.notes c.note_got.new.notes c.args.disk.now c.loop.disk c.note_got.new.disk is
          c.loop.invariant.noted c.in_ok-note_got.ensures;
    }

pub unwrap-requires-2 : goal.unwrap-requires-2
unwrap-requires-2 g c =
    let all = c.args.rest.now.items ++ c.args.octets.now in
    let block = c.loop.block.items in
    let left = c.loop.left.now in
    let same : c.len.result + length c.args.octets.now ≡ length all =
    ap (λ (k : ℕ). k + length c.args.octets.now) c.len.ensures.value ∙ sym (length-append c.args.rest.now.items c.args.octets.now) in
    let over : (c.len.result + length c.args.octets.now) / 512 ≡ length all / 512 = ap (λ (k : ℕ). k / 512) same in
    let last : c.loop.counter ≡ length all / 512 = omega (arith, over) in
    let sum : length (block ++ left) ≡ length block + length left = length-append block left in
    let rest : length (block ++ left) ≡ length all - 512 * c.loop.counter = ap length c.loop.invariant.octets ∙ length-drop (512 * c.loop.counter) all in
    c.try_extend_from_slice-2.ensures.variant.1 (omega (arith, sum, rest, last))

pub returns-clause-noted : goal.returns-clause-noted
returns-clause-noted g c =
    let all = c.args.rest.now.items ++ c.args.octets.now in
    let same : c.len.result + length c.args.octets.now ≡ length all =
    ap (λ (k : ℕ). k + length c.args.octets.now) c.len.ensures.value ∙ sym (length-append c.args.rest.now.items c.args.octets.now) in
    let over : (c.len.result + length c.args.octets.now) / 512 ≡ length all / 512 = ap (λ (k : ℕ). k / 512) same in
    let last : c.loop.counter ≡ length all / 512 = omega (arith, over) in
    subst (λ (k : ℕ). DoesSeveral g.D.Disk ⊥ c.args.notes.now c.loop.notes c.args.disk.now c.loop.disk (gots c.args.server c.args.number k all)) last c.loop.invariant.noted

pub loop-init : goal.loop-init
loop-init g c =
    let none = noted-none g.D.Disk c.args.notes.now c.args.disk.now c.requires.ready (g.met.D.Disk.lasts_same c.args.disk.now) in search rules
