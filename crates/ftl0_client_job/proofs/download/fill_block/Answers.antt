use Rattle.std.proofs.Common.{◌≡◌, ◌-◌, ◌++◌, ℕ, length, rules, take, drop, ap, ◌∙◌, arith}
use Rattle.ftl0_client_job.proofs.BlockLemmas.{block-full, block-left}
use Rattle.ftl0_client_job.proofs.download.fill_block.Goals as goal

pub returns-clause-block : goal.returns-clause-block
returns-clause-block c =
    let block = c.args.block.now.items in
    let ext : c.try_extend_from_slice.new.self.items ≡ block ++ take (512 - c.len-count.result) c.args.octets.now = search rules in
    let few = c.len-count.ensures.fits in
    ext ∙ ap (λ (n : ℕ). block ++ take (512 - n) c.args.octets.now) c.len-count.ensures.value ∙ block-full block c.args.octets.now (omega arith)

pub returns-clause-left : goal.returns-clause-left
returns-clause-left c =
    let block = c.args.block.now.items in
    ap (λ (n : ℕ). take (length c.args.octets.now - (512 - n)) (drop (512 - n) c.args.octets.now)) c.len-count.ensures.value ∙ block-left block c.args.octets.now (omega arith)
