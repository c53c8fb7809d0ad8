use Rattle.std.proofs.Common.{◌≡◌, ◌-◌, ℕ, ap, subst, sym}
use Rattle.file_store_blocks.proofs.block_table.Names.{Table, left_in}
use Rattle.file_store_blocks.proofs.block_table.KeptLemmas.{kept-rooms}
use Rattle.file_store_blocks.proofs.block_table.table.BlockTable.left.Goals as goal

pub overflow_sub-result : goal.overflow_sub-result
overflow_sub-result c = (kept-rooms c.self.invariant).1

pub returns-clause-left : goal.returns-clause-left
returns-clause-left c =
    let limit = c.self.inside.limit in
    subst (λ (t : Table). limit - c.self.inside.rooms ≡ left_in t) c.self.view_is
    (sym (ap (λ (n : ℕ). limit - n) (kept-rooms c.self.invariant).0))
