use Rattle.std.proofs.Common.{◌≤◌, subst, sym, arith}
use Rattle.file_store_blocks.proofs.block_table.Names.{Table, left_in}
use Rattle.file_store_blocks.proofs.block_table.KeptLemmas.{kept-beginning, kept-rooms}
use Rattle.file_store_blocks.proofs.block_table.table.BlockTable.begin.Goals as goal

pub overflow_add-self : goal.overflow_add-self
overflow_add-self c =
    let fits = subst (λ (t : Table). c.args.room ≤ left_in t) (sym c.self.view_is) c.requires.room in
    omega (arith, fits, kept-rooms c.self.invariant)

pub invariant_of-self : goal.invariant_of-self
invariant_of-self c =
    let fits = subst (λ (t : Table). c.args.room ≤ left_in t) (sym c.self.view_is) c.requires.room in
    rw c.push_reserved.ensures.items (kept-beginning c.self.invariant c.args.room fits)
