use Rattle.std.proofs.Common.{subst, sym}
use Rattle.file_store_blocks.proofs.block_table.Names.{HasRoom, IsLowestFree, Table}
use Rattle.file_store_blocks.proofs.block_table.FreeLemmas.{finds-lowest, finds-some}
use Rattle.file_store_blocks.proofs.block_table.table.BlockTable.lowest_free.Goals as goal

pub unwrap-requires : goal.unwrap-requires
unwrap-requires c =
    let room = subst (λ (t : Table). HasRoom t c.requires.0) (sym c.self.view_is) c.requires.1 in
    finds-some c.self.invariant _ c.requires.0 room c.first_free.result
    (rw c.deref.ensures.value at c.first_free.ensures.none)

pub returns-clause-free : goal.returns-clause-free
returns-clause-free c =
    subst (λ (t : Table). IsLowestFree t c.unwrap.result) c.self.view_is
    (finds-lowest c.self.invariant _ c.unwrap.result
    (rw (c.deref.ensures.value, c.unwrap.ensures) at c.first_free.ensures.some))
