use Rattle.std.proofs.Common.{◌∙◌, ◌<◌, ap, refl, subst, sym, arith}
use Rattle.file_store_blocks.proofs.block_table.Names.{HasRoom, IsFree, Table, after_taking}
use Rattle.file_store_blocks.proofs.block_table.KeptLemmas.{IsMark, kept-taking, line-taking, room-at, same-table}
use Rattle.file_store_blocks.proofs.block_table.table.BlockTable.take.Goals as goal
use Rattle.file_store_blocks.proofs.block_table.table.BlockTable.take.Goals.{After-index_mut-mark}

-- the run's mark, which has room
at : (c : After-index_mut-mark) → IsMark c.self.inside.runs.items c.self.inside.numbers.items c.self.inside.rooms
    c.self.inside.limit c.args.run c.index_mut-mark.result.now
    × (c.index_mut-mark.result.now.count < c.index_mut-mark.result.now.room)
at c =
    room-at c.self.invariant _ c.args.run c.index_mut-mark.result.now
    (subst (λ (t : Table). HasRoom t c.args.run) (sym c.self.view_is) c.requires.room) c.index_mut-mark.ensures.value

pub overflow_add-mark : goal.overflow_add-mark
overflow_add-mark c = omega (arith, at (goal.at.overflow_add-mark c).After-index_mut-mark)

pub index_mut-requires : goal.index_mut-requires
index_mut-requires c = omega (arith, at (goal.at.index_mut-requires c).After-index_mut-mark, c.self.inside.numbers.ok.0)

pub invariant_of-self : goal.invariant_of-self
invariant_of-self c =
    let room = subst (λ (t : Table). HasRoom t c.args.run) (sym c.self.view_is) c.requires.room in
    let free = subst (λ (t : Table). IsFree t c.args.block) (sym c.self.view_is) c.requires.free in
    kept-taking c.self.invariant _ c.args.run c.index_mut-mark.result.now c.args.block c.from.result room
    c.index_mut-mark.ensures.value free c.from.ensures

pub returns : goal.returns
returns c =
    let here = at (goal.at.returns c).After-index_mut-mark in
    same-table _ _ (line-taking here.0 here.1 c.args.block).1 refl refl
    ∙ ap (λ (t : Table). after_taking t c.args.run c.args.block) c.self.view_is
