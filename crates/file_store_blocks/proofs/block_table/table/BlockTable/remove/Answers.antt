use Rattle.std.proofs.Common.{◌≡◌, ◌∙◌, ◌+◌, ◌-◌, ◌<◌, ◌≤◌, ◌++◌, List, ℕ, take, drop, length, map, ap, refl}
use Rattle.std.proofs.Common.{rules, subst, sym, arith}
use Rattle.std.specs.Vec.{with_items}
use Rattle.file_store_blocks.proofs.block_table.Names.{All, with_items_is, earlier, run_in, runs_in, Table, without, RunMark}
use Rattle.file_store_blocks.proofs.block_table.KeptLemmas.{IsMark, kept-behind, kept-without, line-without, mark-at, marks_without}
use Rattle.file_store_blocks.proofs.block_table.KeptLemmas.{same-table}
use Rattle.file_store_blocks.proofs.block_table.table.BlockTable.remove.Goals as goal
use Rattle.file_store_blocks.proofs.block_table.table.BlockTable.remove.Goals.{After-deref, After-move_up, After-remove-gone}

at : (c : After-remove-gone) → IsMark c.self.inside.runs.items c.self.inside.numbers.items c.self.inside.rooms
    c.self.inside.limit c.args.run c.remove-gone.result
at c =
    mark-at c.self.invariant c.args.run c.remove-gone.result
    (subst (λ (t : Table). c.args.run < length t.runs) (sym c.self.view_is) c.requires) c.remove-gone.ensures.value

-- the blocks of the run that is gone
blocks : (c : After-deref)
    → take (c.remove-gone.result.first + c.remove-gone.result.count - c.remove-gone.result.first)
    (drop c.remove-gone.result.first c.deref.result.now)
    ≡ (run_in c.self.inside.numbers.items c.remove-gone.result).blocks
blocks c =
    let gone = c.remove-gone.result in
    let count : gone.first + gone.count - gone.first ≡ gone.count = omega arith in
    λ i. take (count i) (drop gone.first (c.deref.ensures.value i))

pub slice_bounds-blocks-end : goal.slice_bounds-blocks-end
slice_bounds-blocks-end c =
    let here = at (goal.at.slice_bounds-blocks-end c).After-remove-gone in
    omega (arith, here, c.deref.ensures, c.self.inside.numbers.ok.0)

pub free_blocks-self-inside-requires : goal.free_blocks-self-inside-requires
free_blocks-self-inside-requires c =
    let here = at (goal.at.free_blocks-self-inside-requires c).After-remove-gone in
    let all = subst (λ (bs : List ℕ). All (λ (b : ℕ). b < c.self.inside.limit) bs)
    (sym (blocks (goal.at.free_blocks-self-inside-requires c).After-deref)) here.below in
    λ k d h. omega (arith, all k d h, c.deref_mut.ensures, c.self.invariant.taken_length, c.self.inside.taken.ok.0)

pub copy_within-requires : goal.copy_within-requires
copy_within-requires c =
    let here = at (goal.at.copy_within-requires c).After-remove-gone in
    record {
      start_le_end = here.high;
      in_bounds = omega (arith, here, c.self.inside.numbers.ok.0);
      dest_in_bounds = omega (arith, here, c.self.inside.numbers.ok.0);
      not_exhausted = search rules;
    }

pub move_up-requires-clause-places : goal.move_up-requires-clause-places
move_up-requires-clause-places c =
    subst (λ (ms : List RunMark). All (λ (m : RunMark). c.remove-gone.result.room ≤ m.first) (drop c.args.run ms))
    (sym (c.deref_mut-2.ensures.value ∙ c.remove-gone.ensures.items))
    (kept-behind (at (goal.at.move_up-requires-clause-places c).After-remove-gone))

pub overflow_sub-self : goal.overflow_sub-self
overflow_sub-self c = omega (arith, at (goal.at.overflow_sub-self c).After-remove-gone)

-- the marks as they are then
marks : (c : After-move_up) → (with_items c.remove-gone.new.self c.move_up.new.marks).items
    ≡ marks_without c.self.inside.runs.items c.args.run c.remove-gone.result.room
marks c =
    with_items_is c.remove-gone.new.self c.move_up.new.marks (omega (arith, c.move_up.auto.marks, c.deref_mut-2.ensures))
    ∙ c.move_up.ensures
    ∙ ap (λ (ms : List RunMark). take c.args.run ms ++ map (earlier c.remove-gone.result.room) (drop c.args.run ms))
    (c.deref_mut-2.ensures.value ∙ c.remove-gone.ensures.items)

pub invariant_of-self : goal.invariant_of-self
invariant_of-self c =
    let here = at (goal.at.invariant_of-self c).After-remove-gone in
    let is = blocks (goal.at.invariant_of-self c).After-deref in
    let now = c.free_blocks-self-inside.new.taken in
    let low = c.free_blocks-self-inside.result in
    let told = c.free_blocks-self-inside.ensures in
    let same : (with_items c.self.inside.taken now).items ≡ now =
    with_items_is c.self.inside.taken now (omega (arith, told.taken.marks, c.deref_mut.ensures.len)) in
    let freed = rw (is, c.deref_mut.ensures.value) at told.taken in
    let each = rw is at told.each in
    rw (marks (goal.at.invariant_of-self c).After-move_up, same)
    (kept-without c.self.invariant here c.copy_within.new.self.items c.copy_within.ensures.items
    (omega (arith, c.copy_within.ensures.len, c.copy_within.new.self.ok.0, c.self.inside.numbers.ok.0))
    now freed low told.lowest each)

pub returns : goal.returns
returns c =
    let here = at (goal.at.returns c).After-remove-gone in
    let now = c.copy_within.new.self.items in
    same-table _ _ (ap (runs_in now) (marks (goal.at.returns c).After-move_up)
    ∙ (line-without here now c.copy_within.ensures.items).1) refl
    c.remove-gone.ensures.capacity
    ∙ ap (λ (t : Table). without t c.args.run) c.self.view_is
