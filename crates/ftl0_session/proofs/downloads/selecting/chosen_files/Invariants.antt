use Rattle.std.proofs.Common.{◌≡◌, ◌+◌, ◌-◌, ◌≤◌, ◌++◌, length}
use Rattle.ftl0_session.proofs.Names.{IsStore, OnlyReads, IsKnown, store_in, store_on, tree_of, AreFiles, chosen}
use Rattle.ftl0_session.proofs.downloads.ChosenLemmas.{above_of}
use Rattle.ftl0_session.proofs.downloads.selecting.chosen_files.Given as goal

abbrev pub invariant-loop-numbers : goal.invariant-loop-numbers
invariant-loop-numbers g l = record {
  numbers :
      IsKnown g.D.Disk l.fn.disk
      → l.numbers.items ++ chosen (tree_of l.selection) (above_of l.above (store_on g.D.Disk l.fn.store l.fn.disk).entries)
      ≡ chosen (tree_of l.selection) (store_on g.D.Disk l.fn.store l.fn.disk).entries;
  complete : AreFiles (store_in l.fn.store) l.numbers.items;
  room : length l.numbers.items + length (above_of l.above (store_in l.fn.store).entries) ≤ length (store_in l.fn.store).entries;
  rules : IsStore (store_in l.fn.store);
  reads : OnlyReads g.D.Disk ⊥ l.fn.store l.store l.fn.disk l.disk;
  selection : l.selection ≡ l.fn.selection;
}

abbrev pub decreases-loop-numbers : goal.decreases-loop-numbers
decreases-loop-numbers g l = (store_in l.fn.store).next - l.above
