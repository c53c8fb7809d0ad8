use Rattle.std.proofs.Common.{◌≡◌, length, map, take}
use Rattle.ftl0_session.proofs.Names.{OnlyReads, IsKnown, store_in, store_on, AreStored, due_of, long_due}
use Rattle.ftl0_session.proofs.downloads.directory.read_spans_of_headers.Given as goal

abbrev pub invariant-loop-number : goal.invariant-loop-number
invariant-loop-number g l = record {
  spans :
      IsKnown g.D.Disk l.fn.disk → map due_of l.spans.items ≡ long_due (store_on g.D.Disk l.fn.store l.fn.disk) (take l.number-index l.numbers);
  within : AreStored (store_in l.fn.store) (map due_of l.spans.items);
  count : length l.spans.items ≡ l.number-index;
  reads : OnlyReads g.D.Disk ⊥ l.fn.store l.store l.fn.disk l.disk;
}
