use Rattle.std.proofs.Common.{◌≡◌, ◌+◌, ◌-◌, ◌≤◌, ◌++◌, length, map, min, take, drop}
use Rattle.ftl0_session.proofs.Names.{OnlyReads, IsKnown, store_in, store_on, after_octets, joined, due_of}
use Rattle.ftl0_session.proofs.downloads.span.read_spans.Given as goal

abbrev pub invariant-loop-span : goal.invariant-loop-span
invariant-loop-span g l = record {
  octets :
      IsKnown g.D.Disk l.fn.disk
      → l.part.items
      ++ take (254 - length l.part.items) (joined (store_on g.D.Disk l.fn.store l.fn.disk) (map due_of (drop l.span-index l.spans)))
      ≡ take 254 (joined (store_on g.D.Disk l.fn.store l.fn.disk) (map due_of l.spans));
  full :
      length l.part.items + min (254 - length l.part.items) (length (joined (store_in l.fn.store) (map due_of (drop l.span-index l.spans))))
      ≡ min 254 (length (joined (store_in l.fn.store) (map due_of l.spans)));
  left :
      map due_of l.left.items
      ++ after_octets (254 - length l.part.items) (map due_of (drop l.span-index l.spans))
      ≡ after_octets 254 (map due_of l.spans);
  few : length l.part.items ≤ 254;
  count : length l.left.items ≡ l.span-index;
  reads : OnlyReads g.D.Disk ⊥ l.fn.store l.store l.fn.disk l.disk;
}
