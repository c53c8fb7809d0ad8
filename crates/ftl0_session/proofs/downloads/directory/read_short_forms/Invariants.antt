use Rattle.std.proofs.Common.{◌≡◌, ◌*◌, length, take, flat_map}
use Rattle.ftl0_session.proofs.Names.{OnlyReads, IsKnown, store_on, octets_in, short_octets}
use Rattle.ftl0_session.proofs.downloads.directory.read_short_forms.Given as goal

abbrev pub invariant-loop-number : goal.invariant-loop-number
invariant-loop-number g l = record {
  forms :
      IsKnown g.D.Disk l.fn.disk
      → l.forms.items
      ≡ flat_map (λ number. short_octets (octets_in (store_on g.D.Disk l.fn.store l.fn.disk) number)) (take l.number-index l.numbers);
  count : length l.forms.items ≡ 73 * l.number-index;
  reads : OnlyReads g.D.Disk ⊥ l.fn.store l.store l.fn.disk l.disk;
}
