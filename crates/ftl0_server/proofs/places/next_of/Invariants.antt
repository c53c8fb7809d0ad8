-- None of the places before has anything pending.
use Rattle.std.proofs.Common.{◌≡◌, take, false}
use Rattle.ftl0_server.proofs.Names.{any_pending}
use Rattle.ftl0_server.proofs.places.next_of.Given as goal

abbrev pub invariant-loop-i : goal.invariant-loop-i
invariant-loop-i l = record {
  none : any_pending (take l.i l.places) ≡ false;
  places : l.places ≡ l.initial.places;
  out : l.out.items ≡ l.initial.out.items;
}
