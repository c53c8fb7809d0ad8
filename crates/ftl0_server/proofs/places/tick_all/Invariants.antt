-- A tick came at each place before.
use Rattle.std.proofs.Common.{◌≡◌, ℕ, List, drop, false}
use Rattle.ftl0_server.proofs.Names.{CallSign, Window, GivesUp, IsPlace, IsSettled, IsWorking, AllPlaces, any_pending, Slot}
use Rattle.ftl0_server.proofs.TickLemmas.{ticked}
use Rattle.ftl0_server.proofs.places.tick_all.Given as goal

abbrev pub invariant-loop-i : goal.invariant-loop-i
invariant-loop-i l = record {
  silent : any_pending (drop l.i l.places) ≡ false;
  working : IsWorking l.store l.places;
  settled : (me : CallSign) (k : ℕ) → IsSettled me k l.initial.store l.initial.places → IsSettled me k l.store l.places;
  ticks :
      (w : Window) (slots : List Slot) → AllPlaces (IsPlace w l.initial.store) l.initial.places slots
      → AllPlaces (IsPlace w l.store) l.places (ticked l.i slots);
  store : GivesUp l.initial.store l.store;
}
