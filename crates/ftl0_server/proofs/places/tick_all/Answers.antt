-- A tick comes at one place more.
use Rattle.std.proofs.Common.{◌≡◌, ℕ, suc, ◌+◌, ◌<◌, List, length, get_or, Some, sym, ◌∙◌, ap, subst, arith, add-one, rules}
use Rattle.ftl0_server.proofs.Names.{slice_get, slice_get-get_or, in_parked, KeepsComplete, Position, Store, store_in, IsPlace, AllPlaces, Slot, slot_ticking, CallSign, IsSettled}
use Rattle.ftl0_server.proofs.AllPlaces.{all-get, all-length}
use Rattle.ftl0_server.proofs.SettledLemmas.{settled-works}
use Rattle.ftl0_server.proofs.TickLemmas.{all-works, may-tick, quiet-later, ticked, ticked-all, ticked-get, ticked-set}
use Rattle.ftl0_server.proofs.places.tick_all.Goals as goal

pub tick-requires : goal.tick-requires
tick-requires c = search (rules, arith, slice_get-get_or, may-tick)

pub loop-i-preserved : goal.loop-i-preserved
loop-i-preserved c =
    let lt : c.loop-i.i < length c.loop-i.places = omega arith in
    let old = get_or c.loop-i.places c.loop-i.i c.index-places-i.result in
    let at = slice_get-get_or c.loop-i.places c.loop-i.i c.index-places-i.result lt in
    let working = c.loop-i.invariant.working in
    let works = c.tick.ensures.works in
    let kept = subst (λ (s : Store). KeepsComplete (store_in c.loop-i.store) s) (sym (in_parked c.loop-i.store c.tick.new.store c.tick.ensures.store.entries)) (λ number entry found whole. found) in
    let settles = λ (me : CallSign) (k : ℕ) (h : IsSettled me k c.loop-i.store c.loop-i.places).
    settled-works me k c.loop-i.store c.tick.new.store c.loop-i.places c.loop-i.i old c.tick.new.self at h works kept
    (λ fine. ap (λ (p : Position). p.failed) (sym c.tick.ensures.store.journal) ∙ fine) in
    let step : c.loop-i.i + 1 ≡ suc c.loop-i.i = add-one c.loop-i.i in
    record {
      silent = rw step (quiet-later c.loop-i.places c.loop-i.i c.tick.new.self c.loop-i.invariant.silent);
      working = (working.0, working.1, settles working.0 working.1 working.2);
      settled = λ me k h. settles me k (c.loop-i.invariant.settled me k h);
      ticks = λ w slots all.
          let was = c.loop-i.invariant.ticks w slots all in
          let got = all-get (IsPlace w c.loop-i.store) c.loop-i.places (ticked c.loop-i.i slots) c.loop-i.i old was at in
          let here : slice_get slots c.loop-i.i ≡ Some got.0 = sym (ticked-get c.loop-i.i slots) ∙ got.1 in
          let next =
          all-works w working.0 working.1 c.loop-i.store c.tick.new.store c.loop-i.places (ticked c.loop-i.i slots) c.loop-i.i old c.tick.new.self (slot_ticking got.0) at working.2 works was
          (c.tick.ensures.ticks w got.0 got.2) in
          rw (step, sym (ticked-set c.loop-i.i slots got.0 here)) next;
      store = record { entries = c.tick.ensures.store.entries ∙ c.loop-i.invariant.store.entries; journal = c.tick.ensures.store.journal ∙ c.loop-i.invariant.store.journal };
    }

pub returns-clause-ticks : goal.returns-clause-ticks
returns-clause-ticks c = λ w slots all.
    let size : length c.args.places.now ≡ length slots = all-length (IsPlace w c.args.store.now) c.args.places.now slots all in
    let last : c.loop-i.i ≡ length slots = omega (arith, size) in
    subst (λ (ss : List Slot). AllPlaces (IsPlace w c.loop-i.store) c.loop-i.places ss)
    (ap (λ (n : ℕ). ticked n slots) last ∙ ticked-all slots) (c.loop-i.invariant.ticks w slots all)
