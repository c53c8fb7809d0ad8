-- Each text is put, and one that can't be ends it.
use Rattle.std.proofs.Common.{List, ℕ, ◌++◌, subst}
use Rattle.turn_loop.proofs.Names.{Gains, GainsPrefix, at, SaysAll}
use Rattle.turn_loop.proofs.SayingLemmas.{at_exit, says-failed, saying-more, saying-none}
use Rattle.turn_loop.proofs.turns.put_all.Goals as goal

pub loop-air-init : goal.loop-air-init
loop-air-init g c = saying-none g.P.Party.course g.A.Air c.args.air.now (at c.args.party.now c.args.disk.now)

pub loop-air-preserved : goal.loop-air-preserved
loop-air-preserved g c =
    let put = c.in_ok-put.ensures in
    saying-more g.P.Party.course g.A.Air c.args.air.now c.loop-air.air (at c.args.party.now c.args.disk.now) (at c.loop-air.party c.loop-air.disk) c.loop-air.invariant
    c.put.new.self (at c.next_out.new.self c.next_out.new.disk) _ (c.next_out.ensures.next c.loop-air-test.true)
    (subst (λ (t : List ℕ). Gains (g.A.Air.said c.loop-air.air) (g.A.Air.said c.put.new.self) t) c.deref.ensures.0 put.ok) put.heard put.read_faults put.write_faults.same

pub returns-in_err-put : goal.returns-in_err-put
returns-in_err-put g c =
    let put = c.in_err-put.ensures in
    at_exit (λ r. SaysAll g.P.Party.course g.A.Air c.args.air.now c.put.new.self (at c.args.party.now c.args.disk.now) (at c.next_out.new.self c.next_out.new.disk) r)
    c.from_residual.result c.in_err-put.field-0.0 c.from_residual.ensures.1
    (says-failed g.P.Party.course g.A.Air c.args.air.now c.loop-air.air (at c.args.party.now c.args.disk.now) (at c.loop-air.party c.loop-air.disk) c.loop-air.invariant
    c.put.new.self (at c.next_out.new.self c.next_out.new.disk) _ c.in_err-put.field-0.0 (c.next_out.ensures.next c.loop-air-test.true)
    (subst (λ (t : List ℕ). GainsPrefix (g.A.Air.said c.loop-air.air) (g.A.Air.said c.put.new.self) t) c.deref.ensures.0 put.err) put.heard put.read_faults put.write_faults)

pub next_out-requires : goal.next_out-requires
next_out-requires g c =
    let o = c.requires in
    let h = c.loop-air.invariant in
    record { owes = (o.0, o.1, o.2, o.3 ++ h.text, h.owes o.0 o.1 o.2 o.3 o.4) }
