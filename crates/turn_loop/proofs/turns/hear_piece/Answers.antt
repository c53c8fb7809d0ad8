-- Saying what the party gives ends it.
use Rattle.std.proofs.Common.{take, [], None, Some}
use Rattle.turn_loop.specs.declared.stop.NodeStop.TheVariants as stop
use Rattle.turn_loop.proofs.Names.{at, octets_at, Takes, TakesPiece}
use Rattle.turn_loop.proofs.SayingLemmas.{at_exit, taken-unsaid}
use Rattle.turn_loop.proofs.turns.hear_piece.Goals as goal

pub returns-in_err-put_all-in-Ok : goal.returns-in_err-put_all-in-Ok
returns-in_err-put_all-in-Ok g c =
    at_exit (λ r. TakesPiece (Takes g.P.Party.course g.A.Air c.args.air.now c.put_all.new.air (at c.args.party.now c.args.disk.now) (at c.put_all.new.party c.put_all.new.disk)) (octets_at c.args.moment) c.args.piece.now r)
    c.from_residual.result stop.AirWrite c.from_residual.ensures.1 (
      c.in-Ok.taken,
      c.in-Ok.ensures.some,
      c.in-Ok.ensures.within,
      taken-unsaid g.P.Party.course g.A.Air c.args.air.now c.put_all.new.air (at c.args.party.now c.args.disk.now) (at c.hear.new.self c.hear.new.disk) (at c.put_all.new.party c.put_all.new.disk)
          (octets_at c.args.moment (take c.in-Ok.taken c.args.piece.now)) c.in_err-put_all-in-Ok.field-0.0 c.in-Ok.ensures.takes c.in_err-put_all-in-Ok.ensures,
    )

pub put_all-requires : goal.put_all-requires
put_all-requires g c =
    (at c.args.party.now c.args.disk.now, octets_at c.args.moment (take c.in-Ok.taken c.args.piece.now), None, [], c.in-Ok.ensures.takes)

pub put_all-requires-in-Err : goal.put_all-requires-in-Err
put_all-requires-in-Err g c =
    let h = c.in-Err.ensures.halts in
    (at c.args.party.now c.args.disk.now, octets_at c.args.moment (take h.0 c.args.piece.now), Some h.3.0, [], h.3.2)
