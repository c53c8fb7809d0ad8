use Rattle.std.proofs.Common.{◌≡◌, ◌+◌, ◌-◌, arith, refl}
use Rattle.pfh_writer.proofs.Names.{stamp_of}
use Rattle.pfh_writer.proofs.FillingLemmas.{fills_front}
use Rattle.pfh_writer.proofs.server.ServerItems.fill_front.Goals as goal
use Rattle.pfh_writer.proofs.server.ServerItems.fill_front.Goals.{else-id-eq0-via-then-id-eq0+else-len-eq0, else-id-eq0-via-else-id-eq0}

pub returns-clause-some : goal.returns-clause-some
returns-clause-some c =
    let count : 3 + c.from-len.result - 3 ≡ c.from-len.result = omega arith in
    fills_front (stamp_of c.args.self.now) c.args.octets.now c.le16-id.result c.from-len.result c.fill-change.result (3 + c.from-len.result - 3) _
    c.fill-change.new.content c.le16-id.ensures c.from-len.ensures count refl c.fill-change.ensures.content c.fill-change.ensures.change
    (λ id len. elim c.else-id-eq0.branch [ else-id-eq0-via-then-id-eq0+else-len-eq0 w ↦ w.if-len-eq0.false len | else-id-eq0-via-else-id-eq0 w ↦ w.if-id-eq0.false id ])
