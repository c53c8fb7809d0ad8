-- As many frames were sent as there are transmissions.
use Rattle.std.proofs.Common.{arith}
use Rattle.air_rehearsal.proofs.LaneLemmas.{sent-count}
use Rattle.air_rehearsal.proofs.lane.Lane.count.Goals as goal

pub returns : goal.returns
returns c list same =
    let sent = c.args.self.now.sent in
    omega (arith, sent.ok.0, c.len.ensures, sent-count sent.items list same)
