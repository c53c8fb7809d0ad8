-- The frame at the place is the transmission's, and is delivered.
use Rattle.air_rehearsal.proofs.LaneLemmas.{sent-delivered, sent-some}
use Rattle.air_rehearsal.proofs.PairLemmas.{get-none, get-some}
use Rattle.std.proofs.Common.{refl}
use Rattle.air_rehearsal.proofs.lane.Lane.deliver.Goals as goal

pub returns-in-Some : goal.returns-in-Some
returns-in-Some c list t same at =
    let all = c.args.self.now.sent.items in
    sent-delivered all list same c.args.place c.in-Some.frame.now t
    (get-some all all c.args.place c.in-Some.frame.now refl c.in-Some.ensures.item.3) at

pub returns-in_default : goal.returns-in_default
returns-in_default c list t same at =
    let all = c.args.self.now.sent.items in
    absurd
    (sent-some all list same c.args.place t at (get-none all all c.args.place refl c.in_default.ensures.item.3))
