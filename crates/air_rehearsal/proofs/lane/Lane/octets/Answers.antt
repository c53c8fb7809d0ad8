-- The octets are those of the transmission's frame.
use Rattle.air_rehearsal.proofs.LaneLemmas.{sent-some, sent-text}
use Rattle.air_rehearsal.proofs.PairLemmas.{get-none, get-some}
use Rattle.air_rehearsal.proofs.lane.Lane.octets.Goals as goal

pub returns-in_err-get : goal.returns-in_err-get
returns-in_err-get c list t same at =
    let all = c.args.self.now.sent.items in
    absurd
    (sent-some all list same c.args.place t at
    (get-none all c.deref.result.now c.args.place c.deref.ensures.value c.in_err-get.ensures.lookup.3))

pub returns : goal.returns
returns c list t same at =
    let all = c.args.self.now.sent.items in
    let sent = c.in_ok-get.field-0.now in
    sent-text all list same c.args.place sent t
    (get-some all c.deref.result.now c.args.place sent c.deref.ensures.value c.in_ok-get.ensures.lookup.3) at
    c.as_slice.result.now c.as_slice.ensures.value
