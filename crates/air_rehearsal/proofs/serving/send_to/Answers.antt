-- The frame is sent to the client that it is for, and to no other one.
use Rattle.std.proofs.Common.{sym, ap, ◌∙◌}
use Rattle.air_rehearsal.proofs.Names.{CallSign, is_same_call}
use Rattle.air_rehearsal.proofs.ServingCalls.{timed-other, timed-own}
use Rattle.air_rehearsal.proofs.serving.send_to.Goals as goal

pub returns-else-eq-clause-timed : goal.returns-else-eq-clause-timed
returns-else-eq-clause-timed c = λ frame text dest_is.
    timed-other frame c.args.party.now
    (ap (λ (call : CallSign). is_same_call call c.args.party.now.me) dest_is ∙ sym c.eq.ensures ∙ c.if-eq.false)

pub returns-in_ok-time-clause-timed : goal.returns-in_ok-time-clause-timed
returns-in_ok-time-clause-timed c = λ frame text dest_is.
    timed-own frame c.args.party.now c.time.new.self
    (ap (λ (call : CallSign). is_same_call call c.args.party.now.me) dest_is ∙ sym c.eq.ensures ∙ c.if-eq.true)
    (λ lanes has. c.in_ok-time.ensures lanes frame has text)
