-- By what the frame is.
use Rattle.std.proofs.Common.{◌≡◌, false, subst, sym, ◌∙◌}
use Rattle.std.specs.Prelude.{◌&&◌}
use Rattle.ftl0_server.proofs.Names.{value_of, Server, IsServer}
use Rattle.ftl0_server.proofs.StepLemmas.{both-true, first-false, second-false, stranger-asks, stranger-calls, stranger-passed}
use Rattle.ftl0_server.proofs.server.Server.hear_stranger.Goals as goal
use Rattle.ftl0_server.proofs.server.Server.hear_stranger.Goals.{else-frame-via-then-frame+else-frame-2, else-frame-via-else-frame}

pub returns-then-is_call-clause-heard : goal.returns-then-is_call-clause-heard
returns-then-is_call-clause-heard c = λ store server is.
    subst (λ (s : Server). IsServer store c.answer.new.self s)
    (stranger-calls server (value_of c.args.frame.now) c.args.moment (sym c.is_call.ensures ∙ c.if-is_call.true)) (c.answer.ensures.heard store server is)

pub returns-then-frame-2-clause-heard : goal.returns-then-frame-2-clause-heard
returns-then-frame-2-clause-heard c = λ store server is.
    let frame = value_of c.args.frame.now in
    subst (λ (s : Server). IsServer store c.refuse.new.self s)
    (stranger-asks server frame c.args.moment (sym c.is_call.ensures ∙ c.if-is_call.false) (both-true frame.command frame.poll c.if-frame.true c.if-frame-2.true))
    (c.refuse.ensures.refuses store server is)

pub returns-else-frame-clause-heard : goal.returns-else-frame-clause-heard
returns-else-frame-clause-heard c = λ store server is.
    let frame = value_of c.args.frame.now in
    let none : (frame.command && frame.poll) ≡ false = elim c.else-frame.branch [
      | else-frame-via-then-frame+else-frame-2 w ↦ second-false frame.command frame.poll w.if-frame-2.false
      | else-frame-via-else-frame w ↦ first-false frame.command frame.poll w.if-frame.false
    ] in
    subst (λ (s : Server). IsServer store c.args.self.now s)
    (stranger-passed server frame c.args.moment (sym c.is_call.ensures ∙ c.if-is_call.false) none) is
