-- A session begins at the lowest empty place, or the station is refused.
use Rattle.std.proofs.Common.{ℕ, Option, subst, sym, ◌∙◌}
use Rattle.ftl0_server.proofs.Names.{server_state, called_by, IsServer}
use Rattle.ftl0_server.proofs.HearLemmas.{same-first_empty}
use Rattle.ftl0_server.proofs.server.Server.answer.Goals as goal

pub returns-in_default-clause-heard : goal.returns-in_default-clause-heard
returns-in_default-clause-heard c = λ store server is.
    let was = rw (sym c.self.view_is) at is in
    subst (λ (o : Option ℕ). IsServer store c.refuse.new.self (called_by server c.args.caller c.args.poll c.args.moment o))
    (c.in_default.ensures ∙ same-first_empty store (server_state c.self.inside) server was) (c.refuse.ensures.refuses store server is)

pub returns-clause-heard : goal.returns-clause-heard
returns-clause-heard c = λ store server is.
    let was = rw (sym c.self.view_is) at is in
    subst (λ (o : Option ℕ). IsServer store c.seat.new.self (called_by server c.args.caller c.args.poll c.args.moment o))
    (c.in-Some.ensures ∙ same-first_empty store (server_state c.self.inside) server was) (c.seat.ensures.heard store server is)
