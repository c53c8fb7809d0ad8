-- The attempt, if there is one, ticks.
use Rattle.std.proofs.Common.{subst, sym}
use Rattle.ftl0_client.specs.declared.client.Client.TheInside.{Inside}
use Rattle.ftl0_client.proofs.Names.{client_ticking, ClientState, IsClient, client_state}
use Rattle.ftl0_client.proofs.TickLemmas.{ticked-none, ticked-some}
use Rattle.ftl0_client.proofs.client.Client.tick.Goals as goal
use Rattle.ftl0_client.proofs.client.Client.tick.Goals.{in-Some, in_default}

pub returns-clause-ticks : goal.returns-clause-ticks
returns-clause-ticks c = λ client is.
    let self : ClientState = client_state c.self.inside in
    let was : IsClient self client = subst (λ (s : ClientState). IsClient s client) (sym c.self.view_is) is in
    let P : Inside → Type 0 = λ i. IsClient (client_state i) (client_ticking client) in
    elim c.match-self.branch [
      | in-Some w ↦ subst P (sym w.self-inside-is) (ticked-some client self was w.in-Some.attempt w.tick.new.self w.in-Some.is w.tick.ensures.ticks)
      | in_default w ↦ subst P (sym w.self-inside-is) (ticked-none client self was w.in_default.is)
    ]
