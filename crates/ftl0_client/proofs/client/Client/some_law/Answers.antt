-- Its attempt, if there is one, stands for some attempt.
use Rattle.std.proofs.Common.{◌≡◌, None, Some, sym, ◌∙◌, subst}
use Rattle.ftl0_client.proofs.Names.{same_Some, IsSomeAttempt, Client, ClientState, IsClient, client_state}
use Rattle.ftl0_client.proofs.SomeLemmas.{some-client}
use Rattle.ftl0_client.proofs.client.Client.some_law.Goals as goal

-- it stands for some client
abbrev IsSome : ClientState → Type 0
IsSome self = (client : Client) × IsClient self client

pub returns-in-Some : goal.returns-in-Some
returns-in-Some c =
    subst IsSome c.self.view_is
    (some-client (client_state c.self.inside) c.self.invariant.link (λ attempt is. subst IsSomeAttempt (same_Some _ _ (sym c.in-Some.is ∙ is)) c.some_law.ensures))

pub returns-in_default : goal.returns-in_default
returns-in_default c =
    subst IsSome c.self.view_is
    (some-client (client_state c.self.inside) c.self.invariant.link (λ attempt is. (let none : None ≡ Some attempt = sym c.in_default.is ∙ is in absurd (cc none))))
