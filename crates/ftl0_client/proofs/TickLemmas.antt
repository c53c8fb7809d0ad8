-- What a tick makes of a client.
use Rattle.std.proofs.Common.{◌≡◌, refl, sym, subst}
use Rattle.ftl0_client.specs.Attempt.AttemptState as attempted
use Rattle.ftl0_client.proofs.Names.{Option, None, Some, Window, Attempted, AttemptState, IsAttempt, ticking, Client, client_ticking, ticking_by, ClientState, IsAttemptOf, IsClient}

-- the attempt that the code's attempt stands for
some-attempt : (w : Window) (attempt : AttemptState) (o : Option Attempted) → IsAttemptOf w (Some attempt) o → (a : Attempted) × (o ≡ Some a) × IsAttempt w attempt a
some-attempt w attempt None is = absurd is
some-attempt w attempt (Some a) is = (a, refl, is)

no-attempt : (w : Window) (o : Option Attempted) → IsAttemptOf w None o → o ≡ None
no-attempt w None is = refl
no-attempt w (Some a) is = absurd is

module _ (client : Client) (self : ClientState) (is : IsClient self client) where
  pub ticked-none : self.attempt ≡ None → IsClient self (client_ticking client)
  ticked-none none =
      let no = no-attempt client.window client.attempt (subst (λ (o : Option AttemptState). IsAttemptOf client.window o client.attempt) none is.attempt) in
      subst (λ (o : Option Attempted). IsClient self (ticking_by client o)) (sym no) is

  pub ticked-some : (old new : AttemptState) → self.attempt ≡ Some old → attempted.Becomes old new (λ w a. ticking a) → IsClient (record self { attempt = Some new }) (client_ticking client)
  ticked-some old new some becomes =
      let found = some-attempt client.window old client.attempt (subst (λ (o : Option AttemptState). IsAttemptOf client.window o client.attempt) some is.attempt) in
      subst (λ (o : Option Attempted). IsClient (record self { attempt = Some new }) (ticking_by client o)) (sym found.1)
      (record { me = is.me; server = is.server; window = is.window; lists = is.lists; attempt = becomes client.window found.0 found.2; stray = is.stray })
