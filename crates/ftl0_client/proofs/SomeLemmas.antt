-- The code's client stands for some client of the definitions.
use Rattle.std.proofs.Common.{◌≡◌, ℕ, refl, sym, subst}
use Rattle.ftl0_client.proofs.Names.{Option, None, Some, window_of, Attempted, AttemptState, IsAttempt, IsSomeAttempt, Client, ClientState, HasLink, IsAttemptOf, IsClient}

module _ (self : ClientState) where
  -- its attempt, if there is one, stands for that one, and else there is none
  with-attempt : (o : Option Attempted) → IsAttemptOf (window_of self.k) self.attempt o → (client : Client) × IsClient self client
  with-attempt o is =
      let client : Client = record { me = self.me; server = self.server; window = window_of self.k; lists = self.notes.lists; attempt = o; stray = self.stray } in
      (client, record { me = refl; server = refl; window = refl; lists = refl; attempt = is; stray = refl })

  pub some-client : HasLink self.me self.server self.k self.attempt → ((attempt : AttemptState) → self.attempt ≡ Some attempt → IsSomeAttempt attempt) → (client : Client) × IsClient self client
  some-client link each = by self.attempt refl link
    where
      by : (o : Option AttemptState) → self.attempt ≡ o → HasLink self.me self.server self.k o → (client : Client) × IsClient self client
      by None is stations = with-attempt None (subst (λ (o : Option AttemptState). IsAttemptOf (window_of self.k) o None) (sym is) tt)
      by (Some attempt) is stations =
          let some = each attempt is in
          let fits : IsAttempt (window_of self.k) attempt some.0 = subst (λ (k : ℕ). IsAttempt (window_of k) attempt some.0) stations.k some.1 in
          with-attempt (Some some.0) (subst (λ (o : Option AttemptState). IsAttemptOf (window_of self.k) o (Some some.0)) (sym is) fits)
