-- The code's attempt stands for some attempt of the definitions.
use Rattle.std.proofs.Common.{◌≡◌, ℕ, refl, sym, ◌∙◌, ap, subst}
use Rattle.ftl0_client.proofs.Names.{Kept, StandsFor, Window, window_of, StandsForSome, Attempted, AttemptState, IsSomeAttempt}

pub some-attempt : (attempt : AttemptState) → StandsForSome attempt.link → IsSomeAttempt attempt
some-attempt attempt some =
    let size : attempt.link.k ≡ some.w.size = ap (λ (l : Kept). l.k) some.stands.kept in
    let window : some.w ≡ window_of attempt.link.k =
    ap (λ (m : ℕ). record { modulus = m; size = some.w.size }) some.stands.modulus ∙ ap window_of (sym size) in
    let a : Attempted = record { end = some.end; rest = attempt.octets; job = attempt.job; down = attempt.down } in
    (a, record { link = subst (λ (w : Window). StandsFor w attempt.link some.end) window some.stands; rest = refl; job = refl; down = refl })
