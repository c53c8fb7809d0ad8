-- An exchange, by what its two stations sent.
use Rattle.std.specs.Prelude.{◌≡◌}
use Rattle.std.proofs.Common.{sym, ap, ◌∙◌}
use Rattle.air_rehearsal.proofs.Names.{ℕ, None, refl, Cuts, Ghosts, to_server, World, Driven, Drives, Answers, Carries, Drawing, Exchange, between, sent_of, IsPlaying, Looked}
use Rattle.air_rehearsal.proofs.DriveLemmas.{Then, drives_as, drives_in, drives_then}

-- these were looked at
abbrev pub looked_at : Looked → ℕ → ℕ → Looked
looked_at looked sent answered = record { attempt = looked.attempt; to_server = sent; to_client = answered }

module _ {B : Type 0} (g : Ghosts B) (cuts : Cuts B) (client : ℕ) (looked : Looked) (sent answered : ℕ)
    (old mid new : Driven B) where
  -- the client's are carried, and are all that it sent
  abbrev First : Drawing → Drawing → Type 0
  First x y =
      (sent ≡ sent_of (λ a. a.by_client) x.world client)
      × Carries (to_server client) None (between looked.to_server sent) x y

  -- and what comes behind them
  abbrev Second : Drawing → Drawing → Type 0
  Second x y =
      (answered ≡ sent_of (λ a. a.by_server) x.world client)
      × Answers client (between looked.to_server sent) (between looked.to_client answered) x y

  pub exchanged :
      ((world : World) → IsPlaying g cuts world old.bench → sent ≡ sent_of (λ a. a.by_client) world client)
      → ((world : World) → IsPlaying g cuts world mid.bench → answered ≡ sent_of (λ a. a.by_server) world client)
      → Drives g cuts (Carries (to_server client) None (between looked.to_server sent)) old mid
      → Drives g cuts (Answers client (between looked.to_server sent) (between looked.to_client answered)) mid new
      → Drives g cuts (Exchange client looked (looked_at looked sent answered)) old new
  exchanged by_client by_server one two =
      drives_as g cuts (Then First Second) (Exchange client looked (looked_at looked sent answered)) old new
      (λ x y both. record {
        amid = both.0;
        attempt = refl;
        by_client = both.1.0;
        first = both.1.1;
        by_server = both.2.0;
        second = both.2.1;
      })
      (drives_then g cuts First Second old mid new
      (drives_in g cuts (Carries (to_server client) None (between looked.to_server sent)) First old mid
      (λ world playing x y is state_is carries.
      (by_client world playing ∙ ap (λ (w : World). sent_of (λ a. a.by_client) w client) (sym is), carries)) one)
      (drives_in g cuts
      (Answers client (between looked.to_server sent) (between looked.to_client answered)) Second mid new
      (λ world playing x y is state_is answers.
      (by_server world playing ∙ ap (λ (w : World). sent_of (λ a. a.by_server) w client) (sym is), answers)) two))
