-- No number is given twice, in a world whose sessions are such as they were.
use Rattle.std.proofs.Common.{ℕ}
use Rattle.air_world.specs.Sound.{GrantedAt}
use Rattle.air_world.proofs.Names.{Party, LookLike, AreGrantedOnce, PartyAt, World}
use Rattle.air_world.proofs.Likes.{grants-like, like-at}

-- the client at each place was there, and its attempts were such
abbrev pub AreLike : World → World → Type 0
AreLike old new =
    (c : ℕ) (party : Party) → PartyAt new c party
    → (before : Party) × PartyAt old c before × LookLike before.attempts party.attempts

module _ (old new : World) (like : AreLike old new) where
  pub granted-before : (c at number : ℕ) → GrantedAt new c at number → GrantedAt old c at number
  granted-before c at number granted =
      let before = like c granted.party granted.is_party in
      let side = like-at before.0.attempts granted.party.attempts at granted.is_side.attempt granted.side before.2
      granted.is_side.is_attempt granted.is_side.is_side in
      record {
        party = before.0;
        is_party = before.1;
        side = side.1;
        is_side = record { attempt = side.0; is_attempt = side.2; is_side = side.3 };
        file_length = granted.file_length;
        grants = grants-like side.1 granted.side number granted.file_length side.4 granted.grants;
      }

  pub granted-like : AreGrantedOnce old → AreGrantedOnce new
  granted-like once c at other that number one two =
      once c at other that number (granted-before c at number one) (granted-before other that number two)
