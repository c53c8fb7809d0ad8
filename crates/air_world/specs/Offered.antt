-- Which offers were made in the world (FTL0 1990, uploading).
use Rattle.std.specs.Prelude.{◌≡◌, ℕ, slice_get, Some}
use Rattle.air_world.specs.Attempts.Attempt.{Attempt}
use Rattle.air_world.specs.Attempts.Party.{Party}
use Rattle.air_world.specs.Attempts.Said.{Offers}
use Rattle.air_world.specs.Attempts.Sides.{ServerSide}
use Rattle.air_world.specs.World.{PartyAt, World}

-- A session of a client of the world said UL_GO_RESP with this number and offset: it is among the packets that the
-- session queued, whatever became of it.
pub record Offered (world : World) (number offset : ℕ) : Type 0 where
  pub c : ℕ
  pub party : Party
  pub is_party : PartyAt world c party
  pub place : ℕ
  pub attempt : Attempt
  pub is_attempt : slice_get party.attempts place ≡ Some attempt
  pub side : ServerSide
  pub is_side : attempt.server ≡ Some side
  pub offers : Offers side number offset
