-- The server's store from one world to the next.
use Rattle.std.proofs.Common.{refl}
use Rattle.air_world.proofs.Names.{StoresLaw, ServerLaws}
use Rattle.air_world.proofs.Following.{does-so, follows-blocks, stays-next}
use Rattle.air_world.proofs.HeadlineLemmas.{headline-follows}
use Rattle.air_world.proofs.PartsLemmas.{are-offered}

-- by the laws of the server's events
pub stores-law : ServerLaws → StoresLaw
stores-law laws = record {
  next = λ old new event sound step. (stays-next laws old sound event new step).follows;
  during = λ world event coming delivered count sound allowed takes.
      (does-so laws world sound event coming delivered allowed.possible takes).follows count;
  rules = λ world sound. sound.store.is_store;
  offers = λ world number offset sound offered. are-offered world sound number offset offered;
  stays = headline-follows;
  blocks = follows-blocks;
  first_blocks = λ schedule. refl;
}
