-- What stands on a disk that has the same content as another one: one that was armed, or read.
use Rattle.std.proofs.Common.{◌≡◌, ℕ, List, Option, None, Some, inr, sym, ap, subst, ◌∙◌}
use Rattle.air_rehearsal.proofs.Names.{Cuts, IsTold, Ghosts, IsKnown, StoreState, store_on, Store, on_same, Server, IsServer, ServerState, World, ArmsFor, AwaitsServer, Serving, PlaysWorld, Cut}

-- arming changes no content
pub arms-content : {B : Type 0} (g : Ghosts B) (cuts : Cuts B) (cut : Option Cut) (disk armed : B)
    → ArmsFor g cuts cut disk armed → g.content armed ≡ g.content disk
arms-content g cuts None disk armed arms = ap (λ d. g.content d) arms
arms-content g cuts (Some cut) disk armed arms = arms.nothing_else.same_content

-- a server that stands for another one, over a store that is said otherwise
pub server-over : (self : ServerState) (server : Server) (one other : Store) → one ≡ other → IsServer one self server
    → IsServer other self server
server-over self server one other same is = subst (λ (s : Store). IsServer s self server) same is

module _ {B : Type 0} (g : Ghosts B) (disk disk_now : B) (same : g.content disk_now ≡ g.content disk) where
  -- it tells still, so it is known what the files hold
  pub known-same : IsTold (g.content disk) → IsKnown g disk_now
  known-same told = inr (subst (λ (c : Option (List ℕ)). IsTold c) (sym same) told)

  -- and the store is the same there
  pub store-same : (old new : StoreState) → new ≡ old → store_on g new disk_now ≡ store_on g old disk
  store-same old new is = ap (λ (s : StoreState). store_on g s disk_now) is ∙ on_same g old disk disk_now same

-- What waits for its event over a disk plays its world over one of the same content, and knows it.
pub plays-armed : {B : Type 0} (g : Ghosts B) (cuts : Cuts B) (world : World) (old : Serving B) (armed : B)
    → AwaitsServer g cuts world old → g.content armed ≡ g.content old.disk
    → PlaysWorld g old.stations old.server armed world × IsKnown g armed
plays-armed g cuts world old armed awaits same = (
  record {
    server =
        server-over old.server world.server (store_on g old.server.store old.disk) (store_on g old.server.store armed)
        (sym (on_same g old.server.store old.disk armed same)) awaits.plays.server;
    blocks = awaits.plays.blocks;
    stations = awaits.plays.stations;
  },
  known-same g old.disk armed same awaits.steady.told,
)
