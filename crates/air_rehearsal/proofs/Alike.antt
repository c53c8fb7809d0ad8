-- What is alike stands for the same: a client's notes always, and the server's store where it has the blocks of a
-- rehearsal.
use Rattle.std.specs.Prelude.{◌≡◌}
use Rattle.std.proofs.Common.{sym, ◌∙◌, subst}
use Rattle.air_rehearsal.proofs.Names.{ℕ, ⊤, state, standing_of, World, store_blocks, client_at, the_server}
use Rattle.air_rehearsal.proofs.ImagesThrough.{AlikeStands}

-- the world's server has the blocks of a rehearsal
abbrev pub HasBlocks : World → Type 0
HasBlocks world = world.server.store.blocks ≡ store_blocks

pub server_alike : AlikeStands the_server HasBlocks
server_alike world content image blocks stands same =
    subst (λ (b : ℕ). standing_of b image ≡ state world.server.store) (sym blocks)
    (same.same ∙ subst (λ (b : ℕ). standing_of b content ≡ state world.server.store) blocks stands)

pub client_alike : (c : ℕ) → AlikeStands (client_at c) (λ _. ⊤)
client_alike c world content image fits stands same = (stands.0, stands.1, same.same ∙ stands.2)
