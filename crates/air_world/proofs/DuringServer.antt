-- What is promised holds while an event of the server's is under way, in the store after the first of its commands.
use Rattle.std.proofs.Common.{ℕ}
use Rattle.air_world.proofs.Names.{HasNoFault, HasNoFront, NodeEvent, FollowsLaw, after_first, server_commands, ServerTakes, HeadlineIn, IsPossible, Event, Sound, ServerLaws, World}
use Rattle.air_world.proofs.Following.{does-so}
use Rattle.air_world.proofs.HeadlineLemmas.{headline-follows}
use Rattle.air_world.proofs.PartsLemmas.{are-offered, has-headline}

pub during-server : ServerLaws → FollowsLaw → HasNoFault → HasNoFront → (world : World) → Sound world → (event : Event)
    (coming : NodeEvent) (delivered : World) (count : ℕ) → IsPossible world event
    → ServerTakes world event coming delivered
    → HeadlineIn world (after_first count world.server.store (server_commands world coming))
during-server laws follows fault front world sound event coming delivered count possible takes =
    let store = world.server.store in
    let now = after_first count store (server_commands world coming) in
    let goes = (does-so laws world sound event coming delivered possible takes).follows count in
    headline-follows world store now (follows.entries store now sound.store.is_store goes) (are-offered world sound)
    (has-headline world fault front sound)
