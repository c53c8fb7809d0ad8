-- What is promised of a sound world holds also while its next event is under way.
use Rattle.air_world.proofs.Names.{HasNoFault, HasNoFront, FollowsLaw, PrefixesLaw, StationLaws}
use Rattle.air_world.proofs.DuringClient.{during-client}
use Rattle.air_world.proofs.DuringServer.{during-server}

-- by the laws of both stations' events, of the store and of file headers
pub prefixes-law : StationLaws → FollowsLaw → HasNoFault → HasNoFront → PrefixesLaw
prefixes-law laws follows fault front world sound = record {
  server = λ event coming delivered count allowed takes.
      during-server laws.server follows fault front world sound event coming delivered count allowed.possible takes;
  client = λ event c part count allowed takes.
      during-client laws.client laws.client_steps fault front world sound event c part count allowed.possible takes;
}
