-- What is known of the events of both stations, by the laws of one attempt, of files, and of a server and a client.
use Rattle.ftl0_client.specs.StepLaws.Steps.{StepLaw}
use Rattle.ftl0_client.specs.Attempt.Laws.{CallingLaw, StandsLaw}
use Rattle.ftl0_client.specs.Entries.{HearingLaw, TickingLaw}
use Rattle.ftl0_client.specs.Laws.{SomeStepLaw as SomeClientStep}
use Rattle.ftl0_server.specs.Entries.{HearingLaw as EntriesLaw}
use Rattle.ftl0_server.specs.StepLaws.Steps.{SomeStepLaw as SomeServerStep}
use Rattle.air_world.specs.Attempts.Laws.{ClientLaw, CurrentLaw, FrontLaw, HeardFrontLaw, HeardLaw, LeftLaw}
use Rattle.air_world.specs.Attempts.Laws.{ServerHearsLaw}
use Rattle.air_world.specs.Attempts.Laws.{ServerTicksLaw}
use Rattle.air_world.specs.Files.Laws.{BeginLaw, JobLaw, JobTasksLaw, SessionLaw, StayLaw}

-- what a session makes of a frame that it hears
pub record SessionLaws : Type 0 where
  pub entries : EntriesLaw
  pub fronts : FrontLaw
  pub heard_front : HeardFrontLaw
  pub current : CurrentLaw
  pub session : SessionLaw

-- what the server makes of a frame
pub record HearingLaws : Type 0 where
  pub hears : ServerHearsLaw
  pub heard : HeardLaw
  pub sessions : SessionLaws
  pub stay : StayLaw
  pub begin : BeginLaw

-- what it makes of its events, cut or not
pub record ServerLaws : Type 0 where
  pub hearing : HearingLaws
  pub ticks : ServerTicksLaw
  pub left : LeftLaw
  pub some_step : SomeServerStep

-- what a client makes of its events
pub record ClientLaws : Type 0 where
  pub client : ClientLaw
  pub fronts : FrontLaw
  pub job : JobLaw
  pub tasks : JobTasksLaw
  pub stay : StayLaw
  pub begin : BeginLaw
  pub left : LeftLaw
  pub step : StepLaw
  pub hearing : HearingLaw
  pub ticking : TickingLaw
  pub stands : StandsLaw
  pub calling : CallingLaw

-- both stations
pub record StationLaws : Type 0 where
  pub server : ServerLaws
  pub client : ClientLaws
  pub client_steps : SomeClientStep
