-- What a client tells of what it came to.
use Rattle.std.specs.Prelude.{◌≡◌, ℕ, List, [], ◌++◌, Option, None, Some}
use Rattle.ax25_frames.specs.FrameText.{FrameValue}
use Rattle.client_notes.specs.Command.{NotesCommand}
use Rattle.ftl0_client.specs.Table.{listing_of}
use Rattle.ftl0_client.specs.Attempt.Attempted.{Attempted}
use Rattle.ftl0_client.specs.Client.{Client, ClientEvent}
use Rattle.ftl0_client.specs.ClientState.{ClientState, listing_in, outcome_in}
use Rattle.ftl0_client.specs.Outcome.{Outcome}
use Rattle.ftl0_client.specs.Going.{GoesOver}
use Rattle.ftl0_client.specs.Outcomes.{outcome_by}

-- the octets of the list that came, where a list was asked last
abbrev pub listing_by : Option Attempted → List ℕ
listing_by None = []
listing_by (Some a) = listing_of a.job.work

-- Whatever of its frames was given out, the client tells what that one has: the notes, what became of what was asked,
-- and the list that came.
pub record TellsOf (self : ClientState) (client : Client) : Type 0 where
  pub lists : self.notes.lists ≡ client.lists
  pub outcome : outcome_in self.attempt ≡ outcome_by client.attempt
  pub listing : listing_in self.attempt ≡ listing_by client.attempt

-- Over the first of these events the client came to this outcome, or to none, and this list came.
pub record CameWith (client : Client) (events : List ClientEvent) (listing : List ℕ) (outcome : Option Outcome)
    : Type 0 where
  pub some : List ClientEvent
  pub others : List ClientEvent
  pub in_order : events ≡ some ++ others
  pub frames : List FrameValue
  pub commands : List NotesCommand
  pub now : Client
  pub goes : GoesOver client some frames commands now
  pub outcome_is : outcome ≡ outcome_by now.attempt
  pub listing_is : listing ≡ listing_by now.attempt
