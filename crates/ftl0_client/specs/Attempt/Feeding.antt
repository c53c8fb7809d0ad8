-- How an attempt takes packets, one after another, and then queues what is due; and what each leaves for the next one.
use Rattle.std.specs.Prelude.{◌≡◌, ◌⊎◌, ℕ, ◌<◌, ◌≤◌, List, [], ◌∷◌, ◌++◌, Bool, true, false}
use Rattle.std.specs.Prelude.{None, Some, Result, Ok, Err, ⊤}
use Rattle.disk_model.specs.declared.disk.Disk.{Ghosts}
use Rattle.ax25_link.specs.declared.state.LinkState.TheVariants.{Up}
use Rattle.ax25_link.specs.Calls.{after_push}
use Rattle.ax25_link.specs.Ends.{LinkEnd}
use Rattle.ax25_link.specs.Kept.{Kept, SameStations, StandsFor, Steps}
use Rattle.ax25_link.specs.Queue.{room_of}
use Rattle.ax25_link.specs.Window.{Window}
use Rattle.ftl0_packets.specs.Layout.{Item, packet_text}
use Rattle.ftl0_packets.specs.Reading.{packets_of, rest_of}
use Rattle.packet_link.specs.Queuing.{enough_free, fits}
use Rattle.client_notes.specs.Notes.{Lists}
use Rattle.client_notes.specs.Several.{DoesSeveral}
use Rattle.disk_model.specs.declared.halt.Halt.{Halt}
use Rattle.ftl0_client_job.specs.Due.{DuePacket, next_due}
use Rattle.ftl0_client_job.specs.JobState.{MayTake, NotesGoWith}
use Rattle.ftl0_client_job.specs.Table.{JobState}
use Rattle.ftl0_client_job.specs.Taking.{with_notes}
use Rattle.ftl0_client.specs.Attempt.Attempted.{Attempted}
use Rattle.ftl0_client.specs.Attempt.AttemptState.{AttemptState, StopsAtPacket, Working}
use Rattle.ftl0_client.specs.Attempt.Taking.{Happened, after_replies, parting, replied, taking}

-- What is needed to take packets: the link is up as long as there is no outcome; and the job may take a packet.
pub record MayAnswer {D : Type 0} (g : Ghosts D) (before : Working D) : Type 0 where
  pub up : before.job.ending ≡ None → before.link.state ≡ Up
  pub may : MayTake g before.notes before.disk before.job

-- replies of this text to a packet of this type were queued, or lost
abbrev pub Replies : ℕ → List ℕ → JobState → JobState → Window → LinkEnd → Kept → Type 0
Replies kind text job job_now w end link_now =
    StandsFor w link_now (replied end text) × (job_now ≡ after_replies job kind (fits end text))

-- the same, and the link is hung up if the outcome asks for it
abbrev pub RepliesAndParts : ℕ → List ℕ → JobState → JobState → Window → LinkEnd → Kept → Type 0
RepliesAndParts kind text job job_now w end link_now =
    StandsFor w link_now (parting (after_replies job kind (fits end text)).ending (replied end text))
    × (job_now ≡ after_replies job kind (fits end text))

-- an event made this of a link, a job and the notes
pub record Made {D : Type 0} (g : Ghosts D) (w : Window) (happened : Happened) (before now : Working D) : Type 0 where
  pub link : StandsFor w now.link happened.after.end
  pub job : now.job ≡ happened.after.job
  pub noted : DoesSeveral g ⊥ before.notes now.notes before.disk now.disk happened.noted

-- these packets were taken, whatever attempt it was
abbrev pub Takes : {D : Type 0} → Ghosts D → List Item → Working D → Working D → Type 0
Takes g items before now =
    (w : Window) (a : Attempted) → StandsFor w before.link a.end → before.job ≡ a.job
    → Made g w (taking before.notes.lists a items) before now

-- the job stopped at this packet
abbrev pub StopsHere : {D : Type 0} → Ghosts D → Item → Working D → Working D → Halt → Type 0
StopsHere g item before now why =
    StopsAtPacket g item (with_notes before.job before.notes before.disk) (with_notes now.job now.notes now.disk) why

-- one packet was taken, or the job stopped at it
abbrev pub AnswersPacket : {D : Type 0} → Ghosts D → Item → Working D → Working D → Result ⊤ Halt → Type 0
AnswersPacket g item before now (Ok done) = Takes g (item ∷ []) before now
AnswersPacket g item before now (Err why) = StopsHere g item before now why

-- Of these octets packets were taken, up to one at which the job stopped.
pub record StopsAmongOctets {D : Type 0} (g : Ghosts D) (octets : List ℕ) (before now : Working D) (why : Halt) :
    Type 0 where
  pub items : List Item
  pub item : Item
  pub behind : List Item
  pub packets : packets_of octets ≡ items ++ item ∷ behind
  pub between : Working D
  pub takes : Takes g items before between
  pub stops : StopsHere g item between now why

-- the packets of these octets were taken, and these are left; or the job stopped at one of them
abbrev pub TakesOctetsBy :
    {D : Type 0} → Ghosts D → List ℕ → List ℕ → Working D → Working D → Result ⊤ Halt → Type 0
TakesOctetsBy g octets left before now (Ok done) = Takes g (packets_of octets) before now × (left ≡ rest_of octets)
TakesOctetsBy g octets left before now (Err why) = StopsAmongOctets g octets before now why

-- A packet that was due was queued, and fewer octets are free now.
pub record QueuesPacket (old new : AttemptState) : Type 0 where
  pub due : DuePacket JobState
  pub is_due : next_due old.job ≡ Some due
  pub enough : enough_free ≤ room_of old.link.queue
  pub queued : Steps old.link new.link (λ w end. after_push end (packet_text due.packet))
  pub job : new.job ≡ due.state
  pub fewer : room_of new.link.queue < room_of old.link.queue

-- the same; or nothing is due, or fewer octets are free, and it is as it was
abbrev pub QueuesNext : AttemptState → AttemptState → Bool → Type 0
QueuesNext old new true = QueuesPacket old new
QueuesNext old new false =
    (new ≡ old) × ((next_due old.job ≡ None) ⊎ (room_of old.link.queue < enough_free))

-- What the end of an event leaves for the next one: the notes go with the job.
pub record KeepsFit (old new : AttemptState) : Type 0 where
  pub notes_are : (lists : Lists) → NotesGoWith lists old.job → NotesGoWith lists new.job
  pub octets : new.octets ≡ old.octets
  pub down : new.down ≡ old.down
  pub stations : SameStations old.link new.link

-- the same while the link is up
pub record KeepsUp (old new : AttemptState) : Type 0 where
  pub keeps : KeepsFit old new
  pub up : new.link.state ≡ Up
