-- A client as contracts see it, and which of the definitions' clients it stands for.
use Rattle.std.specs.Prelude.{◌≡◌, ℕ, ◌+◌, List, [], Bool, true, false, is_none, not, ◌&&◌, ◌||◌, Option, None, Some, ⊤}
use Rattle.sha2.specs.Sha256.{sha256}
use Rattle.px_base.specs.CallSign.{CallSign}
use Rattle.disk_model.specs.declared.disk.Disk.{Ghosts}
use Rattle.ax25_link.specs.Kept.{Fits, HasStations, count_of, is_pending, is_there, most_pending}
use Rattle.ax25_link.specs.Window.{Window, window_of}
use Rattle.client_notes.specs.Notes.{Lists}
use Rattle.client_notes.specs.State.{IsReady, NotesState}
use Rattle.ftl0_client_job.specs.declared.ending.Outcome.{Outcome}
use Rattle.ftl0_client_job.specs.declared.work.Work.{Work}
use Rattle.ftl0_client_job.specs.declared.work.Work.TheVariants as work
use Rattle.ftl0_client_job.specs.JobState.{IsTaskOf, NotesGoWith}
use Rattle.ftl0_client_job.specs.Table.{listing_of}
use Rattle.ftl0_client.specs.Attempt.Attempted.{Attempted}
use Rattle.ftl0_client.specs.Attempt.Attempted as attempted
use Rattle.ftl0_client.specs.Attempt.AttemptState.{AttemptState, IsAttempt, is_closed}
use Rattle.ftl0_client.specs.Client.{Client, Refused}

-- its call, its server's, the window k of its links, its notes, the attempt of what was asked last, if anything was,
-- and the DM that is to be sent
pub record ClientState : Type 0 where
  pub me : CallSign
  pub server : CallSign
  pub k : ℕ
  pub notes : NotesState
  pub attempt : Option AttemptState
  pub stray : Option Refused

-- there is an attempt if that one has one, and it stands for it
abbrev pub IsAttemptOf : Window → Option AttemptState → Option Attempted → Type 0
IsAttemptOf w None None = ⊤
IsAttemptOf w None (Some a) = ⊥
IsAttemptOf w (Some attempt) None = ⊥
IsAttemptOf w (Some attempt) (Some a) = IsAttempt w attempt a

-- The client stands for that one: it may stand for many, since its attempt's link keeps no history.
pub record IsClient (self : ClientState) (client : Client) : Type 0 where
  pub me : self.me ≡ client.me
  pub server : self.server ≡ client.server
  pub window : client.window ≡ window_of self.k
  pub lists : self.notes.lists ≡ client.lists
  pub attempt : IsAttemptOf client.window self.attempt client.attempt
  pub stray : self.stray ≡ client.stray

-- a client of which nothing was asked
abbrev pub new_state : CallSign → CallSign → ℕ → NotesState → ClientState
new_state me server k notes =
    record { me = me; server = server; k = k; notes = notes; attempt = None; stray = None }

-- what became of what was asked last, if anything was and did
abbrev pub outcome_in : Option AttemptState → Option Outcome
outcome_in None = None
outcome_in (Some attempt) = attempted.outcome_by attempt.job.ending attempt.down

-- what was asked last is under way: nothing became of it yet
abbrev pub under_way_in : Option AttemptState → Bool
under_way_in None = false
under_way_in (Some attempt) = is_none (attempted.outcome_by attempt.job.ending attempt.down)

-- nothing is under way: nothing was asked, or there is an outcome
abbrev pub IsFree : ClientState → Type 0
IsFree self = under_way_in self.attempt ≡ false

-- a frame is to be sent
abbrev pub attempt_pending : Option AttemptState → Bool
attempt_pending None = false
attempt_pending (Some attempt) = is_pending attempt.link

abbrev pub client_pending : ClientState → Bool
client_pending self = is_there self.stray || attempt_pending self.attempt

-- no more frames than this are handed out one after another
abbrev pub attempt_most : Option AttemptState → ℕ
attempt_most None = 0
attempt_most (Some attempt) = most_pending attempt.link

abbrev pub client_most : ClientState → ℕ
client_most self = count_of self.stray + attempt_most self.attempt

-- there is no link, or it is down and has nothing to send
abbrev pub attempt_closed : Option AttemptState → Bool
attempt_closed None = true
attempt_closed (Some attempt) = is_closed attempt.link

abbrev pub client_closed : ClientState → Bool
client_closed self = not (is_there self.stray) && attempt_closed self.attempt

-- the octets of the list that came, if a list was asked last
abbrev pub listing_in : Option AttemptState → List ℕ
listing_in None = []
listing_in (Some attempt) = listing_of attempt.job.work

-- the notes go with the job of the attempt, if there is one
abbrev pub GoWithAttempt : Lists → Option AttemptState → Type 0
GoWithAttempt lists None = ⊤
GoWithAttempt lists (Some attempt) = NotesGoWith lists attempt.job

-- What a client needs to hear a frame: its notes are ready, and go with the job of its attempt.
pub record MayHear {D : Type 0} (g : Ghosts D) (self : ClientState) (disk : D) : Type 0 where
  pub ready : IsReady g self.notes disk
  pub notes_are : GoWithAttempt self.notes.lists self.attempt

-- Work that may be asked of this client: an upload is of a task of its server and its own call, whose digest is the
-- SHA-256 of the file (FIPS 180-4), and a download is of a file of its server.
abbrev pub IsOwn : ClientState → Work → Type 0
IsOwn self (work.Upload at) = IsTaskOf self.notes.lists self.server self.me (sha256 at.file) at.task
IsOwn self (work.Directory at) = ⊤
IsOwn self (work.Download at) = at.server ≡ self.server

-- the attempt's link, if there is one, is of these stations, and this one called
abbrev pub HasLink : CallSign → CallSign → ℕ → Option AttemptState → Type 0
HasLink me server k None = ⊤
HasLink me server k (Some attempt) = HasStations attempt.link true me server k

-- whatever end the attempt's link stands for, it is one that frames can bring about
abbrev pub LinkFits : Option AttemptState → Type 0
LinkFits None = ⊤
LinkFits (Some attempt) = Fits attempt.link
