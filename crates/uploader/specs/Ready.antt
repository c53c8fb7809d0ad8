-- What the commands share: a client whose notes were recovered, and a job that it is asked for.
use Rattle.std.specs.Prelude.{◌≡◌, ℕ, MatchResult, Result, Ok, Err, ⊤}
use Rattle.disk_model.specs.declared.disk.Disk.{Ghosts}
use Rattle.turn_loop.specs.Lent.{Seen}
use Rattle.turn_loop.specs.Turns.{LentParty}
use Rattle.client_notes.specs.Recovery.{AnswersRecovery, Recovers}
use Rattle.client_notes.specs.StoreFault.{StoreFault}
use Rattle.ftl0_client.specs.Work.{Work}
use Rattle.ftl0_client.specs.Work.TheVariants as work
use Rattle.ftl0_client.specs.Table.{JobState}
use Rattle.ftl0_client.specs.Client.{Client}
use Rattle.ftl0_client.specs.ClientState.{ClientState, IsClient, new_state}
use Rattle.ftl0_client.specs.Outcome.{Outcome}
use Rattle.ftl0_client.specs.Outcome.TheVariants as outcome
use Rattle.uploader.specs.Turns.Carried.{CarriesOut}
use Rattle.uploader.specs.declared.stop.SendStop.{SendStop}
use Rattle.uploader.specs.declared.terms.ClientTerms.{ClientTerms}
use Rattle.uploader.specs.declared.terms.Sent.{Sent}
use Rattle.uploader.specs.Carried.{client_from}
use Rattle.uploader.specs.Stops.{stop_of_fault}

-- A client of these terms was made over the notes that the recovery gave. Nothing was asked.
pub record RecoversClient {D : Type 0} (g : Ghosts D) (terms : ClientTerms) (disk disk_now : D)
    (self : ClientState) : Type 0 where
  pub recovers : Recovers g disk disk_now self.notes
  pub state : self ≡ new_state terms.me terms.server terms.k self.notes
  pub is : IsClient self (client_from terms self.notes.lists)

-- the recovery was refused, and this is the stop by that
abbrev pub StopsRecovery : {D : Type 0} → Ghosts D → D → D → SendStop → Type 0
StopsRecovery g disk disk_now why =
    (fault : StoreFault) × (why ≡ stop_of_fault fault) × AnswersRecovery {T = ⊤} g (Err fault) disk disk_now

-- the work is an upload
abbrev pub IsUpload : Work → Type 0
IsUpload (work.Upload at) = ⊤
IsUpload (work.Directory at) = ⊥
IsUpload (work.Download at) = ⊥

-- A client that stands for this one was asked for an upload and carried it out, and this is what `send` makes of it.
pub record UploadsJob {A C D : Type 0} (see : Seen D A C) (old new : LentParty ClientState D A C) (job : JobState)
    (polls : ℕ) (base : Client) (result : Result Sent SendStop) : Type 0 where
  pub came : Result Outcome SendStop
  pub carries : CarriesOut see old new job polls base came
  pub answer : MatchResult result (λ sent. came ≡ Ok (outcome.Acked sent.number)) (λ why. came ≡ Err why)
