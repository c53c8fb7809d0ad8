-- What a client's command does over its disk, air and clock: the notes are recovered, and a job is carried out.
use Rattle.std.specs.Prelude.{◌≡◌, ℕ, List, [], ◌++◌, IfSome, Result, Err, IsErrOf, ⊤}
use Rattle.disk_model.specs.declared.disk.Disk.{Ghosts}
use Rattle.turn_loop.specs.Lent.{Lent, Seen}
use Rattle.turn_loop.specs.declared.stop.NodeStop.TheVariants as node
use Rattle.disk_model.specs.Runs.{TakesStep}
use Rattle.file_journal.specs.Journal.{IsAfterRecovery}
use Rattle.file_journal.specs.declared.layout.Layout.TheVariants as layout
use Rattle.file_journal.specs.Through.{CountsWrites, StandsThrough}
use Rattle.client_notes.specs.Command.{NotesCommand}
use Rattle.client_notes.specs.Laws.{after_all}
use Rattle.client_notes.specs.Notes.{Lists}
use Rattle.client_notes.specs.Records.{notes_form, notes_magic}
use Rattle.client_notes.specs.Recovery.{AnswersRecovery}
use Rattle.client_notes.specs.State.{StandsFor}
use Rattle.client_notes.specs.StoreFault.{StoreFault}
use Rattle.ftl0_client.specs.Window.{window_of}
use Rattle.ftl0_client.specs.Table.{JobState}
use Rattle.ftl0_client.specs.Client.{Client, new_client}
use Rattle.ftl0_client.specs.Outcome.{Outcome}
use Rattle.uploader.specs.declared.stop.SendStop.{SendStop}
use Rattle.uploader.specs.declared.terms.ClientTerms.{ClientTerms}
use Rattle.uploader.specs.Stops.{answer_of, stop_of_fault}
use Rattle.uploader.specs.Turns.Carried.{Became, ClientRan, Run, TakesAir}

-- The recovery of the notes was refused, or there was no memory for what is asked: nothing was heard or said, and the
-- clock wasn't asked.
pub record IsUnrecovered {A C D : Type 0} (g : Ghosts D) (old new : Lent D A C) (why : SendStop) : Type 0 where
  pub fault : StoreFault
  pub why_is : why ≡ stop_of_fault fault
  pub air : new.air ≡ old.air
  pub clock : new.clock ≡ old.clock
  pub answers : AnswersRecovery {T = ⊤} g (Err fault) old.disk new.disk

-- The notes that were recovered are those for which the disk's content stood. No octet of formatted notes changed, and
-- any other content was made formatted ones.
pub record RecoversTo {D : Type 0} (g : Ghosts D) (disk disk_now : D) (start : Lists) : Type 0 where
  pub stood : IfSome (g.content disk) (λ before. StandsFor before start)
  pub octets : TakesStep g disk disk_now (IsAfterRecovery notes_magic layout.Growing 1)

-- a client of these terms over these notes, of which nothing was asked
abbrev pub client_from : ClientTerms → Lists → Client
client_from terms lists = new_client terms.me terms.server (window_of terms.k) lists

-- What a client is asked: by these terms, over the notes at the start, after these first commands, this job.
pub record Asked : Type 0 where
  pub terms : ClientTerms
  pub start : Lists
  pub first : List NotesCommand
  pub job : JobState

abbrev pub asked_of : ClientTerms → Lists → List NotesCommand → JobState → Asked
asked_of terms start first job = record { terms = terms; start = start; first = first; job = job }

-- the client that is asked
abbrev pub client_of : Asked → Client
client_of asked = client_from asked.terms (after_all asked.start asked.first)

-- A client was made over the notes for which the disk's content stood, did its first commands, was asked for its job,
-- and carried it out: what it said to what was heard, what came of it and what that promises, and what stands on the
-- disk at each moment. No read of the disk failed, and a write or sync only where that ended the turns. Without
-- commands the disk is as the recovery left it.
pub record Carries {A C D : Type 0} (see : Seen D A C) (old new : Lent D A C) (asked : Asked)
    (result : Result Outcome SendStop) : Type 0 where
  pub recovered : D
  pub recovers : RecoversTo see.disk old.disk recovered asked.start
  pub run : Run
  pub listing : List ℕ
  pub answer : result ≡ answer_of run.ended run.reached
  pub air : TakesAir see old.air new.air old.clock new.clock run
  pub ran : ClientRan (client_of asked) asked.job asked.terms.polls run
  pub became :
      Became (client_of asked) asked.job ran.events listing (after_all asked.start (asked.first ++ run.done)) run
  pub stands :
      StandsThrough see.disk notes_form (IsErrOf run.ended node.Disk) asked.start (asked.first ++ run.done) run.cut
      old.disk new.disk
  pub ready : stands.ready ≡ see.disk.moment recovered
  pub counts : CountsWrites see.disk (IsErrOf run.ended node.Disk) old.disk new.disk
  pub none : (asked.first ++ run.done) ++ run.cut ≡ [] → new.disk ≡ recovered
