-- What a run of the program did as a server, by its words, by what was heard, and by its disk.
use Rattle.std.specs.Prelude.{◌≡◌, ◌⊎◌, ℕ, List, ◌++◌, Option, Some, Result, IsErrOf}
use Rattle.px_base.specs.declared.air.Turn.{Turn}
use Rattle.turn_loop.specs.Lent.{Lent, Seen}
use Rattle.server_node.specs.OnDisk.{NodeRuns}
use Rattle.server_node.specs.Stops.{HasAirCause, RefusesSession}
use Rattle.turn_loop.specs.declared.stop.NodeStop.{NodeStop}
use Rattle.turn_loop.specs.declared.stop.NodeStop.TheVariants as stop
use Rattle.server_node.specs.declared.terms.Served.{Served}
use Rattle.server_node.specs.OnAir.Served.{ServerEnds}
use Rattle.server_node.specs.declared.terms.ServerTerms.{ServerTerms}
use Rattle.command_words.specs.declared.disk.DiskWord.{DiskWord}
use Rattle.command_words.specs.declared.disk.DiskWord.TheVariants.{Named}
use Rattle.command_words.specs.declared.serve.ServeRequest.{ServeRequest}
use Rattle.command_words.specs.Words.{IsServe}
use Rattle.pacsat_cli.specs.declared.status.Status.{Status}
use Rattle.pacsat_cli.specs.Sessions.{IsUntouched}
use Rattle.pacsat_cli.specs.Stops.{status_of}

-- what a run serves with
abbrev pub serve_terms : ServeRequest → ServerTerms
serve_terms asked =
    record { me = asked.me; k = asked.k; limits = record { blocks = asked.blocks }; polls = asked.polls }

-- A server of these terms served over this disk, or the recovery of its store was refused: what was said to what was
-- heard, what stands on the disk at each moment, how long it may have become, and why it ended, as the status says.
pub record IsServedOver {A C D : Type 0} (seen : Seen D A C) (old new : Lent D A C) (terms : ServerTerms)
    (status : Status) : Type 0 where
  pub ended : Result Served NodeStop
  pub refuses : RefusesSession terms.limits.blocks (seen.disk.content old.disk) ended
  pub ends : ServerEnds seen old new terms ended
  pub counts : HasAirCause seen.air.read_faults seen.air.write_faults old.air new.air ended
  pub runs : NodeRuns seen.disk (IsErrOf ended stop.Disk) old.disk new.disk
  pub status_is : status ≡ status_of ended

-- Where the words ask for a service, it is served so; or there was no memory to read the words, and nothing was touched.
abbrev pub RunsServe : {A C D : Type 0} → List (List ℕ) → Seen D A C → Lent D A C → Lent D A C → Status → Type 0
RunsServe words seen old new status =
    (asked : ServeRequest) → IsServe words asked
    → (IsUntouched old.air new.air old.clock new.clock status × (new.disk ≡ old.disk))
    ⊎ IsServedOver seen old new (serve_terms asked) status

-- The words ask for a service, and what is told of the air, before and now, gives the turns of the run.
pub record ServeHeard {A : Type 0} (words : List (List ℕ)) (heard : A → Option (List Turn)) (before now : A) : Type 0 where
  pub asked : ServeRequest
  pub asks : IsServe words asked
  pub earlier : List Turn
  pub turns : List Turn
  pub told_before : heard before ≡ Some earlier
  pub told_now : heard now ≡ Some (earlier ++ turns)

-- Where the turns of a service are told, this holds of the disk that DISK names, of how many polls it may make, and of
-- the turns.
abbrev pub WhereServed :
    {A : Type 0} → List (List ℕ) → (A → Option (List Turn)) → A → A → (DiskWord → ℕ → List Turn → Type 0) → Type 0
WhereServed words heard before now P =
    (told : ServeHeard words heard before now) → P Named told.asked.polls told.turns
