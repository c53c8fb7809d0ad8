-- What commands whose conditions hold keep of a client's notes.
use Rattle.std.specs.Prelude.{◌≡◌, ◌⊎◌, ℕ, ◌≤◌, List, [], ◌∷◌, ◌++◌, false, if◌then◌else◌, Some}
use Rattle.px_base.specs.CallSign.{CallSign}
use Rattle.px_base.specs.Octets.{IsFront}
use Rattle.client_notes.specs.Command.{NotesCommand, start, numbered, acked, refused, got, forgot}
use Rattle.client_notes.specs.Command.{after, got_file, is_going}
use Rattle.client_notes.specs.Laws.{AreAllowed, after_all}
use Rattle.client_notes.specs.Notes.{Lists, Task, got_of, is_file_of, task_of}

-- The same task later: of the same file, server and caller, with the same number once it had one; and as it was once it
-- was acknowledged or refused.
pub record GoesOn (old new : Task) : Type 0 where
  pub same : new ≡ record old { number = new.number; progress = new.progress }
  pub number : 1 ≤ old.number → new.number ≡ old.number
  pub over : is_going old.progress ≡ false → new ≡ old

-- each task stands and goes on
abbrev pub KeepsTasks : Lists → Lists → Type 0
KeepsTasks before now =
    (task : ℕ) (old : Task) → task_of before task ≡ Some old
    → (new : Task) × (task_of now task ≡ Some new) × GoesOn old new

-- What a command makes of the octets got of a file: a Got of it brings octets behind them, a Forgot of it leaves none,
-- and any other leaves them as they are.
abbrev pub got_after : CallSign → ℕ → List ℕ → NotesCommand → List ℕ
got_after server number octets (start task other caller name file_length digest) = octets
got_after server number octets (numbered task given) = octets
got_after server number octets (acked task) = octets
got_after server number octets (refused task code) = octets
got_after server number octets (got other given more) =
    if is_file_of server number (got_file other given more) then octets ++ more else octets
got_after server number octets (forgot other given) =
    if is_file_of server number (got_file other given []) then [] else octets

-- what is got of this file is given up among these commands
abbrev pub IsGivenUp : CallSign → ℕ → List NotesCommand → Type 0
IsGivenUp server number [] = ⊥
IsGivenUp server number (command ∷ commands) =
    (command ≡ forgot server number) ⊎ IsGivenUp server number commands

-- Tasks stand with their files, with their numbers once these are known, and as they were once they are acknowledged or
-- refused. What is got of a file grows at its end, or it is given up.
pub record TasksLaw : Type 0 where
  pub tasks :
      (before : Lists) (commands : List NotesCommand) → AreAllowed before commands
      → KeepsTasks before (after_all before commands)
  pub got :
      (before : Lists) (command : NotesCommand) (server : CallSign) (number : ℕ)
      → got_of (after before command) server number ≡ got_after server number (got_of before server number) command
  pub grows :
      (before : Lists) (commands : List NotesCommand) (server : CallSign) (number : ℕ)
      → IsFront (got_of before server number) (got_of (after_all before commands) server number)
      ⊎ IsGivenUp server number commands
