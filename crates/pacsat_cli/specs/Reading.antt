-- What was read of the program's words.
use Rattle.std.specs.Prelude.{List, ℕ, Result, IfOk, IsErrOf}
use Rattle.command_words.specs.declared.request.Refusal.{Refusal}
use Rattle.command_words.specs.declared.request.Refusal.TheVariants as refusal
use Rattle.command_words.specs.declared.request.Request.{Request}
use Rattle.command_words.specs.Asked.{AsksFor}
use Rattle.command_words.specs.Words.{IsUsage, NamesCommand}

-- This was read of the words: what they ask for; or that they aren't in the command set; or that there was no memory to
-- read those of a command.
pub record IsReadOf (words : List (List ℕ)) (asked : Result Request Refusal) : Type 0 where
  pub asks : IfOk asked (AsksFor words)
  pub usage : IsErrOf asked refusal.Usage → IsUsage words
  pub memory : IsErrOf asked refusal.OutOfMemory → NamesCommand words
