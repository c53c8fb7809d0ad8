-- What a row of the client's table gives (FTL0 1990).
use Rattle.std.specs.Prelude.{ℕ, List, [], ◌∷◌, true, false, Option, None, Some}
use Rattle.ftl0_packets.specs.Layout.{PacketValue}
use Rattle.client_notes.specs.Command.{NotesCommand}
use Rattle.ftl0_client_job.specs.declared.ending.Ending.{Ending}
use Rattle.ftl0_client_job.specs.declared.ending.Outcome.{Outcome}
use Rattle.ftl0_client_job.specs.declared.ending.Outcome.TheVariants as outcome

-- The state after it, the notes' commands and the replies, in order; and how the job ends, if it does.
pub record Row (S : Type 0) : Type 0 where
  pub state : S
  pub commands : List NotesCommand
  pub replies : List PacketValue
  pub ending : Option Ending

-- with this outcome the link is hung up at once
abbrev pub at_once : Outcome → Ending
at_once reached = record { outcome = reached; later = false }

-- with this one once all that is queued is acknowledged
abbrev pub later : Outcome → Ending
later reached = record { outcome = reached; later = true }

-- a packet of this type is strange
abbrev pub strange_ending : ℕ → Ending
strange_ending kind = at_once (outcome.Strange kind)

-- the job goes on in this state
abbrev pub goes_on : {S : Type 0} → S → List NotesCommand → List PacketValue → Row S
goes_on state commands replies =
    record { state = state; commands = commands; replies = replies; ending = None }

-- it ends, and the link is hung up at once
abbrev pub ends : {S : Type 0} → S → List NotesCommand → Outcome → Row S
ends state commands reached =
    record { state = state; commands = commands; replies = []; ending = Some (at_once reached) }

-- it ends with a last reply, and the link is hung up once that is acknowledged
abbrev pub ends_later : {S : Type 0} → S → List NotesCommand → PacketValue → Outcome → Row S
ends_later state commands reply reached =
    record { state = state; commands = commands; replies = reply ∷ []; ending = Some (later reached) }

-- a packet of this type is strange in the state, and nothing else changes
abbrev pub strange : {S : Type 0} → S → ℕ → Row S
strange state kind = ends state [] (outcome.Strange kind)
