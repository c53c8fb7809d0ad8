-- What is told of a client's task.
use Rattle.std.specs.Prelude.{ℕ, Option, None, Some}
use Rattle.client_notes.specs.declared.answers.Noted.{Noted}
use Rattle.client_notes.specs.declared.answers.Noted.TheVariants as noted

-- the number on the server of a task that is unfinished
abbrev pub number_if_going : Option Noted → Option ℕ
number_if_going None = None
number_if_going (Some (noted.Going task number)) = Some number
number_if_going (Some (noted.Acked task number)) = None
number_if_going (Some (noted.Refused task code)) = None

-- that of one that was acknowledged
abbrev pub number_if_acked : Option Noted → Option ℕ
number_if_acked None = None
number_if_acked (Some (noted.Going task number)) = None
number_if_acked (Some (noted.Acked task number)) = Some number
number_if_acked (Some (noted.Refused task code)) = None
