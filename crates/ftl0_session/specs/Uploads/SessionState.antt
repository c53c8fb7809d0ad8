-- A session as contracts see it, and the state of the table that it is in.
use Rattle.std.specs.Prelude.{◌≡◌, ◌≢◌, ℕ, Option, None, Some, ⊤}
use Rattle.px_base.specs.CallSign.{CallSign}
use Rattle.disk_model.specs.declared.disk.Disk.{Ghosts}
use Rattle.file_store.specs.Files.{ChangesRest}
use Rattle.file_store.specs.Store.{Entry, entry_of}
use Rattle.file_store.specs.State.{IsReady, StoreState, rest_in, store_in}
use Rattle.file_store.specs.Upload.{Holds, Upload, waiting}
use Rattle.ftl0_session.specs.declared.uploads.phase.Phase.{Phase}
use Rattle.ftl0_session.specs.declared.uploads.phase.Phase.TheVariants as phase
use Rattle.ftl0_session.specs.Uploads.Session.{State, command, receiving, aborting}

-- whose session it is, and what it waits for
pub record SessionState : Type 0 where
  pub caller : CallSign
  pub phase : Phase

-- a session that was just connected
abbrev pub new_session : CallSign → SessionState
new_session caller = record { caller = caller; phase = phase.Command }

-- the state of the table in which this upload's octets come: the store says which wait to be held
abbrev pub receiving_of : StoreState → Upload → State
receiving_of store up = receiving up.number (waiting store up)

-- the state of the table that the phase represents
abbrev pub state_of : StoreState → Phase → State
state_of store phase.Command = command
state_of store (phase.Receiving up) = receiving_of store up
state_of store phase.Aborting = aborting

-- the number of the upload that the phase has, if it has one
abbrev pub number_of : Phase → Option ℕ
number_of phase.Command = None
number_of (phase.Receiving up) = Some up.number
number_of phase.Aborting = None

-- the store holds the upload, if there is one, and it is of this caller
abbrev pub PhaseIsHeld : StoreState → CallSign → Phase → Type 0
PhaseIsHeld store caller phase.Command = ⊤
PhaseIsHeld store caller (phase.Receiving up) = Holds store up × (up.caller ≡ caller)
PhaseIsHeld store caller phase.Aborting = ⊤

abbrev pub IsHeld : StoreState → SessionState → Type 0
IsHeld store session = PhaseIsHeld store session.caller session.phase

-- no upload of an entry of this caller is out, except that of this number, if there is one
abbrev pub NoOtherOut : StoreState → CallSign → Option ℕ → Type 0
NoOtherOut store caller own =
    (number : ℕ) (entry : Entry) → entry_of (store_in store) number ≡ Some entry → entry.caller ≡ caller
    → own ≢ Some number → rest_in store number ≡ None

-- no upload of an entry of the session's caller is out, except the session's own
abbrev pub IsOnlyOut : StoreState → SessionState → Type 0
IsOnlyOut store session = NoOtherOut store session.caller (number_of session.phase)

-- What a session of this caller in this phase needs to take a packet: the store is ready, holds the session's upload,
-- and has no other upload of an entry of the caller out.
pub record MayTake {D : Type 0} (g : Ghosts D) (store : StoreState) (disk : D) (caller : CallSign) (phase : Phase) :
    Type 0 where
  pub ready : IsReady g store disk
  pub held : PhaseIsHeld store caller phase
  pub only : NoOtherOut store caller (number_of phase)

-- the upload of the phase is given up, if there is one, and nothing else changes
abbrev pub Parks : StoreState → StoreState → Phase → Type 0
Parks before now phase.Command = now ≡ before
Parks before now (phase.Receiving up) =
    ChangesRest before.files now.files up.number None × (now.journal ≡ before.journal)
Parks before now phase.Aborting = now ≡ before
