-- A session as contracts see it, the state of the table that it is in, and what it needs to take a packet.
use Rattle.std.specs.Prelude.{◌≡◌, List, ⊤}
use Rattle.px_base.specs.CallSign.{CallSign}
use Rattle.disk_model.specs.declared.disk.Disk.{Ghosts}
use Rattle.ftl0_session.specs.Lists.Lists.{CallerList}
use Rattle.file_store.specs.State.{IsReady, StandsOn, StoreState, store_in}
use Rattle.ftl0_session.specs.declared.uploads.phase.Phase.{Phase}
use Rattle.ftl0_session.specs.declared.uploads.phase.Phase.TheVariants as phase
use Rattle.ftl0_session.specs.Uploads.SessionState as upload
use Rattle.ftl0_session.specs.Downloads.Needs.{AreComplete, IsDueIn}
use Rattle.ftl0_session.specs.Downloads.Table.{DownloadState, ready}
use Rattle.ftl0_session.specs.Table.{State, state_by}

-- whose session it is and what it does of uploading, and what it does of downloading
pub record SessionState : Type 0 where
  pub uploads : upload.SessionState
  pub downloads : DownloadState

-- a session by its parts
abbrev pub session_of : upload.SessionState → DownloadState → SessionState
session_of uploads downloads = record { uploads = uploads; downloads = downloads }

-- a session that was just connected
abbrev pub new_session : CallSign → SessionState
new_session caller = session_of (upload.new_session caller) ready

-- whose session it is
abbrev pub caller_of : SessionState → CallSign
caller_of session = session.uploads.caller

-- what all sessions of a server work on: the store, the lists of all callers, and the disk
pub record WorkingOn (D : Type 0) : Type 0 where
  pub store : StoreState
  pub lists : List CallerList
  pub disk : D

-- by its parts
abbrev pub working_on : {D : Type 0} → StoreState → List CallerList → D → WorkingOn D
working_on store lists disk = record { store = store; lists = lists; disk = disk }

-- the state of the table that it is in: the store says which octets wait to be held
abbrev pub state_in : StoreState → SessionState → State
state_in store session = state_by (upload.state_of store session.uploads.phase) session.downloads

-- while a file is received, or the end of a refused one is waited for, nothing is sent or waited for of a download
abbrev pub DoesOne : Phase → DownloadState → Type 0
DoesOne phase.Command downloads = ⊤
DoesOne (phase.Receiving up) downloads = downloads ≡ ready
DoesOne phase.Aborting downloads = downloads ≡ ready

-- What a session needs to take a packet: the store is ready, holds the session's upload, and has no other upload of an
-- entry of its caller out; what is due lies within complete files, and the lists' numbers are those of complete files.
pub record MayTake {D : Type 0} (g : Ghosts D) (store : StoreState) (disk : D) (lists : List CallerList)
    (session : SessionState) : Type 0 where
  pub ready : IsReady g store disk
  pub held : upload.IsHeld store session.uploads
  pub only : upload.IsOnlyOut store session.uploads
  pub due : IsDueIn (store_in store) session.downloads
  pub complete : AreComplete (store_in store) lists

-- What a session leaves for the next packet, whatever came: the store is on the disk, or has failed; it holds the
-- session's upload, and no other of the caller is out; what is due lies within complete files, and so do the lists.
pub record IsFit {D : Type 0} (g : Ghosts D) (store : StoreState) (disk : D) (lists : List CallerList)
    (session : SessionState) : Type 0 where
  pub stands_on : StandsOn g store disk
  pub held : upload.IsHeld store session.uploads
  pub only : upload.IsOnlyOut store session.uploads
  pub due : IsDueIn (store_in store) session.downloads
  pub complete : AreComplete (store_in store) lists
