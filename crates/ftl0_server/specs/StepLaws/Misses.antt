-- What reads that fail change of an event at which none of them is reported, and what writes that fail leave of it.
use Rattle.std.specs.Prelude.{◌≡◌, ℕ, List, [], ◌++◌}
use Rattle.file_store.specs.Command.{Command}
use Rattle.ftl0_session.specs.Uploads.Failures.{Failure, NoReadFails, failed_reads}
use Rattle.ftl0_server.specs.Server.{Server, ServerHappened}
use Rattle.ftl0_server.specs.ServerStep.{happening}
use Rattle.turn_loop.specs.Events.{NodeEvent}

-- An event that reports no read that failed is what it is when no read fails, whether a write or a sync fails in it or
-- none does.
abbrev pub MissesLaw : Type 0
MissesLaw =
    (server : Server) (event : NodeEvent) (writes : List Failure) (parts : List ℕ) → NoReadFails writes
    → (happening server event (writes ++ failed_reads parts)).missed ≡ 0
    → happening server event (writes ++ failed_reads parts) ≡ happening server event writes

-- the commands that an event begins: those that are done, and, if the disk failed, those in one of which it did
abbrev pub begun_in : ServerHappened → List Command
begun_in happened = happened.done ++ happened.cut

-- The commands that an event begins in which writes or syncs fail, and no read does, are the first of those that it
-- does when nothing fails.
abbrev pub FrontOfEventLaw : Type 0
FrontOfEventLaw =
    (server : Server) (event : NodeEvent) (writes : List Failure) → NoReadFails writes
    → (others : List Command)
    × ((happening server event []).done ≡ begun_in (happening server event writes) ++ others)
