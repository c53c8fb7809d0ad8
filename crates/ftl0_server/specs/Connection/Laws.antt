-- Laws of taking packets, and of queuing what is due.
use Rattle.std.specs.Prelude.{◌≡◌, ◌⊎◌, ℕ, ◌<◌, List, ◌∷◌, ◌++◌, length, false, None}
use Rattle.px_base.specs.CallSign.{CallSign}
use Rattle.ax25_link.specs.Ends.{LinkEnd, free_octets}
use Rattle.ftl0_packets.specs.Layout.{Item}
use Rattle.packet_link.specs.Queuing.{enough_free}
use Rattle.file_store.specs.Command.{Command, after_all}
use Rattle.file_store.specs.Store.{Store}
use Rattle.ftl0_session.specs.Run.{Session}
use Rattle.ftl0_session.specs.Uploads.Failures.{Failure, write_fails}
use Rattle.ftl0_session.specs.Table.{Row, State, due_at, row_at}
use Rattle.ftl0_server.specs.Connection.Taking.{Progress, goes_on, queued, taking}

-- After the commands of the packets before it those of a packet's row are done, and others after these.
pub record TakesUpTo (before row all : List Command) : Type 0 where
  pub others : List Command
  pub done_is : all ≡ before ++ (row ++ others)

-- the row of the packet after these, over the store after their commands, with the lists and in the state after them
abbrev pub row_behind : CallSign → ℕ → Session → LinkEnd → List Item → List Failure → Item → Row
row_behind caller moment session end items failures item =
    let progress : Progress = taking caller moment session end items failures 0 in
    row_at caller moment (after_all session.store progress.done) progress.lists progress.state item failures
    (length items)

-- If packets before one were all taken, the session goes on after them, and no write or sync fails at that packet, it
-- is taken over the store after their commands, with the lists and in the state after them, and its row's commands are
-- done after theirs.
abbrev pub TakingLaw : Type 0
TakingLaw =
    (caller : CallSign) (moment : ℕ) (session : Session) (end : LinkEnd) (items : List Item) (item : Item)
    (more : List Item) (failures : List Failure) → (taking caller moment session end items failures 0).halt ≡ goes_on
    → (taking caller moment session end items failures 0).over ≡ false → write_fails failures (length items) ≡ false
    → TakesUpTo (taking caller moment session end items failures 0).done
    (row_behind caller moment session end items failures item).commands
    (taking caller moment session end (items ++ item ∷ more) failures 0).done

-- nothing is due, whatever fails, or fewer octets are free than are needed
abbrev pub IsQueued : Store → State → LinkEnd → Type 0
IsQueued store state end =
    ((failures : List Failure) (part : ℕ) → due_at store state failures part ≡ None)
    ⊎ (free_octets end < enough_free)

-- After each event at which the session goes on, all that is due was queued, as far as there was room.
abbrev pub QueuedLaw : Type 0
QueuedLaw =
    (store : Store) (failures : List Failure) (progress : Progress) → progress.over ≡ false
    → IsQueued (after_all store progress.done) (queued store failures progress).state
    (queued store failures progress).end
