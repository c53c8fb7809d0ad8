-- What an event begins in which a write fails is a prefix of what it does when none does.
use Rattle.std.proofs.Common.{ℕ, List, [], ◌++◌, Option, None, Some, refl}
use Rattle.ftl0_server.proofs.step_laws.Names.{slice_get, FrameValue, Heard, Bytes, LinkEnd, after_frame, heard_of, packets_of, Store, CallerList, session_over, Failure, NoReadFails, Connected, caller_of, parts_as, parts_of_frame, Progress, queued, Server, ServerHappened, hearing_at, hearing_by, happening, Slot, connected, place_of, Begins, IsFront, queued-keeps, taking-begins, NodeEvent, hears, ticks, FrontOfEventLaw, begun_in}

-- what is due adds no commands to those of the packets
queued-begins : (store : Store) (some all : List Failure) (before other : Progress) → Begins before other
    → Begins (queued store some before) (queued store all other)
queued-begins store some all before other begins =
    let kept = queued-keeps store some before in
    let others = queued-keeps store all other in
    rw (kept.done, kept.cut, others.done) begins

-- what an event begins is a prefix of what another one does
abbrev EventBegins : ServerHappened → ServerHappened → Type 0
EventBegins some all = IsFront (begun_in some) all.done

module _ (writes : List Failure) (reads : NoReadFails writes) where
  parts-begin : (told : Heard) (moment : ℕ) (store : Store) (lists : List CallerList) (c : Connected) (after : LinkEnd)
      (octets : List ℕ)
      → Begins (parts_as told moment store lists c after octets writes)
      (parts_as told moment store lists c after octets [])
  parts-begin Bytes moment store lists c after octets =
      taking-begins (caller_of c) moment (session_over store lists c.state) after (packets_of (c.rest ++ octets)) writes
      [] 0 (λ part. (reads part, refl))
  parts-begin told moment store lists c after octets = ([], refl)

  at-begins : (server : Server) (frame : FrameValue) (moment place : ℕ) (slot : Option Slot)
      → EventBegins (hearing_at server frame moment writes place slot) (hearing_at server frame moment [] place slot)
  at-begins server frame moment place (Some (connected c)) =
      queued-begins server.store writes []
      (parts_of_frame server.window moment server.store server.lists c frame writes)
      (parts_of_frame server.window moment server.store server.lists c frame [])
      (parts-begin (heard_of server.window c.end frame) moment server.store server.lists c
      (after_frame server.window c.end frame) frame.kind.information)
  at-begins server frame moment place slot = ([], refl)

  by-begins : (server : Server) (frame : FrameValue) (moment : ℕ) (place : Option ℕ)
      → EventBegins (hearing_by server frame moment writes place) (hearing_by server frame moment [] place)
  by-begins server frame moment None = ([], refl)
  by-begins server frame moment (Some place) =
      at-begins server frame moment place (slice_get server.slots place)

  event-begins : (server : Server) (event : NodeEvent)
      → EventBegins (happening server event writes) (happening server event [])
  event-begins server (hears frame moment) = by-begins server frame moment (place_of frame.src server.slots)
  event-begins server (ticks moment) = ([], refl)

pub front-of-event : FrontOfEventLaw
front-of-event server event writes reads = event-begins writes reads server event
