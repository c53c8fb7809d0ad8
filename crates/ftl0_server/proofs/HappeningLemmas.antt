-- What an event makes of a server: if no write and no sync fails, no commands are cut off, and the store is the one
-- after its commands.
use Rattle.std.proofs.Common.{◌≡◌, ℕ, suc, List, [], ◌∷◌, Bool, Option, Some, refl, ap, ◌∙◌, arith}
use Rattle.std.specs.Prelude.{if◌then◌else◌}
use Rattle.ftl0_server.proofs.Names.{common_steps, CallSign, FrameValue, after_push, LinkEnd, texts, Item, CallerList, Failure, failed_reads, Row, State, row_at, session_over, writes-unlisted, after_all, Store, NodeEvent, taking, Refused, Server, ServerSends, hearing_at, sends_by, Empties, happening, Slot, connected}
use Rattle.ftl0_server.proofs.connection.QueuingLemmas.{queued-keeps}

-- ---- if no write and no sync fails, no commands are cut off

module _ (parts : List ℕ) where
  taking-uncut : (caller : CallSign) (moment : ℕ) (store : Store) (lists : List CallerList) (state : State) (end : LinkEnd) (items : List Item) (part : ℕ)
      → (taking caller moment (session_over store lists state) end items (failed_reads parts) part).cut ≡ []
  taking-uncut caller moment store lists state end [] part = refl
  taking-uncut caller moment store lists state end (item ∷ items) part =
      let row : Row = row_at caller moment store lists state item (failed_reads parts) part in
      let later = taking-uncut caller moment (after_all store row.commands) row.lists row.state (after_push end (texts row.replies)) items (suc part) in
      let unlisted = writes-unlisted parts part in grind (arith, common_steps)

  at-uncut : (server : Server) (frame : FrameValue) (moment place : ℕ) (slot : Option Slot) → (hearing_at server frame moment (failed_reads parts) place slot).cut ≡ []
  at-uncut server frame moment place (Some (connected c)) = grind (arith, common_steps, queued-keeps, taking-uncut)
  at-uncut server frame moment place slot = refl

  pub uncut : (server : Server) (event : NodeEvent) → (happening server event (failed_reads parts)).cut ≡ []
  uncut server event = grind (arith, common_steps, at-uncut)

-- ---- sending changes no store

sends_store : (server : Server) (stray : Option Refused) (sends : ServerSends) → sends_by server stray ≡ Some sends → sends.after.store ≡ server.store
sends_store server stray sends h = grind (arith, common_steps)

pub empties_store : (server : Server) (frames : List FrameValue) (last : Server) → Empties server frames last → last.store ≡ server.store
empties_store server [] last h = ap (λ (s : Server). s.store) h.1
empties_store server (f ∷ frames) last h = empties_store h.0.after frames last h.3 ∙ sends_store server server.stray h.0 h.1

-- ---- an event changes it by its commands

by_call : (b : Bool) (one other : Server) (store : Store) → one.store ≡ store → other.store ≡ store → (if b then one else other).store ≡ store
by_call b one other store h k = grind (arith, common_steps)

pub happening_store : (server : Server) (event : NodeEvent) (failures : List Failure) → (happening server event failures).after.store ≡ after_all server.store (happening server event failures).done
happening_store server event failures = grind (arith, common_steps)
