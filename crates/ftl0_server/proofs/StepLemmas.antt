-- A tick at each place makes the server's tick; and what a frame of a station without a connection is.
use Rattle.std.proofs.Common.{◌≡◌, ℕ, List, map, Bool, true, false, sym, ◌∙◌, ap, arith}
use Rattle.std.specs.Prelude.{if◌then◌else◌, ◌&&◌}
use Rattle.ftl0_server.proofs.Names.{common_steps, FrameValue, is_call, StoreState, Store, IsPlace, Place, Server, called_by, hearing_stranger, refusing, server_ticking, AllPlaces, IsServer, ServerState, first_empty, slot_ticking}
use Rattle.ftl0_server.proofs.AllPlaces.{all-to}

pub server-ticked : (over : Store) (old : ServerState) (server : Server) (places : List Place) (store : StoreState) → IsServer over old server
    → AllPlaces (IsPlace server.window store) places (map slot_ticking server.slots)
    → IsServer over (record old { places = places; store = store }) (server_ticking server)
server-ticked over old server places store is all = grind (arith, common_steps, all-to)

-- the frame is SABM, or is refused, or ignored
module _ (server : Server) (frame : FrameValue) (moment : ℕ) where
  abbrev by_call : Bool → Server
  by_call call =
      if call then called_by server frame.src frame.poll moment (first_empty server.slots)
      else if frame.command && frame.poll then refusing server frame.src true
      else server

  abbrev by_poll : Bool → Server
  by_poll asks = if asks then refusing server frame.src true else server

  pub stranger-calls : is_call frame.kind.control ≡ true
      → called_by server frame.src frame.poll moment (first_empty server.slots) ≡ hearing_stranger server frame moment
  stranger-calls is = ap (λ (b : Bool). by_call b) (sym is)

  pub stranger-asks : is_call frame.kind.control ≡ false → (frame.command && frame.poll) ≡ true
      → refusing server frame.src true ≡ hearing_stranger server frame moment
  stranger-asks no_call asks = ap (λ (b : Bool). by_poll b) (sym asks) ∙ ap (λ (b : Bool). by_call b) (sym no_call)

  pub stranger-passed : is_call frame.kind.control ≡ false → (frame.command && frame.poll) ≡ false → server ≡ hearing_stranger server frame moment
  stranger-passed no_call asks = ap (λ (b : Bool). by_poll b) (sym asks) ∙ ap (λ (b : Bool). by_call b) (sym no_call)

pub both-true : (a b : Bool) → a ≡ true → b ≡ true → (a && b) ≡ true
both-true a b one other = grind (arith, common_steps)

pub first-false : (a b : Bool) → a ≡ false → (a && b) ≡ false
first-false a b one = grind (arith, common_steps)

pub second-false : (a b : Bool) → b ≡ false → (a && b) ≡ false
second-false a b other = grind (arith, common_steps)
