-- What the layer above does to an end (AX.25 2.0, 2.4.3.3, 2.4.4.1).
use Rattle.std.specs.Prelude.{◌≡◌, ℕ, List, [], ◌∷◌, ◌++◌, take, min, length, Some}
use Rattle.ax25_link.specs.declared.state.LinkState.TheVariants.{Up, Ending, Down}
use Rattle.ax25_link.specs.Ends.{LinkEnd, goodbye, gone, free_octets}
use Rattle.ax25_link.specs.Rows.{entering}

-- how many of these octets can be queued
abbrev pub pushed_count : LinkEnd → List ℕ → ℕ
pushed_count end octets = min (length octets) (free_octets end)

-- with all these octets queued
abbrev pub queueing : LinkEnd → List ℕ → LinkEnd
queueing end octets = record end { pushed = end.pushed ++ octets; queued = end.queued ++ octets }

-- the end after these octets are pushed: the first of them, as many as can be queued, are queued
abbrev pub after_push : LinkEnd → List ℕ → LinkEnd
after_push end octets = queueing end (take (free_octets end) octets)

-- the end after the layer above hangs up: DISC is to be sent last, and what wasn't sent is dropped (2.4.3.3)
abbrev pub after_hang_up : LinkEnd → LinkEnd
after_hang_up end = record (entering end Ending) { queued = []; farewell = Some goodbye }

-- the end after the layer above gives the link up: DM is to be sent last (2.3.4.3.5)
abbrev pub after_abandon : LinkEnd → LinkEnd
after_abandon end = record (entering end Down) { farewell = Some gone }

-- what the layer above does to an end that is up
pub data Doing : Type 0 where
  push : List ℕ → Doing
  hang_up : Doing
  abandon : Doing

abbrev pub after_doing : LinkEnd → Doing → LinkEnd
after_doing end (push octets) = after_push end octets
after_doing end hang_up = after_hang_up end
after_doing end abandon = after_abandon end

-- The layer above does this, one after another, to an end that is up each time; this is the end then.
abbrev pub DoesAll : LinkEnd → List Doing → LinkEnd → Type 0
DoesAll end [] last = last ≡ end
DoesAll end (doing ∷ doings) last = (end.state ≡ Up) × DoesAll (after_doing end doing) doings last
