-- The state of the table that the code's downloads represent.
use Rattle.std.specs.Prelude.{ℕ, ◌≤◌, List, [], ◌∷◌, length, map, drop}
use Rattle.ftl0_session.specs.declared.downloads.downloads.Downloads.TheInside.{Inside}
use Rattle.ftl0_session.specs.declared.downloads.downloads.Phase.{Phase}
use Rattle.ftl0_session.specs.declared.downloads.downloads.Phase.TheVariants as phase
use Rattle.ftl0_session.specs.declared.downloads.span.Span.{Span}
use Rattle.ftl0_session.specs.Downloads.Spans.{due_of}
use Rattle.ftl0_session.specs.Downloads.Table.{DownloadState, kept, listing, ready, sending, waiting}

-- in this phase, with these short forms, of which this many octets were sent, and these headers
abbrev pub state_of : Phase → List ℕ → ℕ → List Span → DownloadState
state_of phase.Ready forms sent headers = ready
state_of (phase.Sending span) forms sent headers = sending span.number span.place span.last
state_of phase.Waiting forms sent headers = waiting
state_of phase.ListingShort forms sent headers = listing (kept (drop sent forms) ∷ [])
state_of phase.ListingLong forms sent headers = listing (map due_of headers)

abbrev pub state_in : Inside → DownloadState
state_in inside = state_of inside.phase inside.short_forms.items inside.sent inside.headers.items

-- no more octets of the short forms were sent than they have
abbrev pub IsSent : Inside → Type 0
IsSent inside = inside.sent ≤ length inside.short_forms.items
