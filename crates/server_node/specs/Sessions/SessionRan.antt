-- What a session says over its turns, and why it ends.
use Rattle.std.specs.Prelude.{◌≡◌, ◌⊎◌, ℕ, ◌≤◌, max, List, [], ◌++◌, length, slice_index, false, Result, IsErrOf}
use Rattle.px_base.specs.Octets.{IsFront}
use Rattle.px_base.specs.Polling.{IsButLast, octets_heard}
use Rattle.px_base.specs.declared.air.Turn.{Turn}
use Rattle.ftl0_packets.specs.Layout.{packet_text}
use Rattle.ftl0_packets.specs.Stream.{Stream}
use Rattle.ftl0_session.specs.Uploads.Events.{Brings, Event, packets_in}
use Rattle.ftl0_session.specs.Table.{greeting}
use Rattle.file_store.specs.State.{IsKnown}
use Rattle.file_store.specs.Store.{Store}
use Rattle.turn_loop.specs.Lent.{Lent, Seen}
use Rattle.turn_loop.specs.declared.stop.NodeStop.{NodeStop}
use Rattle.turn_loop.specs.declared.stop.NodeStop.TheVariants as stop
use Rattle.server_node.specs.declared.terms.Served.{Served}
use Rattle.server_node.specs.declared.terms.SessionTerms.{SessionTerms}
use Rattle.server_node.specs.Served.{Ends, Run, TurnsBy}
use Rattle.server_node.specs.Steps.{EndsOver, made}
use Rattle.server_node.specs.Sessions.Running.{first_session, session_steps}

-- LOGIN_RESP of a session at this moment, in whose caller's list no numbers are left
abbrev pub login_text : ℕ → List ℕ
login_text first = packet_text (greeting first false)

-- LOGIN_RESP couldn't be said whole: a front of it was said, nothing was heard, and nothing done.
pub record IsUngreeted (first : ℕ) (run : Run) (result : Result Served NodeStop) : Type 0 where
  pub why : IsErrOf result stop.AirWrite
  pub no_turn : run.turns ≡ []
  pub front : IsFront run.all.text (login_text first)
  pub none_done : run.all.done ≡ []
  pub none_cut : run.cut ≡ []
  pub none_missed : run.all.missed ≡ 0

-- LOGIN_RESP was said, with the first of the moments, and then these replies. Where it is known what octets the files
-- have, they are the replies to these events, and nothing was heard after what ended the session: a stop is at an event
-- that only the last turn brings, behind all those that the others bring.
pub record IsGreeted (known : Type 0) (terms : SessionTerms) (start : Store) (run : Run) (events : List Event)
    (result : Result Served NodeStop) : Type 0 where
  pub replies : List ℕ
  pub text_is : run.all.text ≡ login_text (slice_index run.moments 0) ++ replies
  pub earlier : List Turn
  pub but_last : IsButLast run.turns earlier
  pub least : List Event
  pub left : List ℕ
  pub brought : Brings [] earlier run.moments least left
  pub ends_over :
      known
      → EndsOver result least (session_steps terms.caller) (first_session start) events run.unsaid
      (made replies run.all.done run.all.missed) run.cut

-- A session of these terms, from this store and no lists on, came to this run, and ended so. What it said and did by
-- the packets that it heard is told where it is known what octets the store's files have.
pub record SessionRan (known : Type 0) (terms : SessionTerms) (start : Store) (run : Run)
    (result : Result Served NodeStop) : Type 0 where
  -- one moment for each turn; one for LOGIN_RESP where there is no turn
  pub one_each : length run.moments ≡ max 1 (length run.turns)
  -- the packets of all octets heard, each with the moment of the turn that brought its last octet, and less than a
  -- whole one
  pub events : List Event
  pub rest : List ℕ
  pub brings : Brings [] run.turns run.moments events rest
  pub stream : Stream (octets_heard run.turns) (packets_in events) rest
  pub bound : length run.turns ≤ terms.polls
  pub ends : TurnsBy result terms.polls run.turns
  pub said : IsUngreeted (slice_index run.moments 0) run result ⊎ IsGreeted known terms start run events result

-- how a session of these terms ends
abbrev pub SessionEnds :
    {A C D : Type 0} → Seen D A C → Lent D A C → Lent D A C → SessionTerms → Result Served NodeStop → Type 0
SessionEnds seen old new terms result =
    Ends seen terms.limits.blocks terms.moment
    (λ start run. SessionRan (IsKnown seen.disk old.disk) terms start run result) old new result
