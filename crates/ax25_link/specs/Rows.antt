-- What a received frame does, row by row of the table of docs/FORMATS.md (AX.25 2.0, 2.4.3, 2.4.4). Nothing is to be
-- sent when a frame is taken.
use Rattle.std.specs.Prelude.{ℕ, ◌==◌, [], ◌∷◌, ◌++◌, Bool, true, false, ◌&&◌, ◌||◌, if◌then◌else◌, Option, None, Some}
use Rattle.ax25_frames.specs.declared.control.Control.{Control}
use Rattle.ax25_frames.specs.declared.control.Control.TheVariants.{I, Rr, Rnr, Rej, Sabm, Disc, Dm, Ua, Frmr, Ui}
use Rattle.ax25_frames.specs.FrameText.{FrameValue}
use Rattle.ax25_link.specs.declared.state.LinkState.{LinkState}
use Rattle.ax25_link.specs.declared.state.LinkState.TheVariants.{Calling, Up, Ending, Down}
use Rattle.ax25_link.specs.declared.state.Heard.{Heard}
use Rattle.ax25_link.specs.declared.state.Heard.TheVariants.{Nothing, Opened, Reopened, Bytes, Closed}
use Rattle.ax25_link.specs.declared.state.Why.{Why}
use Rattle.ax25_link.specs.declared.state.Why.TheVariants as why
use Rattle.ax25_link.specs.Window.{Window}
use Rattle.ax25_link.specs.Ends.{LinkEnd, Reply, ready, reject, accept, refuse, refuse_frame, call, disconnect, enquire, oldest, outstanding, answering_end}
use Rattle.ax25_link.specs.Acknowledging.{meaning_of, applying, is_good, is_bad, with_timer_anew}
use Rattle.ax25_link.specs.Frames.{receive_number, refusal_octets}

-- the end after a frame was taken, and what is reported of it to the layer above
pub record Outcome : Type 0 where
  pub after : LinkEnd
  pub heard : Heard

abbrev pub outcome : LinkEnd → Heard → Outcome
outcome after heard = record { after = after; heard = heard }

-- nothing changes, and nothing is reported
abbrev pub passed_over : LinkEnd → Outcome
passed_over end = outcome end Nothing

-- with this to be sent first
abbrev pub replying : LinkEnd → Reply → LinkEnd
replying end reply = record end { reply = Some reply }

-- whether it is an I frame
abbrev pub is_oldest : Reply → Bool
is_oldest oldest = true
is_oldest (ready poll) = false
is_oldest (reject poll) = false
is_oldest (accept poll) = false
is_oldest (refuse poll) = false
is_oldest (refuse_frame octets poll) = false
is_oldest call = false
is_oldest disconnect = false
is_oldest enquire = false

-- what is to be sent first, if that is no I frame
abbrev pub unless_oldest : Option Reply → Option Reply
unless_oldest None = None
unless_oldest (Some reply) = if is_oldest reply then None else Some reply

-- The state changes: ticks and tries are 0 (2.4.7.1), and no I frame is to be sent. A reply stays.
abbrev pub entering : LinkEnd → LinkState → LinkEnd
entering end state =
    record (with_timer_anew end) { state = state; reply = unless_oldest end.reply; again = 0 }

-- the link is down
abbrev pub closing : LinkEnd → Why → Outcome
closing end reason = outcome (entering end Down) (Closed reason)

-- the same with a reply
abbrev pub closing_with : LinkEnd → Reply → Why → Outcome
closing_with end reply reason = outcome (replying (entering end Down) reply) (Closed reason)

-- An I or S frame with a bad N(R): it is refused by FRMR, and the link is down (2.3.4.3.3, 2.4.5).
abbrev pub refusing : Window → LinkEnd → FrameValue → Outcome
refusing w end frame = closing_with end (refuse_frame (refusal_octets w end frame) frame.poll) why.BadNr

-- An I frame that is next, and whose N(R) was applied: it is accepted, no REJ is outstanding, and RR replies (2.4.4.2).
abbrev pub accepting : LinkEnd → FrameValue → Outcome
accepting end frame =
    outcome
    (replying (record end { taken = end.taken ++ frame.kind.information ∷ []; rejecting = false }) (ready frame.poll)) Bytes

-- An I frame out of sequence, whose N(R) was applied: REJ replies, or RR if a REJ is outstanding (2.4.4.3).
abbrev pub out_of_sequence : LinkEnd → FrameValue → Outcome
out_of_sequence end frame =
    passed_over
    (replying (record end { rejecting = true }) (if end.rejecting then ready frame.poll else reject frame.poll))

-- an I frame whose N(R) was applied
abbrev pub information_row : Window → LinkEnd → FrameValue → ℕ → Outcome
information_row w end frame ns =
    if ns == receive_number w end then accepting end frame else out_of_sequence end frame

-- an S frame whose N(R) was applied: a command with P = 1 is replied by RR with F = 1 (2.4.4.9)
abbrev pub supervisory_row : LinkEnd → FrameValue → Outcome
supervisory_row end frame =
    passed_over (if frame.command && frame.poll then replying end (ready true) else end)

-- whether the peer is busy (2.4.4.7)
abbrev pub with_busy : Bool → LinkEnd → LinkEnd
with_busy busy end = record end { busy = busy }

-- all outstanding frames are to be sent again (2.4.4.6)
abbrev pub sending_again : LinkEnd → LinkEnd
sending_again end = record end { again = outstanding end }

-- An I or S frame while up: with a bad N(R) it is refused, else N(R) is applied and the frame's row follows.
abbrev pub numbered_row : Window → LinkEnd → FrameValue → ℕ → (LinkEnd → Outcome) → Outcome
numbered_row w end frame nr row =
    if is_bad (meaning_of w end nr) then refusing w end frame else row (applying end (meaning_of w end nr))

-- SABM while up: an end that answers begins again, with a UA to be sent (2.4.6); one that called ignores it
abbrev pub called_again : LinkEnd → FrameValue → Outcome
called_again end frame =
    if end.called then passed_over end else outcome (answering_end end.me end.peer frame.poll) Reopened

-- while information goes both ways (2.4.4)
abbrev pub up_row : Window → LinkEnd → FrameValue → Control → Outcome
up_row w end frame (I ns nr) = numbered_row w end frame nr (λ e. information_row w e frame ns)
up_row w end frame (Rr nr) = numbered_row w end frame nr (λ e. supervisory_row (with_busy false e) frame)
up_row w end frame (Rnr nr) = numbered_row w end frame nr (λ e. supervisory_row (with_busy true e) frame)
up_row w end frame (Rej nr) =
    numbered_row w end frame nr
    (λ e. supervisory_row (with_busy false (if is_good (meaning_of w end nr) then sending_again e else e)) frame)
up_row w end frame Sabm = called_again end frame
up_row w end frame Disc = closing_with end (accept frame.poll) why.Disc
up_row w end frame Dm = closing end why.Dm
up_row w end frame Frmr = closing end why.Frmr
up_row w end frame Ua = passed_over end
up_row w end frame Ui = passed_over end

-- while SABM isn't answered (2.4.3.1)
abbrev pub calling_row : LinkEnd → FrameValue → Control → Outcome
calling_row end frame Ua = outcome (entering end Up) Opened
calling_row end frame Dm = closing end why.Dm
calling_row end frame Disc = passed_over (replying end (refuse frame.poll))
calling_row end frame (I ns nr) = passed_over end
calling_row end frame (Rr nr) = passed_over end
calling_row end frame (Rnr nr) = passed_over end
calling_row end frame (Rej nr) = passed_over end
calling_row end frame Sabm = passed_over end
calling_row end frame Frmr = passed_over end
calling_row end frame Ui = passed_over end

-- while DISC isn't answered (2.4.3.3)
abbrev pub ending_row : LinkEnd → FrameValue → Control → Outcome
ending_row end frame Ua = closing end why.Disc
ending_row end frame Disc = closing_with end (accept frame.poll) why.Disc
ending_row end frame Dm = closing end why.Dm
ending_row end frame (I ns nr) = passed_over end
ending_row end frame (Rr nr) = passed_over end
ending_row end frame (Rnr nr) = passed_over end
ending_row end frame (Rej nr) = passed_over end
ending_row end frame Sabm = passed_over end
ending_row end frame Frmr = passed_over end
ending_row end frame Ui = passed_over end

-- whether the frame calls
abbrev pub is_call : Control → Bool
is_call Sabm = true
is_call (I ns nr) = false
is_call (Rr nr) = false
is_call (Rnr nr) = false
is_call (Rej nr) = false
is_call Disc = false
is_call Dm = false
is_call Ua = false
is_call Frmr = false
is_call Ui = false

-- while there is no connection: SABM, and each other command with P = 1, is replied by DM (2.4.3.4)
abbrev pub down_row : LinkEnd → FrameValue → Outcome
down_row end frame =
    passed_over
    (if is_call frame.kind.control || (frame.command && frame.poll) then replying end (refuse frame.poll) else end)

abbrev pub row_of_state : LinkState → Window → LinkEnd → FrameValue → Outcome
row_of_state Calling w end frame = calling_row end frame frame.kind.control
row_of_state Up w end frame = up_row w end frame frame.kind.control
row_of_state Ending w end frame = ending_row end frame frame.kind.control
row_of_state Down w end frame = down_row end frame

-- the end after this frame is taken, and what is reported to the layer above
abbrev pub row : Window → LinkEnd → FrameValue → Outcome
row w end frame = row_of_state end.state w end frame

abbrev pub after_frame : Window → LinkEnd → FrameValue → LinkEnd
after_frame w end frame = (row w end frame).after

abbrev pub heard_of : Window → LinkEnd → FrameValue → Heard
heard_of w end frame = (row w end frame).heard
