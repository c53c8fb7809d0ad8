-- Which frame is sent next (AX.25 2.0, 2.4.4.1). The order is: the reply or the timer's frame, then I frames that are
-- sent again, then new I frames, then the DISC or DM of an end that hangs up.
use Rattle.std.specs.Prelude.{◌≡◌, ℕ, ◌-◌, ◌==◌, List, [], ◌∷◌, ◌++◌, length, take, drop, Bool, false, not, ◌&&◌, nat_lt, if◌then◌else◌, Option, None, Some}
use Rattle.ax25_frames.specs.FrameText.{FrameValue}
use Rattle.ax25_link.specs.Window.{Window}
use Rattle.ax25_link.specs.Ends.{LinkEnd, Reply, Farewell, high, outstanding}
use Rattle.ax25_link.specs.Acknowledging.{with_timer_anew}
use Rattle.ax25_link.specs.Frames.{information_of, information_again, frame_of_reply, frame_of_farewell}
use Rattle.ax25_link.specs.Timer.{is_up}

-- a frame that an end sends, and the end when it has sent it
pub record Sending : Type 0 where
  pub frame : FrameValue
  pub after : LinkEnd

-- how many octets of information an I frame has at most: N1 (2.4.7.3)
abbrev pub most_information : ℕ
most_information = 256

-- the piece of the next new I frame
abbrev pub next_piece : LinkEnd → List ℕ
next_piece end = take most_information end.queued

-- a new I frame is sent; the timer begins again if nothing was outstanding (2.4.7.1)
abbrev pub with_piece : LinkEnd → LinkEnd
with_piece end = record end { sent = end.sent ++ next_piece end ∷ []; queued = drop most_information end.queued }

abbrev pub after_new : LinkEnd → LinkEnd
after_new end = if outstanding end == 0 then with_timer_anew (with_piece end) else with_piece end

abbrev pub sends_new : Window → LinkEnd → Sending
sends_new w end = record { frame = information_of w end (high end) (next_piece end) false; after = after_new end }

-- the first of the outstanding I frames that are to be sent again
abbrev pub sends_again : Window → LinkEnd → Sending
sends_again w end =
    record { frame = information_again w end (high end - end.again) false; after = record end { again = end.again - 1 } }

abbrev pub sends_reply : Window → LinkEnd → Reply → Sending
sends_reply w end reply = record { frame = frame_of_reply w end reply; after = record end { reply = None } }

abbrev pub sends_farewell : LinkEnd → Farewell → Sending
sends_farewell end farewell = record { frame = frame_of_farewell end farewell; after = record end { farewell = None } }

abbrev pub is_empty : List ℕ → Bool
is_empty octets = length octets == 0

-- whether a new I frame is to be sent: while up, fewer than k are outstanding, the peer isn't busy, and octets are
-- queued
abbrev pub has_new : Window → LinkEnd → Bool
has_new w end = is_up end.state && nat_lt (outstanding end) w.size && not end.busy && not (is_empty end.queued)

abbrev pub last_sending : LinkEnd → Option Farewell → Option Sending
last_sending end None = None
last_sending end (Some farewell) = Some (sends_farewell end farewell)

abbrev pub later_sending : Window → LinkEnd → Option Sending
later_sending w end =
    if nat_lt 0 end.again then Some (sends_again w end)
    else if has_new w end then Some (sends_new w end)
    else last_sending end end.farewell

abbrev pub sending_after : Window → LinkEnd → Option Reply → Option Sending
sending_after w end None = later_sending w end
sending_after w end (Some reply) = Some (sends_reply w end reply)

-- what is sent next, if anything is to be sent
abbrev pub next_sending : Window → LinkEnd → Option Sending
next_sending w end = sending_after w end end.reply

-- nothing is to be sent
abbrev pub IsQuiet : Window → LinkEnd → Type 0
IsQuiet w end = next_sending w end ≡ None

-- The end sends these frames one after another, and then nothing is to be sent.
abbrev pub Drains : Window → LinkEnd → List FrameValue → LinkEnd → Type 0
Drains w end [] last = IsQuiet w end × (last ≡ end)
Drains w end (frame ∷ frames) last =
    (sending : Sending) × (next_sending w end ≡ Some sending) × (frame ≡ sending.frame) × Drains w sending.after frames last
