-- The frames that an end sends (AX.25 2.0, 2.3, 2.4.1). A frame is a value of the crate below.
use Rattle.std.specs.Prelude.{ℕ, ◌+◌, ◌*◌, ◌%◌, List, [], ◌∷◌, slice_get, unwrap_or, Bool, true, false, not}
use Rattle.ax25_frames.specs.declared.control.Control.TheVariants as control
use Rattle.ax25_frames.specs.Kinds.{KindValue, bit, control_octet}
use Rattle.ax25_frames.specs.Values.{bare_value}
use Rattle.ax25_frames.specs.FrameText.{FrameValue}
use Rattle.ax25_link.specs.Window.{Window}
use Rattle.ax25_link.specs.Ends.{LinkEnd, Reply, Farewell, ready, reject, accept, refuse, refuse_frame, call, disconnect, enquire, oldest, goodbye, gone, high, taken_count}

-- a frame to the peer, without repeaters
abbrev pub frame_to_peer : LinkEnd → KindValue → Bool → Bool → FrameValue
frame_to_peer end kind poll command =
    record { dest = end.peer; src = end.me; via = 0; kind = kind; poll = poll; command = command }

abbrev pub command_to_peer : LinkEnd → KindValue → Bool → FrameValue
command_to_peer end kind poll = frame_to_peer end kind poll true

abbrev pub response_to_peer : LinkEnd → KindValue → Bool → FrameValue
response_to_peer end kind poll = frame_to_peer end kind poll false

-- the receive sequence number N(R): how many pieces were accepted, modulo m (2.3.2.4)
abbrev pub receive_number : Window → LinkEnd → ℕ
receive_number w end = taken_count end % w.modulus

-- the protocol identifier of an I frame: no layer 3 protocol (2.2.4)
abbrev pub no_protocol : ℕ
no_protocol = 0xF0

-- the piece at this place of those sent
abbrev pub piece_at : LinkEnd → ℕ → List ℕ
piece_at end place = unwrap_or (slice_get end.sent place) []

-- The I frame that carries this piece, which is at this place of those sent. It shows the place, modulo m, as N(S)
-- (2.3.2.4, 2.3.4.1).
abbrev pub information_of : Window → LinkEnd → ℕ → List ℕ → Bool → FrameValue
information_of w end place piece poll =
    command_to_peer end
    (record { control = control.I (place % w.modulus) (receive_number w end); pid = no_protocol ∷ []; information = piece }) poll

-- the I frame of a piece that was sent
abbrev pub information_again : Window → LinkEnd → ℕ → Bool → FrameValue
information_again w end place poll = information_of w end place (piece_at end place) poll

-- the information of FRMR: the refused control octet; V(S), whether a response was refused, V(R); bit Z, for a bad N(R)
-- (2.3.4.3.3)
abbrev pub refusal_octets : Window → LinkEnd → FrameValue → List ℕ
refusal_octets w end frame =
    control_octet frame.kind.control frame.poll
    ∷ (2 * (high end % w.modulus) + 16 * bit (not frame.command) + 32 * receive_number w end)
    ∷ 0x08 ∷ []

-- the frame of a reply
abbrev pub frame_of_reply : Window → LinkEnd → Reply → FrameValue
frame_of_reply w end (ready poll) = response_to_peer end (bare_value (control.Rr (receive_number w end))) poll
frame_of_reply w end (reject poll) = response_to_peer end (bare_value (control.Rej (receive_number w end))) poll
frame_of_reply w end (accept poll) = response_to_peer end (bare_value control.Ua) poll
frame_of_reply w end (refuse poll) = response_to_peer end (bare_value control.Dm) poll
frame_of_reply w end (refuse_frame octets poll) =
    response_to_peer end (record { control = control.Frmr; pid = []; information = octets }) poll
frame_of_reply w end call = command_to_peer end (bare_value control.Sabm) true
frame_of_reply w end disconnect = command_to_peer end (bare_value control.Disc) true
frame_of_reply w end enquire = command_to_peer end (bare_value (control.Rr (receive_number w end))) true
frame_of_reply w end oldest = information_again w end end.acked true

-- the frame of an end that hangs up
abbrev pub frame_of_farewell : LinkEnd → Farewell → FrameValue
frame_of_farewell end goodbye = command_to_peer end (bare_value control.Disc) true
frame_of_farewell end gone = response_to_peer end (bare_value control.Dm) false
