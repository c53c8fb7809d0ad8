-- The line of a frame, and of octets that no frame has.
use Rattle.std.specs.Prelude.{ℕ, List, [], ◌∷◌, ◌++◌, length, codes, decimal, Bool, if◌then◌else◌, ◌==◌}
use Rattle.px_base.specs.CallSign.{call_text}
use Rattle.ax25_frames.specs.declared.control.Control.{Control}
use Rattle.ax25_frames.specs.declared.control.Control.TheVariants.{I, Rr, Rnr, Rej, Sabm, Disc, Dm, Ua, Frmr, Ui}
use Rattle.ax25_frames.specs.declared.frame.FrameFault.{FrameFault}
use Rattle.ax25_frames.specs.declared.frame.FrameFault.TheVariants.{Short, BadAddress, TooManyAddresses, BadControl, LongInfo}
use Rattle.ax25_frames.specs.Kinds.{KindValue, fields_of, kind_row}
use Rattle.ax25_frames.specs.FrameText.{FrameValue}

-- the letters of a kind of frame (AX.25 2.0, 2.3.4)
abbrev pub kind_name : Control → List ℕ
kind_name (I ns nr) = codes "I"
kind_name (Rr nr) = codes "RR"
kind_name (Rnr nr) = codes "RNR"
kind_name (Rej nr) = codes "REJ"
kind_name Sabm = codes "SABM"
kind_name Disc = codes "DISC"
kind_name Dm = codes "DM"
kind_name Ua = codes "UA"
kind_name Frmr = codes "FRMR"
kind_name Ui = codes "UI"

-- the sequence numbers that a kind has: none, N(R), or N(S) and N(R) (2.3.2)
abbrev pub numbers_text : List ℕ → List ℕ
numbers_text [] = []
numbers_text (nr ∷ []) = codes " nr=" ++ decimal nr
numbers_text (ns ∷ nr ∷ more) = codes " ns=" ++ decimal ns ++ codes " nr=" ++ decimal nr

-- those of a kind of frame
abbrev pub sequence_text : KindValue → List ℕ
sequence_text kind = numbers_text (kind_row kind.control).numbers

-- how many octets of information there are, in the kinds that have a PID: I and UI (2.2.4, 2.2.5)
abbrev pub length_text : KindValue → List ℕ
length_text kind = if (fields_of kind.control).pids == 0 then [] else codes " len=" ++ decimal (length kind.information)

-- the P/F bit (2.3.3)
abbrev pub poll_text : Bool → List ℕ
poll_text poll = if poll then codes " pf=1" else codes " pf=0"

-- whether the frame is a command or a response (2.4.1.2)
abbrev pub command_text : Bool → List ℕ
command_text command = if command then codes " c" else codes " r"

-- the line of a frame: source, destination, kind, sequence numbers, P/F bit, command or response, length of the information
abbrev pub frame_line : FrameValue → List ℕ
frame_line frame =
    call_text frame.src ++ codes ">" ++ call_text frame.dest ++ codes " " ++ kind_name frame.kind.control
    ++ sequence_text frame.kind ++ poll_text frame.poll ++ command_text frame.command ++ length_text frame.kind

-- the line of octets that no frame has, by their fault
abbrev pub fault_line : FrameFault → List ℕ
fault_line (Short at) = codes "fault short"
fault_line (BadAddress at) = codes "fault address"
fault_line TooManyAddresses = codes "fault addresses"
fault_line (BadControl octet) = codes "fault control"
fault_line (LongInfo len) = codes "fault info"
