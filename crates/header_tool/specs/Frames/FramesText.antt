-- The text of recorded KISS text: one line for each of its parts.
use Rattle.std.specs.Prelude.{◌≡◌, ◌⊎◌, ℕ, List, [], ◌∷◌, ◌++◌, codes}
use Rattle.kiss.specs.declared.whole.Part.{Part}
use Rattle.kiss.specs.declared.whole.Part.TheVariants.{Frame, Dropped, Passed}
use Rattle.kiss.specs.KissText.{kiss_parts}
use Rattle.ax25_frames.specs.declared.frame.FrameFault.{FrameFault}
use Rattle.ax25_frames.specs.FrameText.{FrameValue, FrameText}
use Rattle.ax25_frames.specs.Faults.{FaultAt}
use Rattle.header_tool.specs.Frames.FrameLine.{frame_line, fault_line}

-- the octet that ends a line
abbrev pub line_feed : ℕ
line_feed = 10

-- a frame has these octets, and this is its line
abbrev pub IsFrameLine : List ℕ → List ℕ → Type 0
IsFrameLine octets line = (frame : FrameValue) × FrameText frame octets × (line ≡ frame_line frame)

-- these octets have a fault, and this is its line
abbrev pub IsFaultLine : List ℕ → List ℕ → Type 0
IsFaultLine octets line = (fault : FrameFault) × FaultAt fault octets × (line ≡ fault_line fault)

-- this is the line of the part, without its line feed
abbrev pub LineOf : Part → List ℕ → Type 0
LineOf (Frame octets) line = IsFrameLine octets line ⊎ IsFaultLine octets line
LineOf Dropped line = line ≡ codes "dropped"
LineOf Passed line = line ≡ codes "passed"

-- the lines of these parts in order, each ended by a line feed, joined
abbrev pub LinesOf : List Part → List ℕ → Type 0
LinesOf [] text = text ≡ []
LinesOf (part ∷ parts) text =
    (line rest : List ℕ) × LineOf part line × LinesOf parts rest × (text ≡ line ++ line_feed ∷ rest)

-- this is the text of the recorded octets
abbrev pub FramesText : List ℕ → List ℕ → Type 0
FramesText recorded text = LinesOf (kiss_parts recorded) text
