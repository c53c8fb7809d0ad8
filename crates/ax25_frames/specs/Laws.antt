-- Laws of frames and their octets.
use Rattle.std.specs.Prelude.{◌≡◌, ◌⊎◌, List, ℕ}
use Rattle.ax25_frames.specs.declared.frame.FrameFault.{FrameFault}
use Rattle.px_base.specs.Octets.{IsOctets}
use Rattle.ax25_frames.specs.FrameText.{FrameValue, IsFrame, FrameText, canonical}
use Rattle.ax25_frames.specs.Faults.{FaultAt}

-- no octets are those of two frames
abbrev pub IsOneFrame : Type 0
IsOneFrame = (one other : FrameValue) (octets : List ℕ) → FrameText one octets → FrameText other octets → one ≡ other

-- the canonical text of a frame without repeaters is a text of it
abbrev pub IsCanonical : Type 0
IsCanonical = (frame : FrameValue) → IsFrame frame → frame.via ≡ 0 → FrameText frame (canonical frame)

-- no frame has octets that have a fault
abbrev pub IsNoFrame : Type 0
IsNoFrame = (fault : FrameFault) (octets : List ℕ) (frame : FrameValue) → FaultAt fault octets → FrameText frame octets → ⊥

-- octets have one fault at most
abbrev pub IsOneFault : Type 0
IsOneFault = (one other : FrameFault) (octets : List ℕ) → FaultAt one octets → FaultAt other octets → one ≡ other

-- octets are those of some frame, or have a fault
abbrev pub IsFrameOrFault : Type 0
IsFrameOrFault =
    (octets : List ℕ) → IsOctets octets → ((frame : FrameValue) × FrameText frame octets) ⊎ ((fault : FrameFault) × FaultAt fault octets)
