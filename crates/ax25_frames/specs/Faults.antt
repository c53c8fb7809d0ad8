-- The first fault, from left to right, of octets that no frame has.
use Rattle.std.specs.Prelude.{◌≡◌, ℕ, ◌+◌, ◌*◌, ◌<◌, ◌≤◌, List, ◌++◌, length, take, slice_index}
use Rattle.ax25_frames.specs.declared.frame.FrameFault.{FrameFault}
use Rattle.ax25_frames.specs.declared.frame.FrameFault.TheVariants.{Short, BadAddress, TooManyAddresses, BadControl, LongInfo}
use Rattle.ax25_frames.specs.Kinds.{Fields}
use Rattle.ax25_frames.specs.Addresses.{BeginsUnended, IsAddressField}
use Rattle.ax25_frames.specs.FrameText.{FrameValue, FrameText}

-- these octets can be completed to those of some frame
abbrev pub BeginsFrame : List ℕ → Type 0
BeginsFrame front = (frame : FrameValue) × (rest : List ℕ) × FrameText frame (front ++ rest)

-- The octets before this place can be completed to those of some frame, and with the octet there they can't.
pub record FailsAt (octets : List ℕ) (at : ℕ) : Type 0 where
  pub inside : at < length octets
  pub begins : BeginsFrame (take at octets)
  pub ends : BeginsFrame (take (at + 1) octets) → ⊥

-- this place is in an address entry, before which fewer than ten entries stand, none with the end bit (2.2.13)
abbrev pub IsInAddresses : List ℕ → ℕ → Type 0
IsInAddresses octets at = (n : ℕ) × BeginsUnended octets n × (n < 10) × (7 * n ≤ at) × (at < 7 * n + 7)

-- What the first fault is. Short: the octets can be completed, and no frame has them as they are (2.2). BadAddress: an
-- address entry fails, but not by the end bit that the tenth entry, whose last octet is at place 69, must have (2.2.13).
-- TooManyAddresses: ten entries without the end bit (2.2.13.2). BadControl: the octet after the address field fails
-- (2.3.2). LongInfo: the octets are some frame's, but for their information, which is too long (2.3.4, 2.4.7.3).
abbrev pub FaultAt : FrameFault → List ℕ → Type 0
FaultAt (Short at) octets =
    (at ≡ length octets) × BeginsFrame octets × ((frame : FrameValue) → FrameText frame octets → ⊥)
FaultAt (BadAddress at) octets = FailsAt octets at × IsInAddresses octets at × (at < 69)
FaultAt TooManyAddresses octets = BeginsUnended octets 10 × (BeginsFrame (take 70 octets) → ⊥)
FaultAt (BadControl octet) octets =
    (at : ℕ) × FailsAt octets at × IsAddressField (take at octets) × (slice_index octets at ≡ octet)
FaultAt (LongInfo len) octets =
    (frame : FrameValue) × (front info : List ℕ) × FrameText frame (front ++ frame.kind.information)
    × (octets ≡ front ++ info) × (len ≡ length info) × (BeginsFrame octets → ⊥)

-- How octets fail that are to be these fields, up to the frame's end: they end too early, or there are too many.
abbrev pub IsRestFault : Fields → List ℕ → ℕ → FrameFault → Type 0
IsRestFault fields rest end (Short at) = (at ≡ end) × (length rest < fields.pids + fields.least)
IsRestFault fields rest end (BadAddress at) = ⊥
IsRestFault fields rest end TooManyAddresses = ⊥
IsRestFault fields rest end (BadControl octet) = ⊥
IsRestFault fields rest end (LongInfo len) = (fields.pids + fields.most < length rest) × (len + fields.pids ≡ length rest)
