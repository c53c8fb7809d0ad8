-- Frames and their octets (AX.25 2.0, section 2).
use Rattle.std.specs.Prelude.{◌≡◌, ℕ, ◌<◌, ◌≤◌, List, [], ◌∷◌, ◌++◌, length, Bool, not}
use Rattle.px_base.specs.CallSign.{CallSign, IsCall}
use Rattle.ax25_frames.specs.Kinds.{KindValue, FitsKind, kind_octets}
use Rattle.ax25_frames.specs.Addresses.{Entry, AreEntries, address_field}

-- a frame without where its octets lie: its calls, the number of its repeaters, its kind, P/F bit and destination's C bit
pub record FrameValue : Type 0 where
  pub dest : CallSign
  pub src : CallSign
  pub via : ℕ
  pub kind : KindValue
  pub poll : Bool
  pub command : Bool

-- valid calls, at most eight repeaters (2.2.13.2), and a kind whose fields have their ranges
pub record IsFrame (frame : FrameValue) : Type 0 where
  pub dest : IsCall frame.dest
  pub src : IsCall frame.src
  pub via : frame.via ≤ 8
  pub kind : FitsKind frame.kind

-- what a frame's octets have beside its value, and what is free: the reserved bits of destination and source, the
-- source's C bit, and the repeaters
pub record FreeBits : Type 0 where
  pub dest_reserved : ℕ
  pub src_reserved : ℕ
  pub src_c_bit : Bool
  pub repeaters : List Entry

pub record FitsFree (frame : FrameValue) (free : FreeBits) : Type 0 where
  pub dest_reserved : free.dest_reserved < 4
  pub src_reserved : free.src_reserved < 4
  pub repeaters : AreEntries free.repeaters
  pub via : length free.repeaters ≡ frame.via

-- the frame's address entries: destination, source and repeaters, in this order (2.2.13)
abbrev pub entries_of : FrameValue → FreeBits → List Entry
entries_of frame free =
    record { call = frame.dest; reserved = free.dest_reserved; c_or_h_bit = frame.command }
    ∷ record { call = frame.src; reserved = free.src_reserved; c_or_h_bit = free.src_c_bit }
    ∷ free.repeaters

-- the octets of the frame with these free bits (2.2)
abbrev pub frame_octets : FrameValue → FreeBits → List ℕ
frame_octets frame free = address_field (entries_of frame free) ++ kind_octets frame.kind frame.poll

-- the frame has these octets
pub record FrameText (frame : FrameValue) (octets : List ℕ) : Type 0 where
  pub fits : IsFrame frame
  pub free : FreeBits
  pub fits_free : FitsFree frame free
  pub text : octets ≡ frame_octets frame free

-- The text of a frame without repeaters as it is sent: reserved bits 1 (2.2.13.1.1), and the source's C bit the
-- opposite of the destination's, so 0 in a command and 1 in a response (2.4.1.2).
abbrev pub canonical : FrameValue → List ℕ
canonical frame =
    frame_octets frame (record { dest_reserved = 3; src_reserved = 3; src_c_bit = not frame.command; repeaters = [] })
