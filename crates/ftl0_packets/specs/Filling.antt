-- What the reader's buffer holds.
use Rattle.std.specs.Prelude.{◌≡◌, ℕ, ◌≤◌, List, length}
use Rattle.px_base.specs.Octets.{IsOctets}
use Rattle.ftl0_packets.specs.Reading.{text_len}

-- no more octets than the packet has that they begin
pub record IsFilling (text : List ℕ) : Type 0 where
  pub within : length text ≤ text_len text
  pub octets : IsOctets text

-- these octets are of a packet, which has so many to its end
pub record IsBuffer (text : List ℕ) (text_end : ℕ) : Type 0 where
  pub filling : IsFilling text
  pub ends : text_end ≡ text_len text
