-- The stream of packets in a connection's octets (FTL0 1990: packets follow one another without a break).
use Rattle.std.specs.Prelude.{◌≡◌, List, [], ◌∷◌, ◌++◌, ℕ}
use Rattle.ftl0_packets.specs.Layout.{Item, PacketText}

-- less than a whole packet: no packet's text begins these octets
abbrev pub IsPartial : List ℕ → Type 0
IsPartial rest = (item : Item) (text more : List ℕ) → PacketText item text → rest ≡ text ++ more → ⊥

-- the octets are the texts of these packets, one after another, and then less than a whole packet
abbrev pub Stream : List ℕ → List Item → List ℕ → Type 0
Stream octets [] rest = (octets ≡ rest) × IsPartial rest
Stream octets (item ∷ items) rest =
    (text : List ℕ) × (more : List ℕ) × PacketText item text × (octets ≡ text ++ more) × Stream more items rest
