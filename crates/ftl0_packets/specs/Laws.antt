-- Laws of packets and their stream.
use Rattle.std.specs.Prelude.{◌≡◌, ◌≢◌, ℕ, List, [], ◌∷◌, ◌++◌, map, Ok}
use Rattle.std.specs.List.{AllByRecursion}
use Rattle.px_base.specs.Octets.{IsFront, IsOctets}
use Rattle.ftl0_packets.specs.Items.{texts}
use Rattle.ftl0_packets.specs.Layout.{PacketValue, Fits, packet_text, Item, PacketText}
use Rattle.ftl0_packets.specs.Reading.{packets_of, rest_of}
use Rattle.ftl0_packets.specs.Stream.{Stream}

-- any octets are a stream, of the packets and the rest that reading them gives
abbrev pub IsReadAsStream : Type 0
IsReadAsStream =
    (octets : List ℕ) → IsOctets octets → Stream octets (packets_of octets) (rest_of octets)

-- the same octets are a stream in no other way
abbrev pub IsOneStream : Type 0
IsOneStream =
    (octets : List ℕ) (items others : List Item) (rest left : List ℕ) → Stream octets items rest → Stream octets others left
    → (items ≡ others) × (rest ≡ left)

-- No packet's text begins another's, whatever follows, and a text says one packet.
abbrev pub IsOneText : Type 0
IsOneText =
    (a b : Item) (x y p q : List ℕ) → PacketText a x → PacketText b y → x ++ p ≡ y ++ q → (x ≡ y) × (a ≡ b)

-- a packet that was written is read again first, whatever follows
abbrev pub IsReadAgain : Type 0
IsReadAgain =
    (packet : PacketValue) (later : List ℕ) → Fits packet → packets_of (packet_text packet ++ later) ≡ Ok packet ∷ packets_of later

-- the rest is a proper front of the next packet's text, or no octets where no packet is left
abbrev pub IsRestBefore : List PacketValue → List ℕ → Type 0
IsRestBefore [] rest = rest ≡ []
IsRestBefore (packet ∷ later) rest = (more : List ℕ) × (packet_text packet ≡ rest ++ more) × (more ≢ [])

-- A front of the texts of packets is read as the first of them, and then a rest that is less than the next one's text.
pub record ReadsFront (packets : List PacketValue) (front : List ℕ) : Type 0 where
  pub first : List PacketValue
  pub later : List PacketValue
  pub packets_are : packets ≡ first ++ later
  pub read : packets_of front ≡ map Ok first
  pub text : front ≡ texts first ++ rest_of front
  pub rest : IsRestBefore later (rest_of front)

abbrev pub FrontLaw : Type 0
FrontLaw =
    (packets : List PacketValue) (front : List ℕ) → AllByRecursion Fits packets → IsFront front (texts packets)
    → ReadsFront packets front

-- octets that come in two parts are read as the first part, and then as its rest with the second part behind it
abbrev pub IsReadInParts : Type 0
IsReadInParts =
    (octets others : List ℕ) → IsOctets (octets ++ others)
    → (packets_of (octets ++ others) ≡ packets_of octets ++ packets_of (rest_of octets ++ others))
    × (rest_of (octets ++ others) ≡ rest_of (rest_of octets ++ others))
