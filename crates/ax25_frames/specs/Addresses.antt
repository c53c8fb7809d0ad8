-- The address field (AX.25 2.0, 2.2.13): destination, source and up to eight repeaters, seven octets each.
use Rattle.std.specs.Prelude.{◌≡◌, ℕ, ◌+◌, ◌*◌, ◌<◌, ◌≤◌, List, [], ◌∷◌, ◌++◌, length, map, Bool, true, false}
use Rattle.std.specs.List.{AllByRecursion}
use Rattle.px_base.specs.CallSign.{CallSign, IsCall}
use Rattle.ax25_frames.specs.Kinds.{bit}

-- an entry: its call, bits 5 and 6 of its SSID octet, which are reserved, and bit 7, which is the C bit of destination
-- and source (2.4.1.2) and the H bit of a repeater (2.2.13.2)
pub record Entry : Type 0 where
  pub call : CallSign
  pub reserved : ℕ
  pub c_or_h_bit : Bool

pub record IsEntry (entry : Entry) : Type 0 where
  pub call : IsCall entry.call
  pub reserved : entry.reserved < 4

-- an entry as it is sent, with its reserved bits 1 (2.2.13.1.1)
abbrev pub sent_entry : CallSign → Bool → Entry
sent_entry call c_or_h_bit = record { call = call; reserved = 3; c_or_h_bit = c_or_h_bit }

-- the six characters, each shifted left by one (2.2.13.1)
abbrev pub character_octets : CallSign → List ℕ
character_octets call = map (λ c. 2 * c) call.chars

-- the SSID octet: the end bit in bit 0, the SSID in bits 1 to 4, the reserved bits, the C or H bit (2.2.13.1.1)
abbrev pub ssid_octet : Bool → Entry → ℕ
ssid_octet end entry = bit end + 2 * entry.call.ssid + 32 * entry.reserved + 128 * bit entry.c_or_h_bit

-- the seven octets of an entry, with its end bit
abbrev pub entry_octets : Bool → Entry → List ℕ
entry_octets end entry = character_octets entry.call ++ ssid_octet end entry ∷ []

-- whether no entry follows
abbrev pub is_none : List Entry → Bool
is_none [] = true
is_none (entry ∷ entries) = false

-- entries one after another; the last has the end bit, and no other has it (2.2.13)
abbrev pub address_field : List Entry → List ℕ
address_field [] = []
address_field (entry ∷ entries) = entry_octets (is_none entries) entry ++ address_field entries

-- entries one after another, none of them with the end bit
abbrev pub unended : List Entry → List ℕ
unended [] = []
unended (entry ∷ entries) = entry_octets false entry ++ unended entries

abbrev pub AreEntries : List Entry → Type 0
AreEntries entries = AllByRecursion IsEntry entries

-- the octets begin with so many entries, none of them with the end bit
abbrev pub BeginsUnended : List ℕ → ℕ → Type 0
BeginsUnended octets n =
    (entries : List Entry) × (rest : List ℕ) × AreEntries entries × (length entries ≡ n) × (octets ≡ unended entries ++ rest)

-- these octets are a whole address field: two to ten entries
abbrev pub IsAddressField : List ℕ → Type 0
IsAddressField octets =
    (entries : List Entry) × AreEntries entries × (2 ≤ length entries) × (length entries ≤ 10) × (octets ≡ address_field entries)
