-- How octets are read as address entries (AX.25 2.0, 2.2.13).
use Rattle.std.specs.Prelude.{◌≡◌, ℕ, ◌+◌, ◌-◌, ◌*◌, ◌/◌, ◌%◌, ◌≤◌, ◌==◌, List, ◌∷◌, ◌++◌, length, take, drop, Bool, ◌&&◌, if◌then◌else◌}
use Rattle.std.specs.List.{prefix_len}
use Rattle.px_base.specs.CallSign.{CallSign, is_call_char}
use Rattle.ax25_frames.specs.Addresses.{Entry, IsEntry, AreEntries, address_field, entry_octets}

-- an upper-case letter or a digit, shifted left by one
abbrev pub is_character : ℕ → Bool
is_character octet = (octet % 2 == 0) && is_call_char (octet / 2)

-- a blank, shifted left by one
abbrev pub is_blank : ℕ → Bool
is_blank octet = octet == 64

-- how many letters and digits stand at the front, at most six
abbrev pub run_length : List ℕ → ℕ
run_length octets = prefix_len is_character (take 6 octets)

-- how many octets at the front begin the characters of some entry, at most six
unfoldable pub characters_begun : List ℕ → ℕ
characters_begun octets =
    if run_length octets == 0 then 0
    else run_length octets + prefix_len is_blank (take (6 - run_length octets) (drop (run_length octets) octets))

-- the entry after so many entries has this call, bit 7 and end bit
abbrev pub EntryAt : List ℕ → ℕ → CallSign → Bool → Bool → Type 0
EntryAt octets n call c_or_h_bit end =
    (entry : Entry) × (rest : List ℕ) × IsEntry entry × (entry.call ≡ call) × (entry.c_or_h_bit ≡ c_or_h_bit)
    × (drop (7 * n) octets ≡ entry_octets end entry ++ rest)

-- so many repeater entries, the last with the end bit, follow destination and source
abbrev pub RepeatersAt : List ℕ → ℕ → Type 0
RepeatersAt octets via =
    (repeaters : List Entry) × (rest : List ℕ) × AreEntries repeaters × (length repeaters ≡ via)
    × (drop 14 octets ≡ address_field repeaters ++ rest)

-- The octets begin with an address field, of so many octets: destination with its C bit, source, and so many repeaters.
abbrev pub AddressesAt : List ℕ → CallSign → CallSign → ℕ → Bool → ℕ → Type 0
AddressesAt octets dest src via command len =
    (dest_entry src_entry : Entry) × (repeaters : List Entry) × IsEntry dest_entry × IsEntry src_entry × AreEntries repeaters
    × (dest_entry.call ≡ dest) × (dest_entry.c_or_h_bit ≡ command) × (src_entry.call ≡ src) × (length repeaters ≡ via) × (via ≤ 8)
    × (take len octets ≡ address_field (dest_entry ∷ src_entry ∷ repeaters)) × (len ≤ length octets)

-- The octets begin with an address field: destination with its C bit, source, and so many repeaters.
abbrev pub HasAddresses : List ℕ → CallSign → CallSign → ℕ → Bool → Type 0
HasAddresses octets dest src via command = AddressesAt octets dest src via command (14 + 7 * via)
