-- A call as seven octets: its six characters, then its SSID (AX.25 2.0, 2.2.13).
use Rattle.std.specs.Prelude.{◌≡◌, ◌↔◌, ℕ, ◌==◌, List, [], ◌∷◌, ◌++◌, length, take, drop, slice_index, Bool, ◌&&◌, nat_le, if◌then◌else◌, Option, None, Some}
use Rattle.std.specs.List.{list_all, prefix_len}
use Rattle.px_base.specs.CallSign.{CallSign, IsCall, is_call_char}

-- the octets of a call
abbrev pub call_octets : CallSign → List ℕ
call_octets call = call.chars ++ call.ssid ∷ []

-- how many letters and digits these characters begin with
abbrev pub base_count : List ℕ → ℕ
base_count chars = prefix_len is_call_char chars

-- whether all of these are blanks
abbrev pub are_blanks : List ℕ → Bool
are_blanks chars = list_all (λ c. c == 32) chars

-- whether six characters are those of a call: at least one letter or digit, and then blanks alone
abbrev pub is_spelled : List ℕ → Bool
is_spelled chars = nat_le 1 (base_count chars) && are_blanks (drop (base_count chars) chars)

-- the call with these characters and this SSID
abbrev pub call_of : List ℕ → ℕ → CallSign
call_of chars ssid = record { chars = chars; ssid = ssid }

-- the call that the octets write, if they write one
unfoldable pub call_in : List ℕ → Option CallSign
call_in octets =
    if (length octets == 7) && is_spelled (take 6 octets) && nat_le (slice_index octets 6) 15
    then Some (call_of (take 6 octets) (slice_index octets 6))
    else None

-- octets are read as a call exactly where they are its octets
abbrev pub CallOctetsLaw : Type 0
CallOctetsLaw =
    (octets : List ℕ) (call : CallSign) → (call_in octets ≡ Some call) ↔ (IsCall call × (octets ≡ call_octets call))
