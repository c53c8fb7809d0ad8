-- Lemmas on the contents of records: their octets, and the numbers and calls in them.
use Rattle.std.proofs.Common.{◌≡◌, ℕ, ◌+◌, ◌-◌, ◌*◌, ◌/◌, ◌%◌, ◌^◌, ◌<◌, ◌≤◌, Bool, true, false, List, [], ◌∷◌, ◌++◌, length, take, drop, Option, None, Some, refl, sym, ◌∙◌, subst, arith, lit<, add-zero, length-drop}
use Rattle.std.specs.Prelude.{if◌then◌else◌}
use Rattle.px_base.specs.CallSign.{CallSign, IsCall}
use Rattle.px_base.specs.CallOctets.{call_octets}
use Rattle.file_journal.proofs.Names.{common_steps, replicate, slice_index, option_map, cases_lt, nat_tests, get_or-drop, get_or_past, All-append, All-cons, All-drop, All-from_recursion, All-nil, All-replicate, All-take, le32, le32_octets, IsOctets}

abbrev IsOctet : ℕ → Type 0
IsOctet n = n < 256

-- ---- octets

-- a part of octets is octets
pub octets_part : (octets : List ℕ) (i n : ℕ) → IsOctets octets → IsOctets (take n (drop i octets))
octets_part octets i n h = All-take IsOctet n (drop i octets) (All-drop IsOctet i octets h)

pub octets_drop : (octets : List ℕ) (i : ℕ) → IsOctets octets → IsOctets (drop i octets)
octets_drop octets i h = All-drop IsOctet i octets h

-- and so are two lists of them, one behind the other
pub octets_joined : (xs ys : List ℕ) → IsOctets xs → IsOctets ys → IsOctets (xs ++ ys)
octets_joined xs ys h g = All-append IsOctet xs ys h g

pub octets_one : (octet : ℕ) → octet < 256 → IsOctets (octet ∷ [])
octets_one octet below = All-cons IsOctet octet [] below (All-nil IsOctet)

pub octets_le32 : (n : ℕ) → IsOctets (le32_octets n)
octets_le32 n =
    All-from_recursion IsOctet (le32_octets n) (omega arith, (omega arith, (omega arith, (omega arith, tt))))

pub octets_call : (call : CallSign) → IsCall call → IsOctets (call_octets call)
octets_call call is =
    let base : List ℕ = is.spelled.0 in
    let base_octets : IsOctets base = λ k d below. grind (arith, nat_tests) in
    octets_joined call.chars (call.ssid ∷ [])
    (subst IsOctets (sym is.spelled.2)
    (octets_joined base (replicate (6 - length base) 32) base_octets
    (All-replicate IsOctet (6 - length base) 32 (lit< tt))))
    (octets_one call.ssid (omega (arith, is.in_range)))

-- the octet at any place, 0 past the end
pub octet_at : (octets : List ℕ) → IsOctets octets → (i : ℕ) → slice_index octets i < 256
octet_at octets h i = grind (arith, common_steps, cases_lt, get_or_past)

-- ---- numbers

pub le32_below : (octets : List ℕ) (at : ℕ) → IsOctets octets → le32 octets at < 2 ^ 32
le32_below octets at h = grind (arith, common_steps, octet_at)

four_octets : (a b c d : ℕ) → a < 256 → b < 256 → c < 256 → d < 256
    → le32_octets (a + 256 * b + 65536 * c + 16777216 * d) ≡ a ∷ b ∷ c ∷ d ∷ []
four_octets a b c d ha hb hc hd = grind (arith, common_steps)

-- the octets of a number that stands at the front are the first four
pub number_front : (octets : List ℕ) → IsOctets octets → 4 ≤ length octets
    → le32_octets (le32 octets 0) ≡ take 4 octets
number_front octets h some = grind (arith, common_steps, octet_at, four_octets)

le32_drop : (octets : List ℕ) (at : ℕ) → le32 (drop at octets) 0 ≡ le32 octets at
le32_drop octets at = simp (get_or-drop, add-zero)

-- and of one that stands further on
pub number_at : (octets : List ℕ) (at : ℕ) → IsOctets octets → at + 4 ≤ length octets
    → le32_octets (le32 octets at) ≡ take 4 (drop at octets)
number_at octets at h some = grind (arith, common_steps, le32_drop, number_front, octets_drop, length-drop)

-- ---- contents by their parts

pub four : (octets : List ℕ) → length octets ≡ 4 → octets ≡ take 4 octets
four octets same = grind (arith, common_steps)

pub eight : (octets : List ℕ) → length octets ≡ 8 → octets ≡ take 4 octets ++ take 4 (drop 4 octets)
eight octets same = grind (arith, common_steps)

-- ---- what is read where it passes a test

pub if_some : {C : Type 0} (b : Bool) (o : Option C) (command : C) → (if b then o else None) ≡ Some command
    → (b ≡ true) × (o ≡ Some command)
if_some true o command h = (refl, h)
if_some false o command h = absurd (cc)

pub map_some : {B C : Type 0} (f : B → C) (o : Option B) (command : C) → option_map f o ≡ Some command
    → (part : B) × (o ≡ Some part) × (command ≡ f part)
map_some f None command h = absurd (cc)
map_some f (Some part) command h = (part, refl, cc)
