-- Station calls (AX.25 2.0, 2.2.13): one to six upper-case letters and digits, and a secondary station
-- identifier (SSID) from 0 to 15.
use Rattle.std.specs.Prelude.{◌≡◌, ◌==◌, ℕ, ◌+◌, ◌-◌, ◌≤◌, ◌<◌, ◌⊎◌, List, [], ◌∷◌, ◌++◌, length, take, All, filter, replicate, Bool, not, ◌&&◌, ◌||◌, nat_le, nat_lt, if◌then◌else◌, IsTrue}
use Rattle.std.specs.List.{prefix_len}

-- what contracts see of a call: the characters, padded with blanks to six, and the SSID
pub record CallSign : Type 0 where
  pub chars : List ℕ
  pub ssid : ℕ

-- an upper-case letter or a digit
abbrev pub is_call_char : ℕ → Bool
is_call_char c = (nat_le 65 c && nat_le c 90) || (nat_le 48 c && nat_le c 57)

-- the characters of a call before its padding
abbrev pub IsBase : List ℕ → Type 0
IsBase base = (1 ≤ length base) × (length base ≤ 6) × All (λ c. IsTrue (is_call_char c)) base

-- six characters: some base, padded with blanks
abbrev pub padded : List ℕ → List ℕ
padded base = base ++ replicate (6 - length base) 32

-- these are the characters of a call
abbrev pub IsSpelled : List ℕ → Type 0
IsSpelled chars = (base : List ℕ) × IsBase base × (chars ≡ padded base)

-- a valid call
pub record IsCall (call : CallSign) : Type 0 where
  pub spelled : IsSpelled call.chars
  pub in_range : call.ssid ≤ 15

-- a number from 0 to 15 in decimal digits, without a leading zero
abbrev pub ssid_digits : ℕ → List ℕ
ssid_digits n = if nat_lt n 10 then (48 + n) ∷ [] else 49 ∷ (38 + n) ∷ []

-- This text is the call: the base, then the SSID after a hyphen, which may be left out where it is 0.
abbrev pub CallText : CallSign → List ℕ → Type 0
CallText call text =
    (base : List ℕ) × IsBase base × (call.chars ≡ padded base) × (call.ssid ≤ 15)
    × ((text ≡ base ++ 45 ∷ ssid_digits call.ssid) ⊎ ((call.ssid ≡ 0) × (text ≡ base)))

-- these octets begin the text of some call
abbrev pub BeginsCall : List ℕ → Type 0
BeginsCall front = (call : CallSign) × (rest : List ℕ) × CallText call (front ++ rest)

-- The text is no call, and its longest prefix that begins the text of some call has this length.
pub record FailsAt (text : List ℕ) (at : ℕ) : Type 0 where
  pub none : (call : CallSign) → CallText call text → ⊥
  pub begins : BeginsCall (take at text)
  pub inside : at ≤ length text
  pub longest : (n : ℕ) → at < n → n ≤ length text → BeginsCall (take n text) → ⊥

-- Each text is the text of at most one call.
abbrev pub OneCall : Type 0
OneCall =
    (text : List ℕ) (one other : CallSign) → CallText one text → CallText other text
    → (one.chars ≡ other.chars) × (one.ssid ≡ other.ssid)

-- a character that isn't a blank
abbrev pub is_no_blank : ℕ → Bool
is_no_blank c = not (c == 32)

-- a hyphen and the SSID, or nothing where it is 0
abbrev pub ssid_text : ℕ → List ℕ
ssid_text ssid = if ssid == 0 then [] else 45 ∷ ssid_digits ssid

-- the text of a call in which an SSID of 0 is left out
abbrev pub call_text : CallSign → List ℕ
call_text call = filter is_no_blank call.chars ++ ssid_text call.ssid

-- how many letters and digits a text begins with, at most six
abbrev pub base_length : List ℕ → ℕ
base_length text = prefix_len is_call_char (take 6 text)

-- the part of a call's text that gives its SSID: a hyphen and the number, or nothing where it is 0
abbrev pub SsidText : ℕ → List ℕ → Type 0
SsidText ssid text = (ssid ≤ 15) × ((text ≡ 45 ∷ ssid_digits ssid) ⊎ ((ssid ≡ 0) × (text ≡ [])))

-- these octets begin the text of some SSID
abbrev pub BeginsSsid : List ℕ → Type 0
BeginsSsid front = (ssid : ℕ) × (rest : List ℕ) × SsidText ssid (front ++ rest)

-- The text's longest prefix that begins the text of some SSID has this length.
pub record ReachesInSsid (text : List ℕ) (reach : ℕ) : Type 0 where
  pub begins : BeginsSsid (take reach text)
  pub inside : reach ≤ length text
  pub longest : (n : ℕ) → reach < n → n ≤ length text → BeginsSsid (take n text) → ⊥
