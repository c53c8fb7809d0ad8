-- Laws of KISS text.
use Rattle.std.specs.Prelude.{◌≡◌, ◌≤◌, ◌↔◌, ℕ, List, [], ◌∷◌, ◌++◌, length, map, Some, All, ⊤}
use Rattle.std.specs.List.{flat_map, AllByRecursion}
use Rattle.px_base.specs.Octets.{IsOctets}
use Rattle.kiss.specs.declared.whole.Part.{Part}
use Rattle.kiss.specs.declared.whole.Part.TheVariants.{Frame, Dropped, Passed}
use Rattle.kiss.specs.KissText.{most_octets, escape, unescape, kiss_text, kiss_parts, kiss_frames, from_last_fend, HasNoFend}

-- what is written for a frame is that frame and nothing else, whatever stands before its first FEND
abbrev pub ReadsBack : Type 0
ReadsBack = (before x : List ℕ) → HasNoFend before → length x ≤ most_octets → kiss_parts (before ++ kiss_text x) ≡ Frame x ∷ []

-- so is what is written for several frames, one after another
abbrev pub AllReadBack : Type 0
AllReadBack = (before : List ℕ) (xs : List (List ℕ)) → HasNoFend before → AllByRecursion (λ x. length x ≤ most_octets) xs
    → kiss_parts (before ++ flat_map kiss_text xs) ≡ map Frame xs

-- the frames alone
abbrev pub AllFramesReadBack : Type 0
AllFramesReadBack = (before : List ℕ) (xs : List (List ℕ)) → HasNoFend before → AllByRecursion (λ x. length x ≤ most_octets) xs
    → kiss_frames (before ++ flat_map kiss_text xs) ≡ xs

-- a piece without FEND is read as the octets that are escaped so, and as no others
abbrev pub EscapesOneWay : Type 0
EscapesOneWay = (piece text : List ℕ) → HasNoFend piece → (unescape piece ≡ Some text) ↔ (piece ≡ escape text)

-- the parts of octets stay, whatever comes later, and of what came only the octets from the last FEND on matter for what comes
abbrev pub PartsGoOn : Type 0
PartsGoOn = (octets later : List ℕ) → kiss_parts (octets ++ later) ≡ kiss_parts octets ++ kiss_parts (from_last_fend octets ++ later)

-- so do the frames
abbrev pub FramesGoOn : Type 0
FramesGoOn = (octets later : List ℕ) → kiss_frames (octets ++ later) ≡ kiss_frames octets ++ kiss_frames (from_last_fend octets ++ later)

-- a frame of octets, or another part
abbrev pub HasOctets : Part → Type 0
HasOctets (Frame octets) = IsOctets octets
HasOctets Dropped = ⊤
HasOctets Passed = ⊤

-- the frames in octets are of octets
abbrev pub FramesHaveOctets : Type 0
FramesHaveOctets = (octets : List ℕ) → IsOctets octets → All HasOctets (kiss_parts octets)
