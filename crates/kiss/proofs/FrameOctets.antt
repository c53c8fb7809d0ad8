-- The octets of the frames in octets are octets.
use Rattle.std.proofs.Common.{ℕ, ◌<◌, Bool, true, false, List, [], ◌∷◌, map, drop, arith}
use Rattle.std.specs.Prelude.{◌==◌, nat_lt, Option, None, Some, ⊤, if◌then◌else◌}
use Rattle.kiss.proofs.Names.{AllByRecursion, filter, onto_first, slice_split, All-from_recursion, recursion_from_All, Frame, Dropped, Passed, but_last, data_on_port_0, fend, fesc, has_octets, is_fend, kiss_parts, most_octets, part_of, part_of_text, pieces, tfend, tfesc, unescape, with_front, HasOctets, FramesHaveOctets}

-- the fact by recursion on the list
abbrev AreOctets : List ℕ → Type 0
AreOctets octets = AllByRecursion (λ octet. octet < 256) octets

-- what holds of both holds of the one that is chosen
either : {A : Type 0} (P : A → Type 0) (b : Bool) (x y : A) → P x → P y → P (if b then x else y)
either P true x y h k = h
either P false x y h k = k

onto_octets : (x : ℕ) (parts : List (List ℕ)) → x < 256 → AllByRecursion AreOctets parts → AllByRecursion AreOctets (onto_first x parts)
onto_octets x [] h k = ((h, tt), tt)
onto_octets x (part ∷ parts) h k = ((h, k.0), k.1)

split_octets : (octets : List ℕ) → AreOctets octets → AllByRecursion AreOctets (slice_split is_fend octets)
split_octets [] h = (tt, tt)
split_octets (x ∷ xs) h =
    let rest = split_octets xs h.1 in
    either (AllByRecursion AreOctets) (is_fend x) ([] ∷ slice_split is_fend xs) (onto_first x (slice_split is_fend xs))
    (tt, rest) (onto_octets x (slice_split is_fend xs) h.0 rest)

after_first : (parts : List (List ℕ)) → AllByRecursion AreOctets parts → AllByRecursion AreOctets (drop 1 parts)
after_first [] h = tt
after_first (part ∷ parts) h = h.1

all_but_last : (parts : List (List ℕ)) → AllByRecursion AreOctets parts → AllByRecursion AreOctets (but_last parts)
all_but_last [] h = tt
all_but_last (part ∷ []) h = tt
all_but_last (part ∷ next ∷ parts) h = (h.0, all_but_last (next ∷ parts) h.1)

kept : (parts : List (List ℕ)) → AllByRecursion AreOctets parts → AllByRecursion AreOctets (filter has_octets parts)
kept [] h = tt
kept (part ∷ parts) h =
    let rest = kept parts h.1 in
    either (AllByRecursion AreOctets) (has_octets part) (part ∷ filter has_octets parts) (filter has_octets parts) (h.0, rest) rest

-- where octets were read, they are octets
abbrev ReadsOctets : Option (List ℕ) → Type 0
ReadsOctets None = ⊤
ReadsOctets (Some octets) = AreOctets octets

front_octets : (octet : ℕ) (read : Option (List ℕ)) → octet < 256 → ReadsOctets read → ReadsOctets (with_front octet read)
front_octets octet None h k = tt
front_octets octet (Some octets) h k = (h, k)

unescaped_octets : (piece : List ℕ) → AreOctets piece → ReadsOctets (unescape piece)
unescaped_octets [] h = tt
unescaped_octets (octet ∷ []) h = either ReadsOctets (octet == fesc) None (Some (octet ∷ [])) tt h
unescaped_octets (octet ∷ next ∷ rest) h =
    let two = unescaped_octets rest h.1.1 in
    let one = unescaped_octets (next ∷ rest) h.1 in
    either ReadsOctets (octet == fesc) _ (with_front octet (unescape (next ∷ rest)))
    (either ReadsOctets (next == tfend) (with_front fend (unescape rest)) _ (front_octets fend (unescape rest) (omega arith) two)
    (either ReadsOctets (next == tfesc) (with_front fesc (unescape rest)) None (front_octets fesc (unescape rest) (omega arith) two) tt))
    (front_octets octet (unescape (next ∷ rest)) h.0 one)

text_octets : (text : List ℕ) → AreOctets text → HasOctets (part_of_text text)
text_octets [] h = tt
text_octets (kind ∷ octets) h =
    either HasOctets (nat_lt most_octets _) Dropped _ tt (either HasOctets (kind == data_on_port_0) (Frame octets) Passed (All-from_recursion (λ octet. octet < 256) octets h.1) tt)

part_octets : (read : Option (List ℕ)) → ReadsOctets read → HasOctets (part_of read)
part_octets None h = tt
part_octets (Some text) h = text_octets text h

parts_octets : (pieces : List (List ℕ)) → AllByRecursion AreOctets pieces → AllByRecursion HasOctets (map (λ piece. part_of (unescape piece)) pieces)
parts_octets [] h = tt
parts_octets (piece ∷ pieces) h = (part_octets (unescape piece) (unescaped_octets piece h.0), parts_octets pieces h.1)

pub frames_have_octets : FramesHaveOctets
unfolding kiss_parts
frames_have_octets octets h =
    let split = split_octets octets (recursion_from_All (λ octet. octet < 256) octets h) in
    All-from_recursion HasOctets (kiss_parts octets) (parts_octets (pieces octets) (kept _ (all_but_last _ (after_first _ split))))
