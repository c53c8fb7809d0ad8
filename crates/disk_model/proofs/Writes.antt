-- What a write does to the octets of a disk.
use Rattle.std.proofs.Common.{◌≡◌, inl, inr, ℕ, ◌+◌, ◌-◌, ◌<◌, ◌≤◌, max, List, ◌++◌, length, get_or, take, drop, replicate, Fits, w8, ap, arith, rules}
use Rattle.disk_model.proofs.Names.{cases_lt, places, same_lists, ext_get_or, All-append, All-take, All-drop, All-from_get_or, All-replicate, IsOctets, Torn, Writes, write_over}

-- the octets as they are written: filled up with zeros, and then replaced
pub padded_write : (old : List ℕ) (at : ℕ) (octets : List ℕ) → take at (old ++ replicate (at + length octets - length old) 0) ++ octets ++ drop (at + length octets) (old ++ replicate (at + length octets - length old) 0) ≡ write_over old at octets
padded_write old at octets = same_lists _ _ (search (rules, places)) (λ k d h. grind (arith, places))

pub length-write_over : (old : List ℕ) (at : ℕ) (octets : List ℕ) → length (write_over old at octets) ≡ max (length old) (at + length octets)
length-write_over old at octets = search (rules, places)

pub get_or-write_over_outside : (old : List ℕ) (at : ℕ) (octets : List ℕ) (place : ℕ) → place < length old → ((at ≤ place) × (place < at + length octets) → ⊥) → get_or (write_over old at octets) place 0 ≡ get_or old place 0
get_or-write_over_outside old at octets place below outside = elim (cases_lt place at) [
  | inl front ↦ grind (arith, places)
  | inr rest ↦ elim (cases_lt place (at + length octets)) [
    | inl inside ↦ absurd (outside (rest, inside))
    | inr back ↦ grind (arith, places)
  ]
]

pub IsOctets-write_over : (old : List ℕ) (at : ℕ) (octets : List ℕ) → IsOctets old → IsOctets octets → IsOctets (write_over old at octets)
IsOctets-write_over old at octets was bytes =
    let small = λ (n : ℕ). n < 256 in
    All-append small _ _ (All-append small _ _ (All-append small _ _ (All-take small at old was) (All-replicate small (at - length old) 0 (omega arith))) bytes) (All-drop small (at + length octets) old was)

pub write_over_writes : (old : List ℕ) (at : ℕ) (octets : List ℕ) → Writes at octets old (write_over old at octets)
write_over_writes old at octets = record {
  before = same_lists _ _ (search (rules, places)) (λ k d h. grind (arith, places));
  there = same_lists _ _ (search (rules, places)) (λ k d h. grind (arith, places));
  after = same_lists _ _ (search (rules, places)) (λ k d h. grind (arith, places));
  size = length-write_over old at octets;
}

-- a write that a crash cut short, by the octets outside its range
pub torn_by_places : (at count : ℕ) (old new : List ℕ) → length old ≤ length new → length new ≤ max (length old) (at + count) → ((place : ℕ) → place < length old → ((at ≤ place) × (place < at + count) → ⊥) → get_or new place 0 ≡ get_or old place 0) → Torn at count old new
torn_by_places at count old new no_shorter no_longer same = record { before = before; after = after; no_shorter = no_shorter; no_longer = no_longer }
  where
    before : take at (take (length old) new) ≡ take at old
    before = ext_get_or 0 _ _ (search (rules, places)) (λ k below. let here = same k in grind (arith, places, here))

    after : drop (at + count) (take (length old) new) ≡ drop (at + count) old
    after = ext_get_or 0 _ _ (search (rules, places)) (λ k below. let here = same (at + count + k) in grind (arith, places, here))

pub torn_outside : (at count : ℕ) (old new : List ℕ) → Torn at count old new → (place : ℕ) → place < length old → ((at ≤ place) × (place < at + count) → ⊥) → get_or new place 0 ≡ get_or old place 0
torn_outside at count old new torn place below outside = elim (cases_lt place at) [
  | inl front ↦
      let same = ap (λ (l : List ℕ). get_or l place 0) torn.before in
      grind (arith, places, same)
  | inr rest ↦ elim (cases_lt place (at + count)) [
    | inl inside ↦ absurd (outside (rest, inside))
    | inr back ↦
        let same = ap (λ (l : List ℕ). get_or l (place - (at + count)) 0) torn.after in
        grind (arith, places, same)
  ]
]

-- the list with another one's octets in the range, as far as that one has octets
abbrev pub filled : List ℕ → List ℕ → List ℕ
filled other front = take (length front) (other ++ drop (length other) front)

abbrev pub restored : ℕ → ℕ → List ℕ → List ℕ → List ℕ
restored at count other front = take at front ++ take count (drop at (filled other front)) ++ drop (at + count) front

pub length-restored : (at count : ℕ) (other front : List ℕ) → length (restored at count other front) ≡ length front
length-restored at count other front = search (rules, places)

pub get_or-restored_inside : (at count : ℕ) (other front : List ℕ) (place : ℕ) → at ≤ place → place < at + count → place < length front → place < length other → get_or (restored at count other front) place 0 ≡ get_or other place 0
get_or-restored_inside at count other front place from to below within = grind (arith, places)

pub get_or-restored_outside : (at count : ℕ) (other front : List ℕ) (place : ℕ) → place < length front → ((at ≤ place) × (place < at + count) → ⊥) → get_or (restored at count other front) place 0 ≡ get_or front place 0
get_or-restored_outside at count other front place below outside = elim (cases_lt place at) [
  | inl before ↦ grind (arith, places)
  | inr rest ↦ elim (cases_lt place (at + count)) [
    | inl inside ↦ absurd (outside (rest, inside))
    | inr back ↦ grind (arith, places)
  ]
]

pub IsOctets-restored : (at count : ℕ) (other front : List ℕ) → IsOctets other → IsOctets front → IsOctets (restored at count other front)
IsOctets-restored at count other front others fronts =
    let small = λ (n : ℕ). n < 256 in
    let fills : IsOctets (filled other front) = All-take small (length front) _ (All-append small other _ others (All-drop small (length other) front fronts)) in
    All-append small _ _ (All-append small _ _ (All-take small at front fronts) (All-take small count _ (All-drop small at _ fills))) (All-drop small (at + count) front fronts)

pub octets_from_fits : (octets : List ℕ) → ((place : ℕ) → Fits w8 (get_or octets place 0)) → IsOctets octets
octets_from_fits octets fits = All-from_get_or (λ (n : ℕ). n < 256) octets 0 (λ place below. omega (arith, fits place))
