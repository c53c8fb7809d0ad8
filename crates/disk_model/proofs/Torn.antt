-- What writes, whole and torn, make of octets.
use Rattle.std.proofs.Common.{◌≡◌, inl, inr, ℕ, ◌+◌, ◌-◌, ◌<◌, ◌≤◌, List, ◌∷◌, ◌++◌, length, get_or, take, drop, sym, ◌∙◌, ap, subst, arith, length-take, append_assoc, take-append-drop, take-take, drop-drop}
use Rattle.disk_model.proofs.Names.{common_steps, cases_lt, drop-take, drop_all, take_all, take_rest, Torn, Writes}

-- a list is its parts
pub three_parts : (at n : ℕ) (octets : List ℕ) → octets ≡ take at octets ++ take n (drop at octets) ++ drop (at + n) octets
three_parts at n octets =
    sym (take-append-drop at octets)
    ∙ ap (λ (l : List ℕ). take at octets ++ l) (sym (take-append-drop n (drop at octets)) ∙ ap (λ (l : List ℕ). take n (drop at octets) ++ l) (drop-drop n at octets))
    ∙ sym (append_assoc (take at octets) (take n (drop at octets)) (drop (at + n) octets))

-- the front of a longer list, of which the front is the same
take_front : (at whole : ℕ) (old new : List ℕ) → at ≤ whole → take at (take whole new) ≡ take at old → take at new ≡ take at old
take_front at whole old new le same = sym (take-take at whole new le) ∙ same

-- a write inside or at the end
pub written : (at : ℕ) (text old new : List ℕ) → at ≤ length old → Writes at text old new → new ≡ take at old ++ text ++ drop (at + length text) old
written at text old new le writes = grind (arith, common_steps, three_parts, take_front)

-- the octets before a torn write stay
pub torn_front : (at n : ℕ) (old new : List ℕ) → at ≤ length old → Torn at n old new → take at new ≡ take at old
torn_front at n old new le torn = take_front at (length old) old new le torn.before

-- a torn write inside
pub torn_length : (at n : ℕ) (old new : List ℕ) → at + n ≤ length old → Torn at n old new → length new ≡ length old
torn_length at n old new le torn = omega (arith, torn.no_shorter, torn.no_longer)

-- a torn write of one octet inside leaves some octet there
pub torn_octet : (at : ℕ) (old new : List ℕ) → at < length old → Torn at 1 old new → new ≡ take at old ++ get_or new at 0 ∷ drop (at + 1) old
torn_octet at old new lt torn = grind (arith, common_steps)

-- what is the same behind a place is so in as many octets as before
pub kept_back : (k : ℕ) (old new : List ℕ) → drop k new ≡ drop k old → drop k (take (length old) new) ≡ drop k old
kept_back k old new same = elim (cases_lt k (length old)) [
  | inl inside ↦
      ap (λ (n : ℕ). drop k (take n new)) (let parts : length old ≡ k + (length old - k) = omega arith in parts)
      ∙ drop-take k (length old - k) new ∙ ap (λ (l : List ℕ). take (length old - k) l) same ∙ take_rest old k
  | inr past ↦ drop_all k (take (length old) new) (omega (arith, length-take (length old) new, past)) ∙ sym (drop_all k old past)
]

-- what is torn behind an octet is torn from that octet on
pub torn_wider : (at n : ℕ) (old new : List ℕ) → Torn (at + 1) n old new → Torn at (n + 1) old new
torn_wider at n old new torn = record {
  before = sym (take-take at (at + 1) (take (length old) new) (omega arith)) ∙ ap (λ (l : List ℕ). take at l) torn.before ∙ take-take at (at + 1) old (omega arith);
  after = subst (λ (i : ℕ). drop i (take (length old) new) ≡ drop i old) (let same : at + 1 + n ≡ at + (n + 1) = omega arith in same) torn.after;
  no_shorter = torn.no_shorter;
  no_longer = omega (arith, torn.no_longer);
}

-- what is the same up to a place is so in as many octets of both
front_upto : (at most : ℕ) (xs ys : List ℕ) → take at xs ≡ take at ys → take at (take most xs) ≡ take at (take most ys)
front_upto at most xs ys same = elim (cases_lt most at) [
  | inl less ↦
      take_all at (take most xs) (omega (arith, length-take most xs, less)) ∙ sym (take-take most at xs (omega (arith, less))) ∙ ap (take most) same
      ∙ take-take most at ys (omega (arith, less)) ∙ sym (take_all at (take most ys) (omega (arith, length-take most ys, less)))
  | inr more ↦ take-take at most xs more ∙ same ∙ sym (take-take at most ys more)
]

-- and so is what is the same from a place on
back_upto : (at most : ℕ) (xs ys : List ℕ) → drop at xs ≡ drop at ys → drop at (take most xs) ≡ drop at (take most ys)
back_upto at most xs ys same = elim (cases_lt at most) [
  | inl inside ↦
      let parts : most ≡ at + (most - at) = omega arith in
      ap (λ (n : ℕ). drop at (take n xs)) parts ∙ drop-take at (most - at) xs ∙ ap (take (most - at)) same ∙ sym (drop-take at (most - at) ys)
      ∙ ap (λ (n : ℕ). drop at (take n ys)) (sym parts)
  | inr past ↦
      drop_all at (take most xs) (omega (arith, length-take most xs, past)) ∙ sym (drop_all at (take most ys) (omega (arith, length-take most ys, past)))
]

-- what a torn write leaves behind it
pub kept_behind : (m at n : ℕ) (old new : List ℕ) → at + n ≤ m → Torn at n old new → drop m new ≡ drop m old
kept_behind m at n old new behind torn = elim (cases_lt (length old) (at + n)) [
  | inl short ↦ drop_all m new (omega (arith, torn.no_longer, behind, short)) ∙ sym (drop_all m old (omega (arith, behind, short)))
  | inr inside ↦
      let there : at + n + (m - (at + n)) ≡ m = omega (arith, behind) in
      let from : (l : List ℕ) → drop m l ≡ drop (m - (at + n)) (drop (at + n) l) =
      λ l. ap (λ (i : ℕ). drop i l) (sym there) ∙ sym (drop-drop (m - (at + n)) (at + n) l) in
      from new ∙ ap (drop (m - (at + n))) (ap (drop (at + n)) (sym (take_all (length old) new (omega (arith, torn.no_longer, inside)))) ∙ torn.after) ∙ sym (from old)
]

-- torn in a range, and then in it again
pub torn_then : (at n : ℕ) (old mid new : List ℕ) → Torn at n old mid → Torn at n mid new → Torn at n old new
torn_then at n old mid new first second =
    let size = length old in
    let upto : take size (take (length mid) new) ≡ take size new = take-take size (length mid) new first.no_shorter in
    record {
      before = ap (take at) (sym upto) ∙ front_upto at size (take (length mid) new) mid second.before ∙ first.before;
      after = ap (drop (at + n)) (sym upto) ∙ back_upto (at + n) size (take (length mid) new) mid second.after ∙ first.after;
      no_shorter = omega (arith, first.no_shorter, second.no_shorter);
      no_longer = omega (arith, first.no_longer, second.no_longer);
    }

-- torn in a part of a range
pub torn_within : (at n place count : ℕ) (old new : List ℕ) → at ≤ place → place + count ≤ at + n → Torn place count old new → Torn at n old new
torn_within at n place count old new behind within torn =
    let rest = at + n - (place + count) in
    let there : place + count + rest ≡ at + n = omega (arith, within) in
    let from : (l : List ℕ) → drop (at + n) l ≡ drop rest (drop (place + count) l) = λ l. ap (λ (i : ℕ). drop i l) (sym there) ∙ sym (drop-drop rest (place + count) l) in
    record {
      before =
          sym (take-take at place (take (length old) new) behind) ∙ ap (take at) torn.before ∙ take-take at place old behind;
      after = from (take (length old) new) ∙ ap (drop rest) torn.after ∙ sym (from old);
      no_shorter = torn.no_shorter;
      no_longer = omega (arith, torn.no_longer, within);
    }

-- torn in a range, and then in the one behind it
pub torn_on : (at n m : ℕ) (old mid new : List ℕ) → Torn at n old mid → Torn (at + n) m mid new → Torn at (n + m) old new
torn_on at n m old mid new first second =
    torn_then at (n + m) old mid new
    (torn_within at (n + m) at n old mid (omega arith) (omega arith) first)
    (torn_within at (n + m) (at + n) m mid new (omega arith) (omega arith) second)

-- what stays as it is
pub torn_none : (at n : ℕ) (octets : List ℕ) → Torn at n octets octets
torn_none at n octets = record {
  before = ap (take at) (take_all (length octets) octets (omega arith));
  after = ap (drop (at + n)) (take_all (length octets) octets (omega arith));
  no_shorter = omega arith;
  no_longer = omega arith;
}

-- what is written is torn too
pub torn_by : (at : ℕ) (text old new : List ℕ) → Writes at text old new → Torn at (length text) old new
torn_by at text old new writes = record {
  before = writes.before;
  after = kept_back (at + length text) old new writes.after;
  no_shorter = omega (arith, writes.size);
  no_longer = omega (arith, writes.size);
}
