-- How far octets begin the characters of an address entry.
use Rattle.std.proofs.Common.{◌≡◌, ℕ, zero, suc, ◌+◌, ◌-◌, ◌*◌, ◌/◌, ◌%◌, ◌≤◌, ◌<◌, ◌==◌, Bool, true, false, cond, List, [], ◌∷◌, ◌++◌, length, map, take, drop, replicate, refl, sym, ap, ◌∙◌, subst, arith, append-nil, length-append, length-take-le}
use Rattle.std.specs.Prelude.{◌&&◌}
use Rattle.std.specs.List.{AllByRecursion, prefix_len}
use Rattle.std.proofs.lemmas.List.Sums.{prefix_len-le-length}
use Rattle.std.proofs.Math.Seq.{take-nil}
use Rattle.ax25_frames.proofs.Names.{IsTrue, eqb-true, eq-eqb, ne_eqb, length-take, map-append, nil_from_length, All-from_recursion, recursion_from_All, CallSign, IsCall, IsBase, is_call_char, padded, character_octets, is_character, is_blank, run_length, characters_begun}
use Rattle.ax25_frames.proofs.EntryLemmas.{length_characters}

-- each of these characters may stand in a call
abbrev AllChars : List ℕ → Type 0
AllChars = AllByRecursion (λ c. IsTrue (is_call_char c))

-- characters shifted left by one
abbrev shifted : List ℕ → List ℕ
shifted chars = map (λ c. 2 * c) chars

-- how many of the first octets are letters and digits and then blanks
begun : ℕ → List ℕ → ℕ
begun zero octets = 0
begun (suc f) [] = 0
begun (suc f) (o ∷ os) = cond (is_character o) (1 + begun f os) (prefix_len is_blank (take (suc f) (o ∷ os)))

-- the run of letters and digits, and then that of blanks
begun-runs : (f : ℕ) (octets : List ℕ)
    → prefix_len is_character (take f octets) + prefix_len is_blank (take (f - prefix_len is_character (take f octets)) (drop (prefix_len is_character (take f octets)) octets))
    ≡ begun f octets
unfolding begun
begun-runs zero octets = refl
begun-runs (suc f) [] = ap (λ (xs : List ℕ). 0 + prefix_len is_blank xs) (take-nil (suc f - 0))
begun-runs (suc f) (o ∷ os) = there (is_character o) (prefix_len is_character (take f os)) (begun-runs f os)
  where
    there : (b : Bool) (r : ℕ) → r + prefix_len is_blank (take (f - r) (drop r os)) ≡ begun f os
        → cond b (1 + r) 0 + prefix_len is_blank (take (suc f - cond b (1 + r) 0) (drop (cond b (1 + r) 0) (o ∷ os)))
        ≡ cond b (1 + begun f os) (prefix_len is_blank (take (suc f) (o ∷ os)))
    there true r h =
        let e : suc f - (1 + r) ≡ f - r = omega arith in
        let s : 1 + r ≡ suc r = omega arith in
        ap (λ (n : ℕ). 1 + r + prefix_len is_blank (take n (drop (1 + r) (o ∷ os)))) e
        ∙ ap (λ (n : ℕ). 1 + r + prefix_len is_blank (take (f - r) (drop n (o ∷ os)))) s
        ∙ omega (arith, h)
    there false r h =
        let e : suc f - 0 ≡ suc f = omega arith in
        ap (λ (n : ℕ). 0 + prefix_len is_blank (take n (o ∷ os))) e ∙ omega arith

half_double : (n : ℕ) → (n % 2 == 0) ≡ true → 2 * (n / 2) ≡ n
half_double n h = let e : n % 2 ≡ 0 = eqb-true _ _ h in omega arith

-- what a shifted letter or digit is
character-halves : (o : ℕ) → is_character o ≡ true → (2 * (o / 2) ≡ o) × (is_call_char (o / 2) ≡ true)
character-halves o h = halves (o % 2 == 0) (is_call_char (o / 2)) refl h
  where
    halves : (a b : Bool) → (o % 2 == 0) ≡ a → (a && b) ≡ true → (2 * (o / 2) ≡ o) × (b ≡ true)
    halves true b e h = (half_double o e, h)
    halves false b e h = cc

double-character : (c : ℕ) → is_call_char c ≡ true → is_character (2 * c) ≡ true
double-character c h =
    let half : (2 * c) / 2 ≡ c = omega arith in
    let even : ((2 * c) % 2 == 0) ≡ true = eq-eqb _ _ (omega arith) in
    ap (λ (b : Bool). b && is_call_char ((2 * c) / 2)) even ∙ ap is_call_char half ∙ h

-- the front that was begun, completed to so many characters
record HasFront (f : ℕ) (front : List ℕ) : Type 0 where
  base : List ℕ
  blanks : ℕ
  rest : List ℕ
  chars : AllChars base
  count : length base + blanks ≡ f
  text : shifted base ++ replicate blanks 64 ≡ front ++ rest

blanks_front : (f : ℕ) (octets : List ℕ) → (rest : List ℕ) × (replicate f 64 ≡ take (prefix_len is_blank (take f octets)) octets ++ rest)
blanks_front zero octets = ([], refl)
blanks_front (suc f) [] = (replicate (suc f) 64, refl)
blanks_front (suc f) (o ∷ os) = there (is_blank o) refl (prefix_len is_blank (take f os)) (blanks_front f os)
  where
    there : (b : Bool) → is_blank o ≡ b → (r : ℕ) → (rest : List ℕ) × (replicate f 64 ≡ take r os ++ rest)
        → (rest : List ℕ) × (replicate (suc f) 64 ≡ take (cond b (1 + r) 0) (o ∷ os) ++ rest)
    there true e r h =
        let s : 1 + r ≡ suc r = omega arith in
        let is : o ≡ 64 = eqb-true _ _ e in
        (h.0, ap (λ (x : List ℕ). 64 ∷ x) h.1 ∙ ap (λ (x : ℕ). x ∷ (take r os ++ h.0)) (sym is) ∙ ap (λ (n : ℕ). take n (o ∷ os) ++ h.0) (sym s))
    there false e r h = (replicate (suc f) 64, refl)

front : (f : ℕ) (octets : List ℕ) → HasFront f (take (begun f octets) octets)
unfolding begun
front zero octets = record { base = []; blanks = 0; rest = []; chars = tt; count = refl; text = refl }
front (suc f) [] = record { base = []; blanks = suc f; rest = replicate (suc f) 64; chars = tt; count = omega arith; text = refl }
front (suc f) (o ∷ os) = there (is_character o) refl (begun f os) (front f os)
  where
    there : (b : Bool) → is_character o ≡ b → (r : ℕ) → HasFront f (take r os)
        → HasFront (suc f) (take (cond b (1 + r) (prefix_len is_blank (take (suc f) (o ∷ os)))) (o ∷ os))
    there true e r h =
        let s : 1 + r ≡ suc r = omega arith in
        let is = character-halves o e in
        let count = h.count in
        record {
          base = o / 2 ∷ h.base;
          blanks = h.blanks;
          rest = h.rest;
          chars = (is.1, h.chars);
          count = omega arith;
          text = ap (λ (x : ℕ). x ∷ (shifted h.base ++ replicate h.blanks 64)) is.0 ∙ ap (λ (x : List ℕ). o ∷ x) h.text ∙ ap (λ (n : ℕ). take n (o ∷ os) ++ h.rest) (sym s);
        }
    there false e r h =
        let b = blanks_front (suc f) (o ∷ os) in
        record { base = []; blanks = suc f; rest = b.0; chars = tt; count = omega arith; text = b.1 }

-- one octet more can't be completed
blanks_stop : (f m : ℕ) (octets z rest : List ℕ) → prefix_len is_blank (take f octets) < f → prefix_len is_blank (take f octets) < length octets
    → replicate f 64 ++ z ≡ take (suc (prefix_len is_blank (take f octets))) octets ++ rest → ⊥
blanks_stop zero m octets z rest h l e = omega arith
blanks_stop (suc f) m [] z rest h l e = omega arith
blanks_stop (suc f) m (o ∷ os) z rest h l e = there (is_blank o) refl (prefix_len is_blank (take f os)) h l e (blanks_stop f m os z rest)
  where
    there : (b : Bool) → is_blank o ≡ b → (r : ℕ) → cond b (1 + r) 0 < suc f → cond b (1 + r) 0 < suc (length os)
        → replicate (suc f) 64 ++ z ≡ take (suc (cond b (1 + r) 0)) (o ∷ os) ++ rest
        → (r < f → r < length os → replicate f 64 ++ z ≡ take (suc r) os ++ rest → ⊥) → ⊥
    there true e r h l t again =
        let s : 1 + r ≡ suc r = omega arith in
        let same : 64 ∷ (replicate f 64 ++ z) ≡ o ∷ (take (suc r) os ++ rest) = t ∙ ap (λ (n : ℕ). take (suc n) (o ∷ os) ++ rest) s in
        again (omega arith) (omega arith) cc
    there false e r h l t again =
        let is : o ≡ 64 = cc in
        let yes : is_blank o ≡ true = eq-eqb _ _ is in
        cc

stops : (f : ℕ) (octets base : List ℕ) (blanks : ℕ) (z rest : List ℕ) → AllChars base → length base + blanks ≡ f
    → begun f octets < f → begun f octets < length octets
    → (shifted base ++ replicate blanks 64) ++ z ≡ take (suc (begun f octets)) octets ++ rest → ⊥
unfolding begun
stops zero octets base blanks z rest h c l m e = omega arith
stops (suc f) [] base blanks z rest h c l m e = omega arith
stops (suc f) (o ∷ os) [] blanks z rest h c l m e = there (is_character o) refl (prefix_len is_blank (take (suc f) (o ∷ os))) l m e (blanks_stop (suc f) 0 (o ∷ os) z rest)
  where
    there : (b : Bool) → is_character o ≡ b → (r : ℕ) → cond b (1 + begun f os) r < suc f → cond b (1 + begun f os) r < suc (length os)
        → replicate blanks 64 ++ z ≡ take (suc (cond b (1 + begun f os) r)) (o ∷ os) ++ rest
        → (r < suc f → r < suc (length os) → replicate (suc f) 64 ++ z ≡ take (suc r) (o ∷ os) ++ rest → ⊥) → ⊥
    there b i r l m t again =
        let n : blanks ≡ suc f = omega arith in
        let full : replicate (suc f) 64 ++ z ≡ take (suc (cond b (1 + begun f os) r)) (o ∷ os) ++ rest = ap (λ (k : ℕ). replicate k 64 ++ z) (sym n) ∙ t in
        next b i l m full
      where
        next : (b : Bool) → is_character o ≡ b → cond b (1 + begun f os) r < suc f → cond b (1 + begun f os) r < suc (length os)
            → replicate (suc f) 64 ++ z ≡ take (suc (cond b (1 + begun f os) r)) (o ∷ os) ++ rest → ⊥
        next true i l m t =
            let is : 64 ≡ o = cc in
            let yes : is_character 64 ≡ true = ap is_character is ∙ i in
            cc (yes)
        next false i l m t = again l m t
stops (suc f) (o ∷ os) (c ∷ base) blanks z rest h k l m e =
    let is : 2 * c ≡ o = cc in
    let yes : is_character o ≡ true = ap is_character (sym is) ∙ double-character c h.0 in
    next (is_character o) yes l m e (λ below within t. stops f os base blanks z rest h.1 (omega arith) below within t)
  where
    next : (b : Bool) → b ≡ true → cond b (1 + begun f os) (prefix_len is_blank (take (suc f) (o ∷ os))) < suc f
        → cond b (1 + begun f os) (prefix_len is_blank (take (suc f) (o ∷ os))) < suc (length os)
        → 2 * c ∷ ((shifted base ++ replicate blanks 64) ++ z) ≡ take (suc (cond b (1 + begun f os) (prefix_len is_blank (take (suc f) (o ∷ os))))) (o ∷ os) ++ rest
        → (begun f os < f → begun f os < length os → (shifted base ++ replicate blanks 64) ++ z ≡ take (suc (begun f os)) os ++ rest → ⊥) → ⊥
    next true i l m t again =
        let s : 1 + begun f os ≡ suc (begun f os) = omega arith in
        let same : 2 * c ∷ ((shifted base ++ replicate blanks 64) ++ z) ≡ o ∷ (take (suc (begun f os)) os ++ rest) = t ∙ ap (λ (n : ℕ). take (suc n) (o ∷ os) ++ rest) s in
        again (omega arith) (omega arith) cc
    next false i l m t again = cc (i)

map_blanks : (n : ℕ) → shifted (replicate n 32) ≡ replicate n 64
map_blanks zero = refl
map_blanks (suc n) = ap (λ (x : List ℕ). 64 ∷ x) (map_blanks n)

-- the octets of a call's characters: shifted letters and digits, then shifted blanks
shifted_padded : (base : List ℕ) → shifted (padded base) ≡ shifted base ++ replicate (6 - length base) 64
shifted_padded base =
    map-append (λ (c : ℕ). 2 * c) base (replicate (6 - length base) 32) ∙ ap (λ (x : List ℕ). shifted base ++ x) (map_blanks (6 - length base))

-- the octets up to this place begin the characters of an entry, and one more doesn't
pub record IsBegun (octets : List ℕ) (at : ℕ) : Type 0 where
  pub within : at ≤ 6
  pub inside : at ≤ length octets
  pub call : CallSign
  pub is_call : IsCall call
  pub rest : List ℕ
  pub text : character_octets call ≡ take at octets ++ rest
  pub ends : at < 6 → at < length octets → (other : CallSign) (z more : List ℕ) → IsCall other
      → character_octets other ++ z ≡ take (suc at) octets ++ more → ⊥

begun-within : (f : ℕ) (octets : List ℕ) → (begun f octets ≤ f) × (begun f octets ≤ length octets)
unfolding begun
begun-within zero octets = (omega arith, omega arith)
begun-within (suc f) [] = (omega arith, omega arith)
begun-within (suc f) (o ∷ os) = there (is_character o) (begun f os) (begun-within f os)
  where
    blanks : prefix_len is_blank (take (suc f) (o ∷ os)) ≤ length (take (suc f) (o ∷ os))
    blanks = prefix_len-le-length is_blank (take (suc f) (o ∷ os))

    there : (b : Bool) (r : ℕ) → (r ≤ f) × (r ≤ length os)
        → (cond b (1 + r) (prefix_len is_blank (take (suc f) (o ∷ os))) ≤ suc f) × (cond b (1 + r) (prefix_len is_blank (take (suc f) (o ∷ os))) ≤ suc (length os))
    there true r h = (omega arith, omega arith)
    there false r h = let b = blanks in let t = length-take (suc f) (o ∷ os) in (omega arith, omega arith)

-- a call whose characters are these, with SSID 0
call_with : (base : List ℕ) → IsBase base → IsCall (record { chars = padded base; ssid = 0 })
call_with base h = record { spelled = (base, h, refl); in_range = omega arith }

letter : IsBase (65 ∷ [])
letter = (omega arith, omega arith, All-from_recursion (λ c. IsTrue (is_call_char c)) (65 ∷ []) (refl, tt))

ends_of : (octets : List ℕ) → begun 6 octets < 6 → begun 6 octets < length octets → (other : CallSign) (z more : List ℕ) → IsCall other
    → character_octets other ++ z ≡ take (suc (begun 6 octets)) octets ++ more → ⊥
ends_of octets l m other z more h e =
    let s = h.spelled in
    let chars : character_octets other ≡ shifted s.0 ++ replicate (6 - length s.0) 64 = ap shifted s.2 ∙ shifted_padded s.0 in
    let short = s.1.1 in
    stops 6 octets s.0 (6 - length s.0) z more (recursion_from_All (λ c. IsTrue (is_call_char c)) s.0 s.1.2) (omega arith) l m
    (ap (λ (x : List ℕ). x ++ z) (sym chars) ∙ e)

-- the first octet is no letter or digit
first_ends : (octets : List ℕ) → prefix_len is_character (take 6 octets) ≡ 0 → 0 < length octets → (other : CallSign) (z more : List ℕ) → IsCall other
    → character_octets other ++ z ≡ take (suc 0) octets ++ more → ⊥
first_ends [] n l other z more h e = omega arith
first_ends (o ∷ os) n l other z more h e = there h.spelled.0 h.spelled.1 (ap (λ (x : List ℕ). shifted x ++ z) (sym h.spelled.2) ∙ e)
  where
    there : (base : List ℕ) → IsBase base → shifted (padded base) ++ z ≡ o ∷ more → ⊥
    there [] b t = let some = b.0 in omega arith
    there (c ∷ base) b t =
        let is : 2 * c ≡ o = cc in
        let all = recursion_from_All (λ c. IsTrue (is_call_char c)) (c ∷ base) b.2 in
        let yes : is_character o ≡ true = ap is_character (sym is) ∙ double-character c all.0 in
        let run : cond (is_character o) (1 + prefix_len is_character (take 5 os)) 0 ≡ 0 = n in
        let longer : 1 + prefix_len is_character (take 5 os) ≡ 0 = ap (λ (b : Bool). cond b (1 + prefix_len is_character (take 5 os)) 0) (sym yes) ∙ run in
        omega arith

-- the front that was begun, where it begins with a letter or digit
begun_some : (octets : List ℕ) → 1 ≤ prefix_len is_character (take 6 octets) → (base : List ℕ) × (rest : List ℕ) × IsBase base × (shifted (padded base) ≡ take (begun 6 octets) octets ++ rest)
unfolding begun
begun_some [] h = absurd (omega arith)
begun_some (o ∷ os) h = there (is_character o) refl h
  where
    there : (b : Bool) → is_character o ≡ b → 1 ≤ cond b (1 + prefix_len is_character (take 5 os)) 0
        → (base : List ℕ) × (rest : List ℕ) × IsBase base × (shifted (padded base) ≡ take (cond b (1 + begun 5 os) (prefix_len is_blank (take 6 (o ∷ os)))) (o ∷ os) ++ rest)
    there true e n =
        let f = front 5 os in
        let is = character-halves o e in
        let count = f.count in
        let s : 1 + begun 5 os ≡ suc (begun 5 os) = omega arith in
        let m : 6 - length (o / 2 ∷ f.base) ≡ f.blanks = omega arith in (
          o / 2 ∷ f.base,
          f.rest,
          (omega arith, omega arith, All-from_recursion (λ c. IsTrue (is_call_char c)) (o / 2 ∷ f.base) (is.1, f.chars)),
          shifted_padded (o / 2 ∷ f.base)
              ∙ ap (λ (k : ℕ). shifted (o / 2 ∷ f.base) ++ replicate k 64) m
              ∙ ap (λ (x : ℕ). x ∷ (shifted f.base ++ replicate f.blanks 64)) is.0
              ∙ ap (λ (x : List ℕ). o ∷ x) f.text
              ∙ ap (λ (k : ℕ). take k (o ∷ os) ++ f.rest) (sym s),
        )
    there false e n = absurd (omega arith)

pub begun_is : (octets : List ℕ) → IsBegun octets (characters_begun octets)
unfolding characters_begun
begun_is octets = there (run_length octets) refl
  where
    there : (run : ℕ) → run_length octets ≡ run
        → IsBegun octets (cond (run == 0) 0 (run + prefix_len is_blank (take (6 - run) (drop run octets))))
    there zero e =
        record {
          within = omega arith;
          inside = omega arith;
          call = record { chars = padded (65 ∷ []); ssid = 0 };
          is_call = call_with (65 ∷ []) letter;
          rest = shifted (padded (65 ∷ []));
          text = refl;
          ends = λ _ l other z more h t. first_ends octets e l other z more h t;
        }
    there (suc run) e =
        let some = begun_some octets (omega arith) in
        let same : suc run + prefix_len is_blank (take (6 - suc run) (drop (suc run) octets)) ≡ begun 6 octets =
        ap (λ (r : ℕ). r + prefix_len is_blank (take (6 - r) (drop r octets))) (sym e) ∙ begun-runs 6 octets in
        let within = begun-within 6 octets in
        let no : (suc run == 0) ≡ false = ne_eqb (suc run) 0 (λ e. omega arith) in
        subst (λ (b : Bool). IsBegun octets (cond b 0 (suc run + prefix_len is_blank (take (6 - suc run) (drop (suc run) octets))))) (sym no) (
        subst (IsBegun octets) (sym same)
        (record {
          within = within.0;
          inside = within.1;
          call = record { chars = padded some.0; ssid = 0 };
          is_call = call_with some.0 some.2;
          rest = some.1;
          text = some.3;
          ends = ends_of octets;
        }))

halved : (xs : List ℕ) → map (λ o. o / 2) (shifted xs) ≡ xs
halved [] = refl
halved (x ∷ xs) =
    let e : (2 * x) / 2 ≡ x = omega arith in
    ap (λ (n : ℕ). n ∷ map (λ o. o / 2) (shifted xs)) e ∙ ap (λ (ys : List ℕ). x ∷ ys) (halved xs)

-- six octets that were begun are the characters of a call, whatever its SSID
pub record IsWhole (octets : List ℕ) (ssid : ℕ) : Type 0 where
  pub is_call : IsCall (record { chars = map (λ o. o / 2) (take 6 octets); ssid = ssid })
  pub text : character_octets (record { chars = map (λ o. o / 2) (take 6 octets); ssid = ssid }) ≡ take 6 octets

pub begun_whole : (octets : List ℕ) (ssid : ℕ) → ssid ≤ 15 → characters_begun octets ≡ 6 → 6 ≤ length octets → IsWhole octets ssid
begun_whole octets ssid s six l =
    let b = begun_is octets in
    let len = length_characters b.call b.is_call in
    let t : character_octets b.call ≡ take 6 octets ++ b.rest = b.text ∙ ap (λ (n : ℕ). take n octets ++ b.rest) six in
    let parts = length-append (take 6 octets) b.rest in
    let six_taken = length-take-le 6 octets l in
    let all : length (character_octets b.call) ≡ length (take 6 octets ++ b.rest) = ap length t in
    let none : b.rest ≡ [] = nil_from_length b.rest (omega arith) in
    let chars : character_octets b.call ≡ take 6 octets = t ∙ ap (λ (x : List ℕ). take 6 octets ++ x) none ∙ append-nil (take 6 octets) in
    let back : map (λ o. o / 2) (take 6 octets) ≡ b.call.chars = ap (λ (x : List ℕ). map (λ o. o / 2) x) (sym chars) ∙ halved b.call.chars in
    let spelled = b.is_call.spelled in
    record {
      is_call = record { spelled = (spelled.0, spelled.1, back ∙ spelled.2); in_range = s };
      text = ap shifted back ∙ chars;
    }
