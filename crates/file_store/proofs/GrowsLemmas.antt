-- What Grows of one file leave of the others, and what memory shows of it then.
use Rattle.std.proofs.Common.{◌≡◌, ℕ, zero, suc, List, [], ◌∷◌, length, map, replicate, take, drop, refl, sym, ◌∙◌, ap, arith}
use Rattle.std.specs.Prelude.{option_map}
use Rattle.std.proofs.lemmas.Simd.{splat_is_map}
use Rattle.file_store.proofs.Names.{find, AllByRecursion, nat_tests, drop-map, take-map, Command, changed, grow, grows, Entry, Holding, has_number, outlined_all, outlined_command}

-- ---- Grows of one number

abbrev pub IsGrow : ℕ → Command → Type 0
IsGrow number command = (octets : List ℕ) × (command ≡ grow number octets)

abbrev pub AreGrows : ℕ → List Command → Type 0
AreGrows number commands = AllByRecursion (IsGrow number) commands

pub grows-are : (number n : ℕ) (octets : List ℕ) → AreGrows number (grows number n octets)
grows-are number zero octets = tt
grows-are number (suc n) octets = ((take 512 octets, refl), grows-are number n (drop 512 octets))

pub outlined-are : (number : ℕ) (commands : List Command) → AreGrows number commands → AreGrows number (outlined_all commands)
outlined-are number [] are = tt
outlined-are number (command ∷ commands) are = ((replicate (length are.0.0) 0, ap outlined_command are.0.1), outlined-are number commands are.1)

pub take-are : (count number : ℕ) (commands : List Command) → AreGrows number commands → AreGrows number (take count commands)
take-are zero number commands are = tt
take-are (suc count) number [] are = tt
take-are (suc count) number (command ∷ commands) are = (are.0, take-are count number commands are.1)

-- ---- the entries after them

pub find-held : (number : ℕ) (change : Entry → Holding) (entries : List Entry)
    → find (has_number number) (map (changed number change) entries) ≡ option_map {T = Entry} (λ e. record e { holding = change e }) (find (has_number number) entries)
find-held number change [] = refl
find-held number change (x ∷ xs) = grind (arith, nat_tests, find-held number change xs)

-- ---- as far as memory shows

abbrev zero_of : ℕ → ℕ
zero_of octet = 0

pub zeros-map : (octets : List ℕ) → replicate (length octets) 0 ≡ map zero_of octets
zeros-map octets = splat_is_map octets (length octets) 0 refl

outlined-map : (number n : ℕ) (octets : List ℕ) → outlined_all (grows number n octets) ≡ grows number n (map zero_of octets)
outlined-map number zero octets = refl
outlined-map number (suc n) octets =
    ap (λ (os : List ℕ). grow number os ∷ outlined_all (grows number n (drop 512 octets))) (zeros-map (take 512 octets) ∙ sym (take-map zero_of 512 octets))
    ∙ ap (λ (cs : List Command). grow number (take 512 (map zero_of octets)) ∷ cs)
    (outlined-map number n (drop 512 octets) ∙ ap (λ (os : List ℕ). grows number n os) (sym (drop-map zero_of 512 octets)))

-- Grows of octets are shown as Grows of as many zeros
pub outlined-grows : (number n : ℕ) (octets : List ℕ) → outlined_all (grows number n octets) ≡ grows number n (replicate (length octets) 0)
outlined-grows number n octets = outlined-map number n octets ∙ ap (λ (os : List ℕ). grows number n os) (sym (zeros-map octets))
