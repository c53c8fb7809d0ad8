-- What was got of a file and has no fault is the whole file.
use Rattle.std.proofs.Common.{◌≡◌, ℕ, List, [], ◌++◌, refl, ap, sym, ◌∙◌, subst, append-nil, Option, None, Some}
use Rattle.ftl0_packets.proofs.SplitLemmas.{octets_front}
use Rattle.pfh_items.specs.declared.fault.FileFault.{FileFault}
use Rattle.file_store.specs.Headers.{KeepsRules}
use Rattle.air_world.proofs.Names.{option_map, same_Some, IsFront, IsOctets, code_of, fault_code, first_fault, HasNoFault, HasNoFront, Holding, Store, complete, entry_of, octets_of, partial, has_number, complete_octets, file_of, AreFirstIfAny, IsSoundStore, complete-entry, found-such}

-- no octets are no file
empty-fault : fault_code [] ≡ None → ⊥
unfolding first_fault
empty-fault is = cc

no-fault : (o : Option FileFault) → option_map code_of o ≡ None → o ≡ None
no-fault None is = refl
no-fault (Some fault) is = absurd (cc)

-- a prefix without fault of a file without fault is all of it
whole-front : HasNoFault → HasNoFront → (file octets : List ℕ) → IsOctets file → fault_code file ≡ None
    → IsFront octets file
    → fault_code octets ≡ None → file ≡ octets
whole-front fault front file octets are good first good_front =
    let same : file ≡ octets ++ first.0 = first.1 in
    let those : IsOctets (octets ++ first.0) = subst IsOctets same are in
    let whole = (fault (octets ++ first.0) those).1
    (no-fault (first_fault (octets ++ first.0)) (ap fault_code (sym same) ∙ good)) in
    let part = (fault octets (octets_front octets first.0 those)).1 (no-fault (first_fault octets) good_front) in
    let none : first.0 ≡ [] = front whole.0 part.0 whole.1 part.1 octets first.0 whole.2 part.2 in
    same ∙ ap (λ more. octets ++ more) none ∙ append-nil octets

-- a complete file of a sound store is octets without fault
complete-good : (h : Holding) (file : List ℕ) → complete_octets h ≡ Some file → KeepsRules h → IsOctets (octets_of h)
    → (fault_code file ≡ None) × IsOctets file
complete-good (partial held) file is rules octets = absurd (cc)
complete-good (complete all moment) file is rules octets =
    let same = same_Some all file is in (subst (λ it. fault_code it ≡ None) same rules, subst IsOctets same octets)

pub whole-got : (store : Store) (number : ℕ) (octets : List ℕ) → HasNoFault → HasNoFront → IsSoundStore store
    → AreFirstIfAny store number octets
    → fault_code octets ≡ None → file_of store number ≡ Some octets
whole-got store number octets fault front sound first good =
    let it = first (λ none. empty-fault (ap fault_code (sym none) ∙ good)) in
    let found = complete-entry (entry_of store number) it.0 it.1 in
    let file = complete-good found.0.holding it.0 found.3
    (found-such (λ entry. KeepsRules entry.holding) (has_number number) store.entries found.0 found.1 sound.keeps_rules)
    (found-such (λ entry. IsOctets (octets_of entry.holding))
    (has_number number) store.entries found.0 found.1 sound.octets) in
    it.1 ∙ ap Some (whole-front fault front it.0 octets file.1 file.0 it.2 good)
