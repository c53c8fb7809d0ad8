-- A sound store stays sound by commands that bring octets; and what it has of an entry that is dropped.
use Rattle.std.proofs.Common.{◌≡◌, ℕ, ◌+◌, ◌≤◌, not, List, [], ◌∷◌, filter, refl, sym, subst, arith, None, Some, ◌==◌}
use Rattle.std.proofs.Common.{Bool, true, false, cond}
use Rattle.air_world.proofs.files.Names.{find, IsTrue, AllByRecursion, nat_tests, IsOctets, BringsOctets, FollowsLaw, HaveFiles, KeepsEntries, Command, DoesAll, HaveCalls, after, drop_entry, is_partial, passes, KeepsRules, AreEntries, IsStore, Entry, Store, entry_of, octets_of, partial, has_number, IsSoundStore}

-- what is found is such as all are
pub found-such : {X : Type 0} (P : X → Type 0) (test : X → Bool) (xs : List X) (x : X) → find test xs ≡ Some x
    → AllByRecursion P xs → P x
found-such P test [] x found all = absurd (cc)
found-such P test (y ∷ ys) x found all = by (λ there. found-such P test ys x there all.1) (test y) found
  where
    by : (find test ys ≡ Some x → P x) → (b : Bool) → cond b (Some y) (find test ys) ≡ Some x → P x
    by later true is = let same : y ≡ x = cc in subst P same all.0
    by later false is = later is

-- the numbers rise
pub later-number : (number low next : ℕ) (entries : List Entry) (entry : Entry) → AreEntries low entries next
    → find (has_number number) entries ≡ Some entry → low ≤ number
later-number number low next [] entry are found = absurd (cc)
later-number number low next (x ∷ xs) entry are found = grind
    (arith, nat_tests, later-number number (x.number + 1) next xs entry are.4)

found-first : (x : Entry) (xs : List Entry) → find (has_number x.number) (x ∷ xs) ≡ Some x
found-first x xs = grind (arith, nat_tests)

found-later : (number next : ℕ) (x : Entry) (xs : List Entry) (entry : Entry) → AreEntries (x.number + 1) xs next
    → find (has_number number) xs ≡ Some entry → find (has_number number) (x ∷ xs) ≡ Some entry
found-later number next x xs entry are found = grind
    (arith, nat_tests, later-number number (x.number + 1) next xs entry are found)

-- and each one is so, if each one that is found is
pub each-found : (P : Entry → Type 0) (low next : ℕ) (entries : List Entry) → AreEntries low entries next
    → ((number : ℕ) (entry : Entry) → find (has_number number) entries ≡ Some entry → P entry)
    → AllByRecursion P entries
each-found P low next [] are holds = tt
each-found P low next (x ∷ xs) are holds = (
  holds x.number x (found-first x xs),
  each-found P (x.number + 1) next xs are.4
      (λ number entry found. holds number entry (found-later number next x xs entry are.4 found)),
)

pub sound-files : (store : Store) → IsSoundStore store → HaveFiles store
sound-files store sound number entry found = record {
  octets =
      found-such (λ it. IsOctets (octets_of it.holding)) (has_number number) store.entries entry found sound.octets;
  rules = found-such (λ it. KeepsRules it.holding) (has_number number) store.entries entry found sound.keeps_rules;
}

pub files-sound : (store : Store) → IsStore store → HaveFiles store → IsSoundStore store
files-sound store is have = record {
  is_store = is;
  keeps_rules = each-found (λ it. KeepsRules it.holding) 1 store.next store.entries is.entries
      (λ number entry found. (have number entry found).rules);
  octets = each-found (λ it. IsOctets (octets_of it.holding)) 1 store.next store.entries is.entries
      (λ number entry found. (have number entry found).octets);
}

-- by the law of what follows, `follows_law` of `file_store_model`
pub sound-kept : (before now : Store) (commands : List Command) → FollowsLaw → IsSoundStore before → HaveCalls commands
    → AllByRecursion BringsOctets commands → DoesAll before now commands → IsSoundStore now
sound-kept before now commands law sound calls brings does =
    files-sound now
    (law.entries before now sound.is_store (record { commands = commands; calls = calls; does = does })).rules
    (law.files before now commands sound.is_store (sound-files before sound) calls brings does)

-- ---- an entry under way that is dropped

pub dropped-none : (number : ℕ) (entries : List Entry)
    → find (has_number number) (filter (λ e. not (e.number == number)) entries) ≡ None
dropped-none number [] = refl
dropped-none number (x ∷ xs) = grind (arith, nat_tests, dropped-none number xs)

pub drop-does : (store : Store) (number : ℕ) (entry : Entry) (held : List ℕ) → entry_of store number ≡ Some entry
    → entry.holding ≡ partial held → DoesAll store (after store (drop_entry number)) (drop_entry number ∷ [])
drop-does store number entry held there holds = (
  (
    subst (λ o. IsTrue (passes (λ e. is_partial e.holding) o)) (sym there)
        (subst (λ h. IsTrue (is_partial h)) (sym holds) refl),
    tt,
  ),
  refl,
)

pub drop-keeps : (store : Store) (number : ℕ) (entry : Entry) (held : List ℕ) → FollowsLaw → IsStore store
    → entry_of store number ≡ Some entry
    → entry.holding ≡ partial held → KeepsEntries store (after store (drop_entry number))
drop-keeps store number entry held law is there holds =
    law.entries store (after store (drop_entry number)) is
    (record {
      commands = drop_entry number ∷ [];
      calls =
          (tt, tt);
      does = drop-does store number entry held there holds;
    })

pub drop-sound : (store : Store) (number : ℕ) (entry : Entry) (held : List ℕ) → FollowsLaw → IsSoundStore store
    → entry_of store number ≡ Some entry
    → entry.holding ≡ partial held → IsSoundStore (after store (drop_entry number))
drop-sound store number entry held law sound there holds =
    sound-kept store (after store (drop_entry number)) (drop_entry number ∷ []) law sound (tt, tt) (tt, tt)
    (drop-does store number entry held there holds)
