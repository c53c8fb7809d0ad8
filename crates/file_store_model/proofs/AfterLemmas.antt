-- What commands keep.
use Rattle.std.proofs.Common.{◌≡◌, ◌≢◌, ℕ, ◌+◌, ◌≤◌, ◌<◌, Bool, true, false, not, ◌&&◌, List, [], ◌∷◌, ◌++◌, length, refl, ap, sym, ◌∙◌, subst, arith, Option, None, Some, ◌==◌, nat_le, length-append}
use Rattle.std.proofs.lemmas.List.Filters.{length-filter_both, sum_by-filter_both}
use Rattle.std.proofs.lemmas.List.Folds.{find-append}
use Rattle.file_store_model.specs.Kept.{KeepsComplete}
use Rattle.file_store_model.proofs.Names.{find, IsTrue, is_none, fault_code, StampValue, option_or, nat_tests, length-map, sum_by_push, CallSign, IsCall, Command, begin, grow, seal, drop_entry, can_take, has_room, is_good, is_partial, passes, is_allowed, grown, kept_with, sealed, stamp_of, with_more, changed, with_holding, after, after_all, AreAllowed, HasCall, HaveCalls, is_complete, IsStore, FitsLength, longest_file, most_entries, Entry, Holding, partial, complete, Store, entry_of, blocks_for, blocks_of, new_entry, length-stamped}
use Rattle.file_store_model.proofs.EntriesLemmas.{has_number, AreEntries-push, AreEntries-map-changed, AreEntries-filter, HaveCallers-push, HaveCallers-map-changed, HaveCallers-filter, found-caller, found-fits, blocks-map-changed, find-map-changed_other, find-filter_other}

-- ---- what a test says

pub and-parts : (a b : Bool) → IsTrue (a && b) → IsTrue a × IsTrue b
and-parts true true h = (refl, refl)
and-parts true false h = absurd (cc)
and-parts false b h = absurd (cc)

pub passes-entry : (test : Entry → Bool) (o : Option Entry) → IsTrue (passes test o) → (e : Entry) × (o ≡ Some e) × IsTrue (test e)
passes-entry test None h = absurd (cc)
passes-entry test (Some e) h = (e, refl, h)

pub room-partial : (h : Holding) (l n : ℕ) → IsTrue (has_room h l n) → (held : List ℕ) × (h ≡ partial held) × (length held + n ≤ l)
room-partial (partial held) l n t = (held, refl, grind (arith, nat_tests))
room-partial (complete o m) l n t = absurd (cc)

pub good-partial : (h : Holding) (l : ℕ) → IsTrue (is_good h l) → (held : List ℕ) × (h ≡ partial held) × (length held ≡ l)
good-partial (partial held) l t = (held, refl, let parts : IsTrue (length held == l) × IsTrue (is_none (fault_code held)) = and-parts (length held == l) (is_none (fault_code held)) t in grind (arith, nat_tests, parts.0))
good-partial (complete o m) l t = absurd (cc)

-- the octets of a whole file without fault have none
pub good-fault : (held : List ℕ) (l : ℕ) → IsTrue (is_good (partial held) l) → fault_code held ≡ None
good-fault held l t = none (fault_code held) (and-parts (length held == l) (is_none (fault_code held)) t).1
  where
    none : (o : Option ℕ) → IsTrue (is_none o) → o ≡ None
    none None h = refl
    none (Some code) h = absurd (cc)

pub partial-held : (h : Holding) → IsTrue (is_partial h) → (held : List ℕ) × (h ≡ partial held)
partial-held (partial held) t = (held, refl)
partial-held (complete o m) t = absurd (cc)

-- a partial entry isn't complete
pub never-both : (h : Holding) (held : List ℕ) → h ≡ partial held → IsTrue (is_complete h) → ⊥
never-both (partial held) other h t = cc
never-both (complete o m) other h t = cc

-- ---- each command keeps the store's rules

-- what the condition of a begin says
pub begin-allowed : (store : Store) (number : ℕ) (caller : CallSign) (file_length moment : ℕ) → IsTrue (is_allowed store (begin number caller file_length moment))
    → (number ≡ store.next) × (file_length ≤ longest_file) × (length store.entries < most_entries) × (blocks_of store + blocks_for file_length ≤ store.blocks)
begin-allowed store number caller file_length moment ok = grind (arith, nat_tests)

-- what the condition of a grow says
pub grow-takes : (store : Store) (number : ℕ) (octets : List ℕ) → IsTrue (is_allowed store (grow number octets))
    → IsTrue (passes (λ e. can_take e.holding e.length (length octets)) (entry_of store number))
grow-takes store number octets ok = (and-parts (nat_le 1 (length octets) && nat_le (length octets) 512) (passes (λ e. can_take e.holding e.length (length octets)) (entry_of store number)) ok).1

-- so there is room
pub grow-allowed : (store : Store) (number : ℕ) (octets : List ℕ) → IsTrue (is_allowed store (grow number octets))
    → IsTrue (passes (λ e. has_room e.holding e.length (length octets)) (entry_of store number))
grow-allowed store number octets ok = by (entry_of store number) (grow-takes store number octets ok)
  where
    by : (o : Option Entry) → IsTrue (passes (λ e. can_take e.holding e.length (length octets)) o)
        → IsTrue (passes (λ e. has_room e.holding e.length (length octets)) o)
    by None takes = absurd (cc takes)
    by (Some e) takes = (and-parts (has_room e.holding e.length (length octets)) _ takes).0

pub new_entry-IsStore : (store : Store) (caller : CallSign) (file_length moment : ℕ) → IsStore store → IsCall caller → file_length ≤ longest_file → length store.entries < most_entries
    → blocks_of store + blocks_for file_length ≤ store.blocks → IsStore (after store (begin store.next caller file_length moment))
new_entry-IsStore store caller file_length moment is call small few room =
    let new : Entry = new_entry store.next caller file_length moment in
    record {
      entries = AreEntries-push 1 store.next store.entries new is.entries is.next refl (omega arith) small;
      callers = HaveCallers-push store.entries new is.callers call;
      next = omega arith;
      count = simp length-append (omega arith);
      blocks = rw (sum_by_push (λ (e : Entry). blocks_for e.length) store.entries new) room;
      some = is.some;
      most = is.most;
    }

pub begin-IsStore : (store : Store) (number : ℕ) (caller : CallSign) (file_length moment : ℕ) → IsStore store → IsCall caller
    → IsTrue (is_allowed store (begin number caller file_length moment)) → IsStore (after store (begin number caller file_length moment))
begin-IsStore store number caller file_length moment is call ok =
    let says = begin-allowed store number caller file_length moment ok in
    subst (λ (n : ℕ). IsStore (after store (begin n caller file_length moment))) (sym says.0) (new_entry-IsStore store caller file_length moment is call says.1 says.2 says.3)

pub change-IsStore : (store : Store) (number : ℕ) (change : Entry → Holding) (e : Entry) → IsStore store → entry_of store number ≡ Some e
    → FitsLength (change e) e.length → IsStore (with_holding store number change)
change-IsStore store number change e is found fits =
    record {
      entries = AreEntries-map-changed number change 1 store.next store.entries e is.entries found fits;
      callers = HaveCallers-map-changed number change store.entries is.callers;
      next = is.next;
      count = subst (λ (n : ℕ). n ≤ most_entries) (sym (length-map store.entries (changed number change))) is.count;
      blocks = subst (λ (n : ℕ). n ≤ store.blocks) (sym (blocks-map-changed number change store.entries)) is.blocks;
      some = is.some;
      most = is.most;
    }

pub drop-IsStore : (store : Store) (number : ℕ) → IsStore store → IsStore (after store (drop_entry number))
drop-IsStore store number is =
    let test : Entry → Bool = λ e. not (e.number == number) in
    record {
      entries = AreEntries-filter test 1 store.next store.entries is.entries;
      callers = HaveCallers-filter test store.entries is.callers;
      next = is.next;
      count = omega (arith, is.count, length-filter_both test (λ e. not (test e)) (λ _. refl) store.entries);
      blocks = omega (arith, is.blocks, sum_by-filter_both test (λ e. not (test e)) (λ _. refl) (λ (e : Entry). blocks_for e.length) store.entries);
      some = is.some;
      most = is.most;
    }

-- octets that have room fit the file
pub more-fits : (octets : List ℕ) (h : Holding) (l : ℕ) → IsTrue (has_room h l (length octets)) → FitsLength (with_more octets h) l
more-fits octets (partial held) l t = simp length-append (grind (arith, nat_tests))
more-fits octets (complete all m) l t = absurd (cc)

-- a file without fault fits once it is stamped
pub kept-fits : (stamp : StampValue) (h : Holding) (l : ℕ) → IsCall stamp.by → IsTrue (is_good h l) → FitsLength (kept_with stamp h) l
kept-fits stamp (partial held) l call t =
    let good = good-partial (partial held) l t in
    let same : partial held ≡ partial good.0 = good.1 in
    let held_same : held ≡ good.0 = cc in
    length-stamped stamp held call (good-fault held l t) ∙ ap (λ (os : List ℕ). length os) held_same ∙ good.2
kept-fits stamp (complete all m) l call t = absurd (cc)

pub after-IsStore : (store : Store) (command : Command) → IsStore store → HasCall command → IsTrue (is_allowed store command) → IsStore (after store command)
after-IsStore store (begin number caller file_length moment) is call ok = begin-IsStore store number caller file_length moment is call ok
after-IsStore store (grow number octets) is call ok =
    let found = passes-entry (λ e. has_room e.holding e.length (length octets)) (entry_of store number) (grow-allowed store number octets ok) in
    change-IsStore store number (grown octets) found.0 is found.1 (more-fits octets found.0.holding found.0.length found.2)
after-IsStore store (seal number moment) is call ok =
    let found = passes-entry (λ e. is_good e.holding e.length) (entry_of store number) ok in
    change-IsStore store number (sealed moment) found.0 is found.1
    (kept-fits (stamp_of moment found.0) found.0.holding found.0.length (found-caller number store.entries found.0 is.callers found.1) found.2)
after-IsStore store (drop_entry number) is call ok = drop-IsStore store number is

pub after_all-IsStore : (store : Store) (commands : List Command) → IsStore store → HaveCalls commands → AreAllowed store commands → IsStore (after_all store commands)
after_all-IsStore store [] is calls ok = is
after_all-IsStore store (command ∷ commands) is calls ok =
    after_all-IsStore (after store command) commands (after-IsStore store command is calls.0 ok.0) calls.1 ok.1

-- ---- each command keeps the other entries, and each complete one

-- an entry that is found stays found, with one more at the end
pub find-append_found : (test : Entry → Bool) (xs ys : List Entry) (e : Entry) → find test xs ≡ Some e → find test (xs ++ ys) ≡ Some e
find-append_found test xs ys e found = rw (find-append test xs ys, found) refl

-- the number of the command's entry
abbrev pub number_of : Command → ℕ
number_of (begin number caller file_length moment) = number
number_of (grow number octets) = number
number_of (seal number moment) = number
number_of (drop_entry number) = number

or-none : (o : Option Entry) → option_or o None ≡ o
or-none None = refl
or-none (Some e) = refl

-- the entry of another number is as it was, if there is one
pub after-same : (store : Store) (command : Command) (other : ℕ) → other ≢ number_of command → entry_of (after store command) other ≡ entry_of store other
after-same store (begin number caller file_length moment) other ne =
    let different : (number == other) ≡ false = grind (arith, nat_tests) in
    rw (find-append (has_number other) store.entries, different) (or-none (entry_of store other))
after-same store (grow number octets) other ne = find-map-changed_other number other (grown octets) store.entries ne
after-same store (seal number moment) other ne = find-map-changed_other number other (sealed moment) store.entries ne
after-same store (drop_entry number) other ne = find-filter_other number other store.entries ne

pub after-other : (store : Store) (command : Command) (other : ℕ) (e : Entry) → other ≢ number_of command → entry_of store other ≡ Some e → entry_of (after store command) other ≡ Some e
after-other store command other e ne found = after-same store command other ne ∙ found

-- the entry that is found passes the test
pub found-passes : (test : Entry → Bool) (o : Option Entry) (e : Entry) → o ≡ Some e → IsTrue (passes test o) → IsTrue (test e)
found-passes test o e found ok = subst (λ (p : Option Entry). IsTrue (passes test p)) found ok

-- a file of this number is under way
abbrev pub IsUnderWay : Store → ℕ → Type 0
IsUnderWay store number = (e : Entry) × (held : List ℕ) × (entry_of store number ≡ Some e) × (e.holding ≡ partial held)

-- A command whose condition holds begins a file of the next number, or is of an entry that passes its test.
abbrev pub MayCome : Store → Command → Type 0
MayCome store (begin number caller file_length moment) = number ≡ store.next
MayCome store (grow number octets) = (e : Entry) × (entry_of store number ≡ Some e) × IsTrue (has_room e.holding e.length (length octets))
MayCome store (seal number moment) = (e : Entry) × (entry_of store number ≡ Some e) × IsTrue (is_good e.holding e.length)
MayCome store (drop_entry number) = (e : Entry) × (entry_of store number ≡ Some e) × IsTrue (is_partial e.holding)

pub may-come : (store : Store) (command : Command) → IsTrue (is_allowed store command) → MayCome store command
may-come store (begin number caller file_length moment) ok = (begin-allowed store number caller file_length moment ok).0
may-come store (grow number octets) ok =
    passes-entry (λ e. has_room e.holding e.length (length octets)) (entry_of store number) (grow-allowed store number octets ok)
may-come store (seal number moment) ok = passes-entry (λ e. is_good e.holding e.length) (entry_of store number) ok
may-come store (drop_entry number) ok = passes-entry (λ e. is_partial e.holding) (entry_of store number) ok

-- one of a number that was given before is of a file that is under way
pub given-under_way : (store : Store) (command : Command) → number_of command < store.next → IsTrue (is_allowed store command) → IsUnderWay store (number_of command)
given-under_way store command below ok = by command below (may-come store command ok)
  where
    by : (c : Command) → number_of c < store.next → MayCome store c → IsUnderWay store (number_of c)
    by (begin number caller file_length moment) below same = absurd (omega (arith, same, below))
    by (grow number octets) below (e, found, test) = let held = room-partial e.holding e.length (length octets) test in (e, held.0, found, held.1)
    by (seal number moment) below (e, found, test) = let held = good-partial e.holding e.length test in (e, held.0, found, held.1)
    by (drop_entry number) below (e, found, test) = let held = partial-held e.holding test in (e, held.0, found, held.1)

-- no command whose condition holds is of a complete entry
never-complete : (store : Store) (command : Command) (e : Entry) → IsStore store → IsTrue (is_allowed store command) → entry_of store (number_of command) ≡ Some e → IsTrue (is_complete e.holding) → ⊥
never-complete store command e is ok found whole =
    let under_way = given-under_way store command (found-fits (number_of command) 1 store.next store.entries e is.entries found).2 ok in
    let same : e ≡ under_way.0 = let there = under_way.2 in cc in
    never-both e.holding under_way.1 (ap (λ (x : Entry). x.holding) same ∙ under_way.3) whole

pub after-KeepsComplete : (store : Store) (command : Command) → IsStore store → IsTrue (is_allowed store command) → KeepsComplete store (after store command)
after-KeepsComplete store command is ok number e found whole = grind (arith, nat_tests, after-same store command number, never-complete store command e is ok)

pub after_all-KeepsComplete : (store : Store) (commands : List Command) → IsStore store → HaveCalls commands → AreAllowed store commands
    → KeepsComplete store (after_all store commands)
after_all-KeepsComplete store [] is calls ok number e found whole = found
after_all-KeepsComplete store (command ∷ commands) is calls ok number e found whole =
    after_all-KeepsComplete (after store command) commands (after-IsStore store command is calls.0 ok.0) calls.1 ok.1 number e
    (after-KeepsComplete store command is ok.0 number e found whole) whole

-- ---- a file that was just begun

pub begin-KeepsComplete : (store : Store) (number : ℕ) (caller : CallSign) (file_length moment : ℕ) → KeepsComplete store (after store (begin number caller file_length moment))
begin-KeepsComplete store number caller file_length moment other e found whole = find-append_found (has_number other) store.entries _ e found

-- the entry at the end, of a number that none has
pub find-push : (test : Entry → Bool) (xs : List Entry) (e : Entry) → find test xs ≡ None → test e ≡ true → find test (xs ++ e ∷ []) ≡ Some e
find-push test xs e none passed = rw (find-append test xs (e ∷ []), none, passed) refl
