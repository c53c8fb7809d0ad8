-- What is true of a store that follows another.
use Rattle.std.proofs.Common.{◌≡◌, ℕ, ◌≤◌, ◌<◌, not, List, [], ◌∷◌, ◌++◌, length, filter, refl, ap, sym, ◌∙◌, subst, arith, Option, None, Some, inl, inr, ◌==◌, length-append, take}
use Rattle.std.specs.List.{AllByRecursion}
use Rattle.std.proofs.lemmas.Option.{same_Some}
use Rattle.pfh_writer.proofs.ClientLemmas.{kept_file}
use Rattle.file_store_model.specs.Follows.{AreOf, BringsOctets, Continues, Follows, FollowsLaw, HaveFiles, IsFile, IsOf, KeepsEntries, KeepsOthers}
use Rattle.file_store_model.proofs.Names.{find, IsTrue, ⊤, nat_tests, eqb_tells, drop_at, All-append, All-drop, All-from_recursion, All-nil, All-take, recursion_from_All, CallSign, IsCall, IsOctets, allowed_append, allowed_first, header_text, StampValue, stamped, octets_as_body, length-stamped, Command, DoesAll, begin, grow, seal, drop_entry, is_good, is_allowed, grown, kept_with, sealed, stamp_of, with_holding, with_more, after, after_all, AreAllowed, HasCall, HaveCalls, IsStore, Entry, Holding, partial, complete, Store, entry_of, new_entry, octets_of}
use Rattle.file_store_model.proofs.AfterLemmas.{after-IsStore, after-same, after_all-IsStore, after_all-KeepsComplete, begin-allowed, find-push, found-passes, good-fault, may-come, number_of}
use Rattle.file_store_model.proofs.EntriesLemmas.{find-map-changed, find_past, found-caller, found-fits, has_number}
use Rattle.file_store_model.proofs.GrowLemmas.{AreAllowed-append, AreAllowed-first, after_all-append}
use Rattle.file_store_model.proofs.LawLemmas.{after-next, after_all-gone}

abbrev IsOctet : ℕ → Type 0
IsOctet octet = octet < 256

-- a dropped number has no entry
find-filter_same : (number : ℕ) (entries : List Entry) → find (has_number number) (filter (λ e. not (e.number == number)) entries) ≡ None
find-filter_same number [] = refl
find-filter_same number (x ∷ xs) = grind (arith, nat_tests, find-filter_same number xs)

-- what an entry may become
abbrev Became : Entry → Option Entry → Type 0
Became old None = ⊤
Became old (Some new) = Continues old new

more-longer : (octets : List ℕ) (h : Holding) → length (octets_of h) ≤ length (octets_of (with_more octets h))
more-longer octets (partial held) = simp length-append (omega arith)
more-longer octets (complete all moment) = omega arith

kept-longer : (stamp : StampValue) (h : Holding) (l : ℕ) → IsCall stamp.by → IsTrue (is_good h l) → length (octets_of h) ≤ length (octets_of (kept_with stamp h))
kept-longer stamp (partial held) l call good = omega (arith, length-stamped stamp held call (good-fault held l good))
kept-longer stamp (complete all moment) l call good = omega arith

changed-continues : (store : Store) (number : ℕ) (change : Entry → Holding) (old : Entry) → entry_of store number ≡ Some old
    → length (octets_of old.holding) ≤ length (octets_of (change old)) → Became old (entry_of (with_holding store number change) number)
changed-continues store number change old found longer =
    subst (Became old) (sym (find-map-changed number change store.entries old found)) (record { same = refl; longer = longer })

own-continues : (store : Store) (command : Command) (old : Entry) → IsStore store → IsTrue (is_allowed store command)
    → entry_of store (number_of command) ≡ Some old → Became old (entry_of (after store command) (number_of command))
own-continues store (begin number caller file_length moment) old is ok found = grind (arith, begin-allowed store number caller file_length moment ok, found-fits number 1 store.next store.entries old is.entries)
own-continues store (grow number octets) old is ok found = changed-continues store number (grown octets) old found (more-longer octets old.holding)
own-continues store (seal number moment) old is ok found =
    let good = found-passes (λ e. is_good e.holding e.length) (entry_of store number) old found ok in
    changed-continues store number (sealed moment) old found
    (kept-longer (stamp_of moment old) old.holding old.length (found-caller number store.entries old is.callers found) good)
own-continues store (drop_entry number) old is ok found = subst (Became old) (sym (find-filter_same number store.entries)) tt

continues : (store : Store) (command : Command) (number : ℕ) (old : Entry) → IsStore store → IsTrue (is_allowed store command)
    → entry_of store number ≡ Some old → Became old (entry_of (after store command) number)
continues store command number old is ok found = grind (arith, nat_tests, after-same store command number, own-continues store command old is ok)

continues-then : (old mid new : Entry) → Continues old mid → Continues mid new → Continues old new
continues-then old mid new one two = record {
  same = two.same ∙ ap (λ (e : Entry). record e { holding = new.holding }) one.same;
  longer = omega (arith, one.longer, two.longer);
}

all-stand : (store : Store) (commands : List Command) → IsStore store → HaveCalls commands → AreAllowed store commands → (number : ℕ) (old new : Entry)
    → entry_of store number ≡ Some old → entry_of (after_all store commands) number ≡ Some new → Continues old new
all-stand store [] is calls ok number old new found there =
    let same : old ≡ new = cc in
    subst (Continues old) same (record { same = refl; longer = omega arith })
all-stand store (command ∷ commands) is calls ok number old new found there =
    by (entry_of (after store command) number) refl (continues store command number old is ok.0 found)
    (λ mid here. all-stand (after store command) commands (after-IsStore store command is calls.0 ok.0) calls.1 ok.1 number mid new here there)
  where
    by : (o : Option Entry) → entry_of (after store command) number ≡ o → Became old o
        → ((mid : Entry) → entry_of (after store command) number ≡ Some mid → Continues mid new) → Continues old new
    by None gone became later =
        let below = (found-fits number 1 store.next store.entries old is.entries found).2 in
        let still = after_all-gone (after store command) commands number ok.1 (omega (arith, below, after-next store command ok.0)) gone in
        absurd (let x : ⊥ = cc in x)
    by (Some mid) here became later = continues-then old mid new became (later mid here)

all-next : (store : Store) (commands : List Command) → AreAllowed store commands → store.next ≤ (after_all store commands).next
all-next store [] ok = omega arith
all-next store (command ∷ commands) ok = omega (arith, after-next store command ok.0, all-next (after store command) commands ok.1)

entries : (before now : Store) → IsStore before → Follows before now → KeepsEntries before now
entries before now is f =
    subst (KeepsEntries before) (sym f.does.1)
    (record {
      rules = after_all-IsStore before f.commands is f.calls f.does.0;
      complete = after_all-KeepsComplete before f.commands is f.calls f.does.0;
      stands = all-stand before f.commands is f.calls f.does.0;
      gone = λ number below none. after_all-gone before f.commands number f.does.0 below none;
      next = all-next before f.commands f.does.0;
    })

-- ---- the entries of others

-- the entry of the number of a caller's command is the caller's, before it and after it
own-before : (caller : CallSign) (store : Store) (command : Command) (e : Entry) → IsStore store → IsTrue (is_allowed store command)
    → IsOf caller store command → entry_of store (number_of command) ≡ Some e → e.caller ≡ caller
own-before caller store (begin number by file_length moment) e is ok own found = grind (arith, begin-allowed store number by file_length moment ok, found-fits number 1 store.next store.entries e is.entries)
own-before caller store command e is ok own found = own e found

begun-there : (store : Store) (number : ℕ) (caller : CallSign) (file_length moment : ℕ) → IsStore store
    → IsTrue (is_allowed store (begin number caller file_length moment))
    → entry_of (after store (begin number caller file_length moment)) number ≡ Some (new_entry number caller file_length moment)
begun-there store number caller file_length moment is ok = grind (arith, nat_tests, begin-allowed store number caller file_length moment ok, find-push (has_number number) store.entries (new_entry number caller file_length moment), find_past number 1 store.next store.entries is.entries)

own-after : (caller : CallSign) (store : Store) (command : Command) (e : Entry) → IsStore store → IsTrue (is_allowed store command)
    → IsOf caller store command → entry_of (after store command) (number_of command) ≡ Some e → e.caller ≡ caller
own-after caller store (begin number by file_length moment) e is ok own there = grind (arith, begun-there store number by file_length moment is ok)
own-after caller store command e is ok own there =
    let was = may-come store command ok in
    let became : Continues was.0 e = subst (Became was.0) there (own-continues store command was.0 is ok was.1) in
    ap (λ (x : Entry). x.caller) became.same ∙ own was.0 was.1

keeps-others : (caller : CallSign) (store : Store) (command : Command) → IsStore store → IsTrue (is_allowed store command)
    → IsOf caller store command → KeepsOthers caller store (after store command)
keeps-others caller store command is ok own number e other = grind (arith, nat_tests, after-same store command number, own-before caller store command e is ok own, own-after caller store command e is ok own)

own-call : (caller : CallSign) (store : Store) (command : Command) → IsCall caller → IsOf caller store command → HasCall command
own-call caller store (begin number by file_length moment) call own = subst IsCall (sym own) call
own-call caller store (grow number octets) call own = tt
own-call caller store command call own = tt

own-calls : (caller : CallSign) (store : Store) (commands : List Command) → IsCall caller → AreOf caller store commands → HaveCalls commands
own-calls caller store [] call own = tt
own-calls caller store (command ∷ commands) call own =
    (own-call caller store command call own.0, own-calls caller (after store command) commands call own.1)

keep-others : (caller : CallSign) (store : Store) (commands : List Command) → IsStore store → IsCall caller → AreAllowed store commands
    → AreOf caller store commands → KeepsOthers caller store (after_all store commands)
keep-others caller store [] is call ok own number e other = (λ found. found, λ there. there)
keep-others caller store (command ∷ commands) is call ok own number e other =
    let one = keeps-others caller store command is ok.0 own.0 number e other in
    let next = after-IsStore store command is (own-call caller store command call own.0) ok.0 in
    let later = keep-others caller (after store command) commands next call ok.1 own.1 number e other in
    (λ found. later.0 (one.0 found), λ there. one.1 (later.1 there))

-- ---- what is held

grown-file : (octets : List ℕ) (h : Holding) → IsOctets octets → IsFile h → IsFile (with_more octets h)
grown-file octets (partial held) more file = record { octets = All-append IsOctet held octets file.octets more; rules = tt }
grown-file octets (complete all moment) more file = file

sealed-file : (stamp : StampValue) (h : Holding) (l : ℕ) → IsCall stamp.by → IsTrue (is_good h l) → IsFile h → IsFile (kept_with stamp h)
sealed-file stamp (partial held) l call good file =
    let kept = (kept_file stamp held call (good-fault held l good)).1 file.octets in
    let front : List ℕ = header_text kept.items in
    let body : IsOctets kept.body =
    subst IsOctets (drop_at front kept.body (length front) refl)
    (All-drop IsOctet (length front) (front ++ kept.body) (subst IsOctets kept.came_text.text file.octets)) in
    record { octets = octets_as_body kept.kept_items kept.body (stamped stamp held) kept.kept_text body; rules = kept.faultless }
sealed-file stamp (complete all moment) l call good file = file

changed-file : (store : Store) (number : ℕ) (change : Entry → Holding) (old e : Entry) → entry_of store number ≡ Some old → IsFile (change old)
    → entry_of (with_holding store number change) number ≡ Some e → IsFile e.holding
changed-file store number change old e found file there =
    subst (λ (x : Entry). IsFile x.holding)
    (same_Some (record old { holding = change old }) e (sym (find-map-changed number change store.entries old found) ∙ there)) file

own-file : (store : Store) (command : Command) (e : Entry) → IsStore store → HaveFiles store → BringsOctets command → IsTrue (is_allowed store command)
    → entry_of (after store command) (number_of command) ≡ Some e → IsFile e.holding
own-file store (begin number caller file_length moment) e is have brings ok there =
    subst (λ (x : Entry). IsFile x.holding)
    (same_Some (new_entry number caller file_length moment) e (sym (begun-there store number caller file_length moment is ok) ∙ there))
    (record { octets = All-nil IsOctet; rules = tt })
own-file store (grow number octets) e is have brings ok there =
    let was = may-come store (grow number octets) ok in
    changed-file store number (grown octets) was.0 e was.1 (grown-file octets was.0.holding brings (have number was.0 was.1)) there
own-file store (seal number moment) e is have brings ok there =
    let was = may-come store (seal number moment) ok in
    let call = found-caller number store.entries was.0 is.callers was.1 in
    changed-file store number (sealed moment) was.0 e was.1
    (sealed-file (stamp_of moment was.0) was.0.holding was.0.length call was.2 (have number was.0 was.1)) there
own-file store (drop_entry number) e is have brings ok there = grind (arith, find-filter_same number store.entries)

all-files : (store : Store) (commands : List Command) → IsStore store → HaveFiles store → HaveCalls commands → AllByRecursion BringsOctets commands
    → AreAllowed store commands → HaveFiles (after_all store commands)
all-files store [] is have calls brings ok = have
all-files store (command ∷ commands) is have calls brings ok =
    all-files (after store command) commands (after-IsStore store command is calls.0 ok.0) one calls.1 brings.1 ok.1
  where
    one : HaveFiles (after store command)
    one number e there =
        elim (eqb_tells number (number_of command)) [
          | inl w ↦
              own-file store command e is have brings.0 ok.0 (subst (λ (n : ℕ). entry_of (after store command) n ≡ Some e) w.1 there)
          | inr w ↦ have number e (sym (after-same store command number w.1) ∙ there)
        ]

-- ---- one after another

then-calls : (a b : List Command) → HaveCalls a → HaveCalls b → HaveCalls (a ++ b)
then-calls [] b one two = two
then-calls (command ∷ a) b one two = (one.0, then-calls a b one.1 two)

then-does : (before between now : Store) (a b : List Command) → DoesAll before between a → DoesAll between now b → DoesAll before now (a ++ b)
then-does before between now a b one two = (
  AreAllowed-append a b before one.0 (subst (λ (s : Store). AreAllowed s b) one.1 two.0),
  two.1 ∙ ap (λ (s : Store). after_all s b) one.1 ∙ sym (after_all-append a b before),
)

pub follows_law : FollowsLaw
follows_law = record {
  entries = entries;
  others = λ caller before now is call f. (
    record { commands = f.commands; calls = own-calls caller before f.commands call f.own; does = f.does },
    subst (KeepsOthers caller before) (sym f.does.1) (keep-others caller before f.commands is call f.does.0 f.own),
  );
  files = λ before now commands is have calls brings does.
      subst HaveFiles (sym does.1) (all-files before commands is have calls brings does.0);
  joined = λ before between now one two. record {
    commands = one.commands ++ two.commands;
    calls = then-calls one.commands two.commands one.calls two.calls;
    does = then-does before between now one.commands two.commands one.does two.does;
  };
  joined_by = λ caller before between now one two. record {
    commands = one.commands ++ two.commands;
    own = allowed_append after (IsOf caller) one.commands two.commands before one.own
        (subst (λ (s : Store). AreOf caller s two.commands) one.does.1 two.own);
    does = then-does before between now one.commands two.commands one.does two.does;
  };
  first = λ before now count f. record {
    commands = take count f.commands;
    calls = recursion_from_All HasCall (take count f.commands) (All-take HasCall count f.commands (All-from_recursion HasCall f.commands f.calls));
    does = (AreAllowed-first count f.commands before f.does.0, refl);
  };
  first_by = λ caller before now count f. record {
    commands = take count f.commands;
    own = allowed_first after (IsOf caller) count f.commands before f.own;
    does = (AreAllowed-first count f.commands before f.does.0, refl);
  };
}
