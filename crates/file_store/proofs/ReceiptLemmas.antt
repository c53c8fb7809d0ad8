-- A complete entry stays through commands.
use Rattle.std.proofs.Common.{◌≡◌, inl, inr, ℕ, zero, suc, List, [], ◌∷◌, length, subst, Some}
use Rattle.file_store_model.specs.Command.{is_partial}
use Rattle.file_store.proofs.Names.{IsTrue, eqb_tells, AreAllowed, Command, after, begin, drop_entry, grow, has_room, is_allowed, is_good, seal, is_complete, Entry, Store, entry_of, after-other, find-append_found, found-passes, good-partial, grow-allowed, has_number, never-both, partial-held, room-partial, ReceiptLaw, after_first}

-- a command that is allowed leaves a complete entry as it is
stays_one : (store : Store) (command : Command) (number : ℕ) (e : Entry) → IsTrue (is_allowed store command) → entry_of store number ≡ Some e → IsTrue (is_complete e.holding)
    → entry_of (after store command) number ≡ Some e
stays_one store (begin n caller file_length moment) number e ok found whole = find-append_found (has_number number) store.entries _ e found
stays_one store (grow n octets) number e ok found whole =
    elim (eqb_tells number n) [
      | inl w ↦ (
          let here = subst (λ (k : ℕ). entry_of store k ≡ Some e) w.1 found in
          let room = room-partial e.holding e.length (length octets) (found-passes (λ e. has_room e.holding e.length (length octets)) (entry_of store n) e here (grow-allowed store n octets ok)) in
          absurd (never-both e.holding room.0 room.1 whole))
      | inr w ↦ after-other store (grow n octets) number e w.1 found
    ]
stays_one store (seal n moment) number e ok found whole =
    elim (eqb_tells number n) [
      | inl w ↦ (
          let here = subst (λ (k : ℕ). entry_of store k ≡ Some e) w.1 found in
          let good = good-partial e.holding e.length (found-passes (λ e. is_good e.holding e.length) (entry_of store n) e here ok) in
          absurd (never-both e.holding good.0 good.1 whole))
      | inr w ↦ after-other store (seal n moment) number e w.1 found
    ]
stays_one store (drop_entry n) number e ok found whole =
    elim (eqb_tells number n) [
      | inl w ↦ (
          let here = subst (λ (k : ℕ). entry_of store k ≡ Some e) w.1 found in
          let held = partial-held e.holding (found-passes (λ e. is_partial e.holding) (entry_of store n) e here ok) in
          absurd (never-both e.holding held.0 held.1 whole))
      | inr w ↦ after-other store (drop_entry n) number e w.1 found
    ]

-- so do the first of some commands
pub stays : (store : Store) (commands : List Command) (count number : ℕ) (e : Entry) → AreAllowed store commands → entry_of store number ≡ Some e → IsTrue (is_complete e.holding)
    → entry_of (after_first count store commands) number ≡ Some e
stays store [] zero number e allowed found whole = found
stays store [] (suc count) number e allowed found whole = found
stays store (command ∷ commands) zero number e allowed found whole = found
stays store (command ∷ commands) (suc count) number e allowed found whole =
    stays (after store command) commands count number e allowed.1 (stays_one store command number e allowed.0 found whole) whole

pub receipt-stays : ReceiptLaw
receipt-stays store commands low high number entry image allowed found whole makes =
    (after_first makes.0 store commands, makes.3, stays store commands makes.0 number entry allowed found whole)
