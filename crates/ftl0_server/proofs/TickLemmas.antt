-- Ticks at the first places of a server.
use Rattle.std.proofs.Common.{◌≡◌, ℕ, zero, suc, List, [], ◌∷◌, length, set, drop, map, false, Some, refl, sym, ap, arith}
use Rattle.ftl0_server.proofs.Names.{common_steps, slice_get, same_Some, CallSign, Window, StoreState, IsOnlyOut, number_of, caller_of, ConnectionState, IsPlace, MayTick, Works, Place, Moving, Talking, Empty, IsAt, IsSettled, AllPlaces, any_pending, place_pending, Slot, slot_ticking}
use Rattle.ftl0_server.proofs.AllPlaces.{all-set-to, never}
use Rattle.ftl0_server.proofs.NextLemmas.{none_first}
use Rattle.ftl0_server.proofs.SettledLemmas.{says-kept}

-- a tick came at this number of these, the first ones
abbrev pub ticked : ℕ → List Slot → List Slot
ticked zero slots = slots
ticked (suc i) [] = []
ticked (suc i) (s ∷ ss) = slot_ticking s ∷ ticked i ss

pub ticked-get : (i : ℕ) (slots : List Slot) → slice_get (ticked i slots) i ≡ slice_get slots i
ticked-get zero slots = refl
ticked-get (suc i) [] = refl
ticked-get (suc i) (s ∷ ss) = ticked-get i ss

pub ticked-set : (i : ℕ) (slots : List Slot) (s : Slot) → slice_get slots i ≡ Some s → set (ticked i slots) i (slot_ticking s) ≡ ticked (suc i) slots
ticked-set i [] s at = absurd (never s at)
ticked-set zero (x ∷ xs) s at = ap (λ (y : Slot). slot_ticking y ∷ xs) (sym (same_Some x s at))
ticked-set (suc i) (x ∷ xs) s at = ap (λ (ys : List Slot). slot_ticking x ∷ ys) (ticked-set i xs s at)

pub ticked-all : (slots : List Slot) → ticked (length slots) slots ≡ map slot_ticking slots
ticked-all [] = refl
ticked-all (s ∷ ss) = ap (λ (ys : List Slot). slot_ticking s ∷ ys) (ticked-all ss)

-- one place was changed, and the store with it
pub all-works : (w : Window) (me : CallSign) (k : ℕ) (before now : StoreState) (places : List Place) (slots : List Slot) (i : ℕ) (old new : Place) (s : Slot)
    → slice_get places i ≡ Some old → IsSettled me k before places → Works before now old new → AllPlaces (IsPlace w before) places slots
    → IsPlace w now new s → AllPlaces (IsPlace w now) (set places i new) (set slots i s)
all-works w me k before now places slots i old new s at settled works all here =
    all-set-to (IsPlace w before) (IsPlace w now) places slots i new s
    (λ j place slot ne there it is. (is.0, says-kept me k before now places i old new at settled works j place slot ne there is.1)) all here

-- of its caller no upload is out except its own
pub own-only : (me : CallSign) (k : ℕ) (store : StoreState) (places : List Place) (i : ℕ) (c : ConnectionState) → IsAt places i c
    → IsSettled me k store places → IsOnlyOut store c.session.uploads
own-only me k store places i c at settled =
    settled.only (caller_of c.session) (number_of c.session.uploads.phase) (
      λ j d there same. let here : j ≡ i = settled.distinct j i d c there at same in grind (arith, common_steps),
      λ nobody. absurd (nobody i c at refl),
    )

-- the place at which the tick comes next
pub quiet-at : (places : List Place) (i : ℕ) (place : Place) → slice_get places i ≡ Some place → any_pending (drop i places) ≡ false → place_pending place ≡ false
quiet-at [] i place at none = absurd (never place at)
quiet-at (p ∷ ps) zero place at none = grind (arith, common_steps)
quiet-at (p ∷ ps) (suc i) place at none = quiet-at ps i place at none

pub may-tick : (me : CallSign) (k : ℕ) (store : StoreState) (places : List Place) (i : ℕ) (place : Place) → slice_get places i ≡ Some place
    → IsSettled me k store places → any_pending (drop i places) ≡ false → MayTick store place
may-tick me k store places i Moving at settled none = tt
may-tick me k store places i (Talking c) at settled none =
    let seated = settled.seated i c at in
    let only = own-only me k store places i c at settled in
    let quiet = quiet-at places i (Talking c) at none in grind (arith, common_steps)
may-tick me k store places i (Empty link) at settled none = tt

-- the places after it are as they were
pub quiet-later : (places : List Place) (i : ℕ) (new : Place) → any_pending (drop i places) ≡ false → any_pending (drop (suc i) (set places i new)) ≡ false
quiet-later [] i new none = refl
quiet-later (p ∷ ps) zero new none = (none_first (place_pending p) (any_pending ps) none).1
quiet-later (p ∷ ps) (suc i) new none = quiet-later ps i new none
