-- The places of a server: which of them has a caller's connection.
use Rattle.std.proofs.Common.{◌≡◌, ℕ, zero, suc, ◌<◌, ◌≤◌, List, [], ◌∷◌, length, get_or, Bool, true, false, Option}
use Rattle.std.proofs.Common.{None, Some, refl, sym, ap, ◌∙◌, arith}
use Rattle.std.proofs.lemmas.List.Sums.{fails_before_first}
use Rattle.air_world.proofs.attempts.Names.{cond, find, is_some, slice_get, position, position_or_len, option_and_then, option_map, common_steps, cond_both, position-Some, get_or_from_slice_get, same_Some, slice_get-get_or, slice_get-map, slice_get_within, CallSign, is_same_call, same_call-decides, Connected, caller_of, Slot, all_freed, connected, free, freed, is_callers, leaving, place_of, connection_at}

-- ---- the first that passes

module _ {X : Type 0} (p : X → Bool) where
  -- none passes
  pub position-none : (xs : List X) (place : ℕ) (x : X) → position p xs ≡ None → slice_get xs place ≡ Some x
      → p x ≡ true → ⊥
  position-none xs place x none at passes =
      let within : place < length xs = slice_get_within xs place x at in
      let behind : length xs ≤ position_or_len p xs = grind (arith, common_steps) in
      let fails = fails_before_first p xs place x (omega arith) in
      let here : get_or xs place x ≡ x = get_or_from_slice_get xs place x x at in
      let no : true ≡ false = sym passes ∙ ap p (sym here) ∙ fails in
      cc

  pub record Passes (xs : List X) (place : ℕ) : Type 0 where
    pub x : X
    pub at : slice_get xs place ≡ Some x
    pub passes : p x ≡ true

  pub position-is : (xs : List X) (place : ℕ) (d : X) → position p xs ≡ Some place → Passes xs place
  position-is xs place d is =
      let some = position-Some p xs place d is in
      record { x = get_or xs place d; at = slice_get-get_or xs place d some.0; passes = some.1 }

  -- the only one that passes
  pub position-at : (xs : List X) (place : ℕ) (x : X) → slice_get xs place ≡ Some x → p x ≡ true
      → ((other : ℕ) (y : X) → slice_get xs other ≡ Some y → p y ≡ true → other ≡ place) → position p xs ≡ Some place
  position-at xs place x at passes only = by (position p xs) refl
    where
      by : (o : Option ℕ) → position p xs ≡ o → position p xs ≡ Some place
      by None is = absurd (position-none xs place x is at passes)
      by (Some other) is =
          let there = position-is xs other x is in
          is ∙ ap Some (only other there.x there.at there.passes)

  pub position-no : (xs : List X) (d : X) → ((other : ℕ) (y : X) → slice_get xs other ≡ Some y → p y ≡ true → ⊥)
      → position p xs ≡ None
  position-no xs d none = by (position p xs) refl
    where
      by : (o : Option ℕ) → position p xs ≡ o → position p xs ≡ None
      by None is = is
      by (Some other) is = let there = position-is xs other d is in absurd (none other there.x there.at there.passes)

  pub find-at : (xs : List X) (place : ℕ) (x : X) → slice_get xs place ≡ Some x → p x ≡ true
      → ((other : ℕ) (y : X) → slice_get xs other ≡ Some y → p y ≡ true → other ≡ place) → find p xs ≡ Some x
  find-at [] place x at passes only = absurd cc
  find-at (y ∷ xs) zero x at passes only =
      let same : y ≡ x = same_Some y x at in
      let here : p y ≡ true = ap p same ∙ passes in
      ap (λ (b : Bool). cond b (Some y) (find p xs)) here ∙ at
  find-at (y ∷ xs) (suc place) x at passes only =
      cond_both (p y) (Some y) (find p xs) (λ (o : Option X). o ≡ Some x)
      (λ is. absurd (let same : 0 ≡ suc place = only 0 y refl is in omega arith))
      (λ is. find-at xs place x at passes
      (λ other z there passes. let same : suc other ≡ suc place = only (suc other) z there passes in omega arith))

  pub find-no : (xs : List X) → ((other : ℕ) (y : X) → slice_get xs other ≡ Some y → p y ≡ true → ⊥) → find p xs ≡ None
  find-no [] none = refl
  find-no (y ∷ xs) none =
      cond_both (p y) (Some y) (find p xs) (λ (o : Option X). o ≡ None) (λ is. absurd (none 0 y refl is))
      (λ is. find-no xs (λ other z there passes. none (suc other) z there passes))

-- ---- places

-- the connection that a place has, also one whose session is over
abbrev pub held : Slot → Option Connected
held free = None
held (connected c) = Some c
held (leaving c) = Some c

-- so a caller's place is
pub is-caller : (caller : CallSign) (c : Connected) → caller_of c ≡ caller → is_same_call (caller_of c) caller ≡ true
is-caller caller c same = (same_call-decides (caller_of c) caller).1 same

pub caller-is : (caller : CallSign) (c : Connected) → is_same_call (caller_of c) caller ≡ true → caller_of c ≡ caller
caller-is caller c is = (same_call-decides (caller_of c) caller).0 is

-- a place with a connection of the caller
pub record IsCallersPlace (caller : CallSign) (slot : Slot) : Type 0 where
  pub c : Connected
  pub is : slot ≡ connected c
  pub caller_is : caller_of c ≡ caller

callers-place : (caller : CallSign) (slot : Slot) → is_callers caller slot ≡ true → IsCallersPlace caller slot
callers-place caller free is = absurd cc
callers-place caller (connected c) is = record { c = c; is = refl; caller_is = caller-is caller c is }
callers-place caller (leaving c) is = absurd cc

-- one place has one connection
pub same-seat : (c d : Connected) → Some (connected c) ≡ Some (connected d) → c ≡ d
same-seat c d same = cc

module _ (caller : CallSign) (slots : List Slot) where
  abbrev IsSeat : ℕ → Connected → Type 0
  IsSeat place c = slice_get slots place ≡ Some (connected c)

  pub place-of-is : (place : ℕ) → place_of caller slots ≡ Some place
      → (c : Connected) × IsSeat place c × (caller_of c ≡ caller)
  place-of-is place is =
      let there = position-is (is_callers caller) slots place free is in
      let it = callers-place caller there.x there.passes in
      (it.c, there.at ∙ ap Some it.is, it.caller_is)

  -- what is at a caller's place is its connection
  pub seat-caller : (place : ℕ) (c : Connected) → place_of caller slots ≡ Some place → IsSeat place c
      → caller_of c ≡ caller
  seat-caller place c is there =
      let it = place-of-is place is in
      ap caller_of (same-seat c it.0 (sym there ∙ it.1)) ∙ it.2

  pub place-of-not : place_of caller slots ≡ None → (place : ℕ) (c : Connected) → IsSeat place c → caller_of c ≡ caller
      → ⊥
  place-of-not none place c there same =
      position-none (is_callers caller) slots place (connected c) none there (is-caller caller c same)

  pub place-of-at : (place : ℕ) (c : Connected) → IsSeat place c → caller_of c ≡ caller
      → ((other : ℕ) (that : Connected) → IsSeat other that → caller_of that ≡ caller → other ≡ place)
      → place_of caller slots ≡ Some place
  place-of-at place c there same only =
      position-at (is_callers caller) slots place (connected c) there (is-caller caller c same)
      (λ other slot at passes.
      let it = callers-place caller slot passes in
      only other it.c (at ∙ ap Some it.is) it.caller_is)

  pub place-of-no : ((other : ℕ) (that : Connected) → IsSeat other that → caller_of that ≡ caller → ⊥)
      → place_of caller slots ≡ None
  place-of-no none =
      position-no (is_callers caller) slots free
      (λ other slot at passes.
      let it = callers-place caller slot passes in
      none other it.c (at ∙ ap Some it.is) it.caller_is)

-- ---- the caller's connection, also if its session is over

-- a place that has a connection of the caller
pub record IsHolding (caller : CallSign) (slot : Slot) : Type 0 where
  pub c : Connected
  pub is : held slot ≡ Some c
  pub caller_is : caller_of c ≡ caller

holds-some : (b : Bool) (c : Connected) → is_some (cond b (Some c) None) ≡ true → b ≡ true
holds-some true c is = refl
holds-some false c is = absurd cc

holding-place : (caller : CallSign) (slot : Slot) → is_some (connection_at caller slot) ≡ true → IsHolding caller slot
holding-place caller free is = absurd cc
holding-place caller (connected c) is =
    record { c = c; is = refl; caller_is = caller-is caller c (holds-some (is_same_call (caller_of c) caller) c is) }
holding-place caller (leaving c) is =
    record { c = c; is = refl; caller_is = caller-is caller c (holds-some (is_same_call (caller_of c) caller) c is) }

connection-at-is : (caller : CallSign) (slot : Slot) (c : Connected) → held slot ≡ Some c → caller_of c ≡ caller
    → connection_at caller slot ≡ Some c
connection-at-is caller free c is same = absurd cc
connection-at-is caller (connected d) c is same =
    let here : d ≡ c = same_Some d c is in
    ap (λ (b : Bool). cond b (Some d) None) (is-caller caller d (ap caller_of here ∙ same)) ∙ is
connection-at-is caller (leaving d) c is same =
    let here : d ≡ c = same_Some d c is in
    ap (λ (b : Bool). cond b (Some d) None) (is-caller caller d (ap caller_of here ∙ same)) ∙ is

-- the connection of a caller among places
abbrev pub connection_among : CallSign → List Slot → Option Connected
connection_among caller slots =
    option_and_then (connection_at caller) (find (λ slot. is_some (connection_at caller slot)) slots)

module _ (caller : CallSign) (slots : List Slot) where
  pub connection-is : (place : ℕ) (slot : Slot) (c : Connected) → slice_get slots place ≡ Some slot → held slot ≡ Some c
      → caller_of c ≡ caller
      → ((other : ℕ) (s : Slot) (that : Connected) → slice_get slots other ≡ Some s → held s ≡ Some that → caller_of
      that ≡ caller → other ≡ place)
      → connection_among caller slots ≡ Some c
  connection-is place slot c at is same only =
      let here = connection-at-is caller slot c is same in
      let found =
      find-at (λ s. is_some (connection_at caller s)) slots place slot at (ap is_some here)
      (λ other s there passes.
      let it = holding-place caller s passes in
      only other s it.c there it.is it.caller_is) in
      ap (option_and_then (connection_at caller)) found ∙ here

  pub connection-no : ((other : ℕ) (s : Slot) (that : Connected) → slice_get slots other ≡ Some s → held s ≡ Some that
      → caller_of that ≡ caller → ⊥)
      → connection_among caller slots ≡ None
  connection-no none =
      ap (option_and_then (connection_at caller))
      (find-no (λ s. is_some (connection_at caller s)) slots
      (λ other s there passes.
      let it = holding-place caller s passes in
      none other s it.c there it.is it.caller_is))

-- ---- places whose sessions are over are free

freed-connected : (slot : Slot) (c : Connected) → freed slot ≡ connected c → slot ≡ connected c
freed-connected free c is = is
freed-connected (connected d) c is = is
freed-connected (leaving d) c is = absurd cc

freed-leaving : (slot : Slot) (c : Connected) → freed slot ≡ leaving c → ⊥
freed-leaving free c is = cc
freed-leaving (connected d) c is = cc
freed-leaving (leaving d) c is = cc

pub mapped-some : {X Y : Type 0} (f : X → Y) (o : Option X) (y : Y) → option_map f o ≡ Some y
    → (x : X) × (o ≡ Some x) × (f x ≡ y)
mapped-some f None y is = absurd cc
mapped-some f (Some x) y is = (x, refl, same_Some (f x) y is)

pub freed-seat : (slots : List Slot) (place : ℕ) (c : Connected)
    → slice_get (all_freed slots) place ≡ Some (connected c) → slice_get slots place ≡ Some (connected c)
freed-seat slots place c at =
    let it = mapped-some freed (slice_get slots place) (connected c) (sym (slice_get-map freed slots place) ∙ at) in
    it.1 ∙ ap Some (freed-connected it.0 c it.2)

pub freed-none : (slots : List Slot) (place : ℕ) (c : Connected) → slice_get (all_freed slots) place ≡ Some (leaving c)
    → ⊥
freed-none slots place c at =
    let it = mapped-some freed (slice_get slots place) (leaving c) (sym (slice_get-map freed slots place) ∙ at) in
    freed-leaving it.0 c it.2

pub seat-freed : (slots : List Slot) (place : ℕ) (c : Connected) → slice_get slots place ≡ Some (connected c)
    → slice_get (all_freed slots) place ≡ Some (connected c)
seat-freed slots place c at = slice_get-map freed slots place ∙ ap (option_map freed) at
