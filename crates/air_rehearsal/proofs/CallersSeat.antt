-- The connection of a caller, and the places of a server: where a place has one it is found.
use Rattle.std.proofs.Common.{◌≡◌, ℕ, zero, suc, List, [], ◌∷◌, Bool, true, Option, None, Some, refl, sym, ap, ◌∙◌}
use Rattle.std.specs.Prelude.{find, if◌then◌else◌}
use Rattle.ftl0_server.specs.Slots.{place_of}
use Rattle.air_rehearsal.proofs.Names.{cond, is_some, slice_get, option_and_then, option_map, same_Some, slice_get-map, CallSign, same_call-decides, Connected, caller_of, Server, Slot, all_freed, connected, free, freed, leaving, IsBetween, IsSeatedIn, connection_at, connection_of, old-connection, old-none, place-of-is, place-of-not}

-- ---- places whose sessions are over are free

freed-connected : (slot : Slot) (c : Connected) → freed slot ≡ connected c → slot ≡ connected c
freed-connected free c is = is
freed-connected (connected d) c is = is
freed-connected (leaving d) c is = absurd cc

mapped-some : {X Y : Type 0} (f : X → Y) (o : Option X) (y : Y) → option_map f o ≡ Some y
    → (x : X) × (o ≡ Some x) × (f x ≡ y)
mapped-some f None y is = absurd cc
mapped-some f (Some x) y is = (x, refl, same_Some (f x) y is)

-- a connection that is there behind it was there before
pub freed-seat : (slots : List Slot) (place : ℕ) (c : Connected)
    → slice_get (all_freed slots) place ≡ Some (connected c) → slice_get slots place ≡ Some (connected c)
freed-seat slots place c at =
    let it = mapped-some freed (slice_get slots place) (connected c) (sym (slice_get-map freed slots place) ∙ at) in
    it.1 ∙ ap Some (freed-connected it.0 c it.2)

-- ---- the connection of a caller

module _ (caller : CallSign) where
  -- the caller's connection among places
  abbrev pub connection_among : List Slot → Option Connected
  connection_among slots =
      option_and_then (connection_at caller) (find (λ slot. is_some (connection_at caller slot)) slots)

  -- a place that is found
  abbrev found_by : Bool → Slot → List Slot → Option Connected
  found_by is slot slots =
      option_and_then (connection_at caller)
      (cond is (Some slot) (find (λ s. is_some (connection_at caller s)) slots))

  at-first : (c : Connected) → caller_of c ≡ caller → connection_at caller (connected c) ≡ Some c
  at-first c mine =
      ap (λ (b : Bool). if b then Some c else None) ((same_call-decides (caller_of c) caller).1 mine)

  -- a caller of which no connection is found is at no place
  pub seat-found : (slots : List Slot) (place : ℕ) (c : Connected) → slice_get slots place ≡ Some (connected c)
      → caller_of c ≡ caller → connection_among slots ≡ None → ⊥
  seat-found [] place c at mine none = absurd cc
  seat-found (slot ∷ slots) place c at mine none =
      by (λ later at none. seat-found slots later c at mine none) (connection_at caller slot) refl place at
    where
      by : ((later : ℕ) → slice_get slots later ≡ Some (connected c) → connection_among slots ≡ None → ⊥)
          → (o : Option Connected) → connection_at caller slot ≡ o → (place : ℕ)
          → slice_get (slot ∷ slots) place ≡ Some (connected c) → ⊥
      by rest (Some d) is place at =
          let here : found_by true slot slots ≡ None =
          ap (λ (o : Option Connected). found_by (is_some o) slot slots) (sym is) ∙ none in
          let no : Some d ≡ None = sym is ∙ here in
          cc
      by rest None is zero at =
          let same : slot ≡ connected c = same_Some slot (connected c) at in
          let no : None ≡ Some c = sym is ∙ ap (connection_at caller) same ∙ at-first c mine in
          cc
      by rest None is (suc later) at =
          rest later at (ap (λ (o : Option Connected). found_by (is_some o) slot slots) (sym is) ∙ none)

-- ---- between events

module _ (server : Server) (between : IsBetween server) (caller : CallSign) where
  -- a caller without a connection is at no place
  pub seat-none : connection_of server caller ≡ None → (place : ℕ) (c : Connected) → IsSeatedIn server place c
      → caller_of c ≡ caller → ⊥
  seat-none none place c at mine =
      let no : None ≡ Some c = sym none ∙ old-connection server between caller place c at mine in cc

  -- the connection of a caller is at a place
  pub connection-seat : (c : Connected) → connection_of server caller ≡ Some c
      → (place : ℕ) × IsSeatedIn server place c × (caller_of c ≡ caller)
  connection-seat c is = by (place_of caller server.slots) refl
    where
      by : (o : Option ℕ) → place_of caller server.slots ≡ o
          → (place : ℕ) × IsSeatedIn server place c × (caller_of c ≡ caller)
      by None none =
          let lost = old-none server between caller
          (λ place d at mine. place-of-not caller server.slots none place d at mine) in
          absurd (let no : None ≡ Some c = sym lost ∙ is in cc)
      by (Some place) found =
          let seat = place-of-is caller server.slots place found in
          let own = old-connection server between caller place seat.0 seat.1 seat.2 in
          let same : seat.0 ≡ c = same_Some seat.0 c (sym own ∙ is) in
          (place, seat.1 ∙ ap (λ (it : Connected). Some (connected it)) same, ap caller_of (sym same) ∙ seat.2)
