-- Between events a server is as it was before, except for the connections that a step changed.
use Rattle.std.proofs.Common.{◌≡◌, ◌≢◌, ◌⊎◌, inl, inr, ℕ, ◌<◌, List, [], length, Some, refl, sym, ap, subst, ◌∙◌}
use Rattle.ftl0_server.specs.StepLaws.Steps as server
use Rattle.air_world.proofs.attempts.Names.{slice_get, slice_set, length-map, length-set, CallSign, Up, IsWindow, Window, NodeEvent, Connected, caller_of, Server, ServerStep, Stepped, Slot, all_freed, connected, leaving, IsBetween, IsKnown, IsSeatedIn}
use Rattle.air_world.proofs.attempts.Places.{freed-none, freed-seat}
use Rattle.air_world.proofs.attempts.ListLemmas.{set-at}

-- ---- connections at places

-- a connection of this caller was at the place
pub record WasSeated (old : Server) (place : ℕ) (caller : CallSign) : Type 0 where
  pub before : Connected
  pub there : IsSeatedIn old place before
  pub caller_is : caller_of before ≡ caller

-- Each connection is up, and was at its place before, or is a new one of a caller at a place. No other one of that
-- caller was there, and none is at two places.
pub record Reseats (old new : Server) (IsNew : CallSign → ℕ → Type 0) : Type 0 where
  pub eight : length new.slots ≡ length old.slots
  pub none_leaving : (place : ℕ) (c : Connected) → slice_get new.slots place ≢ Some (leaving c)
  pub up : (place : ℕ) (c : Connected) → IsSeatedIn new place c → c.end.state ≡ Up
  pub each : (place : ℕ) (c : Connected) → IsSeatedIn new place c
      → WasSeated old place (caller_of c) ⊎ IsNew (caller_of c) place
  pub once : (caller : CallSign) (place other : ℕ) → IsNew caller place → IsNew caller other → place ≡ other
  pub apart : (caller : CallSign) (place other : ℕ) (c : Connected) → IsNew caller place → IsSeatedIn old other c
      → caller_of c ≡ caller → other ≡ place

module _ (old new : Server) (IsNew : CallSign → ℕ → Type 0) (between : IsBetween old) (seats : Reseats old new IsNew)
  where
    reseats-distinct : (place other : ℕ) (c that : Connected) → IsSeatedIn new place c → IsSeatedIn new other that
        → caller_of c ≡ caller_of that → place ≡ other
    reseats-distinct place other c that here there same =
        elim (seats.each place c here) [
          | inl was ↦
              elim (seats.each other that there) [
                | inl wasn ↦
                    between.distinct place other was.before wasn.before was.there wasn.there
                    (was.caller_is ∙ same ∙ sym wasn.caller_is)
                | inr is ↦
                    seats.apart (caller_of that) other place was.before is was.there (was.caller_is ∙ same)
              ]
          | inr is ↦
              elim (seats.each other that there) [
                | inl was ↦
                    sym (seats.apart (caller_of c) place other was.before is was.there (was.caller_is ∙ sym same))
                | inr isn ↦
                    seats.once (caller_of that) place other (subst (λ (caller : CallSign). IsNew caller place) same is)
                    isn
              ]
        ]

    pub between-new : new.window ≡ old.window → server.MayStep new → IsBetween new
    between-new window may_step = record {
      window = subst (λ (w : Window). IsWindow w) (sym window) between.window;
      may_step = may_step;
      eight = seats.eight ∙ between.eight;
      distinct = reseats-distinct;
      none_leaving = seats.none_leaving;
      ups = seats.up;
    }

    pub known-new : (IsCaller : CallSign → Type 0)
        → ((caller : CallSign) (place : ℕ) → IsNew caller place → IsCaller caller)
        → (place : ℕ) (c : Connected) → IsSeatedIn new place c → IsKnown old IsCaller (caller_of c)
    known-new IsCaller is place c here =
        elim (seats.each place c here) [
          | inl was ↦ inr (place, was.before, was.there, was.caller_is)
          | inr new_is ↦ inl (is (caller_of c) place new_is)
        ]

-- what may step after a step may step again
pub steps-again : server.SomeStepLaw → server.OneStepLaw → (old : Server) (event : NodeEvent) (gives : Stepped)
    → server.MayStep old → ServerStep old event [] gives
    → server.MayStep gives.new
steps-again some one old event gives may step =
    let other = some old event [] may in
    subst (λ (g : Stepped). server.MayStep g.new) (sym (one old event [] gives other.gives step other.step))
    other.may_step

-- ---- one place

-- A place has a connection of this caller now, or none, and had so before; no other one had one.
pub record Resits (old : Server) (caller : CallSign) (place : ℕ) (now : Slot) : Type 0 where
  pub is : (c : Connected) → now ≡ connected c → (c.end.state ≡ Up) × (caller_of c ≡ caller)
  pub only : (other : ℕ) (c : Connected) → IsSeatedIn old other c → caller_of c ≡ caller → other ≡ place
  pub was : (c : Connected) → IsSeatedIn old place c → caller_of c ≡ caller

-- this caller at this place
abbrev pub IsAtPlace : CallSign → ℕ → CallSign → ℕ → Type 0
IsAtPlace caller place who at = (who ≡ caller) × (at ≡ place)

module _ (old : Server) (slots : List Slot) (new : Server) (slots_are : new.slots ≡ all_freed slots) where
  -- a connection at a place of the new server
  pub seat-before : (place : ℕ) (c : Connected) → IsSeatedIn new place c → slice_get slots place ≡ Some (connected c)
  seat-before place c there =
      freed-seat slots place c (ap (λ (s : List Slot). slice_get s place) (sym slots_are) ∙ there)

  pub none-left : (place : ℕ) (c : Connected) → slice_get new.slots place ≢ Some (leaving c)
  none-left place c there = freed-none slots place c (ap (λ (s : List Slot). slice_get s place) (sym slots_are) ∙ there)

module _ (old new : Server) (between : IsBetween old) (caller : CallSign) (place : ℕ) (now : Slot)
    (within : place < length old.slots)
    (slots_are : new.slots ≡ all_freed (slice_set old.slots place now)) (sits : Resits old caller place now) where
  -- each is as it was, or at the place
  pub seat-is : (other : ℕ) (c : Connected) → IsSeatedIn new other c
      → ((other ≡ place) × (now ≡ connected c)) ⊎ ((other ≢ place) × IsSeatedIn old other c)
  seat-is other c there =
      elim (set-at old.slots place other now (connected c)
      (seat-before old (slice_set old.slots place now) new slots_are other c there)) [
        | inl it ↦ inl (it.0, sym it.1)
        | inr was ↦ inr was
      ]

  pub place-reseats : Reseats old new (IsAtPlace caller place)
  place-reseats = record {
    eight = ap (λ (s : List Slot). length s) slots_are ∙ length-map (slice_set old.slots place now) _
        ∙ length-set old.slots place now;
    none_leaving = none-left old (slice_set old.slots place now) new slots_are;
    up = λ other c there.
        elim (seat-is other c there) [
          | inl here ↦ (sits.is c here.1).0
          | inr was ↦ between.ups other c was.1
        ];
    each = λ other c there.
        elim (seat-is other c there) [
          | inl here ↦ inr ((sits.is c here.1).1, here.0)
          | inr was ↦ inl (record { before = c; there = was.1; caller_is = refl })
        ];
    once = λ who one two is isn. is.1 ∙ sym isn.1;
    apart = λ who one two c is there same. sits.only two c there (same ∙ is.0) ∙ sym is.1;
  }

-- no place
pub none-reseats : (old new : Server) → IsBetween old → new.slots ≡ all_freed old.slots
    → Reseats old new (λ caller place. ⊥)
none-reseats old new between slots_are = record {
  eight = ap (λ (s : List Slot). length s) slots_are ∙ length-map old.slots _;
  none_leaving = none-left old old.slots new slots_are;
  up = λ place c there. between.ups place c (seat-before old old.slots new slots_are place c there);
  each = λ place c there. inl (record
      { before = c; there = seat-before old old.slots new slots_are place c there; caller_is = refl });
  once = λ who one two is. absurd is;
  apart = λ who one two c is. absurd is;
}
