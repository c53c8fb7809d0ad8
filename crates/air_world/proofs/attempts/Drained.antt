-- What the places of a server drain, place by place, and which of the frames are a caller's.
use Rattle.std.proofs.Common.{◌≡◌, ◌≢◌, ℕ, zero, suc, List, [], ◌∷◌, ◌++◌, length, filter, Bool, Some, refl, sym, ap}
use Rattle.std.proofs.Common.{ap₂, subst, ◌∙◌, append-nil}
use Rattle.std.proofs.lemmas.List.Elements.{filter-append}
use Rattle.air_world.proofs.attempts.Names.{slice_get, cond, AllByRecursion, cond_both, same_Some, CallSign, FrameValue, LinkEnd, Drains, IsFrameOf, Stations, stations_of, IsWindow, Window, stations_law, is_same_call, same_call-decides, Connected, caller_of, Slot, connected, free, leaving, SlotDrains, SlotsDrain}
use Rattle.air_world.proofs.attempts.Places.{held}

-- ---- frames to a station

abbrev pub to_station : CallSign → List FrameValue → List FrameValue
to_station me frames = filter (λ frame. is_same_call frame.dest me) frames

to-append : (me : CallSign) (some more : List FrameValue)
    → to_station me (some ++ more) ≡ to_station me some ++ to_station me more
to-append me some more = filter-append (λ (frame : FrameValue). is_same_call frame.dest me) some more

abbrev pub AreTo : CallSign → List FrameValue → Type 0
AreTo peer frames = AllByRecursion (λ frame. frame.dest ≡ peer) frames

to-all : (me peer : CallSign) (frames : List FrameValue) → peer ≡ me → AreTo peer frames → to_station me frames ≡ frames
to-all me peer [] same all = refl
to-all me peer (frame ∷ frames) same all =
    ap (λ (b : Bool). cond b (frame ∷ to_station me frames) (to_station me frames))
    ((same_call-decides frame.dest me).1 (all.0 ∙ same))
    ∙ ap (λ (list : List FrameValue). frame ∷ list) (to-all me peer frames same all.1)

to-none : (me peer : CallSign) (frames : List FrameValue) → peer ≢ me → AreTo peer frames → to_station me frames ≡ []
to-none me peer [] other all = refl
to-none me peer (frame ∷ frames) other all =
    cond_both (is_same_call frame.dest me) (frame ∷ to_station me frames) (to_station me frames)
    (λ (list : List FrameValue). list ≡ [])
    (λ is. absurd (other (sym all.0 ∙ (same_call-decides frame.dest me).0 is)))
    (λ is. to-none me peer frames other all.1)

-- ---- one place

frames-to : (w : Window) (s : Stations) (frames : List FrameValue) → AllByRecursion (IsFrameOf w s) frames
    → AreTo s.peer frames
frames-to w s [] all = tt
frames-to w s (frame ∷ frames) all = (all.0.dest, frames-to w s frames all.1)

end-to : (w : Window) (end last : LinkEnd) (frames : List FrameValue) → IsWindow w → Drains w end frames last
    → AreTo end.peer frames
end-to w end last frames window drains =
    frames-to w (stations_of end) frames (stations_law.drains w end last frames window drains).own

slot-to : (w : Window) (slot now : Slot) (c : Connected) (frames : List FrameValue) → IsWindow w → held slot ≡ Some c
    → SlotDrains w slot frames now
    → AreTo (caller_of c) frames
slot-to w free now c frames window is drains = absurd cc
slot-to w (connected d) now c frames window is drains =
    subst (λ (x : Connected). AreTo (caller_of x) frames) (same_Some d c is)
    (end-to w d.end drains.0 frames window drains.1)
slot-to w (leaving d) now c frames window is drains =
    subst (λ (x : Connected). AreTo (caller_of x) frames) (same_Some d c is)
    (end-to w d.end drains.0 frames window drains.1)

-- a place without a connection of the caller sends it nothing
slot-others : (w : Window) (me : CallSign) (slot now : Slot) (frames : List FrameValue) → IsWindow w
    → ((c : Connected) → held slot ≡ Some c → caller_of c ≢ me)
    → SlotDrains w slot frames now → to_station me frames ≡ []
slot-others w me free now frames window other drains = ap (to_station me) drains.0
slot-others w me (connected c) now frames window other drains =
    to-none me (caller_of c) frames (other c refl) (slot-to w (connected c) now c frames window refl drains)
slot-others w me (leaving c) now frames window other drains =
    to-none me (caller_of c) frames (other c refl) (slot-to w (leaving c) now c frames window refl drains)

-- ---- places

-- at this place is a connection of the caller
abbrev pub IsHeldAt : CallSign → List Slot → ℕ → Type 0
IsHeldAt me slots place =
    (slot : Slot) × (c : Connected) × (slice_get slots place ≡ Some slot) × (held slot ≡ Some c) × (caller_of c ≡ me)

module _ (w : Window) (me : CallSign) (window : IsWindow w) where
  drained-none : (slots : List Slot) (frames : List FrameValue) (last : List Slot) → SlotsDrain w slots frames last
      → ((place : ℕ) → IsHeldAt me slots place → ⊥) → to_station me frames ≡ []
  drained-none [] frames last drains none = ap (to_station me) drains.0
  drained-none (slot ∷ slots) frames last drains none =
      ap (to_station me) drains.4 ∙ to-append me drains.0 drains.1
      ∙ ap₂ (λ (one two : List FrameValue). one ++ two)
      (slot-others w me slot drains.2 drains.0 window (λ c is same. none 0 (slot, c, refl, is, same)) drains.6)
      (drained-none slots drains.1 drains.3 drains.7 (λ place it. none (suc place) it))

  -- The caller's place sends all frames to it.
  pub record DrainedAt (slot : Slot) (frames : List FrameValue) (last : List Slot) (place : ℕ) : Type 0 where
    pub now : Slot
    pub at : slice_get last place ≡ Some now
    pub drains : SlotDrains w slot (to_station me frames) now

  drained-here : (slot : Slot) (slots : List Slot) (frames : List FrameValue) (last : List Slot) (c : Connected)
      → held slot ≡ Some c → caller_of c ≡ me
      → SlotsDrain w (slot ∷ slots) frames last → ((place : ℕ) → IsHeldAt me slots place → ⊥)
      → DrainedAt slot frames last 0
  drained-here slot slots frames last c is same drains none =
      let own : to_station me frames ≡ drains.0 =
      ap (to_station me) drains.4 ∙ to-append me drains.0 drains.1
      ∙ ap₂ (λ (one two : List FrameValue). one ++ two)
      (to-all me (caller_of c) drains.0 same (slot-to w slot drains.2 c drains.0 window is drains.6))
      (drained-none slots drains.1 drains.3 drains.7 none)
      ∙ append-nil drains.0 in
      record {
        now = drains.2;
        at = ap (λ (l : List Slot). slice_get l 0) drains.5;
        drains = subst (λ (f : List FrameValue). SlotDrains w slot f drains.2) (sym own) drains.6;
      }

  pub drained-at : (slots : List Slot) (frames : List FrameValue) (last : List Slot) (place : ℕ) (slot : Slot)
      (c : Connected) → slice_get slots place ≡ Some slot
      → held slot ≡ Some c → caller_of c ≡ me → ((other : ℕ) → IsHeldAt me slots other → other ≡ place)
      → SlotsDrain w slots frames last
      → DrainedAt slot frames last place
  drained-at [] frames last place slot c at is same only drains = absurd cc
  drained-at (first ∷ slots) frames last zero slot c at is same only drains =
      let here : first ≡ slot = same_Some first slot at in
      subst (λ (s : Slot). DrainedAt s frames last 0) here
      (drained-here first slots frames last c (ap held here ∙ is) same drains
      (λ place it. let no : suc place ≡ 0 = only (suc place) it in cc))
  drained-at (first ∷ slots) frames last (suc place) slot c at is same only drains =
      let rest =
      drained-at slots drains.1 drains.3 place slot c at is same
      (λ other it. let same : suc other ≡ suc place = only (suc other) it in cc) drains.7 in
      let own : to_station me frames ≡ to_station me drains.1 =
      ap (to_station me) drains.4 ∙ to-append me drains.0 drains.1
      ∙ ap (λ (one : List FrameValue). one ++ to_station me drains.1)
      (slot-others w me first drains.2 drains.0 window
      (λ d is same. let no : 0 ≡ suc place = only 0 (first, d, refl, is, same) in cc) drains.6) in
      record {
        now = rest.now;
        at = ap (λ (l : List Slot). slice_get l (suc place)) drains.5 ∙ rest.at;
        drains = subst (λ (f : List FrameValue). SlotDrains w slot f rest.now) (sym own) rest.drains;
      }

-- what a place was that is this one now
pub record WasDrained (w : Window) (slots : List Slot) (place : ℕ) (now : Slot) : Type 0 where
  pub slot : Slot
  pub at : slice_get slots place ≡ Some slot
  pub own : List FrameValue
  pub drains : SlotDrains w slot own now

pub was-drained : (w : Window) (slots : List Slot) (frames : List FrameValue) (last : List Slot) (place : ℕ)
    (now : Slot) → SlotsDrain w slots frames last
    → slice_get last place ≡ Some now → WasDrained w slots place now
was-drained w [] frames last place now drains at =
    absurd (let none = ap (λ (l : List Slot). slice_get l place) drains.1 in cc)
was-drained w (slot ∷ slots) frames last zero now drains at =
    let here : drains.2 ≡ now = same_Some drains.2 now (ap (λ (l : List Slot). slice_get l 0) (sym drains.5) ∙ at) in
    record { slot = slot; at = refl; own = drains.0; drains = subst (SlotDrains w slot drains.0) here drains.6 }
was-drained w (slot ∷ slots) frames last (suc place) now drains at =
    let rest =
    was-drained w slots drains.1 drains.3 place now drains.7
    (ap (λ (l : List Slot). slice_get l (suc place)) (sym drains.5) ∙ at) in
    record { slot = rest.slot; at = rest.at; own = rest.own; drains = rest.drains }

pub drained-length : (w : Window) (slots : List Slot) (frames : List FrameValue) (last : List Slot)
    → SlotsDrain w slots frames last → length last ≡ length slots
drained-length w [] frames last drains = ap length drains.1
drained-length w (slot ∷ slots) frames last drains = ap length drains.5
    ∙ ap suc (drained-length w slots drains.1 drains.3 drains.7)
