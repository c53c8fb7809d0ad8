-- Which frames of those that a server's places drain are for a caller: none, where no place has its connection.
use Rattle.std.proofs.Common.{◌≡◌, ◌≢◌, List, [], ◌∷◌, ◌++◌, filter, refl, sym, ap, ap₂, ◌∙◌}
use Rattle.ax25_link.specs.Stations.{Stations, stations_of}
use Rattle.air_rehearsal.proofs.Names.{⊤, AllByRecursion, cond_both, filter-append, CallSign, FrameValue, LinkEnd, Drains, IsFrameOf, IsWindow, Window, stations_law, is_same_call, same_call-decides, caller_of, Slot, connected, free, leaving, SlotDrains, SlotsDrain}

-- the frames to this station
abbrev pub to_station : CallSign → List FrameValue → List FrameValue
to_station me frames = filter (λ frame. is_same_call frame.dest me) frames

-- ---- an end that isn't of it

frames-none : (w : Window) (me : CallSign) (s : Stations) (frames : List FrameValue) → s.peer ≢ me
    → AllByRecursion (IsFrameOf w s) frames → to_station me frames ≡ []
frames-none w me s [] other all = refl
frames-none w me s (frame ∷ frames) other all =
    cond_both (is_same_call frame.dest me) (frame ∷ to_station me frames) (to_station me frames)
    (λ (list : List FrameValue). list ≡ [])
    (λ is. absurd (other (sym all.0.dest ∙ (same_call-decides frame.dest me).0 is)))
    (λ is. frames-none w me s frames other all.1)

-- no connection of the caller is at this place
abbrev pub HasNone : CallSign → Slot → Type 0
HasNone me free = ⊤
HasNone me (connected c) = caller_of c ≢ me
HasNone me (leaving c) = caller_of c ≢ me

-- ---- places

module _ (w : Window) (me : CallSign) (window : IsWindow w) where
  end-none : (end last : LinkEnd) (frames : List FrameValue) → end.peer ≢ me → Drains w end frames last
      → to_station me frames ≡ []
  end-none end last frames other drains =
      frames-none w me (stations_of end) frames other (stations_law.drains w end last frames window drains).own

  slot-none : (slot now : Slot) (frames : List FrameValue) → HasNone me slot → SlotDrains w slot frames now
      → to_station me frames ≡ []
  slot-none free now frames other drains = ap (to_station me) drains.0
  slot-none (connected c) now frames other drains = end-none c.end drains.0 frames other drains.1
  slot-none (leaving c) now frames other drains = end-none c.end drains.0 frames other drains.1

  pub places-none : (slots : List Slot) (frames : List FrameValue) (last : List Slot)
      → AllByRecursion (HasNone me) slots → SlotsDrain w slots frames last → to_station me frames ≡ []
  places-none [] frames last none drains = ap (to_station me) drains.0
  places-none (slot ∷ slots) frames last none drains =
      ap (to_station me) drains.4
      ∙ filter-append (λ (frame : FrameValue). is_same_call frame.dest me) drains.0 drains.1
      ∙ ap₂ (λ (one two : List FrameValue). one ++ two) (slot-none slot drains.2 drains.0 none.0 drains.6)
      (places-none slots drains.1 drains.3 none.1 drains.7)
