-- The ends of a server's links that frames and ticks bring about.
use Rattle.std.specs.Prelude.{List, [], ◌∷◌, ⊤}
use Rattle.ax25_link.specs.Ends.{IsEnd}
use Rattle.ax25_link.specs.Window.{Window}
use Rattle.ftl0_server.specs.Slots.{Slot, connected, free, leaving}

-- the end at this place, if there is one, is such as frames and ticks bring about
abbrev pub SlotFits : Window → Slot → Type 0
SlotFits w free = ⊤
SlotFits w (connected c) = IsEnd w c.end
SlotFits w (leaving c) = IsEnd w c.end

abbrev pub SlotsFit : Window → List Slot → Type 0
SlotsFit w [] = ⊤
SlotsFit w (slot ∷ slots) = SlotFits w slot × SlotsFit w slots
