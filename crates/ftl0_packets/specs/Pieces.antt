-- A whole run of what takes packets.
use Rattle.std.specs.Prelude.{◌≡◌, List, [], ◌∷◌}
use Rattle.ftl0_packets.specs.Layout.{Item}

-- these items, taken one after another, lead from old to new
abbrev pub TakesAll : {S : Type 0} → (S → Item → S → Type 0) → S → List Item → S → Type 0
TakesAll takes old [] new = new ≡ old
TakesAll {S} takes old (item ∷ items) new = (between : S) × takes old item between × TakesAll takes between items new
