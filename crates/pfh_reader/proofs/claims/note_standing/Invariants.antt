use Rattle.std.proofs.Common.{◌≡◌, ◌<◌, ◌≤◌, ℕ, length, get_or}
use Rattle.pfh_reader.proofs.Names.{mandatory_items, item_value, MandatoryItem, Missing, standing_with}
use Rattle.pfh_reader.proofs.claims.note_standing.Given as goal

-- what stands before this place is noted, and the rest as it was
abbrev pub invariant-loop-place : goal.invariant-loop-place
invariant-loop-place l =
    record {
      len : length l.standing ≡ 11;
      noted :
          (k : ℕ) (rule : MandatoryItem) → k < l.place
          → get_or l.standing k Missing ≡ standing_with (get_or l.initial.standing k Missing) (get_or mandatory_items k rule) (item_value l.item);
      rest : (k : ℕ) → l.place ≤ k → get_or l.standing k Missing ≡ get_or l.initial.standing k Missing;
    }
