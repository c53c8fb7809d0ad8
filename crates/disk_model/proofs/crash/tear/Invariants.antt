use Rattle.std.proofs.Common.{◌≡◌, ℕ, ◌<◌, ◌≤◌, Some, length, slice_index}
use Rattle.disk_model.proofs.Names.{IsOctets}
use Rattle.disk_model.proofs.crash.tear.Given as goal

abbrev pub invariant-loop-place : goal.invariant-loop-place
invariant-loop-place l =
    record {
      outside : (place : ℕ) → ((l.write.at ≤ place) × (place < l.place) → ⊥) → slice_index l.image place ≡ slice_index l.initial.image place;
      filled : (octet place : ℕ) → l.initial.pick.octet ≡ Some octet → (l.write.at ≤ place) × (place < l.place) → place < length l.initial.image → slice_index l.image place ≡ octet;
      octets : IsOctets l.image;
      same : l.pick.octet ≡ l.initial.pick.octet;
    }
