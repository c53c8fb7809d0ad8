-- A block that isn't taken: there is one, and it is found.
use Rattle.std.proofs.Common.{◌≡◌, ℕ, suc, ◌+◌, ◌<◌, ◌≤◌, ◌==◌, true, false, List, [], ◌∷◌, length, take}
use Rattle.std.proofs.Common.{get_or, inl, inr, refl, arith}
use Rattle.std.proofs.lemmas.List.Concat.{get_or-flat_map, length-flat_map}
use Rattle.std.proofs.lemmas.List.Folds.{length-flat_map-take, list_any_at}
use Rattle.std.proofs.lemmas.Map.Steps.{le-length_from_below}
use Rattle.file_store_blocks.proofs.block_table.Names.{All, list_any, remove, IfNone, IsSome, None, Option, Some, flat_map, sum_by, eqb_tells, leb_tells, All-tail, sum_by-cons, sum_by-remove, AllMarked, IsFirstFree, IsKept, Parts, runs_of, HasRoom, IsLowestFree, IsRun, IsTable, IsTaken, Run, Table, new_run, rooms_of, times_of}
use Rattle.file_store_blocks.proofs.block_table.PlaceLemmas.{taken-stands}
use Rattle.file_store_blocks.proofs.block_table.RunLemmas.{All-remove}

-- a block that is taken is among those of all runs
listed : (table : Table) (block : ℕ) → IsTaken table block
    → list_any (λ b. block == b) (flat_map (λ (r : Run). r.blocks) table.runs) ≡ true
listed table block taken =
    let blocks = λ (r : Run). r.blocks in
    let here = taken-stands table block taken in
    let at = here.1.1 in
    let place = length (flat_map blocks (take here.0 table.runs)) + here.1.0 in
    let is = get_or-flat_map blocks table.runs here.0 here.1.0 (new_run 0) 0 at.there at.place in
    list_any_at (λ b. block == b) (flat_map blocks table.runs) place 0
    (omega (arith, at.place, length-flat_map-take blocks table.runs here.0 (new_run 0) at.there))
    (grind (arith, is, at.block_is, eqb_tells block (get_or (flat_map blocks table.runs) place 0)))

-- runs have no more blocks than they may have
blocks-le : (limit : ℕ) (runs : List Run) → All (IsRun limit) runs
    → sum_by (λ (r : Run). length r.blocks) runs ≤ rooms_of runs
blocks-le limit [] each = omega arith
blocks-le limit (r ∷ runs) each =
    let more = blocks-le limit runs (All-tail (IsRun limit) r runs each) in
    let sums = sum_by-cons (λ (x : Run). length x.blocks) r runs in
    omega (arith, more, (each 0 r (omega arith)).fits, sums, sum_by-cons (λ (x : Run). x.room) r runs)

-- if a run has room, not all blocks are taken
some-free : (table : Table) (k : ℕ) → IsTable table → HasRoom table k
    → ((block : ℕ) → block < table.limit → IsTaken table block) → ⊥
some-free table k rules room all =
    let blocks = λ (r : Run). r.blocks in
    let many = le-length_from_below (flat_map blocks table.runs) table.limit (λ b h. listed table b (all b h)) in
    let rest = blocks-le table.limit (remove table.runs k) (All-remove (IsRun table.limit) table.runs k rules.each) in
    let sums = sum_by-remove (λ (x : Run). length x.blocks) table.runs k (new_run 0) room.there in
    let rooms = sum_by-remove (λ (x : Run). x.room) table.runs k (new_run 0) room.there in
    omega (arith, many, length-flat_map blocks table.runs, rules.rooms, room.room, rest, sums, rooms)

abbrev pub table_of : Parts → ℕ → Table
table_of parts most = record { runs = runs_of parts; limit = parts.limit; most = most }

-- each block is taken whose mark is set, and each one below `lowest`
all-taken : {p : Parts} → IsKept p → (n : ℕ)
    → ((b : ℕ) → p.lowest ≤ b → b < n → get_or p.taken b false ≡ true) → (b : ℕ) → b < n → 1 ≤ times_of b (runs_of p)
all-taken {p = p} kept n all b h =
    elim (leb_tells (suc b) p.lowest) [
      | inl low ↦ kept.shown.lower b low.1
      | inr high ↦ (kept.shown.marked b).0 (all b (omega (arith, high.1)) h)
    ]

-- it finds one
pub finds-some : {p : Parts} → IsKept p → (most k : ℕ) → HasRoom (table_of p most) k → (found : Option ℕ)
    → IfNone found (AllMarked p.taken p.lowest) → IsSome found
finds-some {p = p} kept most k room (Some first) none = refl
finds-some {p = p} kept most k room None none =
    absurd (some-free (table_of p most) k kept.shown.rules room
    (all-taken kept p.limit (λ b low h. none b low (omega (arith, h, kept.taken_length)))))

-- and the lowest
pub finds-lowest : {p : Parts} → IsKept p → (most first : ℕ) → IsFirstFree p.taken p.lowest first
    → IsLowestFree (table_of p most) first
finds-lowest {p = p} kept most first found = record {
  here = record {
    below = omega (arith, found.there, kept.taken_length);
    free = grind (arith, eqb_tells (times_of first (runs_of p)) 0, (kept.shown.marked first).1, found.free);
  };
  lower = all-taken kept first found.passed;
}
