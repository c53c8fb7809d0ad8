-- What the steps of a table make of its runs: they keep its rules, and the marks of blocks go with them.
use Rattle.std.proofs.Common.{◌≡◌, ℕ, suc, ◌+◌, ◌<◌, ◌≤◌, ◌==◌, Bool, true, cond, List, [], ◌∷◌, ◌++◌, length, take, drop}
use Rattle.std.proofs.Common.{◌-◌, get_or, inl, inr, arith}
use Rattle.file_store_blocks.proofs.block_table.Names.{set, from_bool, All, remove, eqb_tells, common_steps, All-append, All-drop, All-push, All-set, All-take, sum_by-remove, sum_by-set, sum_by_push, length_push, AreFreed, AreShown, AreRuns, HasRoom, IsFree, IsRun, IsTable, Run, Table, after_beginning, after_taking, left_in, new_run, new_table, rooms_of, run_at, times_in, times_of, with_block, without}
use Rattle.file_store_blocks.proofs.block_table.PlaceLemmas.{some-at}

pub All-remove : {X : Type 0} (P : X → Type 0) (xs : List X) (k : ℕ) → All P xs → All P (remove xs k)
All-remove P xs k all =
    All-append P (take k xs) (drop (suc k) xs) (All-take P k xs all) (All-drop P (suc k) xs all)

-- how often a block occurs in runs if one has one more block
times-taking : (table : Table) (run block b : ℕ) → run < length table.runs
    → times_of b (after_taking table run block).runs ≡ times_of b table.runs + cond (block == b) 1 0
times-taking table run block b there =
    let here = run_at table run in
    omega (
      arith,
      sum_by-set (times_in b) table.runs run (with_block here block) (new_run 0) there,
      sum_by_push (λ (x : ℕ). cond (x == b) 1 0) here.blocks block,
    )

still-runs : {runs now : List Run} {limit : ℕ} → AreRuns runs limit → All (IsRun limit) now → rooms_of now ≤ limit
    → ((b : ℕ) → times_of b now ≤ 1) → AreRuns now limit
still-runs rules each rooms once =
    record { each = each; rooms = rooms; once = once; some = rules.some; most = rules.most }

-- the rules, at first and after each step
pub runs-none : (limit runs : ℕ) → 1 ≤ limit → limit ≤ 65536 → IsTable (new_table limit runs)
runs-none limit runs some most =
    record { each = λ i d h. omega (arith, h); rooms = omega arith; once = λ b. omega arith; some = some; most = most }

pub runs-beginning : (table : Table) (room : ℕ) → IsTable table → room ≤ left_in table
    → IsTable (after_beginning table room)
runs-beginning table room rules fits =
    let run = new_run room in
    let new : IsRun table.limit run = record { fits = omega arith; below = λ i d h. omega (arith, h) } in
    still-runs rules (All-push (IsRun table.limit) table.runs run rules.each new)
    (omega (arith, sum_by_push (λ (r : Run). r.room) table.runs run, rules.rooms, fits))
    (λ b. omega (arith, sum_by_push (times_in b) table.runs run, rules.once b))

pub runs-taking : (table : Table) (run block : ℕ) → IsTable table → HasRoom table run → IsFree table block
    → IsTable (after_taking table run block)
runs-taking table run block rules room free =
    let here = run_at table run in
    let all = All-push (λ (b : ℕ). b < table.limit) here.blocks block (rules.each run (new_run 0) room.there).below
    free.below in
    let more : IsRun table.limit (with_block here block) =
    record { fits = omega (arith, length_push here.blocks block, room.room); below = all } in
    let rooms = sum_by-set (λ (r : Run). r.room) table.runs run (with_block here block) (new_run 0) room.there in
    still-runs rules (All-set (IsRun table.limit) table.runs run (with_block here block) more rules.each)
    (omega (arith, rooms, rules.rooms))
    (λ b. grind (arith, times-taking table run block b room.there, rules.once b, eqb_tells block b, free.free))

pub runs-without : (table : Table) (run : ℕ) → IsTable table → run < length table.runs → IsTable (without table run)
runs-without table run rules lt =
    still-runs rules (All-remove (IsRun table.limit) table.runs run rules.each)
    (omega (arith, sum_by-remove (λ (r : Run). r.room) table.runs run (new_run 0) lt, rules.rooms))
    (λ b. omega (arith, sum_by-remove (times_in b) table.runs run (new_run 0) lt, rules.once b))

-- the marks of blocks and the hint, after each step
pub shown-beginning : (runs : List Run) (limit room : ℕ) (taken : List Bool) (lowest : ℕ)
    → AreShown runs limit taken lowest → room ≤ limit - rooms_of runs
    → AreShown (runs ++ new_run room ∷ []) limit taken lowest
shown-beginning runs limit room taken lowest shown fits =
    let before : Table = record { runs = runs; limit = limit; most = 0 } in
    let times = λ (b : ℕ). sum_by_push (times_in b) runs (new_run room) in
    record {
      rules = runs-beginning before room shown.rules fits;
      marked = λ b. grind (arith, times b, shown.marked b);
      lower = λ b h. omega (arith, times b, shown.lower b h);
    }

pub shown-taking : (table : Table) (taken : List Bool) (lowest run block more : ℕ)
    → AreShown table.runs table.limit taken lowest → HasRoom table run → IsFree table block
    → length taken ≡ table.limit → more ≡ from_bool (block == lowest)
    → AreShown (after_taking table run block).runs table.limit (set taken block true) (lowest + more)
shown-taking table taken lowest run block more shown room free len passed =
    let times = λ (b : ℕ). times-taking table run block b room.there in
    record {
      rules = runs-taking table run block shown.rules room free;
      marked = λ b. grind (arith, common_steps, times b, eqb_tells block b, shown.marked b, free.below);
      lower = λ b h. grind (arith, times b, eqb_tells block b, eqb_tells block lowest, shown.lower b);
    }

pub shown-without : (table : Table) (taken freed : List Bool) (lowest low run : ℕ)
    → AreShown table.runs table.limit taken lowest → run < length table.runs
    → AreFreed taken freed (run_at table run).blocks → low ≤ lowest → All (λ b. low ≤ b) (run_at table run).blocks
    → AreShown (remove table.runs run) table.limit freed low
shown-without table taken freed lowest low run shown lt free most each =
    let blocks = (run_at table run).blocks in
    let times = λ (b : ℕ). sum_by-remove (times_in b) table.runs run (new_run 0) lt in
    let none = λ (b : ℕ). eqb_tells (times_in b (run_at table run)) 0 in
    record {
      rules = runs-without table run shown.rules lt;
      marked = λ b. grind (arith, times b, none b, free.each b, shown.marked b, shown.rules.once b);
      lower = λ b h.
          elim (none b) [
            | inl none ↦ omega (arith, times b, none.1, shown.lower b (omega (arith, h, most)))
            | inr some ↦
                let at = some-at (λ (x : ℕ). cond (x == b) 1 0) blocks 0 (omega (arith, some.1)) in
                absurd (grind (arith, each at.0 0 at.1.0, at.1.1, eqb_tells (get_or blocks at.0 0) b, h))
          ];
    }
