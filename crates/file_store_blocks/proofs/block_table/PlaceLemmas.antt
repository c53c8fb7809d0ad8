-- Where a block is: a block that is taken is at one place of one run.
use Rattle.std.proofs.Common.{◌≡◌, ℕ, suc, ◌+◌, ◌<◌, ◌≤◌, ◌==◌, cond, List, [], ◌∷◌, length, take}
use Rattle.std.proofs.Common.{get_or, inl, inr, ap, sym, subst, arith}
use Rattle.file_store_blocks.specs.BlockTable.Laws.{Stands, StandsAt}
use Rattle.file_store_blocks.proofs.block_table.Names.{sum_by, eqb_tells, get_or-take, length-take-le, get_or-le-sum_by, sum_by-cons, sum_by_more_le, IsTable, IsTaken, Table, new_run, run_at, times_in}

-- a sum that isn't 0 has a term that isn't
pub some-at : {X : Type 0} (f : X → ℕ) (xs : List X) (d : X) → 1 ≤ sum_by f xs
    → (k : ℕ) × ((k < length xs) × (1 ≤ f (get_or xs k d)))
some-at f [] d some = absurd (omega (arith, some))
some-at f (x ∷ xs) d some =
    elim (eqb_tells (f x) 0) [
      | inl none ↦
          let more = some-at f xs d (omega (arith, some, sum_by-cons f x xs, none.1)) in
          (suc more.0, (omega (arith, more.1.0), more.1.1))
      | inr here ↦ (0, (omega arith, omega (arith, here.1)))
    ]

-- a sum of at most 1 has no two
two-at : {X : Type 0} (f : X → ℕ) (xs : List X) (i j : ℕ) (d : X) → i < j → j < length xs
    → f (get_or xs i d) + f (get_or xs j d) ≤ sum_by f xs
two-at f xs i j d less lt =
    let first = get_or-le-sum_by f (take j xs) i d (omega (arith, length-take-le j xs, less, lt)) in
    omega (arith, first, ap f (get_or-take j xs i d less), sum_by_more_le f xs j d lt)

only-at : {X : Type 0} (f : X → ℕ) (xs : List X) (i j : ℕ) (d : X) → i < length xs → j < length xs → sum_by f xs ≤ 1
    → 1 ≤ f (get_or xs i d) → 1 ≤ f (get_or xs j d) → i ≡ j
only-at f xs i j d lt lto once here there = grind (arith, two-at f xs i j d, two-at f xs j i d)

-- whether a number is this block
abbrev is_block : ℕ → ℕ → ℕ
is_block block b = cond (b == block) 1 0

-- a block that is taken is in a run, and the other way round
pub taken-stands : (table : Table) (block : ℕ) → IsTaken table block → Stands table block
taken-stands table block taken =
    let run = some-at (times_in block) table.runs (new_run 0) taken in
    let blocks = (run_at table run.0).blocks in
    let at = some-at (is_block block) blocks 0 run.1.1 in
    let is : get_or blocks at.0 0 ≡ block = grind (arith, at.1.1, eqb_tells (get_or blocks at.0 0) block) in
    (run.0, (at.0, record { there = run.1.0; place = at.1.0; block_is = is }))

stands-here : {table : Table} {run at block : ℕ} → StandsAt table run at block
    → 1 ≤ is_block block (get_or (run_at table run).blocks at 0)
stands-here {table = table} {run = run} {at = at} {block = block} stands =
    grind (arith, stands.block_is, eqb_tells (get_or (run_at table run).blocks at 0) block)

stands-often : {table : Table} {run at block : ℕ} → StandsAt table run at block → 1 ≤ times_in block (run_at table run)
stands-often {table = table} {run = run} {at = at} {block = block} stands =
    omega (arith, stands-here stands, get_or-le-sum_by (is_block block) (run_at table run).blocks at 0 stands.place)

pub stands-taken : {table : Table} {run at block : ℕ} → StandsAt table run at block → IsTaken table block
stands-taken {table = table} {run = run} {block = block} stands =
    omega (arith, stands-often stands, get_or-le-sum_by (times_in block) table.runs run (new_run 0) stands.there)

-- at no other place
pub stands-once : {table : Table} {block run at other_run other_at : ℕ} → IsTable table → StandsAt table run at block
    → StandsAt table other_run other_at block → (run ≡ other_run) × (at ≡ other_at)
stands-once {table = table} {block = block} {run = run} {at = at} {other_run = to} {other_at = place} rules one other =
    let same = only-at (times_in block) table.runs run to (new_run 0) one.there other.there (rules.once block)
    (stands-often one) (stands-often other) in
    let here = subst (λ (n : ℕ). StandsAt table n place block) (sym same) other in
    let once = get_or-le-sum_by (times_in block) table.runs run (new_run 0) one.there in (
      same,
      only-at (is_block block) (run_at table run).blocks at place 0 one.place here.place
          (omega (arith, once, rules.once block)) (stands-here one) (stands-here here),
    )

-- a block that is taken is one that there is
pub taken-below : (table : Table) (block : ℕ) → IsTable table → IsTaken table block → block < table.limit
taken-below table block rules taken =
    let here = taken-stands table block taken in
    let at = here.1.1 in
    subst (λ (n : ℕ). n < table.limit) at.block_is ((rules.each here.0 (new_run 0) at.there).below here.1.0 0 at.place)
