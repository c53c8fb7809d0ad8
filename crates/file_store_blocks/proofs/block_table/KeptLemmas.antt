-- How the code keeps a table at each step.
use Rattle.std.proofs.Common.{◌≡◌, ◌∙◌, ℕ, suc, ◌+◌, ◌-◌, ◌<◌, ◌≤◌, ◌==◌, Bool, true, List, [], ◌∷◌, ◌++◌, length, map, take}
use Rattle.std.proofs.Common.{drop, get_or, refl, ap, sym, subst, arith}
use Rattle.file_store_blocks.proofs.block_table.Names.{set, from_bool, All, copy_within, remove, drop-take, drop_at, get_or-map, length-drop, length-map, length-set, length-take-le, map-append, drop-set-add, drop-set-lt, set_split, take-set-le, take-take, take_at, take_more_set, take-paste, All-cons, AreFreed, AreInLine, AreShown, IsKept, Parts, earlier, run_in, runs_in, runs_of, HasRoom, IsFree, IsRun, Run, Table, new_run, rooms_of, with_block, RunMark}
use Rattle.file_store_blocks.proofs.block_table.FreeLemmas.{table_of}
use Rattle.file_store_blocks.proofs.block_table.LineLemmas.{At, changed, earlier-none, line-at, line-join, line-rooms}
use Rattle.file_store_blocks.proofs.block_table.RunLemmas.{shown-beginning, shown-taking, shown-without}

-- the runs take as many places as they may have blocks, no more than there are
pub kept-rooms : {p : Parts} → IsKept p → (rooms_of (runs_of p) ≡ p.rooms) × (p.rooms ≤ p.limit) × (p.limit ≤ 65536)
kept-rooms {p = p} kept =
    let same = line-rooms p.numbers 0 p.marks p.rooms kept.line in
    (omega (arith, same), omega (arith, same, kept.shown.rules.rooms), kept.shown.rules.most)

-- the mark of a run: where it lies, and the run whose mark it is
pub record IsMark (marks : List RunMark) (numbers : List ℕ) (rooms limit k : ℕ) (mark : RunMark) : Type 0 where
  pub there : k < length marks
  pub run : k < length (runs_in numbers marks)
  pub at : At marks 0 rooms k mark
  pub high : mark.first + mark.room ≤ rooms
  pub inside : rooms ≤ length numbers
  pub small : length numbers ≤ 65536
  pub is : get_or (runs_in numbers marks) k (new_run 0) ≡ run_in numbers mark
  pub count : length (run_in numbers mark).blocks ≡ mark.count
  pub below : All (λ b. b < limit) (run_in numbers mark).blocks

pub mark-at : {p : Parts} → IsKept p → (k : ℕ) (mark : RunMark) → k < length (runs_of p)
    → mark ≡ get_or p.marks k mark → IsMark p.marks p.numbers p.rooms p.limit k mark
mark-at {p = p} kept k mark run is =
    let there : k < length p.marks = omega (arith, run, length-map p.marks (run_in p.numbers)) in
    let at = subst (λ (m : RunMark). At p.marks 0 p.rooms k m) (sym is) (line-at 0 p.marks p.rooms k mark kept.line there) in
    let high = line-rooms [] (mark.first + mark.room) (drop (suc k) p.marks) p.rooms at.behind in
    let inside : p.rooms ≤ length p.numbers = omega (arith, kept-rooms kept, kept.numbers_length) in
    let stands = get_or-map (run_in p.numbers) p.marks k mark (new_run 0) there ∙ ap (run_in p.numbers) (sym is) in
    record {
      there = there;
      run = run;
      at = at;
      high = omega (arith, high);
      inside = inside;
      small = omega (arith, kept.numbers_length, kept.shown.rules.most);
      is = stands;
      count = length-take-le mark.count (drop mark.first p.numbers)
          (omega (arith, length-drop mark.first p.numbers, high, at.fits, inside));
      below = (subst (λ (r : Run). IsRun p.limit r) stands (kept.shown.rules.each k (new_run 0) run)).below;
    }

-- that of a run that has room
pub room-at : {p : Parts} → IsKept p → (most k : ℕ) (mark : RunMark) → HasRoom (table_of p most) k
    → mark ≡ get_or p.marks k mark → IsMark p.marks p.numbers p.rooms p.limit k mark × (mark.count < mark.room)
room-at {p = p} kept most k mark room is =
    let at = mark-at kept k mark room.there is in
    (at, omega (arith, room.room, at.count, ap (λ (r : Run). length r.blocks) at.is, ap (λ (r : Run). r.room) at.is))

pub same-table : (one other : Table) → one.runs ≡ other.runs → one.limit ≡ other.limit → one.most ≡ other.most
    → one ≡ other
same-table one other runs limit most = λ i. record { runs = runs i; limit = limit i; most = most i }

-- a run without blocks comes after the others
pub kept-beginning : {p : Parts} → IsKept p → (room : ℕ) → room ≤ p.limit - rooms_of (runs_of p)
    → IsKept (record p {
      marks = p.marks ++ record { first = p.rooms; count = 0; room = room } ∷ [];
      rooms = p.rooms + room;
    })
kept-beginning {p = p} kept room fits =
    let marks : List RunMark = record { first = p.rooms; count = 0; room = room } ∷ [] in
    record {
      line = line-join 0 p.marks p.rooms marks (p.rooms + room) kept.line (refl, omega arith, refl);
      numbers_length = kept.numbers_length;
      taken_length = kept.taken_length;
      shown = subst (λ (rs : List Run). AreShown rs p.limit p.taken p.lowest)
          (sym (map-append (run_in p.numbers) p.marks marks))
          (shown-beginning (runs_of p) p.limit room p.taken p.lowest kept.shown fits);
    }

-- one more block in the next place of a run
abbrev pub counting : RunMark → RunMark
counting mark = record { first = mark.first; count = mark.count + 1; room = mark.room }

-- if a run has one more block, the marks are in line, and the runs so
pub line-taking : {marks : List RunMark} {numbers : List ℕ} {rooms limit k : ℕ} {mark : RunMark}
    → IsMark marks numbers rooms limit k mark → mark.count < mark.room → (block : ℕ)
    → AreInLine 0 (set marks k (counting mark)) rooms
    × (runs_in (set numbers (mark.first + mark.count) block) (set marks k (counting mark))
    ≡ set (runs_in numbers marks) k (with_block (get_or (runs_in numbers marks) k (new_run 0)) block))
line-taking {marks = marks} {numbers = numbers} {rooms = rooms} {k = k} {mark = mark} at room block =
    let place = mark.first + mark.count in
    let to = mark.first + mark.room in
    let now = set numbers place block in
    let none : to + 0 ≡ to = omega arith in
    let same : rooms - 0 ≡ rooms = omega arith in
    let both = changed numbers now marks rooms k 0 to mark at.at (counting mark ∷ []) (refl, omega (arith, room), refl)
    none (take-set-le mark.first numbers place block (omega arith))
    (rw none (ap (take (rooms - to)) (drop-set-lt to numbers place block (omega (arith, room))))) in
    let all : take k marks ++ (counting mark ∷ map (earlier 0) (drop (suc k) marks)) ≡ set marks k (counting mark) =
    ap (λ ms. take k marks ++ counting mark ∷ ms) (earlier-none (drop (suc k) marks))
    ∙ sym (set_split marks k (counting mark) at.there) in
    let blocks : take (mark.count + 1) (drop mark.first now) ≡ take mark.count (drop mark.first numbers) ++ block ∷ [] =
    ap (take (mark.count + 1)) (drop-set-add mark.first numbers mark.count block)
    ∙ take_more_set (drop mark.first numbers) mark.count block
    (omega (arith, length-drop mark.first numbers, at.high, at.inside, room)) in
    let run : run_in now (counting mark) ≡ with_block (get_or (runs_in numbers marks) k (new_run 0)) block =
    (λ i. record { blocks = blocks i; room = mark.room }) ∙ ap (λ r. with_block r block) (sym at.is) in (
      rw (← all, ← same) both.0,
      ap (runs_in now) (sym all) ∙ both.1
          ∙ (λ i. take k (runs_in numbers marks) ++ run i ∷ drop (suc k) (runs_in numbers marks))
          ∙ sym (set_split (runs_in numbers marks) k (with_block (get_or (runs_in numbers marks) k (new_run 0)) block) at.run),
    )

pub kept-taking : {p : Parts} → IsKept p → (most k : ℕ) (mark : RunMark) (block more : ℕ)
    → HasRoom (table_of p most) k → mark ≡ get_or p.marks k mark → IsFree (table_of p most) block
    → more ≡ from_bool (block == p.lowest)
    → IsKept (record p {
      marks = set p.marks k (counting mark);
      numbers = set p.numbers (mark.first + mark.count) block;
      taken = set p.taken block true;
      lowest = p.lowest + more;
    })
kept-taking {p = p} kept most k mark block more room is free passed =
    let at = room-at kept most k mark room is in
    let both = line-taking at.0 at.1 block in
    record {
      line = both.0;
      numbers_length = length-set p.numbers (mark.first + mark.count) block ∙ kept.numbers_length;
      taken_length = length-set p.taken block true ∙ kept.taken_length;
      shown = subst (λ (rs : List Run). AreShown rs p.limit (set p.taken block true) (p.lowest + more)) (sym both.1)
          (shown-taking (table_of p most) p.taken p.lowest k block more kept.shown room free kept.taken_length passed);
    }

-- the marks without this one, those after it by its places earlier
abbrev pub marks_without : List RunMark → ℕ → ℕ → List RunMark
marks_without marks k places = take k (remove marks k) ++ map (earlier places) (drop k (remove marks k))

-- without a run, the marks are in line, and the runs so
pub line-without : {marks : List RunMark} {numbers : List ℕ} {rooms limit k : ℕ} {mark : RunMark}
    → IsMark marks numbers rooms limit k mark → (now : List ℕ)
    → now ≡ copy_within numbers (mark.first + mark.room) rooms mark.first
    → AreInLine 0 (marks_without marks k mark.room) (rooms - mark.room)
    × (runs_in now (marks_without marks k mark.room) ≡ remove (runs_in numbers marks) k)
line-without {marks = marks} {numbers = numbers} {rooms = rooms} {k = k} {mark = mark} at now copied =
    let behind = mark.first + mark.room in
    let count = rooms - behind in
    let front = take mark.first numbers in
    let rest = take count (drop behind numbers) in
    let len : length front ≡ mark.first = length-take-le mark.first numbers (omega (arith, at.high, at.inside)) in
    let whole : take (mark.first + count) now ≡ front ++ rest =
    ap (take (mark.first + count)) copied ∙ take-paste numbers mark.first (drop behind numbers) count
    (omega (arith, at.high, at.inside)) (omega (arith, length-drop behind numbers, at.inside)) in
    let both = changed numbers now marks rooms k mark.room mark.first mark at.at [] refl refl
    (sym (take-take mark.first (mark.first + count) now (omega arith)) ∙ ap (take mark.first) whole
    ∙ take_at front rest mark.first len)
    (sym (drop-take mark.first count now) ∙ ap (drop mark.first) whole ∙ drop_at front rest mark.first len) in
    let place : length (take k marks) ≡ k = length-take-le k marks (omega (arith, at.there)) in
    let all : marks_without marks k mark.room ≡ take k marks ++ map (earlier mark.room) (drop (suc k) marks) = λ i.
    take_at (take k marks) (drop (suc k) marks) k place i
    ++ map (earlier mark.room) (drop_at (take k marks) (drop (suc k) marks) k place i) in
    subst (λ (ms : List RunMark). AreInLine 0 ms (rooms - mark.room) × (runs_in now ms ≡ remove (runs_in numbers marks) k))
    (sym all) both

pub kept-without : {p : Parts} {k : ℕ} {mark : RunMark} → IsKept p
    → IsMark p.marks p.numbers p.rooms p.limit k mark → (now : List ℕ)
    → now ≡ copy_within p.numbers (mark.first + mark.room) p.rooms mark.first → length now ≡ length p.numbers
    → (freed : List Bool) → AreFreed p.taken freed (run_in p.numbers mark).blocks
    → (low : ℕ) → low ≤ p.lowest → All (λ b. low ≤ b) (run_in p.numbers mark).blocks
    → IsKept (record p {
      marks = marks_without p.marks k mark.room;
      numbers = now;
      taken = freed;
      lowest = low;
      rooms = p.rooms - mark.room;
    })
kept-without {p = p} {k = k} {mark = mark} kept at now copied len freed free low most each =
    let both = line-without at now copied in
    record {
      line = both.0;
      numbers_length = len ∙ kept.numbers_length;
      taken_length = free.marks ∙ kept.taken_length;
      shown = subst (λ (rs : List Run). AreShown rs p.limit freed low) (sym both.1)
          (shown-without (table_of p 0) p.taken freed p.lowest low k kept.shown at.run
          (subst (λ (r : Run). AreFreed p.taken freed r.blocks) (sym at.is) free) most
          (subst (λ (r : Run). All (λ (b : ℕ). low ≤ b) r.blocks) (sym at.is) each));
    }

-- the places of those after it begin at its places or later
all-behind : (places from : ℕ) (marks : List RunMark) (end : ℕ) → places ≤ from → AreInLine from marks end
    → All (λ m. places ≤ m.first) marks
all-behind places from [] end le line = λ k d h. omega (arith, h)
all-behind places from (mark ∷ marks) end le line =
    All-cons (λ (m : RunMark). places ≤ m.first) mark marks (omega (arith, line.0, le))
    (all-behind places (from + mark.room) marks end (omega (arith, le)) line.2)

pub kept-behind : {marks : List RunMark} {numbers : List ℕ} {rooms limit k : ℕ} {mark : RunMark}
    → IsMark marks numbers rooms limit k mark → All (λ m. mark.room ≤ m.first) (drop k (remove marks k))
kept-behind {marks = marks} {rooms = rooms} {k = k} {mark = mark} at =
    rw (drop_at (take k marks) (drop (suc k) marks) k (length-take-le k marks (omega (arith, at.there))))
    (all-behind mark.room (mark.first + mark.room) (drop (suc k) marks) rooms (omega arith) at.at.behind)
