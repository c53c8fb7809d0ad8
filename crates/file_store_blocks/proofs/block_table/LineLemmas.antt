-- Marks in line, and the runs whose marks they are, as numbers and marks change.
use Rattle.std.proofs.Common.{◌≡◌, ◌∙◌, ℕ, zero, suc, ◌+◌, ◌-◌, ◌<◌, ◌≤◌, List, [], ◌∷◌, ◌++◌, length, map, take, drop}
use Rattle.std.proofs.Common.{get_or, refl, ap, sym, subst, arith}
use Rattle.file_store_blocks.proofs.block_table.Names.{drop-drop, drop-map, drop-take, map-append, take-map, take-take, sum_by-cons, AreInLine, earlier, run_in, runs_in, Run, rooms_of, RunMark}

-- runs in line have as many places together as from the first to the end
pub line-rooms : (numbers : List ℕ) (from : ℕ) (marks : List RunMark) (end : ℕ) → AreInLine from marks end
    → from + rooms_of (runs_in numbers marks) ≡ end
line-rooms numbers from [] end line = omega (arith, line)
line-rooms numbers from (mark ∷ marks) end line =
    omega (
      arith,
      line-rooms numbers (from + mark.room) marks end line.2,
      sum_by-cons (λ (r : Run). r.room) (run_in numbers mark) (runs_in numbers marks),
    )

-- a mark of a line, between those before it and those after it
pub record At (marks : List RunMark) (from end k : ℕ) (mark : RunMark) : Type 0 where
  pub before : AreInLine from (take k marks) mark.first
  pub fits : mark.count ≤ mark.room
  pub behind : AreInLine (mark.first + mark.room) (drop (suc k) marks) end

pub line-at : (from : ℕ) (marks : List RunMark) (end k : ℕ) (d : RunMark) → AreInLine from marks end
    → k < length marks → At marks from end k (get_or marks k d)
line-at from [] end k d line lt = absurd (omega (arith, lt))
line-at from (mark ∷ marks) end zero d line lt =
    let behind = subst (λ (n : ℕ). AreInLine (n + mark.room) marks end) (sym line.0) line.2 in
    record { before = sym line.0; fits = line.1; behind = behind }
line-at from (mark ∷ marks) end (suc k) d line lt =
    let more = line-at (from + mark.room) marks end k d line.2 (omega (arith, lt)) in
    record { before = (line.0, line.1, more.before); fits = more.fits; behind = more.behind }

pub line-join : (from : ℕ) (marks : List RunMark) (mid : ℕ) (others : List RunMark) (end : ℕ)
    → AreInLine from marks mid → AreInLine mid others end → AreInLine from (marks ++ others) end
line-join from [] mid others end line rest = subst (λ (n : ℕ). AreInLine n others end) (sym line) rest
line-join from (mark ∷ marks) mid others end line rest =
    (line.0, line.1, line-join (from + mark.room) marks mid others end line.2 rest)

-- this number of elements from a later place on
part : (xs : List ℕ) (from more count : ℕ)
    → drop more (take (more + count) (drop from xs)) ≡ take count (drop (from + more) xs)
part xs from more count = drop-take more count (drop from xs) ∙ ap (take count) (drop-drop more from xs)

fewer : (c n : ℕ) (xs ys : List ℕ) → c ≤ n → take n xs ≡ take n ys → take c xs ≡ take c ys
fewer c n xs ys h same = sym (take-take c n xs h) ∙ ap (take c) same ∙ take-take c n ys h

-- runs whose numbers came this number of places nearer to the beginning
moved : (numbers now : List ℕ) (places from : ℕ) (marks : List RunMark) (end : ℕ) → AreInLine (from + places) marks end
    → ((c : ℕ) → from + places + c ≤ end → take c (drop from now) ≡ take c (drop (from + places) numbers))
    → AreInLine from (map (earlier places) marks) (end - places)
    × (runs_in now (map (earlier places) marks) ≡ runs_in numbers marks)
moved numbers now places from [] end line same = (omega (arith, line), refl)
moved numbers now places from (mark ∷ marks) end line same =
    let next : from + places + mark.room ≡ from + mark.room + places = omega arith in
    let more = moved numbers now places (from + mark.room) marks end
    (subst (λ (n : ℕ). AreInLine n marks end) next line.2)
    (λ c h. sym (part now from mark.room c) ∙ ap (drop mark.room) (same (mark.room + c) (omega (arith, h)))
    ∙ part numbers (from + places) mark.room c ∙ ap (λ (n : ℕ). take c (drop n numbers)) next) in
    let first : mark.first - places ≡ from = omega (arith, line.0) in
    let blocks : take mark.count (drop from now) ≡ take mark.count (drop (from + places) numbers) =
    same mark.count (omega (arith, line.1, line-rooms [] (from + places + mark.room) marks end line.2)) in (
      (first, line.1, more.0),
      λ i.
          record {
            blocks = (ap (λ (n : ℕ). take mark.count (drop n now)) first ∙ blocks
                ∙ ap (λ (n : ℕ). take mark.count (drop n numbers)) (sym line.0)) i;
            room = mark.room;
          } ∷ more.1 i,
    )

pub earlier-none : (marks : List RunMark) → map (earlier 0) marks ≡ marks
earlier-none [] = refl
earlier-none (mark ∷ marks) =
    let first : mark.first - 0 ≡ mark.first = omega arith in
    λ i. record { first = first i; count = mark.count; room = mark.room } ∷ earlier-none marks i

-- marks in line when others take the place of one, and those after it come this number of places nearer to the
-- beginning
pub changed : (numbers now : List ℕ) (marks : List RunMark) (end k places to : ℕ) (mark : RunMark)
    → At marks 0 end k mark → (mid : List RunMark) → AreInLine mark.first mid to → to + places ≡ mark.first + mark.room
    → take mark.first now ≡ take mark.first numbers
    → take (end - (to + places)) (drop to now) ≡ take (end - (to + places)) (drop (to + places) numbers)
    → AreInLine 0 (take k marks ++ (mid ++ map (earlier places) (drop (suc k) marks))) (end - places)
    × (runs_in now (take k marks ++ (mid ++ map (earlier places) (drop (suc k) marks)))
    ≡ take k (runs_in numbers marks) ++ (runs_in now mid ++ drop (suc k) (runs_in numbers marks)))
changed numbers now marks end k places to mark at mid inside whole front same =
    let behind = subst (λ (n : ℕ). AreInLine n (drop (suc k) marks) end) (sym whole) at.behind in
    let back = moved numbers now places to (drop (suc k) marks) end behind
    (λ c h. fewer c (end - (to + places)) (drop to now) (drop (to + places) numbers) (omega (arith, h)) same) in
    let first : runs_in now (take k marks) ≡ take k (runs_in numbers marks) =
    ap (runs_in now) (sym (earlier-none (take k marks)))
    ∙ (moved numbers now 0 0 (take k marks) mark.first at.before
    (λ c h. fewer c mark.first now numbers (omega (arith, h)) front)).1
    ∙ sym (take-map (run_in numbers) k marks) in
    let moves = map (earlier places) (drop (suc k) marks) in
    let last = back.1 ∙ sym (drop-map (run_in numbers) (suc k) marks) in (
      line-join 0 (take k marks) mark.first (mid ++ moves) (end - places) at.before
          (line-join mark.first mid to moves (end - places) inside back.0),
      map-append (run_in now) (take k marks) (mid ++ moves)
          ∙ (λ i. first i ++ (map-append (run_in now) mid moves ∙ ap (λ rs. runs_in now mid ++ rs) last) i),
    )
