-- Lemmas on files that have the blocks of the runs at their places.
use Rattle.std.proofs.Common.{◌≡◌, ℕ, zero, suc, ◌+◌, ◌<◌, List, [], ◌∷◌, ◌++◌, length, get_or, set, refl, ap, arith, inl, inr, Option, None, Some}
use Rattle.file_store_blocks.proofs.Names.{remove, IfNone, IfSome, slice_get, eqb_tells, Rise, run_of, runs_of, IsPlace, PlacedFile, entries_of, file_of, in_runs, with_run, Run, new_run}

-- another file at a place, with the same run
pub in_runs_file : (runs : List Run) (files : List PlacedFile) (k : ℕ) (d : Run) (y : PlacedFile)
    → in_runs runs (set files k y) ≡ set (in_runs runs files) k (with_run (get_or runs k d) y)
in_runs_file [] files k d y = refl
in_runs_file (r ∷ rs) [] k d y = refl
in_runs_file (r ∷ rs) (f ∷ fs) zero d y = refl
in_runs_file (r ∷ rs) (f ∷ fs) (suc k) d y = ap (λ (zs : List PlacedFile). with_run r f ∷ zs) (in_runs_file rs fs k d y)

-- another file and another run
pub in_runs_both : (runs : List Run) (files : List PlacedFile) (k : ℕ) (r : Run) (y : PlacedFile)
    → in_runs (set runs k r) (set files k y) ≡ set (in_runs runs files) k (with_run r y)
in_runs_both [] files k r y = refl
in_runs_both (s ∷ rs) [] zero r y = refl
in_runs_both (s ∷ rs) [] (suc k) r y = refl
in_runs_both (s ∷ rs) (f ∷ fs) zero r y = refl
in_runs_both (s ∷ rs) (f ∷ fs) (suc k) r y = ap (λ (zs : List PlacedFile). with_run s f ∷ zs) (in_runs_both rs fs k r y)

pub in_runs_push : (runs : List Run) (files : List PlacedFile) (r : Run) (y : PlacedFile) → length runs ≡ length files
    → in_runs (runs ++ r ∷ []) (files ++ y ∷ []) ≡ in_runs runs files ++ with_run r y ∷ []
in_runs_push [] [] r y same = refl
in_runs_push [] (f ∷ fs) r y same = absurd (omega (arith, same))
in_runs_push (s ∷ rs) [] r y same = absurd (omega (arith, same))
in_runs_push (s ∷ rs) (f ∷ fs) r y same = ap (λ (zs : List PlacedFile). with_run s f ∷ zs) (in_runs_push rs fs r y (omega (arith, same)))

pub in_runs_remove : (runs : List Run) (files : List PlacedFile) (k : ℕ) → length runs ≡ length files
    → in_runs (remove runs k) (remove files k) ≡ remove (in_runs runs files) k
in_runs_remove [] [] k same = by k
  where
    by : (n : ℕ) → in_runs (remove [] n) (remove [] n) ≡ remove (in_runs [] []) n
    by zero = refl
    by (suc n) = refl
in_runs_remove [] (f ∷ fs) k same = absurd (omega (arith, same))
in_runs_remove (s ∷ rs) [] k same = absurd (omega (arith, same))
in_runs_remove (s ∷ rs) (f ∷ fs) zero same = refl
in_runs_remove (s ∷ rs) (f ∷ fs) (suc k) same = ap (λ (zs : List PlacedFile). with_run s f ∷ zs) (in_runs_remove rs fs k (omega (arith, same)))

pub length_in_runs : (runs : List Run) (files : List PlacedFile) → length runs ≡ length files → length (in_runs runs files) ≡ length files
length_in_runs [] [] same = refl
length_in_runs [] (f ∷ fs) same = same
length_in_runs (s ∷ rs) [] same = refl
length_in_runs (s ∷ rs) (f ∷ fs) same = omega (arith, length_in_runs rs fs (omega (arith, same)))

pub in_runs_at : (runs : List Run) (files : List PlacedFile) (k : ℕ) (d : Run) (e : PlacedFile) → length runs ≡ length files → k < length files
    → get_or (in_runs runs files) k e ≡ with_run (get_or runs k d) (get_or files k e)
in_runs_at [] [] k d e same lt = absurd (omega (arith, lt))
in_runs_at [] (f ∷ fs) k d e same lt = absurd (omega (arith, same))
in_runs_at (s ∷ rs) [] k d e same lt = absurd (omega (arith, same))
in_runs_at (s ∷ rs) (f ∷ fs) zero d e same lt = refl
in_runs_at (s ∷ rs) (f ∷ fs) (suc k) d e same lt = in_runs_at rs fs k d e (omega (arith, same)) (omega (arith, lt))

-- the numbers are those of the files
pub rise_in_runs : (low next : ℕ) (runs : List Run) (files : List PlacedFile) → length runs ≡ length files → Rise low (entries_of (in_runs runs files)) next
    → Rise low (entries_of files) next
rise_in_runs low next [] [] same rise = tt
rise_in_runs low next [] (f ∷ fs) same rise = absurd (omega (arith, same))
rise_in_runs low next (s ∷ rs) [] same rise = tt
rise_in_runs low next (s ∷ rs) (f ∷ fs) same rise = (rise.0, rise.1, rise_in_runs (f.entry.number + 1) next rs fs (omega (arith, same)) rise.2)

-- ---- the runs of files

pub runs_set : (files : List PlacedFile) (k : ℕ) (y : PlacedFile) → runs_of (entries_of (set files k y)) ≡ set (runs_of (entries_of files)) k (run_of y.entry)
runs_set [] k y = refl
runs_set (f ∷ fs) zero y = refl
runs_set (f ∷ fs) (suc k) y = ap (λ (rs : List Run). run_of f.entry ∷ rs) (runs_set fs k y)

pub runs_remove : (files : List PlacedFile) (k : ℕ) → runs_of (entries_of (remove files k)) ≡ remove (runs_of (entries_of files)) k
runs_remove [] zero = refl
runs_remove [] (suc k) = refl
runs_remove (f ∷ fs) zero = refl
runs_remove (f ∷ fs) (suc k) = ap (λ (rs : List Run). run_of f.entry ∷ rs) (runs_remove fs k)

pub runs_push : (files : List PlacedFile) (y : PlacedFile) → runs_of (entries_of (files ++ y ∷ [])) ≡ runs_of (entries_of files) ++ run_of y.entry ∷ []
runs_push [] y = refl
runs_push (f ∷ fs) y = ap (λ (rs : List Run). run_of f.entry ∷ rs) (runs_push fs y)

pub runs_at : (files : List PlacedFile) (k : ℕ) (d : Run) (e : PlacedFile) → k < length files → get_or (runs_of (entries_of files)) k d ≡ run_of (get_or files k e).entry
runs_at [] k d e lt = absurd (omega (arith, lt))
runs_at (f ∷ fs) zero d e lt = refl
runs_at (f ∷ fs) (suc k) d e lt = runs_at fs k d e (omega (arith, lt))

-- ---- places

pub slice_in_runs : (runs : List Run) (files : List PlacedFile) (k : ℕ) (d : Run) (file : PlacedFile) → length runs ≡ length files → slice_get files k ≡ Some file
    → slice_get (in_runs runs files) k ≡ Some (with_run (get_or runs k d) file)
slice_in_runs [] [] k d file same is = absurd (cc)
slice_in_runs [] (f ∷ fs) k d file same is = absurd (omega (arith, same))
slice_in_runs (s ∷ rs) [] k d file same is = absurd (cc)
slice_in_runs (s ∷ rs) (f ∷ fs) zero d file same is = let e : f ≡ file = cc in ap (λ (g : PlacedFile). Some (with_run s g)) e
slice_in_runs (s ∷ rs) (f ∷ fs) (suc k) d file same is = slice_in_runs rs fs k d file (omega (arith, same)) is

-- no file of a number is there
pub none_in_runs : (runs : List Run) (files : List PlacedFile) (number : ℕ) → file_of files number ≡ None → file_of (in_runs runs files) number ≡ None
none_in_runs [] files number none = refl
none_in_runs (s ∷ rs) [] number none = refl
none_in_runs (s ∷ rs) (f ∷ fs) number none =
    elim (eqb_tells f.entry.number number) [
      | inl w ↦ let some : Some f ≡ None = rw w.0 at none in absurd (cc)
      | inr w ↦ rw w.0 (none_in_runs rs fs number (rw w.0 at none))
    ]

pub place_in_runs : (runs : List Run) (files : List PlacedFile) (number place : ℕ) → length runs ≡ length files → IsPlace files number place → IsPlace (in_runs runs files) number place
place_in_runs runs files number place same is = record {
  file = with_run (get_or runs place (new_run 0)) is.file;
  there = slice_in_runs runs files place (new_run 0) is.file same is.there;
  same = is.same;
}

-- where a search ended, by the files with their blocks
pub found_in_runs : (runs : List Run) (files : List PlacedFile) (number : ℕ) (o : Option ℕ) → length runs ≡ length files
    → IfSome o (IsPlace files number) × IfNone o (file_of files number ≡ None)
    → IfSome o (IsPlace (in_runs runs files) number) × IfNone o (file_of (in_runs runs files) number ≡ None)
found_in_runs runs files number None same found = (tt, none_in_runs runs files number found.1)
found_in_runs runs files number (Some place) same found = (place_in_runs runs files number place same found.0, tt)
