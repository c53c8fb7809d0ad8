-- What a change of one file, or its going, makes of a list of files whose numbers rise.
use Rattle.std.proofs.Common.{◌≡◌, ℕ, ◌+◌, ◌≤◌, ◌<◌, ◌==◌, Bool, true, false, not, List, [], ◌∷◌, ◌++◌, map}
use Rattle.std.proofs.Common.{filter, Some, refl, ap, sym, ◌∙◌, subst, arith, inl, inr}
use Rattle.std.specs.Prelude.{find, sum_by}
use Rattle.std.specs.List.{AllByRecursion}
use Rattle.std.proofs.lemmas.Bool.Decides.{eqb_tells, nat_tests}
use Rattle.std.proofs.lemmas.List.Sums.{sum_by-cons}
use Rattle.file_store_blocks.specs.IsPlaced.{Rise}
use Rattle.file_store_blocks.specs.Placed.{Placed, has_number}
use Rattle.file_store_blocks.specs.PlacedCommand.{changed}

-- ---- the file of a number

-- the file that is found has the number
pub found_number :
    (number : ℕ) (files : List Placed) (file : Placed) → find (has_number number) files ≡ Some file
    → file.number ≡ number
found_number number [] file found = absurd (cc)
found_number number (f ∷ fs) file found = grind (arith, nat_tests, found_number number fs file)

-- and what is true of each is true of it
pub found_holds :
    (P : Placed → Type 0) (number : ℕ) (files : List Placed) (file : Placed) → AllByRecursion P files
    → find (has_number number) files ≡ Some file → P file
found_holds P number [] file all found = absurd (cc)
found_holds P number (f ∷ fs) file all found =
    elim (eqb_tells f.number number) [
      | inl w ↦
          let here : Some f ≡ Some file = rw w.0 at found in
          let same : f ≡ file = cc in
          subst P same all.0
      | inr w ↦ found_holds P number fs file all.1 (rw w.0 at found)
    ]

-- ---- the numbers rise

pub rise_lower :
    (low lower next : ℕ) (files : List Placed) → lower ≤ low → Rise low files next → Rise lower files next
rise_lower low lower next [] le rise = tt
rise_lower low lower next (f ∷ fs) le rise = (omega (arith, rise.0), rise.1, rise.2)

pub rise_push :
    (low next : ℕ) (files : List Placed) (file : Placed) → Rise low files next → low ≤ next → file.number ≡ next
    → Rise low (files ++ file ∷ []) (next + 1)
rise_push low next [] file rise le is = (omega arith, omega arith, tt)
rise_push low next (f ∷ fs) file rise le is =
    (rise.0, omega (arith, rise.1), rise_push (f.number + 1) next fs file rise.2 (omega (arith, rise.1)) is)

-- a change of another number leaves a file
pub changed_other :
    (number : ℕ) (change : Placed → Placed) (f : Placed) → (f.number == number) ≡ false → changed number change f ≡ f
changed_other number change f other = rw other

pub changed_here :
    (number : ℕ) (change : Placed → Placed) (f : Placed) → (f.number == number) ≡ true
    → changed number change f ≡ change f
changed_here number change f here = rw here

changed_number :
    (number : ℕ) (change : Placed → Placed) (f : Placed) → ((g : Placed) → (change g).number ≡ g.number)
    → (changed number change f).number ≡ f.number
changed_number number change f keeps =
    elim (eqb_tells f.number number) [
      | inl w ↦ ap (λ (g : Placed). g.number) (changed_here number change f w.0) ∙ keeps f
      | inr w ↦ ap (λ (g : Placed). g.number) (changed_other number change f w.0)
    ]

pub rise_changed :
    (number : ℕ) (change : Placed → Placed) (low next : ℕ) (files : List Placed)
    → ((g : Placed) → (change g).number ≡ g.number) → Rise low files next
    → Rise low (map (changed number change) files) next
rise_changed number change low next [] keeps rise = tt
rise_changed number change low next (f ∷ fs) keeps rise =
    let same = changed_number number change f keeps in (
      subst (λ (n : ℕ). low ≤ n) (sym same) rise.0,
      subst (λ (n : ℕ). n < next) (sym same) rise.1,
      subst (λ (n : ℕ). Rise (n + 1) (map (changed number change) fs) next) (sym same)
          (rise_changed number change (f.number + 1) next fs keeps rise.2),
    )

pub rise_filter :
    (test : Placed → Bool) (low next : ℕ) (files : List Placed) → Rise low files next
    → Rise low (filter test files) next
rise_filter test low next [] rise = tt
rise_filter test low next (f ∷ fs) rise =
    grind (
      arith,
      nat_tests,
      rise_lower (f.number + 1) low next (filter test fs),
      rise_filter test (f.number + 1) next fs rise.2,
    )

-- ---- one file changed, the others as they are

-- no file has a number below all
pub changed_past :
    (number : ℕ) (change : Placed → Placed) (low next : ℕ) (files : List Placed) → Rise low files next → number < low
    → map (changed number change) files ≡ files
changed_past number change low next [] rise past = refl
changed_past number change low next (f ∷ fs) rise past =
    grind (arith, nat_tests, changed_past number change (f.number + 1) next fs rise.2)

-- what is true of each file, and of the changed one
module _ (P : Placed → Type 0) (number : ℕ) (change : Placed → Placed) (file : Placed) (here : P (change file)) where
  pub all_changed :
      (low next : ℕ) (files : List Placed) → Rise low files next → find (has_number number) files ≡ Some file
      → AllByRecursion P files → AllByRecursion P (map (changed number change) files)
  all_changed low next [] rise found all = tt
  all_changed low next (f ∷ fs) rise found all =
      elim (eqb_tells f.number number) [
        | inl w ↦
            let is : Some f ≡ Some file = rw w.0 at found in
            let same : f ≡ file = cc in (
              subst P (sym (changed_here number change f w.0 ∙ ap change same)) here,
              subst (λ (gs : List Placed). AllByRecursion P gs)
                  (sym (changed_past number change (f.number + 1) next fs rise.2 (omega (arith, w.1))))
                  all.1,
            )
        | inr w ↦ (
          subst P (sym (changed_other number change f w.0)) all.0,
          all_changed (f.number + 1) next fs rise.2 (rw w.0 at found) all.1,
        )
      ]

-- a sum over the files changes by that one
module _ (m : Placed → ℕ) (number : ℕ) (change : Placed → Placed) (file : Placed) where
  pub sum_changed :
      (low next : ℕ) (files : List Placed) → Rise low files next → find (has_number number) files ≡ Some file
      → sum_by m (map (changed number change) files) + m file ≡ sum_by m files + m (change file)
  sum_changed low next [] rise found = absurd (cc)
  sum_changed low next (f ∷ fs) rise found =
      elim (eqb_tells f.number number) [
        | inl w ↦
            let is : Some f ≡ Some file = rw w.0 at found in
            let same : f ≡ file = cc in
            let rest = changed_past number change (f.number + 1) next fs rise.2 (omega (arith, w.1)) in
            let new = changed_here number change f w.0 ∙ ap change same in
            omega (
              arith,
              sum_by-cons m f fs,
              sum_by-cons m (changed number change f) (map (changed number change) fs),
              ap (λ (gs : List Placed). sum_by m gs) rest,
              ap m new,
              ap m same,
            )
        | inr w ↦
            omega (
              arith,
              sum_by-cons m f fs,
              sum_by-cons m (changed number change f) (map (changed number change) fs),
              ap m (changed_other number change f w.0),
              sum_changed (f.number + 1) next fs rise.2 (rw w.0 at found),
            )
      ]

-- ---- one file gone

without_past :
    (number low next : ℕ) (files : List Placed) → Rise low files next → number < low
    → filter (λ f. not (has_number number f)) files ≡ files
without_past number low next [] rise past = refl
without_past number low next (f ∷ fs) rise past =
    grind (arith, nat_tests, without_past number (f.number + 1) next fs rise.2)

pub all_filter :
    (P : Placed → Type 0) (test : Placed → Bool) (files : List Placed) → AllByRecursion P files
    → AllByRecursion P (filter test files)
all_filter P test [] all = tt
all_filter P test (f ∷ fs) all = grind (arith, nat_tests, all_filter P test fs all.1)

pub sum_without :
    (m : Placed → ℕ) (number low next : ℕ) (files : List Placed) (file : Placed) → Rise low files next
    → find (has_number number) files ≡ Some file
    → sum_by m (filter (λ f. not (has_number number f)) files) + m file ≡ sum_by m files
sum_without m number low next [] file rise found = absurd (cc)
sum_without m number low next (f ∷ fs) file rise found =
    elim (eqb_tells f.number number) [
      | inl w ↦
          let is : Some f ≡ Some file = rw w.0 at found in
          let same : f ≡ file = cc in
          let rest = without_past number (f.number + 1) next fs rise.2 (omega (arith, w.1)) in
          rw w.0
          (omega (arith, sum_by-cons m f fs, ap (λ (gs : List Placed). sum_by m gs) rest, ap m same))
      | inr w ↦
          rw w.0
          (omega (
            arith,
            sum_by-cons m f fs,
            sum_by-cons m f (filter (λ g. not (has_number number g)) fs),
            sum_without m number (f.number + 1) next fs file rise.2 (rw w.0 at found),
          ))
    ]

-- ---- one file more, at the end

pub all_push :
    (P : Placed → Type 0) (files : List Placed) (file : Placed) → AllByRecursion P files → P file
    → AllByRecursion P (files ++ file ∷ [])
all_push P [] file all here = (here, tt)
all_push P (f ∷ fs) file all here = (all.0, all_push P fs file all.1 here)
