-- Runs of reads.
use Rattle.std.proofs.Common.{◌≡◌, ◌+◌, ℕ, List, ◌++◌, Option, Result, Ok, IsErr, length, take, drop, sym, ap, ◌∙◌, subst, arith, length-append}
use Rattle.file_store_blocks.proofs.Names.{is_err, false≢true, octets_on, TookFront, FileBlocks, Table, take-take, FillsRoom, IsTold, Ghosts, Reads, reads_on, reads_same}
use Rattle.file_store_blocks.proofs.BlockRunLemmas.{take_then}

ok_no_err : {T E : Type 0} (result : Result T E) (x : T) → result ≡ Ok x → IsErr result → ⊥
ok_no_err {T} {E} result x ok err = false≢true (sym (ap (λ (r : Result T E). is_err r) ok) ∙ err)

-- with one read more, that didn't fail
pub reads_more :
    {D T E : Type 0} (g : Ghosts D) (on : (first second third : D) → g.lasts first second → g.lasts second third → g.lasts first third)
    (old mid new : D) (result : Result T E) (x : T)
    → result ≡ Ok x → Reads g ⊥ old mid → Reads g (IsErr result) mid new → Reads g ⊥ old new
reads_more g on old mid new result x ok before read =
    reads_on g on old mid new ⊥ ⊥ (λ none. none) before
    (reads_same g mid new (IsErr result) ⊥ (λ err. ok_no_err result x ok err) (λ none. absurd none) read)

-- what a part that was read holds, by what was observed of the disk before
pub part_told :
    (before now : Option (List ℕ)) (table : Table) (file : FileBlocks) (at size count : ℕ) (room : List ℕ)
    → now ≡ before → size ≡ count → (IsTold now → FillsRoom (octets_on now table file) at size room)
    → IsTold before → FillsRoom (octets_on before table file) at count room
part_told before now table file at size count room same sizes fills told =
    fills (subst (λ (o : Option (List ℕ)). IsTold o) (sym same) told)
    ∙ ap (λ (n : ℕ). take n (drop at (octets_on now table file))) sizes
    ∙ ap (λ (o : Option (List ℕ)). take count (drop at (octets_on o table file))) same

-- a piece more is taken
pub took_more :
    {S T : Type 0} (took : S → T → List ℕ → Type 0) (content : Option (List ℕ)) (octets piece : List ℕ) (count more : ℕ) (old mid new : T)
    → TookFront took content octets count old mid → length piece ≡ more → (IsTold content → FillsRoom octets count more piece)
    → ((setting : S) (fed : List ℕ) → took setting mid fed → took setting new (fed ++ piece))
    → TookFront took content octets (count + more) old new
took_more took content octets piece count more old mid new before size fills takes = record {
  fed = before.fed ++ piece;
  size = omega (arith, before.size, size, length-append before.fed piece);
  is = λ told.
      ap (λ (l : List ℕ). l ++ piece) (before.is told)
      ∙ ap (λ (l : List ℕ). take count octets ++ l) (fills told)
      ∙ take_then count more octets;
  took_all = λ setting fresh. takes setting before.fed (before.took_all setting fresh);
}

-- all were taken
pub took_whole :
    {S T : Type 0} (took : S → T → List ℕ → Type 0) (content : Option (List ℕ)) (xs : List ℕ) (count : ℕ) (old new : T)
    → (front : TookFront took content (take count xs) count old new) → IsTold content → front.fed ≡ take count xs
took_whole took content xs count old new front told = front.is told ∙ take-take count count xs (omega arith)
