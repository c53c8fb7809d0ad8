-- Commands that are done, and those in which the disk failed.
use Rattle.std.proofs.Common.{◌≡◌, List, [], ◌++◌, sym, subst}
use Rattle.client_notes.proofs.Names.{Ghosts, NotesCommand, CutsOff, DoesSeveral, IsReady, NotesState}
use Rattle.client_notes.proofs.SeveralLemmas.{Several-none, Several-ready, Several-then}

module _ {D : Type 0} (g : Ghosts D) (lasts : (disk : D) → g.lasts disk disk) where
  -- nothing is noted where the notes are as they were
  pub does-nothing : (old new : NotesState) (disk : D) → new ≡ old → IsReady g old disk → DoesSeveral g ⊥ old new disk disk []
  does-nothing old new disk same ready = subst (λ (n : NotesState). DoesSeveral g ⊥ old n disk disk []) (sym same) (Several-none g ⊥ old disk (λ never. never) ready (lasts disk))

  -- nothing is cut off
  pub cuts-none : (failed : Type 0) (old new : NotesState) (disk disk_n : D) (done : List NotesCommand) → ¬ failed → DoesSeveral g ⊥ old new disk disk_n done → CutsOff g failed old new disk disk_n done []
  cuts-none failed old new disk disk_n done fine does = record {
    notes_then = new;
    disk_then = disk_n;
    first = does;
    second = Several-none g failed new disk_n fine (Several-ready g old new disk disk_n done does) (lasts disk_n);
  }

-- commands that were done come before
pub cuts-then : {D : Type 0} (g : Ghosts D) (on : (first second third : D) → g.lasts first second → g.lasts second third → g.lasts first third) (failed : Type 0) (old mid new : NotesState) (disk disk_m disk_n : D)
    (before done cut : List NotesCommand) → DoesSeveral g ⊥ old mid disk disk_m before → CutsOff g failed mid new disk_m disk_n done cut → CutsOff g failed old new disk disk_n (before ++ done) cut
cuts-then g on failed old mid new disk disk_m disk_n before done cut h k = record {
  notes_then = k.notes_then;
  disk_then = k.disk_then;
  first = Several-then g on ⊥ ⊥ old mid k.notes_then disk disk_m k.disk_then before done (λ never. never) h k.first;
  second = k.second;
}
