-- A command shows its text of octets, and so of the content that was loaded.
use Rattle.std.proofs.Common.{◌≡◌, ℕ, ◌≤◌, List, [], length, refl, ap, sym, subst, ◌∙◌, inl, inr, true}
use Rattle.px_base.specs.declared.memory.OutOfMemory.{OutOfMemory as NoMemory}
use Rattle.px_base.specs.declared.shelf.ShelfRefusal.TheVariants as refusal
use Rattle.header_tool.specs.declared.shown.Shown.{Shown}
use Rattle.header_tool.specs.Lines.{IsCodeOf}
use Rattle.pacsat_cli.specs.declared.status.Status.TheVariants as status
use Rattle.pacsat_cli.proofs.Names.{ne_eqb, Option, None, Some, IfSome, IfOk, Ok, Err, Result, ShelfRefusal, Gains, GainsPrefix, Rose, Holding, Loads, content_of, Gains-front, Gains-none, fault_code, FileCommand, Status, FileEnd, FileShown, IsTextOf, IsTextPut, OctetsShown, checks_headers, code_status, end_of, fault_status, is_file_status, most_octets, status_of_load}
use Rattle.pacsat_cli.proofs.Loading.{loaded, long, none}

-- a fault's code is never 0
code-status : (fault : Option ℕ) (number : ℕ) → IsCodeOf fault number → code_status number ≡ fault_status fault
code-status None number is = ap code_status is
code-status (Some code) number is = let other = ne_eqb number 0 is.1 in rw other refl

module _ {O : Type 0} (shown : O → Option (List ℕ)) (faults : O → ℕ) (command : FileCommand) (octets : List ℕ) (most : length octets ≤ most_octets) (before now : O) where
  -- all of the text was shown
  all-shown : (f : Option ℕ) (all : List ℕ) → IsTextOf command octets all → checks_headers command ≡ true → end_of command octets ≡ fault_status f → Gains (shown before) (shown now) all → faults now ≡ faults before → OctetsShown shown faults command octets before now (fault_status f)
  all-shown None all text checks ends gains same =
      record {
        text = all;
        gains = gains;
        possible = refl;
        ends = record { octets = octets; there = refl; most = most; text = text; ends = ends };
        cause = record { rose = λ e. absurd (cc); same = λ _. same };
        unshown = λ e. absurd (cc);
      }
  all-shown (Some code) all text checks ends gains same =
      record {
        text = all;
        gains = gains;
        possible = checks;
        ends = record { octets = octets; there = refl; most = most; text = text; ends = ends };
        cause = record { rose = λ e. absurd (cc); same = λ _. same };
        unshown = λ e. absurd (cc);
      }

  -- a front of it was shown
  pub front-shown : (all : List ℕ) → IsTextOf command octets all → GainsPrefix (shown before) (shown now) all → Rose (faults before) (faults now) → OctetsShown shown faults command octets before now status.Out
  front-shown all text gains rose =
      let front = Gains-front (shown before) (shown now) all gains in
      record {
        text = front.0;
        gains = front.1;
        possible = refl;
        ends = (all, end_of command octets, record { octets = octets; there = refl; most = most; text = text; ends = refl }, front.2);
        cause = record { rose = λ _. rose; same = λ e. absurd (e refl) };
        unshown = λ e. absurd (cc);
      }

  -- there was no memory for it
  none-shown : now ≡ before → OctetsShown shown faults command octets before now status.OutOfMemory
  none-shown same =
      record {
        text = [];
        gains = (let P : O → Type 0 = λ x. Gains (shown before) (shown x) [] in subst P (sym same) (Gains-none (shown before)));
        possible = refl;
        ends = refl;
        cause = record { rose = λ e. absurd (cc); same = λ _. ap faults same };
        unshown = λ _. same;
      }

  -- a text of the file's header was put
  pub put-shown :
      (made : Result Shown NoMemory) (s : Status) → IsTextPut shown faults made before now s
      → IfOk made (λ m. IsTextOf command octets m.text) → IfOk made (λ m. IsCodeOf (fault_code octets) m.code)
      → checks_headers command ≡ true → end_of command octets ≡ fault_status (fault_code octets)
      → OctetsShown shown faults command octets before now s
  put-shown (Err none) s put text code checks ends =
      let P : Status → Type 0 = λ x. OctetsShown shown faults command octets before now x in
      subst P (sym put.0) (none-shown put.1)
  put-shown (Ok made) s put text code checks ends =
      let P : Status → Type 0 = λ x. OctetsShown shown faults command octets before now x in
      elim put [
        | inl all ↦ subst P (sym (all.2 ∙ code-status (fault_code octets) made.code code)) (all-shown (fault_code octets) made.text text checks ends all.0 all.1)
        | inr front ↦ subst P (sym front.2) (front-shown made.text text front.0 front.1)
      ]

module _ {O : Type 0} (shown : O → Option (List ℕ)) (faults : O → ℕ) (command : FileCommand) (held : Option Holding) (name : List ℕ) (before : O) where
  end-loaded : (there : Option Holding) (octets text : List ℕ) (s : Status) → Loads there name most_octets (Ok octets) → FileEnd command (Some octets) text s → IfSome there (λ shelf. FileEnd command (content_of shelf name) text s)
  end-loaded None octets text s loads end = tt
  end-loaded (Some shelf) octets text s loads end =
      let P : Option (List ℕ) → Type 0 = λ content. FileEnd command content text s in
      subst P (sym (loaded most_octets (content_of shelf name) octets loads)) end

  -- the octets that were shown are the content of the name
  pub loaded-shown : (now : O) (octets : List ℕ) (s : Status) → Loads held name most_octets (Ok octets) → OctetsShown shown faults command octets before now s → FileShown shown faults command held name before now s
  loaded-shown now octets s loads h =
      record {
        text = h.text;
        gains = h.gains;
        possible = h.possible;
        ends = end-loaded held octets h.text s loads h.ends;
        cause = h.cause;
        unshown = h.unshown;
      }

  end-unloaded : (why : ShelfRefusal) (there : Option Holding) → Loads there name most_octets (Err why) → IfSome there (λ shelf. FileEnd command (content_of shelf name) [] (status_of_load why))
  end-unloaded why None loads = tt
  end-unloaded refusal.NoSuch (Some shelf) loads = (none most_octets (content_of shelf name) loads, refl)
  end-unloaded refusal.TooLong (Some shelf) loads = let h = long most_octets (content_of shelf name) loads in (h.0, h.1, h.2, refl)
  end-unloaded refusal.Fault (Some shelf) loads = refl
  end-unloaded refusal.OutOfMemory (Some shelf) loads = refl

  unloaded : (why : ShelfRefusal) → is_file_status command (status_of_load why) ≡ true → (status_of_load why ≡ status.Out → ⊥) → Loads held name most_octets (Err why) → FileShown shown faults command held name before before (status_of_load why)
  unloaded why possible isnt loads =
      record {
        text = [];
        gains = Gains-none (shown before);
        possible = possible;
        ends = end-unloaded why held loads;
        cause = record { rose = λ e. absurd (isnt e); same = λ _. refl };
        unshown = λ _. refl;
      }

  -- nothing was loaded, and nothing shown
  pub unloaded-shown : (why : ShelfRefusal) → Loads held name most_octets (Err why) → FileShown shown faults command held name before before (status_of_load why)
  unloaded-shown refusal.NoSuch loads = unloaded refusal.NoSuch refl (λ e. cc) loads
  unloaded-shown refusal.TooLong loads = unloaded refusal.TooLong refl (λ e. cc) loads
  unloaded-shown refusal.Fault loads = unloaded refusal.Fault refl (λ e. cc) loads
  unloaded-shown refusal.OutOfMemory loads = unloaded refusal.OutOfMemory refl (λ e. cc) loads
