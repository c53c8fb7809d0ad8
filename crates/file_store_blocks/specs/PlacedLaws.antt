-- What the records of a journal make of a store of placed files: it keeps its rules, and what blocks hold that it
-- doesn't use changes nothing of it.
use Rattle.std.proofs.Common.{◌≡◌, ℕ, Some, refl, sym, ◌∙◌, ap, subst, arith}
use Rattle.file_store_blocks.specs.AnewLaws.{placed_anew}
use Rattle.file_store_blocks.specs.CallLaws.{recorded_call}
use Rattle.file_store_blocks.specs.KeptLaws.{none_is_placed}
use Rattle.file_store_blocks.specs.Placed.{Decides}
use Rattle.file_store_blocks.specs.PlacedForm.{placed_form, placed_steps}
use Rattle.file_store_blocks.specs.PlacedRecords.{read_step, recorded_in}
use Rattle.file_store_blocks.specs.ReadLaws.{read_placed, recorded_allowed, recorded_decides, recorded_rules}
use Rattle.file_store_blocks.specs.ReadLaws.{recorded_blocks, recorded_same}
use Rattle.file_store_blocks.specs.ReadStore.{IsReadStore, ReadStore, after_recorded, is_recordable, nothing_read}
use Rattle.file_store_blocks.specs.SameLaws.{decides_uses, none_used, seen_same, uses_below}
use Rattle.file_store_blocks.specs.Seen.{seen}
use Rattle.file_journal.specs.Form.{TellsItsNumber}
use Rattle.file_journal.specs.Layout.{Blocks, HoldSame}
use Rattle.file_journal.specs.Records.{Record}
use Rattle.file_journal.specs.Steps.{IsSeenBy}
use Rattle.file_journal.proofs.Offered.{seen_own_number, stepped, steps}

-- no record came yet
pub nothing_is : (blocks : ℕ) → IsReadStore (nothing_read blocks)
nothing_is blocks = record { rules = none_is_placed blocks; least = omega arith }

module _ (held : Blocks) (before now : ReadStore) (entry : Record)
    (is : read_step held before entry ≡ Some now) where
  step_blocks : now.store.blocks ≡ before.store.blocks
  step_blocks =
      let step = stepped (is_recordable held) (after_recorded held) before now (recorded_in entry) is in
      ap (λ (r : ReadStore). r.store.blocks) step.3 ∙ recorded_blocks held before step.0

  pub step_state : IsReadStore before → IsReadStore now
  step_state rules =
      let step = stepped (is_recordable held) (after_recorded held) before now (recorded_in entry) is in
      subst IsReadStore (sym step.3)
      (recorded_rules held before rules step.0 (recorded_call held entry step.0 step.1) step.2)

  step_decides :
      IsReadStore before → (block : ℕ) → Decides before.store block → Decides now.store block
  step_decides rules block decides =
      let step = stepped (is_recordable held) (after_recorded held) before now (recorded_in entry) is in
      subst (λ (r : ReadStore). Decides r.store block) (sym step.3)
      (recorded_decides held before rules step.0 step.2 block decides)

  step_same :
      (other : Blocks) → IsReadStore before → HoldSame (Decides now.store) held other
      → read_step other before entry ≡ Some now
  step_same other rules same =
      let step = stepped (is_recordable held) (after_recorded held) before now (recorded_in entry) is in
      let alike = subst (λ (r : ReadStore). HoldSame (Decides r.store) held other) step.3 same in
      steps (is_recordable other) (after_recorded other) before step.0 (recorded_in entry) step.1
      (recorded_allowed held other before step.0 rules step.2 alike)
      ∙ ap Some (recorded_same held other before step.0 rules step.2 alike ∙ sym step.3)

placed_number : TellsItsNumber placed_form
placed_number =
    seen_own_number placed_steps seen placed_form (λ blocks octets. refl) (λ held now. refl) (λ blocks. refl)
    (λ held before now entry is. step_blocks held before now entry is)

pub placed_seen : IsSeenBy placed_steps seen placed_form
placed_seen =
    record {
      standing = λ blocks octets. refl;
      own_number = placed_number;
      fresh_state = nothing_is;
      step_state = λ held before now entry rules is. step_state held before now entry is rules;
      kept_state = λ now rules. read_placed now rules;
      fresh_number = λ is blocks. refl;
      same_number = λ held before now entry is. step_blocks held before now entry is;
      fresh_none = none_used;
      growing = λ is now block uses. absurd (cc is);
      within = λ now block rules uses. uses_below now block rules uses;
      decided = λ now block rules decides. decides_uses now block decides;
      decided_on = λ held before now entry rules is block decides.
          step_decides held before now entry is rules block decides;
      same_step = λ one other before now entry rules is same. step_same one before now entry is other rules same;
      same_seen = λ one other now rules same. seen_same one other now same;
      anew = λ is. placed_anew;
    }
