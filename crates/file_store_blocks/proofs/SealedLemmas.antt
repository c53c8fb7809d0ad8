-- What is read of a sealed file, if a table has its run.
use Rattle.std.proofs.Common.{◌≡◌, ℕ, ◌*◌, ◌≤◌, ◌<◌, List, length, take, Option, Some, ap, sym, ◌∙◌, subst, arith}
use Rattle.file_store_blocks.specs.declared.sealed_file.SealedFile.{SealedFile}
use Rattle.file_store_blocks.proofs.Names.{All, flat_map, IsSealable, found_holds, IsPlaced, IsPlacedFile, Placed, PlacedStore, Seal, placed_of, run_of, seal_value, octets_on, ReadsSealed, Sealed, sealed_file, octets_in, stamp_at, whole_block, SealMark, Run, Table, run_at, blocks_on, stamped}
use Rattle.file_store_blocks.proofs.RulesLemmas.{sealed_inside, sealed_keeps}

module _ (table : Table) (store : PlacedStore) (number : ℕ) (rules : IsPlaced store) (run : ℕ) (mark : SealMark) (f : Placed) (found : placed_of store number ≡ Some f)
    (is : f.seal ≡ Some (seal_value mark)) (inside : run < length table.runs) (there : run_at table run ≡ run_of f) where
  -- what it is read as
  abbrev file : SealedFile
  file = sealed_file run mark f

  one : IsPlacedFile store.blocks f
  one = found_holds (IsPlacedFile store.blocks) number store.entries f rules.files found

  abbrev own : Sealed store number
  own = record { file = f; found = found; mark = seal_value mark; is = is }

  octets_are : (content : Option (List ℕ)) → octets_on content table file.blocks ≡ octets_in (blocks_on content) f
  octets_are content = ap (λ (r : Run). take f.held (flat_map (whole_block (blocks_on content)) r.blocks)) there

  -- no other file is sealed with this number, nor with another seal
  same_file : (sealed : Sealed store number) → sealed.file ≡ f
  same_file sealed = let here = sealed.found in cc

  same_mark : (sealed : Sealed store number) → sealed.mark ≡ seal_value mark
  same_mark sealed = let both = sym sealed.is ∙ ap (λ (g : Placed). g.seal) (same_file sealed) ∙ is in cc

  pub reads_sealed : ReadsSealed table store number file
  reads_sealed = record {
    stands = record {
      there = inside;
      below = subst (λ (r : Run). All (λ b. b < store.blocks) r.blocks) (sym there) one.below;
      fits = subst (λ (r : Run). f.held ≤ 512 * length r.blocks) (sym there) (omega (arith, one.count));
      short = omega (arith, one.fits, one.short);
    };
    inside = sealed_inside store number rules own;
    is = λ content keeps.
        subst (λ (os : List ℕ). IsSealable (stamp_at mark.moment f) os mark.sum mark.header_len) (sym (octets_are content))
        (sealed_keeps (blocks_on content) store number keeps own);
    held = λ sealed. ap (λ (g : Placed). g.held) (sym (same_file sealed));
    header = λ sealed. ap (λ (s : Seal). s.header) (sym (same_mark sealed));
    octets = λ content sealed.
        ap (stamped (stamp_at mark.moment f)) (octets_are content)
        ∙ ap (λ (s : Seal). stamped (stamp_at s.moment f) (octets_in (blocks_on content) f)) (sym (same_mark sealed))
        ∙ ap (λ (g : Placed). stamped (stamp_at sealed.mark.moment g) (octets_in (blocks_on content) g)) (sym (same_file sealed));
  }
