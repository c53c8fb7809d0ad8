-- What is reported about an entry, and an upload of it.
use Rattle.std.proofs.Common.{◌≡◌, ℕ, ◌≤◌, false, [], length, Option, None, Some, refl, sym, ◌∙◌, ap, arith}
use Rattle.file_store_model.specs.declared.info.Info.{Info}
use Rattle.file_store.proofs.Names.{option_map, outlined, outlined_entry, Placed, PlacedStore, placed_of, placed_info, outlined_found, outlined_info, CallSign, longest_file, info_of, is_complete, IsStore, Entry, Holding, Store, complete, entry_of, octets_of, partial, found-fits, found-number, Told, StoreState, rest_in, store_in, HasEntry, Holds, Upload, entry_for, upload_from, upload_of}

-- of each number the placed files report the same as what memory shows of the entries
pub shown-info : (store : PlacedStore) (number : ℕ) → option_map placed_info (placed_of store number) ≡ option_map info_of (entry_of (outlined store) number)
shown-info store number = by (placed_of store number) ∙ sym (ap (option_map info_of) (outlined_found store number))
  where
    by : (o : Option Placed) → option_map placed_info o ≡ option_map info_of (option_map outlined_entry o)
    by None = refl
    by (Some f) = ap (λ (i : Info). Some i) (sym (outlined_info f))

under-way : (holding : Holding) → is_complete holding ≡ false → holding ≡ partial (octets_of holding)
under-way (partial held) is = refl
under-way (complete octets moment) is = absurd (cc is)

entry-same : (entry : Entry) (number : ℕ) (caller : CallSign) (file_length : ℕ) (holding : Holding) → entry.number ≡ number → entry.caller ≡ caller → entry.length ≡ file_length → entry.holding ≡ holding
    → entry ≡ record { number = number; caller = caller; length = file_length; begun = entry.begun; holding = holding }
entry-same entry number caller file_length holding p q r s =
    ap (λ (n : ℕ). record entry { number = n }) p
    ∙ ap (λ (c : CallSign). record entry { number = number; caller = c }) q
    ∙ ap (λ (l : ℕ). record entry { number = number; caller = caller; length = l }) r
    ∙ ap (λ (h : Holding). record entry { number = number; caller = caller; length = file_length; holding = h }) s

module _ (store : Store) (number : ℕ) (info : Info) (told : Told store number info) where
  pub told-caller : info.caller ≡ told.entry.caller
  told-caller = ap (λ (i : Info). i.caller) told.is

  pub told-length : info.length ≡ told.entry.length
  told-length = ap (λ (i : Info). i.length) told.is

  pub told-complete : info.complete ≡ is_complete told.entry.holding
  told-complete = ap (λ (i : Info). i.complete) told.is

  pub told-count : info.held ≡ length (octets_of told.entry.holding)
  told-count = ap (λ (i : Info). i.held) told.is

  -- the entry is the upload's
  pub told-entry : (up : Upload) → number ≡ up.number → info.caller ≡ up.caller → info.length ≡ up.length → info.complete ≡ false
      → entry_of store up.number ≡ Some (entry_for up told.entry.begun (partial (octets_of told.entry.holding)))
  told-entry up same caller long partial_is =
      ap (entry_of store) (sym same) ∙ told.found
      ∙ ap (λ (e : Entry). Some e)
      (entry-same told.entry up.number up.caller up.length (partial (octets_of told.entry.holding)) (found-number number store.entries told.entry told.found ∙ same) (sym told-caller ∙ caller) (sym told-length ∙ long)
      (under-way told.entry.holding (sym told-complete ∙ partial_is)))

  -- what is reported about the upload's entry
  pub has-told : (self : StoreState) (up : Upload) → store_in self ≡ store → number ≡ up.number → HasEntry self up
      → (info.complete ≡ false) × (info.held ≡ up.held) × (info.caller ≡ up.caller) × (info.length ≡ up.length)
  has-told self up is same has =
      let there : entry_of store number ≡ Some (entry_for up has.0 (partial has.1)) = ap (λ (s : Store). entry_of s number) (sym is) ∙ ap (entry_of (store_in self)) same ∙ has.2 in
      let entry : told.entry ≡ entry_for up has.0 (partial has.1) = cc (sym told.found ∙ there) in
      let all : info ≡ info_of (entry_for up has.0 (partial has.1)) = told.is ∙ ap info_of entry in
      (ap (λ (i : Info). i.complete) all, ap (λ (i : Info). i.held) all ∙ has.3, ap (λ (i : Info). i.caller) all, ap (λ (i : Info). i.length) all)

  pub told-short : IsStore store → info.length ≤ longest_file
  told-short rules = let fits = (found-fits number 1 store.next store.entries told.entry rules.entries told.found).1 in omega (arith, told-length)

  -- the upload of the entry
  pub told-upload : (caller : CallSign) (file_length : ℕ) → info.caller ≡ caller → info.length ≡ file_length → upload_from number caller file_length info.held ≡ upload_of told.entry
  told-upload caller file_length mine long =
      ap (λ (n : ℕ). upload_from n caller file_length info.held) (sym (found-number number store.entries told.entry told.found))
      ∙ ap (λ (c : CallSign). upload_from told.entry.number c file_length info.held) (sym mine ∙ told-caller)
      ∙ ap (λ (l : ℕ). upload_from told.entry.number told.entry.caller l info.held) (sym long ∙ told-length)
      ∙ ap (λ (n : ℕ). upload_from told.entry.number told.entry.caller told.entry.length n) told-count

  -- an upload of it of which nothing waits
  pub told-holds : (new : StoreState) (caller : CallSign) (file_length : ℕ) → info.caller ≡ caller → info.length ≡ file_length → info.complete ≡ false → store_in new ≡ store
      → rest_in new number ≡ Some [] → Holds new (upload_from number caller file_length info.held)
  told-holds new caller file_length mine long partial_is is rest =
      let up : Upload = upload_from number caller file_length info.held in
      let fits = told.fits in
      record {
        begun = told.entry.begun;
        held = octets_of told.entry.holding;
        entry = ap (λ (s : Store). entry_of s number) is ∙ told-entry up refl mine long partial_is;
        count = sym told-count;
        rest = [];
        out = rest;
        few = omega arith;
        came = omega (arith, told-count, told-length);
      }
