-- One more place is noted, and then all are.
use Rattle.std.proofs.Common.{◌≡◌, ◌+◌, ◌<◌, ◌≤◌, ℕ, zero, suc, List, [], ◌∷◌, refl, length, length-set, get_or, set, sym, ap, ◌∙◌, arith, inl, inr, get_or-set_other, get_or-set_same}
use Rattle.pfh_items.specs.declared.table.Form.TheVariants.{Number}
use Rattle.pfh_reader.proofs.Names.{cases_eq, ItemValue, standing_with, MandatoryItem, mandatory_items, item_value, Standing, Missing}
use Rattle.pfh_reader.proofs.ClaimsLemmas.{noted-from}
use Rattle.pfh_reader.proofs.claims.note_standing.Goals as goal

first : MandatoryItem
first = record { id = 0; len = 0; form = Number }

any : {X : Type 0} (xs : List X) (k : ℕ) (d e : X) → k < length xs → get_or xs k d ≡ get_or xs k e
any [] k d e below = absurd (omega arith)
any (x ∷ xs) zero d e below = refl
any (x ∷ xs) (suc k) d e below = any xs k d e (omega arith)

-- what stands up to a place, and from there on, once the place is noted
module _ (old now : List Standing) (place : ℕ) (item : ItemValue) (result d : Standing) (r : MandatoryItem) (len : length now ≡ 11) (below : place < 11)
    (is : result ≡ standing_with (get_or now place d) (get_or mandatory_items place r) item)
    (noted : (k : ℕ) (rule : MandatoryItem) → k < place → get_or now k Missing ≡ standing_with (get_or old k Missing) (get_or mandatory_items k rule) item)
    (rest : (k : ℕ) → place ≤ k → get_or now k Missing ≡ get_or old k Missing) where
  noted_more : (k : ℕ) (rule : MandatoryItem) → k < place + 1 → get_or (set now place result) k Missing ≡ standing_with (get_or old k Missing) (get_or mandatory_items k rule) item
  noted_more k rule more =
      elim (cases_eq k place) [
        | inr other ↦ get_or-set_other now place k result Missing other ∙ noted k rule (omega arith)
        | inl here ↦
            ap (λ (n : ℕ). get_or (set now place result) n Missing) here
            ∙ get_or-set_same now place result Missing (omega arith)
            ∙ is
            ∙ ap (λ (s : Standing). standing_with s (get_or mandatory_items place r) item) (any now place d Missing (omega arith) ∙ rest place (omega arith))
            ∙ ap (λ (x : MandatoryItem). standing_with (get_or old place Missing) x item) (any mandatory_items place r rule below)
            ∙ ap (λ (n : ℕ). standing_with (get_or old n Missing) (get_or mandatory_items n rule) item) (sym here)
      ]

  rest_more : (k : ℕ) → place + 1 ≤ k → get_or (set now place result) k Missing ≡ get_or old k Missing
  rest_more k more = get_or-set_other now place k result Missing (λ same. absurd (omega arith)) ∙ rest k (omega arith)

pub loop-place-preserved : goal.loop-place-preserved
loop-place-preserved c = record {
  len = length-set c.loop-place.standing c.loop-place.place c.with.result ∙ c.loop-place.invariant.len;
  noted =
      noted_more c.args.standing.now c.loop-place.standing c.loop-place.place (item_value c.args.item.now) c.with.result _ _ c.loop-place.invariant.len c.loop-place-test.true
      c.with.ensures c.loop-place.invariant.noted c.loop-place.invariant.rest;
  rest =
      rest_more c.args.standing.now c.loop-place.standing c.loop-place.place (item_value c.args.item.now) c.with.result _ _ c.loop-place.invariant.len c.loop-place-test.true
      c.with.ensures c.loop-place.invariant.noted c.loop-place.invariant.rest;
}

pub returns : goal.returns
returns c =
    noted-from c.args.standing.now c.loop-place.standing mandatory_items (item_value c.args.item.now) first c.told-standing c.loop-place.invariant.len
    (λ k below. c.loop-place.invariant.noted k first (omega arith))
