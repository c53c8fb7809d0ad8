-- The items that were put into a builder.
use Rattle.std.proofs.Common.{◌≡◌, ℕ, ◌^◌, ◌<◌, ◌≤◌, ◌==◌, ◌&&◌, List, [], ◌∷◌, ◌++◌, length, get_or, Bool, true, false, not, cond, Some, None, refl, sym, ap, ◌∙◌, subst}
use Rattle.pfh_writer.specs.declared.refusal.PutRefusal.{PutRefusal}
use Rattle.pfh_writer.specs.declared.refusal.PutRefusal.TheVariants.{Mandatory, BadLength, Twice}
use Rattle.pfh_writer.proofs.Names.{AllByRecursion, eqb-true, false≢true, false_from_ne_true, append-nil, get_or_default, IsOctets, items_with, with_content, ItemValue, IsItem, AreItems, item_text, items_text, fixed_len, is_mandatory, is_single, ItemList, items_from, items_from-ran, AreOthers, item, fits_len, stands, put_refusal}
use Rattle.pfh_writer.proofs.ItemsLemmas.{items_text-append, AreItems-append}

pub IsOctets-of : (octets : List ℕ) → ((i : ℕ) → get_or octets i 0 < 256) → IsOctets octets
IsOctets-of octets h = λ k d below. subst (λ (n : ℕ). n < 256) (get_or_default octets k 0 d below) (h k)

-- the items are read back from their texts
pub read_back : (items : List ItemValue) (octets : List ℕ) → AreItems items → octets ≡ items_text items → (items_from 0 octets).items ≡ items
read_back items octets are same =
    ap (λ (t : List ℕ). (items_from 0 t).items) (same ∙ sym (append-nil (items_text items)))
    ∙ ap (λ (walk : ItemList). walk.items) (items_from-ran items 0 [] are refl)

-- as they are read from the texts
pub others_read : (octets : List ℕ) (items : List ItemValue) → AreOthers octets items → AreOthers octets (items_from 0 octets).items
others_read octets items is = subst (λ (l : List ItemValue). AreOthers octets l) (sym (read_back items octets is.are_items is.text)) is

pub no_others : (octets : List ℕ) → octets ≡ [] → AreOthers octets (items_from 0 octets).items
no_others octets none = others_read octets [] (record { are_items = tt; text = none; optional = tt })

-- what isn't refused
put_causes : (others : List ItemValue) (id : ℕ) (content : List ℕ) → put_refusal others id content ≡ None
    → (is_mandatory id ≡ false) × (fits_len (fixed_len id) id (length content) ≡ true)
put_causes others id content none = by (is_mandatory id) (fits_len (fixed_len id) id (length content)) refl refl none
  where
    by : (m f : Bool) → is_mandatory id ≡ m → fits_len (fixed_len id) id (length content) ≡ f
        → cond m (Some (Mandatory id)) (cond (not f) (Some (BadLength id)) (cond (is_single id && stands id others) (Some (Twice id)) None)) ≡ None
        → (is_mandatory id ≡ false) × (fits_len (fixed_len id) id (length content) ≡ true)
    by true f em ef e = absurd (some e)
      where
        some : {refusal : PutRefusal} → Some refusal ≡ None → ⊥
        some e = cc
    by false false em ef e = absurd (some e)
      where
        some : {refusal : PutRefusal} → Some refusal ≡ None → ⊥
        some e = cc
    by false true em ef e = (em, ef)

pub put_optional : (others : List ItemValue) (id : ℕ) (content : List ℕ) → put_refusal others id content ≡ None → is_mandatory id ≡ false
put_optional others id content none = (put_causes others id content none).0

pub put_item : (others : List ItemValue) (id : ℕ) (content : List ℕ) → put_refusal others id content ≡ None → id < 2 ^ 16 → IsOctets content
    → length content ≤ 255 → IsItem (item id content)
put_item others id content none below octets most = record {
  id = below;
  octets = octets;
  most = most;
  no_end = λ zero_id empty.
      false≢true
      (sym
      (ap (λ (n : ℕ). fits_len (fixed_len n) n (length content)) zero_id ∙ ap (λ (t : List ℕ). fits_len (fixed_len 0) 0 (length t)) empty)
      ∙ (put_causes others id content none).1);
}

-- one item more
pub more_others : (octets next : List ℕ) (items : List ItemValue) (one : ItemValue) → AreOthers octets items → IsItem one → is_mandatory one.id ≡ false
    → next ≡ octets ++ item_text one → AreOthers next (items ++ one ∷ [])
more_others octets next items one is is_item optional same = record {
  are_items = AreItems-append items (one ∷ []) is.are_items (is_item, tt);
  text =
      same
      ∙ ap (λ (t : List ℕ). t ++ item_text one) is.text
      ∙ ap (λ (t : List ℕ). items_text items ++ t) (sym (append-nil (item_text one)))
      ∙ sym (items_text-append items (one ∷ []));
  optional = optional_more items is.optional optional;
}
  where
    optional_more : (items : List ItemValue) → AllByRecursion (λ (i : ItemValue). is_mandatory i.id ≡ false) items → is_mandatory one.id ≡ false
        → AllByRecursion (λ (i : ItemValue). is_mandatory i.id ≡ false) (items ++ one ∷ [])
    optional_more [] h last = (last, tt)
    optional_more (first ∷ items) h last = (h.0, optional_more items h.1 last)

-- no other item has the id of a mandatory one
not_id : (id mandatory : ℕ) → is_mandatory mandatory ≡ true → is_mandatory id ≡ false → (id == mandatory) ≡ false
not_id id mandatory is optional =
    false_from_ne_true (id == mandatory)
    (λ t. false≢true (sym optional ∙ ap is_mandatory (eqb-true id mandatory t) ∙ is))

pub none_with : (id : ℕ) (items : List ItemValue) → is_mandatory id ≡ true → AllByRecursion (λ (i : ItemValue). is_mandatory i.id ≡ false) items
    → items_with id items ≡ []
none_with id [] is optional = refl
none_with id (first ∷ items) is optional =
    ap (λ (b : Bool). cond b (first ∷ items_with id items) (items_with id items)) (not_id first.id id is optional.0) ∙ none_with id items is optional.1

pub content_stays : (id : ℕ) (content : List ℕ) (items : List ItemValue) → is_mandatory id ≡ true
    → AllByRecursion (λ (i : ItemValue). is_mandatory i.id ≡ false) items → with_content id content items ≡ items
content_stays id content [] is optional = refl
content_stays id content (first ∷ items) is optional =
    ap (λ (b : Bool). cond b (item first.id content) first ∷ with_content id content items) (not_id first.id id is optional.0)
    ∙ ap (λ (l : List ItemValue). first ∷ l) (content_stays id content items is optional.1)
