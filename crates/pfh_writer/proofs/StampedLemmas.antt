-- A file is as long once it is stamped.
use Rattle.std.proofs.Common.{◌≡◌, ℕ, zero, suc, ◌+◌, ◌≤◌, List, [], ◌++◌, length, drop, slice_index, Bool, true, false, cond, Option, Some, None, refl, sym, ap, ◌∙◌, arith, length-append, length-drop}
use Rattle.pfh_items.specs.declared.fault.FileFault.TheVariants.{NoHeader}
use Rattle.pfh_items.specs.declared.items.Stop.{Stop}
use Rattle.pfh_items.specs.declared.items.Stop.TheVariants.{EndItem, Ran}
use Rattle.pfh_writer.proofs.Names.{option_map, AllByRecursion, leb-true, length-take-le, IsCall, FileFault, Number, StandsOnce, begins_header, code_of, file_parts, fault_code, fault_of, fault_of_parts, first_fault, fits_file, has_mandatory, header_before, ItemValue, HeaderValue, item_text, items_text, end_item, header_text, StampValue, stamped, stamped_items, stamped_parts, mandatory_items, ItemList, item_in, item_len, items_from, items_within, starts_end, starts_whole, with_item, begins_header-front, body_test, chosen-by, fits_file-FitsFile, header_test, length-item_text, stamped_sum}
use Rattle.pfh_writer.proofs.FilledLemmas.{all_given, length-given_items}
use Rattle.pfh_writer.proofs.ItemsLemmas.{len_of_once}

-- ---- the parts of a file without fault

-- no code, no fault
pub no_fault-code : (file : List ℕ) → fault_code file ≡ None → first_fault file ≡ None
no_fault-code file none = by (first_fault file) none
  where
    by : (o : Option FileFault) → option_map code_of o ≡ None → o ≡ None
    by None e = refl
    by (Some fault) e = absurd (some e)
      where
        some : {n : ℕ} → Some n ≡ None → ⊥
        some e = cc

-- a file without fault begins with AA 55, and has parts without fault
pub record HasGoodParts (file : List ℕ) : Type 0 where
  pub parts : HeaderValue
  pub begins : begins_header file ≡ true
  pub are : file_parts file ≡ Some parts
  pub good : fault_of parts.items parts.body ≡ None

pub good_parts : (file : List ℕ) → first_fault file ≡ None → HasGoodParts file
unfolding first_fault
good_parts file none = by (begins_header file) (file_parts file) refl refl none
  where
    some : {fault : FileFault} → Some fault ≡ None → ⊥
    some e = cc

    by : (b : Bool) (o : Option HeaderValue) → begins_header file ≡ b → file_parts file ≡ o → cond b (fault_of_parts o) (Some NoHeader) ≡ None → HasGoodParts file
    by false o eb eo e = absurd (some e)
    by true None eb eo e = absurd (some e)
    by true (Some parts) eb eo e = record { parts = parts; begins = eb; are = eo; good = e }

-- each mandatory item of a file without fault stands once
pub once_of_good : (items : List ItemValue) (body : List ℕ) → fault_of items body ≡ None → AllByRecursion (StandsOnce items) mandatory_items
once_of_good items body good =
    by (has_mandatory items) (fits_file items body) (header_test items) (body_test items body) refl refl refl refl
  where
    some : {fault : FileFault} → Some fault ≡ None → ⊥
    some e = cc

    by : (m f h b : Bool) → has_mandatory items ≡ m → fits_file items body ≡ f → header_test items ≡ h → body_test items body ≡ b
        → AllByRecursion (StandsOnce items) mandatory_items
    by false f h b em ef eh eb = absurd (some (sym (chosen-by items body false f h b em ef eh eb) ∙ good))
    by true false h b em ef eh eb = absurd (some (sym (chosen-by items body true false h b em ef eh eb) ∙ good))
    by true true h b em ef eh eb = (fits_file-FitsFile items body ef).once

-- ---- the lengths of what is read

-- the text of the item at the front is as long as it says
length-item_in : (octets : List ℕ) → item_len octets ≤ length octets → length (item_text (item_in octets)) ≡ item_len octets
length-item_in octets le =
    let rest : slice_index octets 2 ≤ length (drop 3 octets) = omega (arith, length-drop 3 octets) in
    omega (arith, length-item_text (item_in octets), length-take-le (slice_index octets 2) (drop 3 octets) rest)

-- what is read, by what stands at the front
abbrev step : Bool → Bool → ℕ → List ℕ → ItemList → ItemList
step whole end place octets tail =
    cond whole (cond end (record { items = []; stop = EndItem place }) (with_item (item_in octets) tail)) (record { items = []; stop = Ran place })

-- The items that were read reach from one place to the other, and the end item is there.
pub record Reaches (place at : ℕ) (octets : List ℕ) (items : List ItemValue) : Type 0 where
  pub reach : place + length (items_text items) ≡ at
  pub inside : length (items_text items) + 3 ≤ length octets

walk_reaches : (n place : ℕ) (octets : List ℕ) (at : ℕ) → (items_within n place octets).stop ≡ EndItem at
    → Reaches place at octets (items_within n place octets).items
unfolding items_within
walk_reaches zero place octets at e = absurd (ran e)
  where
    ran : Ran place ≡ EndItem at → ⊥
    ran e = cc
walk_reaches (suc n) place octets at e =
    reaches-step place octets at (items_within n (place + item_len octets) (drop (item_len octets) octets))
    (walk_reaches n (place + item_len octets) (drop (item_len octets) octets) at) (starts_whole octets) (starts_end octets) refl e
  where
    reaches-step : (place : ℕ) (octets : List ℕ) (at : ℕ) (tail : ItemList)
        → (tail.stop ≡ EndItem at → Reaches (place + item_len octets) at (drop (item_len octets) octets) tail.items) → (w f : Bool) → starts_whole octets ≡ w
        → (step w f place octets tail).stop ≡ EndItem at → Reaches place at octets (step w f place octets tail).items
    reaches-step place octets at tail later false f ew e = absurd (ran e)
      where
        ran : Ran place ≡ EndItem at → ⊥
        ran e = cc
    reaches-step place octets at tail later true true ew e =
        let here : place ≡ at = cc in
        let whole : item_len octets ≤ length octets = leb-true _ _ ew in
        record { reach = omega arith; inside = omega arith }
    reaches-step place octets at tail later true false ew e =
        let whole : item_len octets ≤ length octets = leb-true _ _ ew in
        let rest = later e in
        let front = length-item_in octets whole in
        let reach : place + item_len octets + length (items_text tail.items) ≡ at = rest.reach in
        let inside : length (items_text tail.items) + 3 ≤ length (drop (item_len octets) octets) = rest.inside in
        record {
          reach = omega (arith, length-append (item_text (item_in octets)) (items_text tail.items));
          inside = omega (arith, length-append (item_text (item_in octets)) (items_text tail.items), length-drop (item_len octets) octets);
        }

pub length-header : (items : List ItemValue) (body : List ℕ) → length (header_text items ++ body) ≡ length (items_text items) + 5 + length body
length-header items body = omega (arith, length-append (header_text items) body, length-append (items_text items) end_item)

-- a file is as long as its parts
pub length-parts : (file : List ℕ) (parts : HeaderValue) → begins_header file ≡ true → file_parts file ≡ Some parts
    → length (header_text parts.items ++ parts.body) ≡ length file
unfolding file_parts items_from
length-parts file parts begins are =
    by (items_from 0 (drop 2 file)).stop refl (sym (ap (λ (b : Bool). cond b (header_before (drop 2 file) (items_from 0 (drop 2 file)).items (items_from 0 (drop 2 file)).stop) None) begins) ∙ are)
  where
    by : (stop : Stop) → (items_from 0 (drop 2 file)).stop ≡ stop
        → header_before (drop 2 file) (items_from 0 (drop 2 file)).items (items_from 0 (drop 2 file)).stop ≡ Some parts
        → length (header_text parts.items ++ parts.body) ≡ length file
    by (Ran at) es e = absurd (none (sym (ap (header_before (drop 2 file) (items_from 0 (drop 2 file)).items) es) ∙ e))
      where
        none : None ≡ Some parts → ⊥
        none e = cc
    by (EndItem at) es e =
        let items : List ItemValue = (items_from 0 (drop 2 file)).items in
        let is : Some (record { items = items; body = drop (at + 3) (drop 2 file) }) ≡ Some parts =
        sym (ap (header_before (drop 2 file) (items_from 0 (drop 2 file)).items) es) ∙ e in
        let same : record { items = items; body = drop (at + 3) (drop 2 file) } ≡ parts = cc in
        let reaches = walk_reaches (length (drop 2 file)) 0 (drop 2 file) at es in
        let reach : 0 + length (items_text items) ≡ at = reaches.reach in
        let inside : length (items_text items) + 3 ≤ length (drop 2 file) = reaches.inside in
        let front = ap length (begins_header-front file begins) in
        ap (λ (p : HeaderValue). length (header_text p.items ++ p.body)) (sym same)
        ∙ omega (arith, length-header items (drop (at + 3) (drop 2 file)), length-drop (at + 3) (drop 2 file), length-drop 2 file, front)

-- ---- the stamped file

-- the items are as long once they are stamped
length-stamped_items : (stamp : StampValue) (items : List ItemValue) → IsCall stamp.by → AllByRecursion (StandsOnce items) mandatory_items
    → length (items_text (stamped_items stamp items)) ≡ length (items_text items)
length-stamped_items stamp items call once =
    let given = all_given stamp (stamped_sum stamp items) items
    (len_of_once items (record { id = 0x01; len = 4; form = Number }) once.0)
    (len_of_once items (record { id = 0x0A; len = 2; form = Number }) once.1.1.1.1.1.1.1.1.1.0) in
    ap (λ (l : List ItemValue). length (items_text l)) (sym given) ∙ length-given_items stamp (stamped_sum stamp items) items call

-- what is computed of a file with these parts
stamped-parts : (stamp : StampValue) (file : List ℕ) (parts : HeaderValue) → file_parts file ≡ Some parts
    → stamped stamp file ≡ header_text (stamped_items stamp parts.items) ++ parts.body
unfolding stamped
stamped-parts stamp file parts are = ap (stamped_parts stamp file) are

pub length-stamped : (stamp : StampValue) (file : List ℕ) → IsCall stamp.by → fault_code file ≡ None → length (stamped stamp file) ≡ length file
length-stamped stamp file call none =
    let good = good_parts file (no_fault-code file none) in
    let items : List ItemValue = good.parts.items in
    let body : List ℕ = good.parts.body in
    let same = length-stamped_items stamp good.parts.items call (once_of_good good.parts.items good.parts.body good.good) in
    ap length (stamped-parts stamp file good.parts good.are)
    ∙ length-header (stamped_items stamp items) body
    ∙ ap (λ (n : ℕ). n + 5 + length body) same
    ∙ sym (length-header items body)
    ∙ length-parts file good.parts good.begins good.are
