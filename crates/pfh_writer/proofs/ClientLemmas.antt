-- What a file keeps once it is stamped.
use Rattle.std.proofs.Common.{◌≡◌, ℕ, ◌==◌, ◌||◌, ◌⊎◌, List, [], ◌∷◌, length, map, not, Bool, true, false, cond, refl, sym, ap, ◌∙◌, inl, inr}
use Rattle.pfh_writer.proofs.Names.{eq-eqb, and_parts, and_from, IsCall, le16_octets, le32_octets, header_sum, ItemValue, StampValue, is_number_item, is_server_item, is_uploader_item, is_upload_time_item, stamped_item, stamped_items, AreItems-stamped_items, item_at, length-chars, no_fault, stamped-text}
use Rattle.pfh_writer.proofs.FilledLemmas.{id-stamped}
use Rattle.pfh_writer.specs.KeptFile.{KeptFileLaw, client_items, ids_of}
use Rattle.pfh_writer.proofs.FaultlessLemmas.{stamped-faultless}
use Rattle.pfh_writer.proofs.StampedLemmas.{length-stamped, no_fault-code}

-- one of four tests holds
abbrev any_of : Bool → Bool → Bool → Bool → Bool
any_of n u t s = n || u || t || s

first_of_four : (n u t s : Bool) → n ≡ true → any_of n u t s ≡ true
first_of_four n u t s h = ap (λ (b : Bool). any_of b u t s) h

second_of_four : (n u t s : Bool) → u ≡ true → any_of n u t s ≡ true
second_of_four true u t s h = refl
second_of_four false u t s h = ap (λ (b : Bool). any_of false b t s) h

third_of_four : (n u t s : Bool) → t ≡ true → any_of n u t s ≡ true
third_of_four true u t s h = refl
third_of_four false true t s h = refl
third_of_four false false t s h = ap (λ (b : Bool). any_of false false b s) h

last_of_four : (n u t s : Bool) → s ≡ true → any_of n u t s ≡ true
last_of_four true u t s h = refl
last_of_four false true t s h = refl
last_of_four false false true s h = refl
last_of_four false false false s h = h

-- each of the four makes the item the server's
module _ (item : ItemValue) where
  number_is : is_number_item item ≡ true → is_server_item item ≡ true
  number_is h = first_of_four (is_number_item item) (is_uploader_item item) (is_upload_time_item item) (item.id == 0x0A) h

  uploader_is : is_uploader_item item ≡ true → is_server_item item ≡ true
  uploader_is h = second_of_four (is_number_item item) (is_uploader_item item) (is_upload_time_item item) (item.id == 0x0A) h

  upload_time_is : is_upload_time_item item ≡ true → is_server_item item ≡ true
  upload_time_is h = third_of_four (is_number_item item) (is_uploader_item item) (is_upload_time_item item) (item.id == 0x0A) h

  sum_is : (item.id == 0x0A) ≡ true → is_server_item item ≡ true
  sum_is h = last_of_four (is_number_item item) (is_uploader_item item) (is_upload_time_item item) (item.id == 0x0A) h

-- The item is as it was, or was the server's and is.
abbrev SameForClient : ItemValue → ItemValue → Type 0
SameForClient old new = (new ≡ old) ⊎ ((is_server_item old ≡ true) × (is_server_item new ≡ true))

-- an item that is stamped
stamped_one : (stamp : StampValue) (item : ItemValue) → IsCall stamp.by → SameForClient item (stamped_item stamp item)
stamped_one stamp item call = by (is_number_item item) (is_uploader_item item) (is_upload_time_item item) refl refl refl
  where
    by : (n u t : Bool) → is_number_item item ≡ n → is_uploader_item item ≡ u → is_upload_time_item item ≡ t
        → SameForClient item
        (cond n (item_at item.id (le32_octets stamp.number)) (cond u (item_at item.id stamp.by.chars) (cond t (item_at item.id (le32_octets stamp.moment)) item)))
    by true u t en eu et = inr (number_is item en, number_is (item_at item.id (le32_octets stamp.number)) en)
    by false true t en eu et =
        let id = (and_parts (item.id == 0x11) (length item.content == 6) eu).0 in
        inr (
          uploader_is item eu,
          uploader_is (item_at item.id stamp.by.chars)
              (and_from (item.id == 0x11) (length stamp.by.chars == 6) id (eq-eqb (length stamp.by.chars) 6 (length-chars stamp.by call))),
        )
    by false false true en eu et =
        let id = (and_parts (item.id == 0x12) (length item.content == 4) et).0 in
        inr (upload_time_is item et, upload_time_is (item_at item.id (le32_octets stamp.moment)) (and_from (item.id == 0x12) true id refl))
    by false false false en eu et = inl refl

-- an item whose header_checksum is renewed
renewed_one : (content : List ℕ) (item : ItemValue) → SameForClient item (cond (item.id == 0x0A) (item_at item.id content) item)
renewed_one content item = by (item.id == 0x0A) refl
  where
    by : (s : Bool) → (item.id == 0x0A) ≡ s → SameForClient item (cond s (item_at item.id content) item)
    by true es = inr (sum_is item es, sum_is (item_at item.id content) es)
    by false es = inl refl

-- the client's items of a list in which each is the same for the client
client_items-map : (f : ItemValue → ItemValue) → ((item : ItemValue) → SameForClient item (f item)) → (items : List ItemValue)
    → client_items (map f items) ≡ client_items items
client_items-map f same [] = refl
client_items-map f same (item ∷ items) =
    let rest = client_items-map f same items in
    elim (same item) [
      | inl is ↦
          ap (λ (i : ItemValue). cond (not (is_server_item i)) (i ∷ client_items (map f items)) (client_items (map f items))) is
          ∙ ap (λ (l : List ItemValue). cond (not (is_server_item item)) (item ∷ l) l) rest
      | inr both ↦
          ap (λ (b : Bool). cond (not b) (f item ∷ client_items (map f items)) (client_items (map f items))) both.1
          ∙ rest
          ∙ sym (ap (λ (b : Bool). cond (not b) (item ∷ client_items items) (client_items items)) both.0)
    ]

client_items-stamped : (stamp : StampValue) (items : List ItemValue) → IsCall stamp.by → client_items (stamped_items stamp items) ≡ client_items items
client_items-stamped stamp items call =
    let sum : List ℕ = le16_octets (header_sum (map (stamped_item stamp) items)) in
    client_items-map (λ (item : ItemValue). cond (item.id == 0x0A) (item_at item.id sum) item) (renewed_one sum) (map (stamped_item stamp) items)
    ∙ client_items-map (stamped_item stamp) (λ item. stamped_one stamp item call) items

-- the ids stay
ids_of-map : (f : ItemValue → ItemValue) → ((item : ItemValue) → (f item).id ≡ item.id) → (items : List ItemValue) → ids_of (map f items) ≡ ids_of items
ids_of-map f same [] = refl
ids_of-map f same (item ∷ items) =
    ap (λ (n : ℕ). n ∷ ids_of (map f items)) (same item) ∙ ap (λ (l : List ℕ). item.id ∷ l) (ids_of-map f same items)

id-renewed : (content : List ℕ) (item : ItemValue) → (cond (item.id == 0x0A) (item_at item.id content) item).id ≡ item.id
id-renewed content item = by (item.id == 0x0A)
  where
    by : (s : Bool) → (cond s (item_at item.id content) item).id ≡ item.id
    by true = refl
    by false = refl

ids_of-stamped : (stamp : StampValue) (items : List ItemValue) → ids_of (stamped_items stamp items) ≡ ids_of items
ids_of-stamped stamp items =
    let sum : List ℕ = le16_octets (header_sum (map (stamped_item stamp) items)) in
    ids_of-map (λ (item : ItemValue). cond (item.id == 0x0A) (item_at item.id sum) item) (id-renewed sum) (map (stamped_item stamp) items)
    ∙ ids_of-map (stamped_item stamp) (id-stamped stamp) items

pub kept_file : KeptFileLaw
kept_file stamp file call none = (
  length-stamped stamp file call none,
  λ octets.
      let is = (no_fault file octets).1 (no_fault-code file none) in
      record {
        faultless = stamped-faultless stamp call is.0 is.1 file is.2;
        items = is.0;
        kept_items = stamped_items stamp is.0;
        body = is.1;
        came_text = is.2.file_text;
        kept_text = record {
          are_items = AreItems-stamped_items stamp is.0 call is.2.file_text.are_items;
          text = stamped-text stamp is.0 is.1 file is.2.file_text;
        };
        ids = ids_of-stamped stamp is.0;
        client = client_items-stamped stamp is.0 call;
      },
)
