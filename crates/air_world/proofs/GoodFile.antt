-- The files of a schedule's uploads are good: octets, that keep all rules, and not too long.
use Rattle.std.proofs.Common.{◌≡◌, ℕ, ◌+◌, ◌*◌, ◌%◌, ◌^◌, ◌<◌, ◌≤◌, List, [], ◌∷◌, ◌++◌, length, replicate, refl, sym}
use Rattle.std.proofs.Common.{ap, ◌∙◌, subst, arith, length-append, true}
use Rattle.std.specs.Prelude.{option_map}
use Rattle.std.proofs.lemmas.List.Sums.{AllPass-from_list_all}
use Rattle.std.proofs.lemmas.List.FromFn.{length-range_with_len}
use Rattle.px_base.specs.Numbers.{le16, le16_octets, le32, le32_octets, sum16}
use Rattle.pfh_items.specs.Faults.{Stands}
use Rattle.pfh_items.specs.Layout.{AreItems, FileText, IsItem, ItemValue, header_text}
use Rattle.pfh_items.specs.Table.{mandatory_items}
use Rattle.pfh_items.specs.declared.table.MandatoryItem.{MandatoryItem}
use Rattle.pfh_items.proofs.Offered.{IsOctets-le16, IsOctets-le32, first_fault-none, octets_as_body}
use Rattle.pfh_writer.specs.Built.{built_file_len, built_items, built_len, item, items_saying, mandatory_saying}
use Rattle.air_world.proofs.Names.{AllByRecursion, list_all, range_with_len, nat_lt, nat_tests, length-map, All-from_get_or, All-map, All-weaker, IsOctets, IsFaultless, StandsOnce, code_of, header_sum, with_content, IsGoodFile, body_octets, file_ext, file_header, file_name, upload_file}

-- the items of an upload's header that says these numbers of its file, with this as header_checksum
abbrev saying : ℕ → ℕ → ℕ → List ℕ → List ItemValue
saying file_size body_sum body_offset check =
    item 0x01 (0 ∷ 0 ∷ 0 ∷ 0 ∷ [])
    ∷ item 0x02 file_name
    ∷ item 0x03 file_ext
    ∷ item 0x04 (le32_octets file_size)
    ∷ item 0x05 (le32_octets 0)
    ∷ item 0x06 (le32_octets 0)
    ∷ item 0x07 (0 ∷ [])
    ∷ item 0x08 (0 ∷ [])
    ∷ item 0x09 (le16_octets body_sum)
    ∷ item 0x0A check
    ∷ item 0x0B (le16_octets body_offset)
    ∷ item 0x11 (replicate 6 32)
    ∷ item 0x12 (replicate 4 0)
    ∷ []

same-items : (file_size body_sum body_offset : ℕ) (check : List ℕ)
    → with_content 0x0A check (items_saying file_header file_size body_sum body_offset)
    ≡ saying file_size body_sum body_offset check
unfolding mandatory_saying
same-items file_size body_sum body_offset check = refl

-- the header's length, whatever it says
header-len : built_len file_header ≡ 89
unfolding mandatory_saying
header-len = refl

-- the item has this id, which is not 0, and these octets
one-item : (id : ℕ) (content : List ℕ) → 1 ≤ id → id < 2 ^ 16 → length content ≤ 255 → IsOctets content
    → IsItem (item id content)
one-item id content some below most octets =
    record { id = below; octets = octets; most = most; no_end = λ none empty. absurd (omega (arith, some, none)) }

-- the same, of numbers of which each is tried
given-item : (id : ℕ) (content : List ℕ) → 1 ≤ id → id < 2 ^ 16 → length content ≤ 255
    → list_all (λ x. nat_lt x 256) content ≡ true → IsItem (item id content)
given-item id content some below most all =
    one-item id content some below most
    (All-weaker (λ x. nat_lt x 256 ≡ true) (λ x. x < 256) (λ x is. grind (arith, nat_tests)) content
    (AllPass-from_list_all (λ x. nat_lt x 256) content all))

-- what is there once is there
all-stand : (items : List ItemValue) (rules : List MandatoryItem) → AllByRecursion (StandsOnce items) rules
    → AllByRecursion (Stands items) rules
all-stand items [] once = tt
all-stand items (rule ∷ rules) once =
    (λ none. absurd (let same = sym once.0.1 ∙ none in let x : ⊥ = cc in x), all-stand items rules once.1)

-- ---- a header with these numbers keeps all rules, if they are so

module _ (file_size body_sum body_offset sum : ℕ) where
  abbrev items : List ItemValue
  items = saying file_size body_sum body_offset (le16_octets sum)

  are-items : AreItems items
  are-items = (
    given-item 0x01 (0 ∷ 0 ∷ 0 ∷ 0 ∷ []) (omega arith) (omega arith) (omega arith) refl,
    (
      given-item 0x02 file_name (omega arith) (omega arith) (omega arith) refl,
      (
        given-item 0x03 file_ext (omega arith) (omega arith) (omega arith) refl,
        (
          one-item 0x04 (le32_octets file_size) (omega arith) (omega arith) (omega arith) (IsOctets-le32 file_size),
          (
            one-item 0x05 (le32_octets 0) (omega arith) (omega arith) (omega arith) (IsOctets-le32 0),
            (
              one-item 0x06 (le32_octets 0) (omega arith) (omega arith) (omega arith) (IsOctets-le32 0),
              (
                given-item 0x07 (0 ∷ []) (omega arith) (omega arith) (omega arith) refl,
                (
                  given-item 0x08 (0 ∷ []) (omega arith) (omega arith) (omega arith) refl,
                  (
                    one-item 0x09 (le16_octets body_sum) (omega arith) (omega arith) (omega arith)
                        (IsOctets-le16 body_sum),
                    (
                      one-item 0x0A (le16_octets sum) (omega arith) (omega arith) (omega arith) (IsOctets-le16 sum),
                      (
                        one-item 0x0B (le16_octets body_offset) (omega arith) (omega arith) (omega arith)
                            (IsOctets-le16 body_offset),
                        (
                          given-item 0x11 (replicate 6 32) (omega arith) (omega arith) (omega arith) refl,
                          (given-item 0x12 (replicate 4 0) (omega arith) (omega arith) (omega arith) refl, tt),
                        ),
                      ),
                    ),
                  ),
                ),
              ),
            ),
          ),
        ),
      ),
    ),
  )

  all-once : AllByRecursion (StandsOnce items) mandatory_items
  all-once = (
    (0 ∷ 0 ∷ 0 ∷ 0 ∷ [], refl, refl),
    (
      (file_name, refl, refl),
      (
        (file_ext, refl, refl),
        (
          (le32_octets file_size, refl, refl),
          (
            (le32_octets 0, refl, refl),
            (
              (le32_octets 0, refl, refl),
              (
                (0 ∷ [], refl, refl),
                (
                  (0 ∷ [], refl, refl),
                  (
                    (le16_octets body_sum, refl, refl),
                    (
                      (le16_octets sum, refl, refl),
                      ((le16_octets body_offset, refl, refl), tt),
                    ),
                  ),
                ),
              ),
            ),
          ),
        ),
      ),
    ),
  )

  items-len : length (header_text items) ≡ 89
  items-len = refl

  faultless : (body : List ℕ) → file_size ≡ 89 + length body → length body ≤ 40000 → body_sum ≡ sum16 body
      → body_offset ≡ 89 → sum ≡ header_sum items → IsFaultless items body (header_text items ++ body)
  faultless body size_is short sum_is offset_is check_is = record {
    file_text = record { are_items = are-items; text = refl };
    mandatory = all-stand items mandatory_items all-once;
    fits = record {
      once = all-once;
      file_size =
          le32-of file_size (omega (arith, size_is, short)) ∙ size_is
          ∙ sym (length-append (header_text items) body ∙ ap (λ n. n + length body) items-len);
      body_offset = le16-of body_offset (omega (arith, offset_is)) ∙ offset_is ∙ sym items-len;
    };
    header_sum =
        le16-of sum
        (subst (λ n. n < 65536) (sym check_is) (below (header_text (with_content 0x0A (0 ∷ 0 ∷ []) items))))
        ∙ check_is;
    body_sum = le16-of body_sum (subst (λ n. n < 65536) (sym sum_is) (below body)) ∙ sum_is;
  }
    where
      le16-of : (n : ℕ) → n < 65536 → le16 (le16_octets n) 0 ≡ n
      le16-of n small = omega arith

      le32-of : (n : ℕ) → n < 2 ^ 32 → le32 (le32_octets n) 0 ≡ n
      le32-of n small = omega arith

      below : (octets : List ℕ) → sum16 octets < 65536
      below octets = omega arith

-- ---- the file of an upload

-- a file of this body, with the header that is built for it, keeps all rules
module _ (body : List ℕ) where
  abbrev list : List ItemValue
  list = built_items file_header body

  abbrev size : ℕ
  size = built_file_len file_header body

  abbrev check : ℕ
  check = header_sum (items_saying file_header size (sum16 body) (built_len file_header))

  abbrev said : List ItemValue
  said = saying size (sum16 body) (built_len file_header) (le16_octets check)

  same : list ≡ said
  same = same-items size (sum16 body) (built_len file_header) (le16_octets check)

  sum-is : check ≡ header_sum said
  sum-is = ap (λ them. sum16 (header_text them)) (same-items size (sum16 body) (built_len file_header) (0 ∷ 0 ∷ []))

  list-len : length (header_text list) ≡ 89
  list-len =
      ap (λ them. length (header_text them)) same ∙ items-len size (sum16 body) (built_len file_header) check

  built-faultless : length body ≤ 40000 → IsFaultless list body (header_text list ++ body)
  built-faultless short =
      subst (λ them. IsFaultless them body (header_text them ++ body)) (sym same)
      (faultless size (sum16 body) (built_len file_header) check body (ap (λ n. n + length body) header-len) short refl
      header-len sum-is)

-- a file of octets, at most this number of them, with the header that is built for it, is good
good-file : (body : List ℕ) → IsOctets body → length body ≤ 40000 → IsGoodFile (header_text (list body) ++ body)
good-file body octets short =
    let is = built-faultless body short in
    record {
      octets = octets_as_body (list body) body (header_text (list body) ++ body) is.file_text octets;
      faultless = ap (option_map code_of) (first_fault-none (list body) body (header_text (list body) ++ body) is);
      short = omega (arith, short, list-len body, length-append (header_text (list body)) body);
    }

-- the octet of a body at this place
abbrev octet-at : ℕ → ℕ → ℕ
octet-at upload i = (7 * i + 13 * upload) % 256

-- the body is octets
body-octets : (upload count : ℕ) → IsOctets (body_octets upload count)
body-octets upload count =
    All-map (λ octet. octet < 256) (octet-at upload) (range_with_len 0 count)
    (All-from_get_or (λ i. octet-at upload i < 256) (range_with_len 0 count) 0 (λ i within. omega arith))

-- the file of each upload is the header that is built for it, and its body
pub upload-text : (upload count : ℕ)
    → FileText (built_items file_header (body_octets upload count)) (body_octets upload count)
    (upload_file upload count)
unfolding upload_file
upload-text upload count =
    let body = body_octets upload count in
    record {
      are_items =
          subst AreItems (sym (same body)) (are-items (size body) (sum16 body) (built_len file_header) (check body));
      text = refl;
    }

-- the file of each upload that a schedule may ask is good
pub good-upload : (upload count : ℕ) → count ≤ 40000 → IsGoodFile (upload_file upload count)
unfolding upload_file
good-upload upload count short =
    let many : length (body_octets upload count) ≡ count =
    length-map (range_with_len 0 count) (octet-at upload) ∙ length-range_with_len 0 count in
    good-file (body_octets upload count) (body-octets upload count) (subst (λ n. n ≤ 40000) (sym many) short)
