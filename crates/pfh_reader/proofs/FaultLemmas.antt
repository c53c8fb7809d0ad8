-- What is kept of a file's items and octets says its first fault.
use Rattle.std.proofs.Common.{◌≡◌, ℕ, ◌+◌, ◌-◌, ◌%◌, ◌/◌, ◌==◌, ◌&&◌, List, [], ◌++◌, length, Bool, true, false, not, cond, Option, Some, None, option_map, refl, sym, ap, ◌∙◌, subst}
use Rattle.pfh_items.specs.declared.fault.FileFault.{FileFault}
use Rattle.pfh_reader.proofs.Names.{list_all, and_parts, false_from_ne_true, le16, le32, sum16, NoHeader, NoEndItem, MandatoryItem, items_with, content_of, header_sum, BeginsHeader, FirstFault, IsFaultless, IsFound, code_of, fault_code, fault_of_parts, file_parts, first_fault, is_one_of_len, has_mandatory, fits_file, fault_of, ItemValue, AreItems, FileText, header_text, mandatory_items, begins_header-BeginsHeader, BeginsHeader-begins_header, body_test, fault_of-is, FitsFile-fits_file, header_test, IsChosen, IsFound-chosen, once_each, one_header, Claims, Standing, Measures, IsSums, IsClaims, is_missing, is_once, IsMeasured}
use Rattle.pfh_reader.proofs.ClaimsLemmas.{all_stand, all_once, content_of-items_with}
use Rattle.pfh_reader.proofs.SumLemmas.{header_sum-own}

-- what is kept of the items of a file, and of its octets
module _ (items : List ItemValue) (body : List ℕ) (claims : Claims) (measures : Measures) (is : IsClaims items claims) (of : IsMeasured items body measures) where
  -- whether each mandatory item stands
  pub mandatory_test : list_all (λ (s : Standing). not (is_missing s)) claims.standing ≡ has_mandatory items
  mandatory_test = ap (list_all (λ (s : Standing). not (is_missing s))) is.standing ∙ all_stand mandatory_items items

  once_test : list_all is_once claims.standing ≡ list_all (λ (rule : MandatoryItem). is_one_of_len rule.len (items_with rule.id items)) mandatory_items
  once_test = ap (list_all is_once) is.standing ∙ all_once mandatory_items items

  -- the numbers that the items say, where each stands once
  module _ (t : list_all (λ (rule : MandatoryItem). is_one_of_len rule.len (items_with rule.id items)) mandatory_items ≡ true) where
    file_size : claims.file_size ≡ le32 (content_of 0x04 items) 0
    file_size =
        let once = (once_each items t).1.1.1.0 in
        is.file_size once.0 once.1 once.2 ∙ ap (λ (c : List ℕ). le32 c 0) (sym (content_of-items_with 0x04 items once.0 [] once.1))

    pub body_sum : claims.body_sum ≡ le16 (content_of 0x09 items) 0
    body_sum =
        let once = (once_each items t).1.1.1.1.1.1.1.1.0 in
        is.body_sum once.0 once.1 once.2 ∙ ap (λ (c : List ℕ). le16 c 0) (sym (content_of-items_with 0x09 items once.0 [] once.1))

    pub header_sum_is : claims.header_sum ≡ le16 (content_of 0x0A items) 0
    header_sum_is =
        let once = (once_each items t).1.1.1.1.1.1.1.1.1.0 in
        is.header_sum once.0 once.1 once.2 ∙ ap (λ (c : List ℕ). le16 c 0) (sym (content_of-items_with 0x0A items once.0 [] once.1))

    pub body_offset : claims.body_offset ≡ le16 (content_of 0x0B items) 0
    body_offset =
        let once = (once_each items t).1.1.1.1.1.1.1.1.1.1.0 in
        is.body_offset once.0 once.1 once.2 ∙ ap (λ (c : List ℕ). le16 c 0) (sym (content_of-items_with 0x0B items once.0 [] once.1))

    pub without_own : AreItems items → (measures.header_sum + 65536 - (claims.header_sum % 256 + claims.header_sum / 256)) % 65536 ≡ header_sum items
    without_own are =
        let once = (once_each items t).1.1.1.1.1.1.1.1.1.0 in
        ap (λ (n : ℕ). (n + 65536 - (claims.header_sum % 256 + claims.header_sum / 256)) % 65536) of.header_sum
        ∙ ap (λ (n : ℕ). (sum16 (header_text items) + 65536 - (n % 256 + n / 256)) % 65536) (is.header_sum once.0 once.1 once.2)
        ∙ header_sum-own items once.0 are once.1 once.2

  abbrev sizes : Bool → Bool
  sizes once = once && (claims.file_size == measures.file_len) && (claims.body_offset == measures.header_len)

  -- whether file and header have their lengths
  pub fits_test : sizes (list_all is_once claims.standing) ≡ fits_file items body
  fits_test = ap sizes once_test ∙ by (list_all (λ (rule : MandatoryItem). is_one_of_len rule.len (items_with rule.id items)) mandatory_items) refl
    where
      by : (b : Bool) → list_all (λ (rule : MandatoryItem). is_one_of_len rule.len (items_with rule.id items)) mandatory_items ≡ b
          → sizes (list_all (λ (rule : MandatoryItem). is_one_of_len rule.len (items_with rule.id items)) mandatory_items) ≡ fits_file items body
      by true t =
          ap (λ (n : ℕ). list_all (λ (rule : MandatoryItem). is_one_of_len rule.len (items_with rule.id items)) mandatory_items && (n == measures.file_len) && (claims.body_offset == measures.header_len)) (file_size t)
          ∙ ap (λ (n : ℕ). list_all (λ (rule : MandatoryItem). is_one_of_len rule.len (items_with rule.id items)) mandatory_items && (le32 (content_of 0x04 items) 0 == n) && (claims.body_offset == measures.header_len)) of.file_len
          ∙ ap (λ (n : ℕ). list_all (λ (rule : MandatoryItem). is_one_of_len rule.len (items_with rule.id items)) mandatory_items && (le32 (content_of 0x04 items) 0 == length (header_text items ++ body)) && (n == measures.header_len)) (body_offset t)
          ∙ ap (λ (n : ℕ). list_all (λ (rule : MandatoryItem). is_one_of_len rule.len (items_with rule.id items)) mandatory_items && (le32 (content_of 0x04 items) 0 == length (header_text items ++ body)) && (le16 (content_of 0x0B items) 0 == n)) of.header_len
      by false t =
          ap sizes t
          ∙ ap (λ (b : Bool). b && (le32 (content_of 0x04 items) 0 == length (header_text items ++ body)) && (le16 (content_of 0x0B items) 0 == length (header_text items))) (sym t)

  -- each stands once, if the file fits
  fits_once : fits_file items body ≡ true → list_all (λ (rule : MandatoryItem). is_one_of_len rule.len (items_with rule.id items)) mandatory_items ≡ true
  fits_once t = (and_parts _ _ (and_parts _ _ t).0).0

  -- whether the header's sum is right, and the body's
  pub header_sum_test : AreItems items → fits_file items body ≡ true
      → (claims.header_sum == (measures.header_sum + 65536 - (claims.header_sum % 256 + claims.header_sum / 256)) % 65536) ≡ header_test items
  header_sum_test are fits =
      let t = fits_once fits in
      ap (λ (n : ℕ). claims.header_sum == n) (without_own t are) ∙ ap (λ (n : ℕ). n == header_sum items) (header_sum_is t)

  pub body_sum_test : fits_file items body ≡ true → (claims.body_sum == measures.body_sum) ≡ body_test items body
  body_sum_test fits =
      ap (λ (n : ℕ). n == measures.body_sum) (body_sum (fits_once fits)) ∙ ap (λ (n : ℕ). le16 (content_of 0x09 items) 0 == n) of.body_sum

-- ---- the first fault of octets, by what is known of them

pub first_fault-other : (file : List ℕ) → (BeginsHeader file → ⊥) → first_fault file ≡ Some NoHeader
unfolding first_fault
first_fault-other file other =
    ap (λ (b : Bool). cond b (fault_of_parts (file_parts file)) (Some NoHeader)) (false_from_ne_true _ (λ begins. other (BeginsHeader-begins_header file begins)))

pub first_fault-parts : (file : List ℕ) → BeginsHeader file → file_parts file ≡ None → first_fault file ≡ Some NoEndItem
unfolding first_fault
first_fault-parts file begins none =
    ap (λ (b : Bool). cond b (fault_of_parts (file_parts file)) (Some NoHeader)) (begins_header-BeginsHeader file begins) ∙ ap fault_of_parts none

pub faultless : (items : List ItemValue) (body file : List ℕ) → FileText items body file → fault_of items body ≡ None → IsFaultless items body file
faultless items body file is none = subst (IsChosen items body file) none (fault_of-is items body file is)

pub first : (items : List ItemValue) (body file : List ℕ) (fault : FileFault) → FileText items body file → fault_of items body ≡ Some fault → FirstFault fault file
first items body file fault is some = subst (IsChosen items body file) some (fault_of-is items body file is)

pub found : (items : List ItemValue) (body file : List ℕ) (fault : Option FileFault) → FileText items body file → fault ≡ fault_of items body → IsFound file fault
found items body file fault is same = subst (IsFound file) (sym same) (IsFound-chosen items body file (fault_of items body) (fault_of-is items body file is))

pub code : (file : List ℕ) (fault : FileFault) (n : ℕ) → first_fault file ≡ Some fault → n ≡ code_of fault → fault_code file ≡ Some n
code file fault n some same = ap (option_map code_of) some ∙ ap (λ (m : ℕ). Some m) (sym same)

-- the sums of a file without fault are those that are kept
pub sums_of : (items others : List ItemValue) (body other file : List ℕ) (claims : Claims) (measures : Measures) (n : ℕ) → IsFaultless items body file
    → FileText others other file → IsClaims others claims → IsMeasured others other measures → n ≡ claims.body_offset
    → IsSums items body (record { header_len = n; body_sum = measures.body_sum; header_sum = claims.header_sum })
sums_of items others body other file claims measures n is text kept of len =
    let same = one_header file others items other body text is.file_text in
    let claims_is : IsClaims items claims = subst (λ (x : List ItemValue). IsClaims x claims) same.0 kept in
    let of_is : IsMeasured items other measures = subst (λ (x : List ItemValue). IsMeasured x other measures) same.0 of in
    let once = fits_once items body claims measures claims_is (subst (λ (x : List ℕ). IsMeasured items x measures) same.1 of_is) (FitsFile-fits_file items body is.fits) in
    let both = subst (λ (x : List ℕ). IsMeasured items x measures) same.1 of_is in
    record {
      header_len = len ∙ body_offset items body claims measures claims_is both once ∙ is.fits.body_offset;
      body_sum = both.body_sum;
      header_sum = header_sum_is items body claims measures claims_is both once ∙ is.header_sum;
    }
