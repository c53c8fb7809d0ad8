-- The first fault of a file: what is computed is the one that the rules say.
use Rattle.std.proofs.Common.{◌≡◌, ◌≢◌, ℕ, ◌==◌, List, [], ◌∷◌, Bool, true, false, not, cond, Option, Some, None, refl, sym, ap, ◌∙◌, subst, MatchOption}
use Rattle.std.specs.List.{AllByRecursion, list_all}
use Rattle.pfh_items.specs.declared.fault.FileFault.{FileFault}
use Rattle.pfh_items.specs.declared.fault.FileFault.TheVariants.{NoHeader, NoEndItem, MissingItem, BadHeader, HeaderSum, BodySum}
use Rattle.pfh_items.proofs.Names.{eqb-true, eq-eqb, and_parts, and_from, false≢true, both_ways, false_from_ne_true, le16, sum16, IsOctets, MandatoryItem, items_with, content_of, header_sum, Stands, StandsOnce, HasMandatory, FitsFile, FirstFault, IsFaultless, IsFound, begins_header, file_parts, has_none, is_one_of_len, has_mandatory, fits_file, fault_of, fault_of_parts, first_fault, IsOneFault, HasNoFault, ItemValue, HeaderValue, FileText, mandatory_items}
use Rattle.pfh_items.proofs.TextLemmas.{item_at}
use Rattle.pfh_items.proofs.HeaderLemmas.{file_parts-text, FileText-file_parts, begins_header-BeginsHeader, BeginsHeader-begins_header, BeginsHeader-text}

-- a test of each element, and a fact of each
all_from_test : {X : Type 0} (p : X → Bool) (P : X → Type 0) → ((x : X) → p x ≡ true → P x) → (xs : List X) → list_all p xs ≡ true
    → AllByRecursion P xs
all_from_test p P f [] t = tt
all_from_test p P f (x ∷ xs) t = let both = and_parts (p x) (list_all p xs) t in (f x both.0, all_from_test p P f xs both.1)

test_from_all : {X : Type 0} (p : X → Bool) (P : X → Type 0) → ((x : X) → P x → p x ≡ true) → (xs : List X) → AllByRecursion P xs
    → list_all p xs ≡ true
test_from_all p P f [] h = refl
test_from_all p P f (x ∷ xs) h = and_from (p x) (list_all p xs) (f x h.0) (test_from_all p P f xs h.1)

-- the items of an id have it
items_with-id : (id : ℕ) (items : List ItemValue) (item : ItemValue) (others : List ItemValue) → items_with id items ≡ item ∷ others
    → item.id ≡ id
items_with-id id [] item others same = absurd (none same)
  where
    none : [] ≡ item ∷ others → ⊥
    none e = cc
items_with-id id (first ∷ items) item others same = by_test (items_with-id id items item others) (first.id == id) refl same
  where
    by_test : (items_with id items ≡ item ∷ others → item.id ≡ id) → (b : Bool) → (first.id == id) ≡ b
        → cond b (first ∷ items_with id items) (items_with id items) ≡ item ∷ others → item.id ≡ id
    by_test later true t e =
        let here : first ≡ item = cc in
        ap (λ (i : ItemValue). i.id) (sym here) ∙ eqb-true first.id id t
    by_test later false t e = later e

stands : (items : List ItemValue) (rule : MandatoryItem) → not (has_none (items_with rule.id items)) ≡ true → Stands items rule
stands items rule t none = false≢true (sym (ap (λ (xs : List ItemValue). not (has_none xs)) none) ∙ t)

stands-test : (items : List ItemValue) (rule : MandatoryItem) → Stands items rule → not (has_none (items_with rule.id items)) ≡ true
stands-test items rule h = some (items_with rule.id items) h
  where
    some : (xs : List ItemValue) → xs ≢ [] → not (has_none xs) ≡ true
    some [] h = absurd (h refl)
    some (x ∷ xs) h = refl

pub has_mandatory-HasMandatory : (items : List ItemValue) → has_mandatory items ≡ true → HasMandatory items
has_mandatory-HasMandatory items t =
    all_from_test (λ (rule : MandatoryItem). not (has_none (items_with rule.id items))) (Stands items) (stands items) mandatory_items t

pub HasMandatory-has_mandatory : (items : List ItemValue) → HasMandatory items → has_mandatory items ≡ true
HasMandatory-has_mandatory items h =
    test_from_all (λ (rule : MandatoryItem). not (has_none (items_with rule.id items))) (Stands items) (stands-test items) mandatory_items h

-- one item of an id
once : (items : List ItemValue) (rule : MandatoryItem) → is_one_of_len rule.len (items_with rule.id items) ≡ true → StandsOnce items rule
once items rule t = one (items_with rule.id items) refl t
  where
    one : (found : List ItemValue) → items_with rule.id items ≡ found → is_one_of_len rule.len found ≡ true → StandsOnce items rule
    one [] same t = absurd (false≢true t)
    one (item ∷ []) same t = (
      item.content,
      same ∙ ap (λ (id : ℕ). item_at id item.content ∷ []) (items_with-id rule.id items item [] same),
      eqb-true _ _ t,
    )
    one (item ∷ (other ∷ others)) same t = absurd (false≢true t)

once-test : (items : List ItemValue) (rule : MandatoryItem) → StandsOnce items rule → is_one_of_len rule.len (items_with rule.id items) ≡ true
once-test items rule h = ap (is_one_of_len rule.len) h.1 ∙ eq-eqb _ _ h.2

-- each mandatory item stands once, if the test of each says so
pub once_each : (items : List ItemValue) → list_all (λ (rule : MandatoryItem). is_one_of_len rule.len (items_with rule.id items)) mandatory_items ≡ true
    → AllByRecursion (StandsOnce items) mandatory_items
once_each items t =
    all_from_test (λ (rule : MandatoryItem). is_one_of_len rule.len (items_with rule.id items)) (StandsOnce items) (once items) mandatory_items t

pub fits_file-FitsFile : (items : List ItemValue) (body : List ℕ) → fits_file items body ≡ true → FitsFile items body
fits_file-FitsFile items body t =
    let both = and_parts _ _ t in
    let first = and_parts _ _ both.0 in
    record {
      once = once_each items first.0;
      file_size = eqb-true _ _ first.1;
      body_offset = eqb-true _ _ both.1;
    }

pub FitsFile-fits_file : (items : List ItemValue) (body : List ℕ) → FitsFile items body → fits_file items body ≡ true
FitsFile-fits_file items body h =
    and_from _ _
    (and_from _ _
    (test_from_all (λ (rule : MandatoryItem). is_one_of_len rule.len (items_with rule.id items)) (StandsOnce items) (once-test items) mandatory_items h.once)
    (eq-eqb _ _ h.file_size))
    (eq-eqb _ _ h.body_offset)

-- the first of four tests that fails
abbrev pub chosen : Bool → Bool → Bool → Bool → Option FileFault
chosen mandatory fits header body =
    cond (not mandatory) (Some MissingItem) (cond (not fits) (Some BadHeader) (cond (not header) (Some HeaderSum) (cond (not body) (Some BodySum) None)))

abbrev pub header_test : List ItemValue → Bool
header_test items = le16 (content_of 0x0A items) 0 == header_sum items

abbrev pub body_test : List ItemValue → List ℕ → Bool
body_test items body = le16 (content_of 0x09 items) 0 == sum16 body

-- What the tests of a file's parts choose is its first fault.
abbrev pub IsChosen : List ItemValue → List ℕ → List ℕ → Option FileFault → Type 0
IsChosen items body file found = MatchOption found (IsFaultless items body file) (λ fault. FirstFault fault file)

no_by : {P : Type 0} (b : Bool) → (P → b ≡ true) → b ≡ false → P → ⊥
no_by b test fails h = both_ways b fails (test h)

chosen-is : (items : List ItemValue) (body file : List ℕ) → FileText items body file → (m f h b : Bool) → has_mandatory items ≡ m → fits_file items body ≡ f
    → header_test items ≡ h → body_test items body ≡ b → IsChosen items body file (chosen m f h b)
chosen-is items body file is false f h b tm tf th tb = (items, body, is, no_by _ (HasMandatory-has_mandatory items) tm)
chosen-is items body file is true false h b tm tf th tb =
    (items, body, is, has_mandatory-HasMandatory items tm, no_by _ (FitsFile-fits_file items body) tf)
chosen-is items body file is true true false b tm tf th tb =
    (items, body, is, has_mandatory-HasMandatory items tm, fits_file-FitsFile items body tf, no_by _ (eq-eqb _ _) th)
chosen-is items body file is true true true false tm tf th tb = (
  items,
  body,
  is,
  has_mandatory-HasMandatory items tm,
  fits_file-FitsFile items body tf,
  eqb-true _ _ th,
  no_by _ (eq-eqb _ _) tb,
)
chosen-is items body file is true true true true tm tf th tb = record {
  file_text = is;
  mandatory = has_mandatory-HasMandatory items tm;
  fits = fits_file-FitsFile items body tf;
  header_sum = eqb-true _ _ th;
  body_sum = eqb-true _ _ tb;
}

-- the fault of a file with these parts, or none
pub fault_of-is : (items : List ItemValue) (body file : List ℕ) → FileText items body file → IsChosen items body file (fault_of items body)
fault_of-is items body file is =
    chosen-is items body file is (has_mandatory items) (fits_file items body) (header_test items) (body_test items body) refl refl refl refl

-- what is chosen is the first fault, or none
pub IsFound-chosen : (items : List ItemValue) (body file : List ℕ) (found : Option FileFault) → IsChosen items body file found → IsFound file found
IsFound-chosen items body file None is = (items, body, is)
IsFound-chosen items body file (Some fault) is = is

-- the fault of a file, by whether it begins with AA 55 and has parts
by_parts : (file : List ℕ) → IsOctets file → (begins : Bool) → begins_header file ≡ begins → (parts : Option HeaderValue) → file_parts file ≡ parts
    → (found : Option FileFault) → cond begins (fault_of_parts parts) (Some NoHeader) ≡ found
    → IsFound file found
by_parts file h false b parts p found same =
    subst (IsFound file) same
    (no_by _ (begins_header-BeginsHeader file) b)
by_parts file h true b None p found same =
    subst (IsFound file) same
    (BeginsHeader-begins_header file b, λ items body is. none_some (sym p ∙ file_parts-text items body file is))
  where
    none_some : {parts : HeaderValue} → None ≡ Some parts → ⊥
    none_some e = cc
by_parts file h true b (Some parts) p found same =
    subst (IsFound file) same
    (IsFound-chosen parts.items parts.body file (fault_of parts.items parts.body) (fault_of-is parts.items parts.body file (FileText-file_parts file parts h p)))

-- what is computed is the first fault, or the file keeps all rules
pub first_fault-is : (file : List ℕ) → IsOctets file
    → IsFound file (first_fault file)
unfolding first_fault
first_fault-is file h = by_parts file h (begins_header file) refl (file_parts file) refl (first_fault file) refl

-- what is computed of a file with these parts
pub first_fault-text : (items : List ItemValue) (body file : List ℕ) → FileText items body file → first_fault file ≡ fault_of items body
unfolding first_fault
first_fault-text items body file is =
    ap (λ (b : Bool). cond b (fault_of_parts (file_parts file)) (Some NoHeader)) (begins_header-BeginsHeader file (BeginsHeader-text items body file is))
    ∙ ap fault_of_parts (file_parts-text items body file is)

pub chosen-by : (items : List ItemValue) (body : List ℕ) (m f h b : Bool) → has_mandatory items ≡ m → fits_file items body ≡ f
    → header_test items ≡ h → body_test items body ≡ b → fault_of items body ≡ chosen m f h b
chosen-by items body m f h b tm tf th tb =
    ap (λ (t : Bool). chosen t (fits_file items body) (header_test items) (body_test items body)) tm
    ∙ ap (λ (t : Bool). chosen m t (header_test items) (body_test items body)) tf
    ∙ ap (λ (t : Bool). chosen m f t (body_test items body)) th
    ∙ ap (λ (t : Bool). chosen m f h t) tb

-- a first fault is the one that is computed
pub first_fault-from : (file : List ℕ) (fault : FileFault) → IsOctets file → FirstFault fault file → first_fault file ≡ Some fault
unfolding first_fault
first_fault-from file NoHeader h is =
    ap (λ (b : Bool). cond b (fault_of_parts (file_parts file)) (Some NoHeader))
    (false_from_ne_true _ (λ begins. is (BeginsHeader-begins_header file begins)))
first_fault-from file NoEndItem h is =
    ap (λ (b : Bool). cond b (fault_of_parts (file_parts file)) (Some NoHeader)) (begins_header-BeginsHeader file is.0)
    ∙ none (file_parts file) refl
  where
    none : (parts : Option HeaderValue) → file_parts file ≡ parts → fault_of_parts (file_parts file) ≡ Some NoEndItem
    none None p = ap fault_of_parts p
    none (Some parts) p = absurd (is.1 parts.items parts.body (FileText-file_parts file parts h p))
first_fault-from file MissingItem h is =
    first_fault-text is.0 is.1 file is.2
    ∙ chosen-by is.0 is.1 false (fits_file is.0 is.1) (header_test is.0) (body_test is.0 is.1)
    (false_from_ne_true _ (λ t. is.3 (has_mandatory-HasMandatory is.0 t))) refl refl refl
first_fault-from file BadHeader h is =
    first_fault-text is.0 is.1 file is.2
    ∙ chosen-by is.0 is.1 true false (header_test is.0) (body_test is.0 is.1) (HasMandatory-has_mandatory is.0 is.3)
    (false_from_ne_true _ (λ t. is.4 (fits_file-FitsFile is.0 is.1 t))) refl refl
first_fault-from file HeaderSum h is =
    first_fault-text is.0 is.1 file is.2
    ∙ chosen-by is.0 is.1 true true false (body_test is.0 is.1) (HasMandatory-has_mandatory is.0 is.3) (FitsFile-fits_file is.0 is.1 is.4)
    (false_from_ne_true _ (λ t. is.5 (eqb-true _ _ t))) refl
first_fault-from file BodySum h is =
    first_fault-text is.0 is.1 file is.2
    ∙ chosen-by is.0 is.1 true true true false (HasMandatory-has_mandatory is.0 is.3) (FitsFile-fits_file is.0 is.1 is.4) (eq-eqb _ _ is.5)
    (false_from_ne_true _ (λ t. is.6 (eqb-true _ _ t)))

pub one_fault : IsOneFault
one_fault file fault h = (
  first_fault-from file fault h,
  λ same.
      subst (IsFound file) same
      (first_fault-is file h),
)

pub first_fault-none : (items : List ItemValue) (body file : List ℕ) → IsFaultless items body file → first_fault file ≡ None
first_fault-none items body file is =
    first_fault-text items body file is.file_text
    ∙ chosen-by items body true true true true (HasMandatory-has_mandatory items is.mandatory) (FitsFile-fits_file items body is.fits)
    (eq-eqb _ _ is.header_sum) (eq-eqb _ _ is.body_sum)

pub no_fault : HasNoFault
no_fault file h = (
  λ is. first_fault-none is.0 is.1 file is.2,
  λ same.
      subst (IsFound file) same
      (first_fault-is file h),
)
