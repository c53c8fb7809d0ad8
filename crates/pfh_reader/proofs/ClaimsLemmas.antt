-- What is kept of items, with one more item, and what it says of the file's first fault.
use Rattle.std.proofs.Common.{◌≡◌, ℕ, zero, suc, ◌<◌, ◌==◌, ◌&&◌, List, [], ◌∷◌, ◌++◌, length, get_or, find, Bool, true, false, not, cond, Some, option_map, unwrap_or, refl, sym, ap, ◌∙◌, arith, length-append}
use Rattle.pfh_reader.proofs.Names.{list_all, eq-eqb, both_ways, append-nil, same_lists, filter-append, le16, le32, MandatoryItem, items_with, content_of, has_none, is_one_of_len, ItemValue, Standing, Missing, Once, Wrong, standing_of, standings, standing_after, standing_with, noted, is_missing, is_once, Says16, Says32}

-- the items of an id with one more item
one_more : (b : Bool) (item : ItemValue) → List ItemValue
one_more true item = item ∷ []
one_more false item = []

items_with-more : (id : ℕ) (items : List ItemValue) (item : ItemValue) (b : Bool) → (item.id == id) ≡ b
    → items_with id (items ++ item ∷ []) ≡ items_with id items ++ one_more b item
unfolding one_more
items_with-more id items item true t =
    filter-append (λ (i : ItemValue). i.id == id) items (item ∷ []) ∙ ap (λ (b : Bool). items_with id items ++ cond b (item ∷ []) []) t
items_with-more id items item false t =
    filter-append (λ (i : ItemValue). i.id == id) items (item ∷ []) ∙ ap (λ (b : Bool). items_with id items ++ cond b (item ∷ []) []) t

-- how items and one more stand
standing_of-more : (len : ℕ) (found : List ItemValue) (item : ItemValue)
    → standing_of len (found ++ item ∷ []) ≡ standing_after (standing_of len found) (length item.content == len)
standing_of-more len [] item = refl
standing_of-more len (x ∷ []) item = by (length x.content == len)
  where
    by : (b : Bool) → Wrong ≡ standing_after (cond b Once Wrong) (length item.content == len)
    by true = refl
    by false = refl
standing_of-more len (x ∷ (y ∷ found)) item = refl

standing_with-more : (rule : MandatoryItem) (items : List ItemValue) (item : ItemValue)
    → standing_of rule.len (items_with rule.id (items ++ item ∷ [])) ≡ standing_with (standing_of rule.len (items_with rule.id items)) rule item
unfolding one_more
standing_with-more rule items item = by (item.id == rule.id) refl
  where
    by : (b : Bool) → (item.id == rule.id) ≡ b
        → standing_of rule.len (items_with rule.id (items ++ item ∷ []))
        ≡ cond (item.id == rule.id) (standing_after (standing_of rule.len (items_with rule.id items)) (length item.content == rule.len)) (standing_of rule.len (items_with rule.id items))
    by true t =
        ap (standing_of rule.len) (items_with-more rule.id items item true t)
        ∙ standing_of-more rule.len (items_with rule.id items) item
        ∙ ap (λ (b : Bool). cond b (standing_after (standing_of rule.len (items_with rule.id items)) (length item.content == rule.len)) (standing_of rule.len (items_with rule.id items))) (sym t)
    by false t =
        ap (standing_of rule.len) (items_with-more rule.id items item false t ∙ append-nil (items_with rule.id items))
        ∙ ap (λ (b : Bool). cond b (standing_after (standing_of rule.len (items_with rule.id items)) (length item.content == rule.len)) (standing_of rule.len (items_with rule.id items))) (sym t)

-- how the items of each rule and one more stand
pub standings-more : (rules : List MandatoryItem) (items : List ItemValue) (item : ItemValue)
    → noted (standings rules items) rules item ≡ standings rules (items ++ item ∷ [])
standings-more [] items item = refl
standings-more (rule ∷ rules) items item =
    ap (λ (s : Standing). s ∷ noted (standings rules items) rules item) (sym (standing_with-more rule items item))
    ∙ ap (λ (ss : List Standing). standing_of rule.len (items_with rule.id (items ++ item ∷ [])) ∷ ss) (standings-more rules items item)

pub length-noted : (standing : List Standing) (rules : List MandatoryItem) (item : ItemValue) → length standing ≡ length rules
    → length (noted standing rules item) ≡ length rules
length-noted [] [] item same = refl
length-noted [] (rule ∷ rules) item same = absurd (omega arith)
length-noted (s ∷ standing) [] item same = absurd (omega arith)
length-noted (s ∷ standing) (rule ∷ rules) item same = ap suc (length-noted standing rules item (omega arith))

pub get_or-noted : (standing : List Standing) (rules : List MandatoryItem) (item : ItemValue) (k : ℕ) (d e : Standing) (r : MandatoryItem)
    → length standing ≡ length rules → k < length rules
    → get_or (noted standing rules item) k d ≡ standing_with (get_or standing k e) (get_or rules k r) item
get_or-noted [] [] item k d e r same below = absurd (omega arith)
get_or-noted [] (rule ∷ rules) item k d e r same below = absurd (omega arith)
get_or-noted (s ∷ standing) [] item k d e r same below = absurd (omega arith)
get_or-noted (s ∷ standing) (rule ∷ rules) item zero d e r same below = refl
get_or-noted (s ∷ standing) (rule ∷ rules) item (suc k) d e r same below = get_or-noted standing rules item k d e r (omega arith) (omega arith)

-- the list that has each place noted
pub noted-from : (old new : List Standing) (rules : List MandatoryItem) (item : ItemValue) (r : MandatoryItem) → length old ≡ length rules → length new ≡ length rules
    → ((k : ℕ) → k < length rules → get_or new k Missing ≡ standing_with (get_or old k Missing) (get_or rules k r) item) → new ≡ noted old rules item
noted-from old new rules item r lo ln each =
    same_lists new (noted old rules item) (ln ∙ sym (length-noted old rules item lo))
    (λ k d below.
    get_or-any new k d Missing below
    ∙ each k (omega arith)
    ∙ sym (get_or-noted old rules item k d Missing r lo (omega arith)))
  where
    get_or-any : (xs : List Standing) (k : ℕ) (d e : Standing) → k < length xs → get_or xs k d ≡ get_or xs k e
    get_or-any [] k d e below = absurd (omega arith)
    get_or-any (x ∷ xs) zero d e below = refl
    get_or-any (x ∷ xs) (suc k) d e below = get_or-any xs k d e (omega arith)

-- one item is all that stands, and it came last or before
last-one : (xs : List ItemValue) (x y : ItemValue) → xs ++ x ∷ [] ≡ y ∷ [] → x ≡ y
last-one [] x y same = cc
last-one (z ∷ []) x y same = absurd (omega (arith, ap length same))
last-one (z ∷ (w ∷ zs)) x y same = absurd (omega (arith, ap length same, length-append zs (x ∷ [])))

-- what is said, with one more item of the id or another
pub says16-other : (items : List ItemValue) (item : ItemValue) (id number : ℕ) → (item.id == id) ≡ false → Says16 items id number → Says16 (items ++ item ∷ []) id number
unfolding one_more
says16-other items item id number t h content same = h content (sym (append-nil (items_with id items)) ∙ sym (items_with-more id items item false t) ∙ same)

pub says16-item : (items : List ItemValue) (item : ItemValue) (id : ℕ) → item.id ≡ id → Says16 (items ++ item ∷ []) id (le16 item.content 0)
unfolding one_more
says16-item items item id is content same len =
    let one = last-one (items_with id items) item (record { id = id; content = content }) (sym (items_with-more id items item true (eq-eqb item.id id is)) ∙ same) in
    ap (λ (i : ItemValue). le16 i.content 0) one

pub says16-long : (items : List ItemValue) (item : ItemValue) (id number : ℕ) → (length item.content == 2) ≡ false → Says16 items id number → Says16 (items ++ item ∷ []) id number
unfolding one_more
says16-long items item id number t h = by (item.id == id) refl
  where
    by : (b : Bool) → (item.id == id) ≡ b → Says16 (items ++ item ∷ []) id number
    by false e = says16-other items item id number e h
    by true e = λ content same len.
        let one = last-one (items_with id items) item (record { id = id; content = content }) (sym (items_with-more id items item true e) ∙ same) in
        absurd (both_ways (length item.content == 2) t (eq-eqb (length item.content) 2 (ap (λ (i : ItemValue). length i.content) one ∙ len)))

pub says32-other : (items : List ItemValue) (item : ItemValue) (id number : ℕ) → (item.id == id) ≡ false → Says32 items id number → Says32 (items ++ item ∷ []) id number
unfolding one_more
says32-other items item id number t h content same = h content (sym (append-nil (items_with id items)) ∙ sym (items_with-more id items item false t) ∙ same)

pub says32-item : (items : List ItemValue) (item : ItemValue) (id : ℕ) → item.id ≡ id → Says32 (items ++ item ∷ []) id (le32 item.content 0)
unfolding one_more
says32-item items item id is content same len =
    let one = last-one (items_with id items) item (record { id = id; content = content }) (sym (items_with-more id items item true (eq-eqb item.id id is)) ∙ same) in
    ap (λ (i : ItemValue). le32 i.content 0) one

pub says32-long : (items : List ItemValue) (item : ItemValue) (id number : ℕ) → (length item.content == 4) ≡ false → Says32 items id number → Says32 (items ++ item ∷ []) id number
unfolding one_more
says32-long items item id number t h = by (item.id == id) refl
  where
    by : (b : Bool) → (item.id == id) ≡ b → Says32 (items ++ item ∷ []) id number
    by false e = says32-other items item id number e h
    by true e = λ content same len.
        let one = last-one (items_with id items) item (record { id = id; content = content }) (sym (items_with-more id items item true e) ∙ same) in
        absurd (both_ways (length item.content == 4) t (eq-eqb (length item.content) 4 (ap (λ (i : ItemValue). length i.content) one ∙ len)))

-- each mandatory item stands, and stands once
is_missing-standing_of : (len : ℕ) (found : List ItemValue) → is_missing (standing_of len found) ≡ has_none found
is_missing-standing_of len [] = refl
is_missing-standing_of len (x ∷ []) = by (length x.content == len)
  where
    by : (b : Bool) → is_missing (cond b Once Wrong) ≡ false
    by true = refl
    by false = refl
is_missing-standing_of len (x ∷ (y ∷ found)) = refl

is_once-standing_of : (len : ℕ) (found : List ItemValue) → is_once (standing_of len found) ≡ is_one_of_len len found
is_once-standing_of len [] = refl
is_once-standing_of len (x ∷ []) = by (length x.content == len)
  where
    by : (b : Bool) → is_once (cond b Once Wrong) ≡ b
    by true = refl
    by false = refl
is_once-standing_of len (x ∷ (y ∷ found)) = refl

pub all_stand : (rules : List MandatoryItem) (items : List ItemValue)
    → list_all (λ (s : Standing). not (is_missing s)) (standings rules items) ≡ list_all (λ (rule : MandatoryItem). not (has_none (items_with rule.id items))) rules
all_stand [] items = refl
all_stand (rule ∷ rules) items =
    ap (λ (b : Bool). not b && list_all (λ (s : Standing). not (is_missing s)) (standings rules items)) (is_missing-standing_of rule.len (items_with rule.id items))
    ∙ ap (λ (b : Bool). not (has_none (items_with rule.id items)) && b) (all_stand rules items)

pub all_once : (rules : List MandatoryItem) (items : List ItemValue)
    → list_all is_once (standings rules items) ≡ list_all (λ (rule : MandatoryItem). is_one_of_len rule.len (items_with rule.id items)) rules
all_once [] items = refl
all_once (rule ∷ rules) items =
    ap (λ (b : Bool). b && list_all is_once (standings rules items)) (is_once-standing_of rule.len (items_with rule.id items))
    ∙ ap (λ (b : Bool). is_one_of_len rule.len (items_with rule.id items) && b) (all_once rules items)

-- the first item of an id is the first of its items
pub content_of-items_with : (id : ℕ) (items : List ItemValue) (content : List ℕ) (others : List ItemValue)
    → items_with id items ≡ record { id = id; content = content } ∷ others → content_of id items ≡ content
content_of-items_with id [] content others same = absurd (none same)
  where
    none : {item : ItemValue} → [] ≡ item ∷ others → ⊥
    none e = cc
content_of-items_with id (first ∷ items) content others same = by (content_of-items_with id items content others) (first.id == id) refl same
  where
    by : (items_with id items ≡ record { id = id; content = content } ∷ others → content_of id items ≡ content) → (b : Bool) → (first.id == id) ≡ b
        → cond b (first ∷ items_with id items) (items_with id items) ≡ record { id = id; content = content } ∷ others
        → unwrap_or (option_map (λ (i : ItemValue). i.content) (cond (first.id == id) (Some first) (find (λ (i : ItemValue). i.id == id) items))) [] ≡ content
    by later true t e =
        let here : first ≡ record { id = id; content = content } = cc in
        ap (λ (b : Bool). unwrap_or (option_map (λ (i : ItemValue). i.content) (cond b (Some first) (find (λ (i : ItemValue). i.id == id) items))) []) t
        ∙ ap (λ (i : ItemValue). i.content) here
    by later false t e =
        ap (λ (b : Bool). unwrap_or (option_map (λ (i : ItemValue). i.content) (cond b (Some first) (find (λ (i : ItemValue). i.id == id) items))) []) t
        ∙ later e
