-- What two stores that are like each other except for the octets have in common.
use Rattle.std.proofs.Common.{◌≡◌, ℕ, ◌+◌, ◌-◌, ◌==◌, ◌&&◌, Bool, true, false, nat_le, nat_lt, List, [], ◌∷◌, length, Option, None, Some, refl, ap, ap₂, sym, ◌∙◌, subst, arith, inl, inr}
use Rattle.file_store_model.specs.Like.{AreLike, IsAsFar, IsEntryLike, IsStoreLike}
use Rattle.file_store_model.specs.Bars.{Bars}
use Rattle.file_store_model.specs.declared.begin_bar.BeginBar.{BeginBar}
use Rattle.file_store_model.specs.declared.begin_bar.BeginBar.TheVariants.{TooLong, TooMany, NumbersGone, NoRoom}
use Rattle.file_store_model.proofs.Names.{find, sum_by, eqb_tells, sum_by-cons, MayBegin, can_begin, IsCompleteIn, IsNextComplete, info_of, is_complete, last_next, longest_file, most_entries, Entry, Holding, Store, blocks_for, blocks_of, complete, entry_count, entry_of, free_blocks, octets_of, partial, Info, CallSign}

-- ---- how far a file has come

far_back : (one other : Holding) → IsAsFar one other → IsAsFar other one
far_back (partial held) (partial then) far = sym far
far_back (partial held) (complete octets moment) far = absurd far
far_back (complete octets moment) (partial held) far = absurd far
far_back (complete octets moment) (complete all then) far = (sym far.0, sym far.1)

far_length : (one other : Holding) → IsAsFar one other → length (octets_of one) ≡ length (octets_of other)
far_length (partial held) (partial then) far = far
far_length (partial held) (complete octets moment) far = absurd far
far_length (complete octets moment) (partial held) far = absurd far
far_length (complete octets moment) (complete all then) far = far.0

far_complete : (one other : Holding) → IsAsFar one other → is_complete one ≡ is_complete other
far_complete (partial held) (partial then) far = refl
far_complete (partial held) (complete octets moment) far = absurd far
far_complete (complete octets moment) (partial held) far = absurd far
far_complete (complete octets moment) (complete all then) far = refl

far_partial : (held : List ℕ) (one other : Holding) → one ≡ partial held → IsAsFar one other → (then : List ℕ) × (other ≡ partial then) × (length held ≡ length then)
far_partial held one other is far = by other (subst (λ (h : Holding). IsAsFar h other) is far)
  where
    by : (o : Holding) → IsAsFar (partial held) o → (then : List ℕ) × (o ≡ partial then) × (length held ≡ length then)
    by (partial then) same = (then, refl, same)
    by (complete octets moment) same = absurd same

far_whole : (octets : List ℕ) (moment : ℕ) (one other : Holding) → one ≡ complete octets moment → IsAsFar one other → (all : List ℕ) × (other ≡ complete all moment) × (length octets ≡ length all)
far_whole octets moment one other is far = by other (subst (λ (h : Holding). IsAsFar h other) is far)
  where
    by : (o : Holding) → IsAsFar (complete octets moment) o → (all : List ℕ) × (o ≡ complete all moment) × (length octets ≡ length all)
    by (partial held) same = absurd same
    by (complete all then) same = (all, ap (complete all) (sym same.1), same.0)

-- ---- an entry

-- what is reported about an entry, by its parts
abbrev info_from : ℕ → CallSign → ℕ → ℕ → Bool → ℕ → Info
info_from number caller file_length held whole begun =
    record { number = number; caller = caller; length = file_length; held = held; complete = whole; begun = begun }

info_is : (one other : Entry) → length (octets_of one.holding) ≡ length (octets_of other.holding) → is_complete one.holding ≡ is_complete other.holding → IsEntryLike one other
    → info_of one ≡ info_of other
info_is one other count whole like =
    let held : Entry → ℕ = λ e. length (octets_of e.holding) in
    let done : Entry → Bool = λ e. is_complete e.holding in
    ap (λ (n : ℕ). info_from n one.caller one.length (held one) (done one) one.begun) like.number
    ∙ ap (λ (c : CallSign). info_from other.number c one.length (held one) (done one) one.begun) like.caller
    ∙ ap (λ (n : ℕ). info_from other.number other.caller n (held one) (done one) one.begun) like.length
    ∙ ap (λ (n : ℕ). info_from other.number other.caller other.length n (done one) one.begun) count
    ∙ ap (λ (b : Bool). info_from other.number other.caller other.length (held other) b one.begun) whole
    ∙ ap (λ (n : ℕ). info_from other.number other.caller other.length (held other) (done other) n) like.begun

module _ (one other : Entry) (like : IsEntryLike one other) where
  -- as many octets
  pub like_octets_length : length (octets_of one.holding) ≡ length (octets_of other.holding)
  like_octets_length = far_length one.holding other.holding like.holding

  pub like_is_complete : is_complete one.holding ≡ is_complete other.holding
  like_is_complete = far_complete one.holding other.holding like.holding

  -- one under way is like one under way
  pub like_partial : (held : List ℕ) → one.holding ≡ partial held → (then : List ℕ) × (other.holding ≡ partial then) × (length held ≡ length then)
  like_partial held is = far_partial held one.holding other.holding is like.holding

  -- and a sealed one like one that was sealed in the same moment
  pub like_whole : (octets : List ℕ) (moment : ℕ) → one.holding ≡ complete octets moment → (all : List ℕ) × (other.holding ≡ complete all moment) × (length octets ≡ length all)
  like_whole octets moment is = far_whole octets moment one.holding other.holding is like.holding

  pub like_entry_back : IsEntryLike other one
  like_entry_back = record {
    number = sym like.number;
    caller = sym like.caller;
    length = sym like.length;
    begun = sym like.begun;
    holding = far_back one.holding other.holding like.holding;
  }

  -- the same is reported about both
  pub like_info : info_of one ≡ info_of other
  like_info = info_is one other like_octets_length like_is_complete like

-- ---- all entries

find_like : (number : ℕ) (ones others : List Entry) (e : Entry) → AreLike ones others → find (λ (x : Entry). x.number == number) ones ≡ Some e
    → (then : Entry) × (find (λ (x : Entry). x.number == number) others ≡ Some then) × IsEntryLike e then
find_like number [] [] e like found = absurd (cc)
find_like number [] (o ∷ os) e like found = absurd like
find_like number (x ∷ xs) [] e like found = absurd like
find_like number (x ∷ xs) (o ∷ os) e like found =
    elim (eqb_tells x.number number) [
      | inl w ↦
          let is : Some x ≡ Some e = rw w.0 at found in
          let same : x ≡ e = cc in
          let there : (o.number == number) ≡ true = ap (λ (n : ℕ). n == number) (sym like.0.number) ∙ w.0 in
          (o, rw there refl, subst (λ (y : Entry). IsEntryLike y o) same like.0)
      | inr w ↦
          let rest = find_like number xs os e like.1 (rw w.0 at found) in
          let other : (o.number == number) ≡ false = ap (λ (n : ℕ). n == number) (sym like.0.number) ∙ w.0 in
          (rest.0, rw other rest.1, rest.2)
    ]

all_back : (ones others : List Entry) → AreLike ones others → AreLike others ones
all_back [] [] like = tt
all_back [] (o ∷ os) like = absurd like
all_back (x ∷ xs) [] like = absurd like
all_back (x ∷ xs) (o ∷ os) like = (like_entry_back x o like.0, all_back xs os like.1)

count_like : (ones others : List Entry) → AreLike ones others → length ones ≡ length others
count_like [] [] like = refl
count_like [] (o ∷ os) like = absurd like
count_like (x ∷ xs) [] like = absurd like
count_like (x ∷ xs) (o ∷ os) like = omega (arith, count_like xs os like.1)

-- how many blocks the file of an entry takes
abbrev room_in : Entry → ℕ
room_in e = blocks_for e.length

rooms_like : (ones others : List Entry) → AreLike ones others → sum_by room_in ones ≡ sum_by room_in others
rooms_like [] [] like = refl
rooms_like [] (o ∷ os) like = absurd like
rooms_like (x ∷ xs) [] like = absurd like
rooms_like (x ∷ xs) (o ∷ os) like =
    omega (arith, sum_by-cons room_in x xs, sum_by-cons room_in o os, rooms_like xs os like.1, ap blocks_for like.0.length)

-- whether a file of this length can be begun, if there are this many entries, and this many blocks are taken of those
-- there are
abbrev begin_test : ℕ → ℕ → ℕ → ℕ → ℕ → Bool
begin_test file_length count next taken blocks =
    nat_le file_length longest_file && nat_lt count most_entries && nat_lt next last_next && nat_le (taken + blocks_for file_length) blocks

module _ (one other : Store) (like : IsStoreLike one other) where
  -- an entry of the one is like one of the other
  pub like_entry : (number : ℕ) (e : Entry) → entry_of one number ≡ Some e → (then : Entry) × (entry_of other number ≡ Some then) × IsEntryLike e then
  like_entry number e found = find_like number one.entries other.entries e like.entries found

  pub like_back : IsStoreLike other one
  like_back = record { entries = all_back one.entries other.entries like.entries; next = sym like.next; blocks = sym like.blocks }

  -- as many entries
  pub like_count : entry_count one ≡ entry_count other
  like_count = count_like one.entries other.entries like.entries

  pub like_blocks_of : blocks_of one ≡ blocks_of other
  like_blocks_of = rooms_like one.entries other.entries like.entries

  -- and as many free blocks
  pub like_free : free_blocks one ≡ free_blocks other
  like_free = ap₂ (λ (b t : ℕ). b - t) like.blocks like_blocks_of

  pub like_may_begin : (file_length : ℕ) → MayBegin one file_length → MayBegin other file_length
  like_may_begin file_length may = record {
    short = may.short;
    few = omega (arith, may.few, like_count);
    left = omega (arith, may.left, like.next);
    room = omega (arith, may.room, like_free);
  }

  pub like_can_begin : (file_length : ℕ) → can_begin one file_length ≡ can_begin other file_length
  like_can_begin file_length =
      ap (λ (n : ℕ). begin_test file_length n one.next (blocks_of one) one.blocks) like_count
      ∙ ap (λ (n : ℕ). begin_test file_length (entry_count other) n (blocks_of one) one.blocks) like.next
      ∙ ap (λ (n : ℕ). begin_test file_length (entry_count other) other.next n one.blocks) like_blocks_of
      ∙ ap (λ (n : ℕ). begin_test file_length (entry_count other) other.next (blocks_of other) n) like.blocks

  pub like_bars : (bar : BeginBar) (file_length : ℕ) → Bars bar one file_length → Bars bar other file_length
  like_bars TooLong file_length bars = bars
  like_bars TooMany file_length bars = (bars.0, omega (arith, bars.1, like_count))
  like_bars NumbersGone file_length bars = (bars.0, omega (arith, bars.1, like_count), sym like.next ∙ bars.2)
  like_bars (NoRoom blocks free) file_length bars =
      (bars.0, omega (arith, bars.1, like_count), omega (arith, bars.2, like.next), omega (arith, bars.3, like_free), bars.4, bars.5 ∙ like_free)

  pub like_complete : (number : ℕ) → IsCompleteIn one number → IsCompleteIn other number
  like_complete number (e, found, is) =
      let then = like_entry number e found in
      (then.0, then.1, sym (like_is_complete e then.0 then.2) ∙ is)

module _ (one other : Store) (like : IsStoreLike one other) where
  pub like_none : (number : ℕ) → entry_of one number ≡ None → entry_of other number ≡ None
  like_none number none = by (entry_of other number) refl
    where
      by : (o : Option Entry) → entry_of other number ≡ o → o ≡ None
      by None same = refl
      by (Some e) same = let found = (like_entry other one (like_back one other like) number e same).1 in absurd (cc)

  -- the next complete file has the same number
  pub like_next : (above : ℕ) (o : Option ℕ) → IsNextComplete one above o → IsNextComplete other above o
  like_next above None none = λ number past complete. none number past (like_complete other one (like_back one other like) number complete)
  like_next above (Some next) (past, is, least) =
      (past, like_complete one other like next is, λ number over complete. least number over (like_complete other one (like_back one other like) number complete))

-- ---- a store is like itself

far_same : (h : Holding) → IsAsFar h h
far_same (partial held) = refl
far_same (complete octets moment) = (refl, refl)

all_same : (entries : List Entry) → AreLike entries entries
all_same [] = tt
all_same (e ∷ es) = (record { number = refl; caller = refl; length = refl; begun = refl; holding = far_same e.holding }, all_same es)

pub like_same : (store : Store) → IsStoreLike store store
like_same store = record { entries = all_same store.entries; next = refl; blocks = refl }
