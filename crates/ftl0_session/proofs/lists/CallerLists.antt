-- Whose list a list is, and where a caller's is.
use Rattle.std.proofs.Common.{◌≡◌, ◌≢◌, ℕ, ◌-◌, ◌<◌, ◌≤◌, true, false, List, [], length, drop, find, position, remove, None, Some, get_or, sym, ◌∙◌, ap, ap₂, arith}
use Rattle.std.specs.Prelude.{◌==◌}
use Rattle.std.specs.Bool.{Decides}
use Rattle.ftl0_session.proofs.Names.{bytes_eq, false_from_ne_true, Decides-and, Decides-eqb, Decides-like, position-Some, bytes_eq-Decides, CallSign, CallerList, IsLists, is_of, is_same_call, last_of, left_of, lists_of_others, numbers_or_none}
use Rattle.ftl0_session.proofs.lists.OnePasses.{PassesAt, find-nowhere, find-one, none-from_find, passes-at, rest-none, rest-one}

-- whether two calls are the same
pub same-call : (one other : CallSign) → Decides (is_same_call one other) (one ≡ other)
same-call one other =
    Decides-like (is_same_call one other)
    (λ parts. ap₂ (λ (chars : List ℕ) (ssid : ℕ). record { chars = chars; ssid = ssid }) parts.0 parts.1)
    (λ same. (ap (λ (c : CallSign). c.chars) same, ap (λ (c : CallSign). c.ssid) same))
    (Decides-and (bytes_eq one.chars other.chars) (one.ssid == other.ssid) (bytes_eq-Decides one.chars other.chars) (Decides-eqb one.ssid other.ssid))

-- a list of another call isn't the caller's
pub not-of : (caller : CallSign) (list : CallerList) → list.caller ≢ caller → is_of caller list ≡ false
not-of caller list other = false_from_ne_true (is_of caller list) (λ is. other ((same-call list.caller caller).0 is))

-- one caller's list isn't another one's
pub not-both : (caller owner : CallSign) (list : CallerList) → owner ≢ caller → is_of owner list ≡ true → is_of caller list ≡ false
not-both caller owner list other is =
    not-of caller list (λ same. other (sym ((same-call list.caller owner).0 is) ∙ same))

-- if there are at most this many, the last ones are all of them
pub last_of-all : (count : ℕ) (lists : List CallerList) → length lists ≤ count → last_of count lists ≡ lists
last_of-all count lists few = ap (λ (n : ℕ). drop n lists) (let none : length lists - count ≡ 0 = omega arith in none)

-- a caller has no list
pub others-none : (lists : List CallerList) (caller : CallSign) → find (is_of caller) lists ≡ None → lists_of_others lists caller ≡ lists
others-none lists caller none = rest-none (is_of caller) lists (none-from_find (is_of caller) lists none)

-- a caller has a list, at this place
module _ (lists : List CallerList) (caller : CallSign) (place : ℕ) (are : IsLists lists) (at : position (is_of caller) lists ≡ Some place) where
  pub here : PassesAt (is_of caller) place lists
  here =
      let found = position-Some (is_of caller) lists place (record { caller = caller; numbers = [] }) at in
      passes-at (is_of caller) place lists (record { caller = caller; numbers = [] })
      (λ i j d less within one other. are.distinct i j d less within ((same-call _ _).0 one ∙ sym ((same-call _ _).0 other)))
      found.0 found.1

  pub within : place < length lists
  within = (position-Some (is_of caller) lists place (record { caller = caller; numbers = [] }) at).0

  pub others-at : lists_of_others lists caller ≡ remove lists place
  others-at = rest-one (is_of caller) place lists here

  pub left-at : (x : CallerList) → x ≡ get_or lists place x → x.numbers ≡ left_of lists caller
  left-at x read =
      sym (ap numbers_or_none (find-one (is_of caller) place lists x here ∙ ap (λ (y : CallerList). Some y) (sym read)))

pub left-nowhere : (lists : List CallerList) (caller : CallSign) → position (is_of caller) lists ≡ None → left_of lists caller ≡ []
left-nowhere lists caller none = ap numbers_or_none (find-nowhere (is_of caller) lists none)
