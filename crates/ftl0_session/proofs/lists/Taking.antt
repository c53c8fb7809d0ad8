-- What taking numbers makes of the lists.
use Rattle.std.proofs.Common.{◌≡◌, ℕ, ◌<◌, ◌≤◌, Bool, cond, List, length, drop, set, position, None, Some, get_or, sym, ◌∙◌, ap, subst, inl, inr, arith}
use Rattle.ftl0_session.proofs.Names.{cases_Bool, get_or-map, length-drop, length-map, All-map, CallSign, CallerList, IsLists, after_taking, is_of, shortened}
use Rattle.ftl0_session.proofs.lists.CallerLists.{here}
use Rattle.ftl0_session.proofs.lists.OnePasses.{find-nowhere, map-none, map-one, none-from_find}

module _ (caller : CallSign) (count : ℕ) where
  -- the list without its first numbers
  abbrev pub short : CallerList → CallerList
  short list = record list { numbers = drop count list.numbers }

  pub same-caller : (list : CallerList) → (shortened caller count list).caller ≡ list.caller
  same-caller list =
      elim (cases_Bool (is_of caller list)) [
        | inl is ↦ ap (λ (b : Bool). (cond b (short list) list).caller) is
        | inr other ↦ ap (λ (b : Bool). (cond b (short list) list).caller) other
      ]

  pub same-owner : (owner : CallSign) (list : CallerList) → is_of owner (shortened caller count list) ≡ is_of owner list
  same-owner owner list =
      elim (cases_Bool (is_of caller list)) [
        | inl is ↦ ap (λ (b : Bool). is_of owner (cond b (short list) list)) is
        | inr other ↦ ap (λ (b : Bool). is_of owner (cond b (short list) list)) other
      ]

  fewer : (list : CallerList) → length list.numbers ≤ 1024 → length (shortened caller count list).numbers ≤ 1024
  fewer list few =
      elim (cases_Bool (is_of caller list)) [
        | inl is ↦
            let len = length-drop count list.numbers in
            let most : length (drop count list.numbers) ≤ 1024 = omega (arith, len, few) in
            subst (λ (b : Bool). length (cond b (short list) list).numbers ≤ 1024) (sym is) most
        | inr other ↦
            subst (λ (b : Bool). length (cond b (short list) list).numbers ≤ 1024) (sym other) few
      ]

  module _ (lists : List CallerList) where
    -- if the caller has no list
    pub taken-nowhere : position (is_of caller) lists ≡ None → lists ≡ after_taking lists caller count
    taken-nowhere none =
        sym (map-none (is_of caller) short lists (none-from_find (is_of caller) lists (find-nowhere (is_of caller) lists none)))

    -- if it has one, at this place
    pub taken-at : (place : ℕ) (x now : CallerList) → IsLists lists → position (is_of caller) lists ≡ Some place
        → x ≡ get_or lists place x → now ≡ short x → set lists place now ≡ after_taking lists caller count
    taken-at place x now are at read made =
        sym (map-one (is_of caller) short place lists x (here lists caller place are at) ∙ ap (λ (y : CallerList). set lists place y) (ap short (sym read) ∙ sym made))

    -- lists of a server stay such lists
    pub IsLists-taken : IsLists lists → IsLists (after_taking lists caller count)
    IsLists-taken are =
        let len = length-map lists (shortened caller count) in
        record {
          distinct = λ i j d less below same.
              let within : j < length lists = omega (arith, len, below) in
              let earlier : i < length lists = omega (arith, less, within) in
              let one = ap (λ (l : CallerList). l.caller) (get_or-map (shortened caller count) lists i d d earlier) ∙ same-caller (get_or lists i d) in
              let other = ap (λ (l : CallerList). l.caller) (get_or-map (shortened caller count) lists j d d within) ∙ same-caller (get_or lists j d) in
              are.distinct i j d less within (sym one ∙ same ∙ other);
          few = omega (arith, len, are.few);
          short = All-map (λ (l : CallerList). length l.numbers ≤ 1024) (shortened caller count) lists (λ k d below. fewer (get_or lists k d) (are.short k d below));
        }
