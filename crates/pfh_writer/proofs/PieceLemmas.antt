-- One piece of a list of pieces more, which is written in its place.
use Rattle.std.proofs.Common.{◌≡◌, ℕ, ◌+◌, ◌<◌, List, [], ◌∷◌, ◌++◌, length, take, drop, get_or, slice_set, sym, ap, ◌∙◌, arith}
use Rattle.pfh_writer.proofs.Names.{flat_map, take_more, take_more_set, drop_more, drop-set-lt, flat_map_more}

module _ {V : Type 0} (f : V → List ℕ) (whole pieces : List V) (i : ℕ) (d next : V) (within : i < length whole) (len : length pieces ≡ length whole)
    (rest : drop i pieces ≡ drop i whole) where
  same_piece : (get_or pieces i d ≡ get_or whole i d) × (drop (i + 1) pieces ≡ drop (i + 1) whole)
  same_piece =
      let one : drop i pieces ≡ get_or pieces i d ∷ drop (i + 1) pieces = drop_more pieces i d (omega arith) in
      let other : drop i whole ≡ get_or whole i d ∷ drop (i + 1) whole = drop_more whole i d within in
      (cc, cc)

  pub fed_more : flat_map f (take i whole) ++ f (get_or pieces i d) ≡ flat_map f (take (i + 1) whole)
  fed_more =
      ap (λ (v : V). flat_map f (take i whole) ++ f v) same_piece.0
      ∙ flat_map_more f [] (take i whole) (get_or whole i d)
      ∙ ap (λ (l : List V). flat_map f l) (sym (take_more whole i d within))

  pub given_more : flat_map f (take i pieces) ++ f next ≡ flat_map f (take (i + 1) (slice_set pieces i next))
  given_more = flat_map_more f [] (take i pieces) next ∙ ap (λ (l : List V). flat_map f l) (sym (take_more_set pieces i next (omega arith)))

  pub rest_more : drop (i + 1) (slice_set pieces i next) ≡ drop (i + 1) whole
  rest_more = drop-set-lt (i + 1) pieces i next (omega arith) ∙ same_piece.1
