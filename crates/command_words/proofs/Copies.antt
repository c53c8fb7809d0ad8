-- A copy of words.
use Rattle.std.proofs.Common.{◌≡◌, List, [], ◌∷◌, map, refl, ap, ◌∙◌}
use Rattle.command_words.proofs.Names.{AllZip}

-- what is seen of items, place by place, is seen of the lists
pub copied : {A B : Type 0} → (seen : A → B) (xs ys : List A) → AllZip (λ x y. seen y ≡ seen x) xs ys → map seen ys ≡ map seen xs
copied seen [] [] h = refl
copied seen [] (y ∷ ys) h = absurd h
copied seen (x ∷ xs) [] h = absurd h
copied seen (x ∷ xs) (y ∷ ys) h = ap (λ v. v ∷ map seen ys) h.0 ∙ ap (λ t. seen x ∷ t) (copied seen xs ys h.1)
