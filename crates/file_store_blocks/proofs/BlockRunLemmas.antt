-- A part of the octets of blocks, one after another, that lies in one of them.
use Rattle.std.proofs.Common.{◌≡◌, ℕ, zero, suc, ◌+◌, ◌-◌, ◌*◌, ◌/◌, ◌%◌, ◌<◌, ◌≤◌, List, [], ◌∷◌, ◌++◌, length, take, drop, get_or, refl, sym, ap, ◌∙◌, arith, length-drop, length-append}
use borrow.Rule.Slice.PartMut.{put_mid}
use Rattle.std.proofs.lemmas.Slice.{take-put_mid}
use Rattle.file_store_blocks.proofs.Names.{flat_map, drop-take, take-append-drop, drop-append-le, drop-drop, drop_at, take-append-le, take-take}

module _ (whole : ℕ → List ℕ) (size : (block : ℕ) → length (whole block) ≡ 512) where
  -- blocks have 512 times as many octets as there are blocks
  pub length-blocks : (blocks : List ℕ) → length (flat_map whole blocks) ≡ 512 * length blocks
  length-blocks [] = refl
  length-blocks (block ∷ blocks) =
      omega (arith, length-append (whole block) (flat_map whole blocks), size block, length-blocks blocks)

  -- what is in the block at this place
  part_at :
      (blocks : List ℕ) (place within count d : ℕ)
      → place < length blocks → within + count ≤ 512
      → take count (drop (512 * place + within) (flat_map whole blocks)) ≡ take count (drop within (whole (get_or blocks place d)))
  part_at [] place within count d there most = absurd (omega (arith, there))
  part_at (block ∷ blocks) zero within count d there most =
      let here = size block in
      let none : 512 * 0 + within ≡ within = omega arith in
      ap (λ (n : ℕ). take count (drop n (whole block ++ flat_map whole blocks))) none
      ∙ ap (λ (l : List ℕ). take count l)
      (drop-append-le within (whole block) (flat_map whole blocks) (omega (arith, here, most)))
      ∙ take-append-le count (drop within (whole block)) (flat_map whole blocks)
      (omega (arith, here, most, length-drop within (whole block)))
  part_at (block ∷ blocks) (suc place) within count d there most =
      let split : 512 * suc place + within ≡ 512 + (512 * place + within) = omega arith in
      ap (λ (n : ℕ). take count (drop n (whole block ++ flat_map whole blocks))) split
      ∙ ap (λ (l : List ℕ). take count l)
      (sym (drop-drop (512 * place + within) 512 (whole block ++ flat_map whole blocks))
      ∙ ap (λ (l : List ℕ). drop (512 * place + within) l)
      (drop_at (whole block) (flat_map whole blocks) 512 (size block)))
      ∙ part_at blocks place within count d (omega (arith, there)) most

  pub part_of_block :
      (blocks : List ℕ) (at count held d : ℕ)
      → at + count ≤ held → held ≤ 512 * length blocks → at / 512 < length blocks → at % 512 + count ≤ 512
      → take count (drop at (take held (flat_map whole blocks))) ≡ take count (drop (at % 512) (whole (get_or blocks (at / 512) d)))
  part_of_block blocks at count held d inside fits there most =
      let all : List ℕ = flat_map whole blocks in
      let parts : at ≡ 512 * (at / 512) + at % 512 = omega arith in
      let front : take count (drop at (take held (flat_map whole blocks))) ≡ take count (drop at (flat_map whole blocks)) =
      front_part (flat_map whole blocks) at count held inside in
      front
      ∙ ap (λ (n : ℕ). take count (drop n (flat_map whole blocks))) parts
      ∙ part_at blocks (at / 512) (at % 512) count d there most
    where
      front_part : (xs : List ℕ) (at count held : ℕ) → at + count ≤ held → take count (drop at (take held xs)) ≡ take count (drop at xs)
      front_part xs zero count held inside = take-take count held xs (omega (arith, inside))
      front_part [] (suc at) count zero inside = refl
      front_part [] (suc at) count (suc held) inside = refl
      front_part (x ∷ xs) (suc at) count zero inside = absurd (omega (arith, inside))
      front_part (x ∷ xs) (suc at) count (suc held) inside = front_part xs at count held (omega (arith, inside))

-- ---- a list in parts

pub take_then : (first second : ℕ) (xs : List ℕ) → take first xs ++ take second (drop first xs) ≡ take (first + second) xs
take_then first second xs =
    ap (λ (l : List ℕ). l ++ take second (drop first xs)) (sym (take-take first (first + second) xs (omega arith)))
    ∙ ap (λ (l : List ℕ). take first (take (first + second) xs) ++ l) (sym (drop-take first second xs))
    ∙ take-append-drop first (take (first + second) xs)

-- with one part more
pub filled_more :
    (octets room part : List ℕ) (offset done count : ℕ) → done ≤ length room → length part ≡ count
    → take done room ≡ take done (drop offset octets) → part ≡ take count (drop (offset + done) octets)
    → take (done + count) (put_mid done (done + count - done) room part) ≡ take (done + count) (drop offset octets)
filled_more octets room part offset done count within size before is =
    take-put_mid done (done + count - done) room part (done + count) (omega (arith, size)) within
    ∙ ap (λ (l : List ℕ). l ++ part) before
    ∙ ap (λ (l : List ℕ). take done (drop offset octets) ++ l) (is ∙ ap (λ (l : List ℕ). take count l) (sym (drop-drop done offset octets)))
    ∙ take_then done count (drop offset octets)
