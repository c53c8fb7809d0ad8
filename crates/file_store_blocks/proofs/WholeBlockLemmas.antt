-- What is read of a block is read of its 512 octets.
use Rattle.std.proofs.Common.{◌≡◌, ℕ, ◌+◌, ◌-◌, ◌≤◌, List, ◌++◌, length, take, drop, replicate, get_or, Option, None, Some, sym, ap, ◌∙◌, arith, length-drop, length-append}
use Rattle.file_store_blocks.proofs.Names.{IfSome, false≢true, get_or_append_left, get_or-drop, get_or-take, length-replicate, length-take, length-take-le, same_lists, FillsRoom, IsTold, Blocks, block_in, block_octets, whole_block}

-- the octets with zeros after them, 512 in all
abbrev padded : List ℕ → List ℕ
padded held = take 512 (held ++ replicate 512 0)

length-padded : (held : List ℕ) → length (padded held) ≡ 512
length-padded held =
    let zeros : List ℕ = replicate 512 0 in
    length-take-le 512 (held ++ zeros) (omega (arith, length-append held zeros, length-replicate {A = ℕ} 512 0))

pub length-whole : (held : Blocks) (block : ℕ) → length (whole_block held block) ≡ 512
length-whole held block = length-padded (held block)

-- as many octets as there are, and of zeros after them
part_whole :
    (held room : List ℕ) (at : ℕ) → at + length room ≤ 512 → room ≡ take (length room) (drop at held)
    → room ≡ take (length room) (drop at (padded held))
part_whole held room at within is =
    let zeros : List ℕ = replicate 512 0 in
    let most : length room ≤ length held - at =
    omega (arith, ap (λ (l : List ℕ). length l) is, length-take (length room) (drop at held), length-drop at held) in
    let there : length (take (length room) (drop at (padded held))) ≡ length room =
    length-take-le (length room) (drop at (padded held))
    (omega (arith, length-padded held, within, length-drop at (padded held))) in
    same_lists room (take (length room) (drop at (padded held))) (sym there) (λ k d below.
    ap (λ (l : List ℕ). get_or l k d) is
    ∙ get_or-take (length room) (drop at held) k d below
    ∙ get_or-drop at held k d
    ∙ sym
    (get_or-take (length room) (drop at (padded held)) k d below
    ∙ get_or-drop at (padded held) k d
    ∙ get_or-take 512 (held ++ zeros) (at + k) d (omega (arith, below, within))
    ∙ get_or_append_left held zeros d (at + k) (omega (arith, below, most))))

pub fills_whole :
    (content : Option (List ℕ)) (block at count : ℕ) (room : List ℕ)
    → length room ≡ count → at + count ≤ 512 → IfSome content (λ octets. FillsRoom (block_in octets block) at count room)
    → IsTold content → FillsRoom (block_octets content block) at count room
fills_whole None block at count room size within is told = absurd (false≢true told)
fills_whole (Some octets) block at count room size within is told =
    let same : room ≡ take (length room) (drop at (block_in octets block)) =
    is ∙ ap (λ (n : ℕ). take n (drop at (block_in octets block))) (sym size) in
    part_whole (block_in octets block) room at (omega (arith, size, within)) same
    ∙ ap (λ (n : ℕ). take n (drop at (take 512 (block_in octets block ++ replicate 512 0)))) size
