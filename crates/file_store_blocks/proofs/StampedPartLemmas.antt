-- A part of a sealed file, by what is read of its blocks.
use Rattle.std.proofs.Common.{◌≡◌, ℕ, ◌+◌, ◌-◌, ◌*◌, ◌<◌, ◌≤◌, List, [], ◌∷◌, ◌++◌, Option, None, Some, length, take, drop, replicate, refl, sym, ap, ◌∙◌, subst, arith, lit<, length-append}
use Rattle.std.proofs.lemmas.List.Elements.{All-nil, All-replicate, All-take}
use Rattle.file_store_blocks.proofs.Names.{IfSome, flat_map, false≢true, drop-drop, drop-take, drop_at, length-take-le, take-append-drop, IsTold, header_items, header_octets, parts_or_none, Blocks, blocks_on, octets_joined, octets_part, IsFaultless, fault_code, HeaderValue, ItemValue, header_text, StampValue, stamped, stamped_items, file_parts-text, no_fault, stamped-text, IsFaultlessFile, stamped_sum, HasStamped, StamperValue, length-stamped, no_fault-code, IsCall, IsOctets, Table, StandsIn, blocks_of, octets_on, whole_block, FileBlocks}
use Rattle.file_store_blocks.proofs.BlockRunLemmas.{length-blocks, take_then}
use Rattle.file_store_blocks.proofs.WholeBlockLemmas.{length-whole}

-- ---- the octets of a file

pub length-file : (content : Option (List ℕ)) (table : Table) (limit : ℕ) (file : FileBlocks) → StandsIn table limit file
    → length (octets_on content table file) ≡ file.held
length-file content table limit file stands =
    let held : Blocks = blocks_on content in
    let all = length-blocks (whole_block held) (length-whole held) (blocks_of table file) in
    length-take-le file.held (flat_map (whole_block held) (blocks_of table file)) (omega (arith, all, stands.fits))

-- those of blocks of a disk whose content is observed are octets
pub told_octets : (content : Option (List ℕ)) (count : ℕ) (blocks : List ℕ) → IfSome content IsOctets → IsTold content
    → IsOctets (take count (flat_map (whole_block (blocks_on content)) blocks))
told_octets None count blocks are told = absurd (false≢true told)
told_octets (Some octets) count blocks are told =
    All-take (λ (octet : ℕ). octet < 256) count (flat_map (whole_block (blocks_on (Some octets))) blocks) (each blocks)
  where
    each : (blocks : List ℕ) → IsOctets (flat_map (whole_block (blocks_on (Some octets))) blocks)
    each [] = All-nil (λ (octet : ℕ). octet < 256)
    each (block ∷ blocks) =
        let zeros : List ℕ = replicate 512 0 in
        octets_joined (whole_block (blocks_on (Some octets)) block) (flat_map (whole_block (blocks_on (Some octets))) blocks)
        (All-take (λ (octet : ℕ). octet < 256) 512 (blocks_on (Some octets) block ++ zeros)
        (octets_joined (blocks_on (Some octets) block) zeros (octets_part octets (16 + 512 * block) 512 are)
        (All-replicate (λ (octet : ℕ). octet < 256) 512 0 (lit< tt))))
        (each blocks)

pub file_octets : (content : Option (List ℕ)) (table : Table) (file : FileBlocks) → IfSome content IsOctets → IsTold content
    → IsOctets (octets_on content table file)
file_octets content table file are told = told_octets content file.held (blocks_of table file) are told

-- ---- in the body

drop_past : (xs ys : List ℕ) (n : ℕ) → length xs ≤ n → drop n (xs ++ ys) ≡ drop (n - length xs) ys
drop_past xs ys n past =
    let split : n ≡ length xs + (n - length xs) = omega arith in
    ap (λ (k : ℕ). drop k (xs ++ ys)) split
    ∙ sym (drop-drop (n - length xs) (length xs) (xs ++ ys))
    ∙ ap (λ (l : List ℕ). drop (n - length xs) l) (drop_at xs ys (length xs) refl)

-- a file without fault keeps all rules
pub keeps_rules : (octets : List ℕ) → IsOctets octets → fault_code octets ≡ None → IsFaultlessFile octets
keeps_rules octets are none = (no_fault octets are).1 (no_fault-code octets none)

items_are : (items : List ItemValue) (body octets : List ℕ) → IsFaultless items body octets → header_items octets ≡ items
items_are items body octets is = ap (λ (p : Option HeaderValue). (parts_or_none p).items) (file_parts-text items body octets is.file_text)

-- after the header the octets are as they were uploaded
pub body_stays :
    (stamp : StampValue) (octets : List ℕ) (offset : ℕ) → IsCall stamp.by → IsOctets octets → fault_code octets ≡ None
    → length (header_octets octets) ≤ offset → drop offset octets ≡ drop offset (stamped stamp octets)
body_stays stamp octets offset call are none behind =
    let good = keeps_rules octets are none in
    let items : List ItemValue = good.0 in
    let body : List ℕ = good.1 in
    let text : octets ≡ header_text good.0 ++ good.1 = good.2.file_text.text in
    let stamped_is : stamped stamp octets ≡ header_text (stamped_items stamp good.0) ++ good.1 =
    stamped-text stamp good.0 good.1 octets good.2.file_text in
    let front : length (header_octets octets) ≡ length (header_text good.0) =
    ap (λ (l : List ItemValue). length (header_text l)) (items_are good.0 good.1 octets good.2) in
    let sizes = length-stamped stamp octets call none in
    let same : length (header_text (stamped_items stamp good.0)) ≡ length (header_text good.0) =
    omega (
      arith,
      sizes,
      ap (λ (l : List ℕ). length l) text,
      ap (λ (l : List ℕ). length l) stamped_is,
      length-append (header_text good.0) good.1,
      length-append (header_text (stamped_items stamp good.0)) good.1,
    ) in
    ap (λ (l : List ℕ). drop offset l) text
    ∙ drop_past (header_text good.0) good.1 offset (omega (arith, front, behind))
    ∙ ap (λ (n : ℕ). drop (offset - n) good.1) (sym same)
    ∙ sym (drop_past (header_text (stamped_items stamp good.0)) good.1 offset (omega (arith, front, behind, same)))
    ∙ ap (λ (l : List ℕ). drop offset l) (sym stamped_is)

-- ---- in the header

-- of a file without fault, what a stamper gave in place of a prefix of it is as much of the stamped file
given_front :
    (stamper : StamperValue) (octets fed given : List ℕ) (count : ℕ) → HasStamped stamper fed given → IsOctets octets
    → fault_code octets ≡ None → stamper.sum ≡ stamped_sum stamper.stamp (header_items octets)
    → fed ≡ take count octets → count ≤ length octets → given ≡ take count (stamped stamper.stamp octets)
given_front stamper octets fed given count has are none right is within =
    let good = keeps_rules octets are none in
    let all : fed ++ drop count octets ≡ octets = ap (λ (l : List ℕ). l ++ drop count octets) is ∙ take-append-drop count octets in
    let size : length fed ≡ count = ap (λ (l : List ℕ). length l) is ∙ length-take-le count octets within in
    let faultless : IsFaultless good.0 good.1 (fed ++ drop count octets) =
    subst (λ (l : List ℕ). IsFaultless good.0 good.1 l) (sym all) good.2 in
    let sum_is : stamper.sum ≡ stamped_sum stamper.stamp good.0 =
    right ∙ ap (λ (l : List ItemValue). stamped_sum stamper.stamp l) (items_are good.0 good.1 octets good.2) in
    has.front good.0 good.1 (drop count octets) faultless sum_is
    ∙ ap (λ (l : List ℕ). take (length fed) (stamped stamper.stamp l)) all
    ∙ ap (λ (n : ℕ). take n (stamped stamper.stamp octets)) size

pub stamped_part :
    (stamper now : StamperValue) (octets fed given room given_room : List ℕ) (offset count : ℕ)
    → HasStamped stamper fed given → HasStamped now (fed ++ room) (given ++ given_room)
    → now.stamp ≡ stamper.stamp → now.sum ≡ stamper.sum
    → IsOctets octets → fault_code octets ≡ None → stamper.sum ≡ stamped_sum stamper.stamp (header_items octets)
    → fed ≡ take offset octets → room ≡ take count (drop offset octets) → offset + count ≤ length octets
    → given_room ≡ take count (drop offset (stamped stamper.stamp octets))
stamped_part stamper now octets fed given room given_room offset count has has_now same_stamp same_sum are none right is room_is within =
    let file : List ℕ = stamped stamper.stamp octets in
    let first : given ≡ take offset (stamped stamper.stamp octets) =
    given_front stamper octets fed given offset has are none right is (omega (arith, within)) in
    let both_fed : fed ++ room ≡ take (offset + count) octets =
    ap (λ (l : List ℕ). l ++ room) is ∙ ap (λ (l : List ℕ). take offset octets ++ l) room_is ∙ take_then offset count octets in
    let right_now : now.sum ≡ stamped_sum now.stamp (header_items octets) =
    same_sum ∙ right ∙ ap (λ (s : StampValue). stamped_sum s (header_items octets)) (sym same_stamp) in
    let both : given ++ given_room ≡ take (offset + count) (stamped stamper.stamp octets) =
    given_front now octets (fed ++ room) (given ++ given_room) (offset + count) has_now are none right_now both_fed within
    ∙ ap (λ (s : StampValue). take (offset + count) (stamped s octets)) same_stamp in
    let size : length given ≡ offset =
    ap (λ (l : List ℕ). length l) first
    ∙ length-take-le offset (stamped stamper.stamp octets)
    (omega (arith, within, length-stamped stamper.stamp octets has.call none)) in
    sym (drop_at given given_room offset size)
    ∙ ap (λ (l : List ℕ). drop offset l) both
    ∙ drop-take offset count (stamped stamper.stamp octets)
