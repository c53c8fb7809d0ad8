-- How long the header of a sealed file is, and what is given of the file.
use Rattle.std.proofs.Common.{◌≡◌, ◌≤◌, inl, inr, ℕ, false, List, length, Option, None, Some, sym, ◌∙◌, arith}
use Rattle.file_store_blocks.proofs.Names.{IfSome, IsTold, Ghosts, found_holds, IsPlaced, IsPlacedFile, KeepsSeals, Placed, PlacedStore, placed_of, placed_form, placed_steps, Sealed, octets_given, octets_in, stamp_at, header_short, images_now, StandsAt, Blocks, blocks_on, Position, StandsAmong, length-stamped, IsOctets}
use Rattle.file_store_blocks.proofs.RulesLemmas.{sealed_keeps}
use Rattle.file_store_blocks.proofs.SeenLemmas.{length_octets}
use Rattle.file_store_blocks.proofs.StampedPartLemmas.{told_octets}
use Rattle.file_store_blocks.proofs.StandingLemmas.{kept_seals}

-- as many octets of a file are held as its entry says
pub found_length : (held : Blocks) (store : PlacedStore) (number : ℕ) (f : Placed) → IsPlaced store → placed_of store number ≡ Some f → length (octets_in held f) ≡ f.held
found_length held store number f is found =
    length_octets held store.blocks f (found_holds (IsPlacedFile store.blocks) number store.entries f is.files found)

-- the content of a disk on which a journal is, if it is observed, is octets
standing_octets : (position : Position) (content : Option (List ℕ)) (images : List ℕ → Type 0) → StandsAmong position content images → position.failed ≡ false
    → IfSome content IsOctets
standing_octets position content images (inl failed) healthy = absurd (cc (sym healthy ∙ failed))
standing_octets position None images (inr stands) healthy = tt
standing_octets position (Some octets) images (inr stands) healthy = stands.1.are_octets

-- the header of a sealed file, as its octets were uploaded, is no longer than its length's two octets can say
pub kept_short : {D : Type 0} (g : Ghosts D) (position : Position) (now : PlacedStore) (disk : D) → StandsAt g placed_form placed_steps position now disk → position.failed ≡ false
    → IsTold (g.content disk) → (number : ℕ) (sealed : Sealed now number) → sealed.mark.header ≤ 65535
kept_short g position now disk at healthy told number sealed =
    let held : Blocks = blocks_on (g.content disk) in
    let keeps = sealed_keeps held now number (kept_seals g position now disk at healthy told) sealed in
    let all = standing_octets position (g.content disk) (images_now g disk) at.holds.keeps.stands_on healthy in
    let are : IsOctets (octets_in held sealed.file) = told_octets (g.content disk) sealed.file.held sealed.file.blocks all told in
    let short = header_short (octets_in held sealed.file) are keeps.faultless in
    omega (arith, keeps.len_is, short)

-- as many octets are given of a sealed file as are held
pub given_length : (held : Blocks) (now : PlacedStore) (number : ℕ) → IsPlaced now → KeepsSeals held now → (sealed : Sealed now number)
    → length (octets_given held sealed) ≡ sealed.file.held
given_length held now number is keeps sealed =
    let f = sealed.file in
    let one = found_holds (IsPlacedFile now.blocks) number now.entries f is.files sealed.found in
    length-stamped (stamp_at sealed.mark.moment f) (octets_in held f) one.caller (sealed_keeps held now number keeps sealed).faultless
    ∙ found_length held now number f is sealed.found
