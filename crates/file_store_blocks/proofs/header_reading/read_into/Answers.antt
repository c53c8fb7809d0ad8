use Rattle.std.proofs.Common.{List, ℕ, take, drop, ap, ◌∙◌}
use Rattle.file_store_blocks.proofs.Names.{on_ok_weaker, told_weaker, stamp_of, octets_on, sealed_octets}
use Rattle.file_store_blocks.proofs.StampedHeaderLemmas.{stamped_header}
use Rattle.file_store_blocks.proofs.StampedPartLemmas.{file_octets}
use Rattle.file_store_blocks.proofs.header_reading.read_into.Goals as goal

pub returns-clause-header : goal.returns-clause-header
returns-clause-header g c =
    let content = g.D.Disk.content c.args.disk.now in
    let octets : List ℕ = octets_on content c.args.table.now c.args.file.now.blocks in
    on_ok_weaker c.read_stamped.result (λ is told.
    let sealed = c.requires.sealed told in
    stamped_header (stamp_of c.args.file.now.stamp) octets c.read_stamped.new.room c.args.file.now.header_len c.is_call.ensures
    (file_octets content c.args.table.now c.args.file.now.blocks
    (told_weaker content _ _ (λ image told_is is_image. (g.met.D.Disk.images_fit c.args.disk.now image is_image).0)
    (g.met.D.Disk.content_is_image c.args.disk.now))
    told)
    sealed.faultless sealed.len_is
    (is told ∙ ap (λ (n : ℕ). take n (drop 0 (sealed_octets content c.args.table.now c.args.file.now))) c.requires.room))
    c.read_stamped.ensures.room
