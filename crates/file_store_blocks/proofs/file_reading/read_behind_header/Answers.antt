use Rattle.std.proofs.Common.{◌≤◌, List, ℕ, length, take, ap, ◌∙◌, arith}
use Rattle.file_store_blocks.proofs.Names.{on_ok_weaker, header_octets, told_weaker, stamp_of, octets_on}
use Rattle.file_store_blocks.proofs.StampedPartLemmas.{body_stays, file_octets}
use Rattle.file_store_blocks.proofs.file_reading.read_behind_header.Goals as goal

pub returns-clause-room : goal.returns-clause-room
returns-clause-room g c =
    let content = g.D.Disk.content c.args.disk.now in
    let octets : List ℕ = octets_on content c.args.table.now c.args.file.now.blocks in
    on_ok_weaker c.read_octets.result (λ is told.
    let sealed = c.requires.sealed told in
    let behind : length (header_octets (octets_on content c.args.table.now c.args.file.now.blocks)) ≤ c.args.offset =
    omega (arith, sealed.len_is, c.requires.behind) in
    is told
    ∙ ap (λ (l : List ℕ). take (length c.args.room.now) l)
    (body_stays (stamp_of c.args.file.now.stamp) octets c.args.offset c.is_call.ensures
    (file_octets content c.args.table.now c.args.file.now.blocks
    (told_weaker content _ _ (λ image told_is is_image. (g.met.D.Disk.images_fit c.args.disk.now image is_image).0)
    (g.met.D.Disk.content_is_image c.args.disk.now))
    told)
    sealed.faultless behind))
    c.read_octets.ensures.room
