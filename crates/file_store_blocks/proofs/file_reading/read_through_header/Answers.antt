use Rattle.std.proofs.Common.{◌+◌, ◌≤◌, List, ℕ, [], length, refl, take, drop, sym, ap, ◌∙◌, arith}
use Rattle.file_store_blocks.proofs.Names.{header_items, told_weaker, StampValue, stamped, stamped_sum, StampSetting, stamp_of, octets_on}
use Rattle.file_store_blocks.proofs.ReadLemmas.{part_told}
use Rattle.file_store_blocks.proofs.StampedPartLemmas.{file_octets, length-file, stamped_part}
use Rattle.file_store_blocks.proofs.file_reading.read_through_header.Goals as goal

abbrev setting_of : StampValue → ℕ → StampSetting
setting_of stamp sum = record { stamp = stamp; sum = sum }

pub pass_octets-requires-clause-fresh : goal.pass_octets-requires-clause-fresh
pass_octets-requires-clause-fresh g c = (
  setting_of (stamp_of c.args.file.now.stamp) c.args.file.now.sum,
  record { given = []; stamped = c.new-stamper.ensures.fed; stamp_is = c.new-stamper.ensures.stamp; sum_is = c.new-stamper.ensures.sum },
)

pub returns-clause-room : goal.returns-clause-room
returns-clause-room g c = λ told.
    let content = g.D.Disk.content c.args.disk.now in
    let octets : List ℕ = octets_on content c.args.table.now c.args.file.now.blocks in
    let count : ℕ = length c.args.room.now in
    let sealed = c.requires.sealed told in
    let front = c.in_ok-pass_octets.ensures.took in
    let passed =
    front.took_all (setting_of (stamp_of c.args.file.now.stamp) c.args.file.now.sum)
    (record {
      given = [];
      stamped = c.new-stamper.ensures.fed;
      stamp_is = c.new-stamper.ensures.stamp;
      sum_is = c.new-stamper.ensures.sum;
    }) in
    let size = length-file content c.args.table.now _ c.args.file.now.blocks c.requires.stands in
    let within : c.args.offset + length c.args.room.now ≤ length (octets_on content c.args.table.now c.args.file.now.blocks) =
    omega (arith, size, c.requires.inside) in
    stamped_part c.pass_octets.new.taker c.feed.new.self octets front.fed passed.given c.read_octets.new.room c.feed.new.piece
    c.args.offset count passed.stamped (c.feed.ensures.fed front.fed passed.given passed.stamped) c.feed.ensures.stamp
    c.feed.ensures.sum
    (file_octets content c.args.table.now c.args.file.now.blocks
    (told_weaker content _ _ (λ image told_is is_image. (g.met.D.Disk.images_fit c.args.disk.now image is_image).0)
    (g.met.D.Disk.content_is_image c.args.disk.now))
    told)
    sealed.faultless
    (passed.sum_is
    ∙ sealed.sum_is
    ∙ ap (λ (s : StampValue). stamped_sum s (header_items octets)) (sym passed.stamp_is))
    (front.is told)
    (part_told content (g.D.Disk.content c.pass_octets.new.disk) c.args.table.now c.args.file.now.blocks c.args.offset count count
    c.read_octets.new.room c.in_ok-pass_octets.ensures.reads.only.same_content refl c.in_ok-read_octets.ensures.room told)
    within
    ∙ ap (λ (s : StampValue). take count (drop c.args.offset (stamped s octets))) passed.stamp_is
