use Rattle.std.proofs.Common.{◌/◌, ◌%◌, ◌<◌, ℕ, List, length, take, drop, sym, ap, ◌∙◌, arith}
use Rattle.file_store_blocks.proofs.Names.{on_ok_weaker, blocks_on, blocks_of, whole_block}
use Rattle.file_store_blocks.proofs.BlockRunLemmas.{part_of_block}
use Rattle.file_store_blocks.proofs.WholeBlockLemmas.{length-whole}
use Rattle.file_store_blocks.proofs.file_blocks.read_part.Goals as goal

pub returns-clause-room : goal.returns-clause-room
returns-clause-room g c =
    let held = blocks_on (g.D.Disk.content c.args.disk.now) in
    let blocks : List ℕ = blocks_of c.args.table.now c.args.file in
    let count = length c.args.room.now in
    let there : c.args.at / 512 < length (blocks_of c.args.table.now c.args.file) =
    omega (arith, c.requires.some, c.requires.inside, c.requires.stands.fits) in
    on_ok_weaker c.read_block.result (λ is told.
    is told
    ∙ ap (λ (b : ℕ). take count (drop (c.args.at % 512) (whole_block held b))) c.block-block.ensures
    ∙ sym
    (part_of_block (whole_block held) (length-whole held) blocks c.args.at count c.args.file.held 0 c.requires.inside
    c.requires.stands.fits there c.requires.one))
    c.read_block.ensures.room
