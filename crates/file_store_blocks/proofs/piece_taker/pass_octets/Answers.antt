use Rattle.std.proofs.Common.{◌≡◌, length, sym, ◌∙◌, arith}
use Rattle.file_store_blocks.proofs.Names.{common_steps, places, octets_on}
use Rattle.file_store_blocks.proofs.ReadLemmas.{part_told, reads_more, took_more}
use Rattle.file_store_blocks.proofs.piece_taker.pass_octets.Goals as goal

pub loop-at-preserved : goal.loop-at-preserved
loop-at-preserved g c =
    let before = c.loop-at.invariant in
    let same = before.reads.only.same_content in
    let size : length c.read_part.new.room ≡ c.part_len-count.result = grind (arith, common_steps, places) in
    record {
      within = omega (arith, c.part_len-count.ensures.most, c.loop-at-test.true);
      may_read = c.read_part.ensures.may_read;
      reads =
          reads_more g.D.Disk g.met.D.Disk.lasts_on c.args.disk.now c.loop-at.disk c.read_part.new.disk c.read_part.result
          c.in_ok-read_part.field-0 c.in_ok-read_part.was before.reads c.read_part.ensures.reads;
      took =
          took_more g.T.PieceTaker.took (g.D.Disk.content c.args.disk.now)
          (octets_on (g.D.Disk.content c.args.disk.now) c.args.table.now c.args.file) c.read_part.new.room c.loop-at.at
          c.part_len-count.result c.args.taker.now c.loop-at.taker c.take_piece.new.self before.took size
          (part_told (g.D.Disk.content c.args.disk.now) (g.D.Disk.content c.loop-at.disk) c.args.table.now c.args.file c.loop-at.at _
          c.part_len-count.result c.read_part.new.room same (sym c.read_part.auto.room ∙ size) c.in_ok-read_part.ensures.room)
          c.take_piece.ensures;
    }
