use Rattle.std.proofs.Common.{◌≡◌, ◌+◌, length, sym, ◌∙◌, arith}
use Rattle.file_store_blocks.proofs.Names.{common_steps, places, octets_on}
use Rattle.file_store_blocks.proofs.BlockRunLemmas.{filled_more}
use Rattle.file_store_blocks.proofs.ReadLemmas.{part_told, reads_more}
use Rattle.file_store_blocks.proofs.file_blocks.read_octets.Goals as goal

pub loop-done-preserved : goal.loop-done-preserved
loop-done-preserved g c =
    let before = c.loop-done.invariant in
    let same = before.reads.only.same_content in
    let size : length c.read_part.new.room ≡ c.part_len-count.result = grind (arith, common_steps, places) in
    let at = c.args.offset + c.loop-done.done in
    record {
      within = grind (arith, common_steps, places);
      may_read = c.read_part.ensures.may_read;
      reads =
          reads_more g.D.Disk g.met.D.Disk.lasts_on c.args.disk.now c.loop-done.disk c.read_part.new.disk c.read_part.result
          c.in_ok-read_part.field-0 c.in_ok-read_part.was before.reads c.read_part.ensures.reads;
      filled = λ told.
          filled_more (octets_on (g.D.Disk.content c.args.disk.now) c.args.table.now c.args.file) c.loop-done.room c.read_part.new.room
          c.args.offset c.loop-done.done c.part_len-count.result before.within size (before.filled told)
          (part_told (g.D.Disk.content c.args.disk.now) (g.D.Disk.content c.loop-done.disk) c.args.table.now c.args.file at _
          c.part_len-count.result c.read_part.new.room same (sym c.read_part.auto.room ∙ size) c.in_ok-read_part.ensures.room told);
    }
