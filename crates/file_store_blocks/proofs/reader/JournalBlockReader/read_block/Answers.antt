use Rattle.std.proofs.Common.{length}
use Rattle.file_store_blocks.proofs.Names.{on_ok_weaker}
use Rattle.file_store_blocks.proofs.WholeBlockLemmas.{fills_whole}
use Rattle.file_store_blocks.proofs.reader.JournalBlockReader.read_block.Goals as goal

pub returns-clause-room : goal.returns-clause-room
returns-clause-room g c =
    on_ok_weaker c.read_block.result (λ is told.
    fills_whole (g.D.Disk.content c.args.disk.now) c.args.block c.args.at (length c.args.room.now) c.read_block.new.room
    c.read_block.auto.room c.requires.within is told)
    c.read_block.ensures.room
