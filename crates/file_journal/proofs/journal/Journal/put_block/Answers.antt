use Rattle.std.proofs.Common.{length}
use Rattle.file_journal.proofs.Names.{told_weaker}
use Rattle.file_journal.proofs.BlockLemmas.{block_any_moment, block_leaves, block_stands, block_written}
use Rattle.file_journal.proofs.BoundLemmas.{block_stays}
use Rattle.file_journal.proofs.journal.Journal.put_block.Goals as goal

pub returns-clause-ok : goal.returns-clause-ok
returns-clause-ok g c =
    block_written g.D.Disk c.args.self.now c.args.disk.now c.requires.healthy c.requires.may.ended c.requires.stands_on c.args.block c.requires.may.has c.args.bytes.now c.requires.may.most
    c.write_synced-written.result c.write_synced-written.new.disk _ c.block_place.ensures.place c.write_synced-written.ensures.makes

pub returns-clause-since : goal.returns-clause-since
returns-clause-since g c =
    block_leaves g.D.Disk c.args.self.now c.args.disk.now c.requires.healthy c.requires.may.ended c.requires.stands_on c.args.block c.requires.may.has c.args.bytes.now c.requires.may.most
    c.write_synced-written.result c.write_synced-written.new.disk _ c.block_place.ensures.place c.write_synced-written.ensures.makes (g.met.D.Disk.counts_now _)

pub returns-clause-any_moment : goal.returns-clause-any_moment
returns-clause-any_moment g c healthy =
    block_any_moment g.D.Disk c.args.self.now c.args.disk.now c.requires.healthy c.requires.may.ended c.requires.stands_on c.args.block c.requires.may.has c.args.bytes.now c.requires.may.most
    c.write_synced-written.result c.write_synced-written.new.disk _ c.block_place.ensures.place c.write_synced-written.ensures.makes (g.met.D.Disk.counts_now _)

pub returns-clause-stands_on : goal.returns-clause-stands_on
returns-clause-stands_on g c =
    block_stands g.D.Disk c.args.self.now c.args.disk.now c.requires.healthy c.requires.may.ended c.requires.stands_on c.args.block c.requires.may.has c.args.bytes.now c.requires.may.most
    c.write_synced-written.result c.write_synced-written.new.disk _ c.block_place.ensures.place c.write_synced-written.ensures.makes _ c.self.view_is _ c.is_err-self-inside.ensures.value
    (told_weaker (g.D.Disk.content c.write_synced-written.new.disk) _ _ (λ now told image. (g.met.D.Disk.images_fit _ now image).0) (g.met.D.Disk.content_is_image _))

pub returns-clause-within : goal.returns-clause-within
returns-clause-within g c =
    block_stays g.D.Disk g.met.D.Disk.counts_now g.met.D.Disk.earlier g.met.D.Disk.content_is_image c.args.disk.now c.write_synced-written.new.disk c.write_synced-written.ensures.makes.puts.told
    c.args.self.now c.args.block (length c.args.bytes.now) c.requires.may.has c.requires.may.most (returns-clause-since g c)
