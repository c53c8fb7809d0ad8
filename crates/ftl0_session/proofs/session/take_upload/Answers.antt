-- A packet of uploading is answered by its row of it.
use Rattle.ftl0_session.proofs.Names.{item_of, store_in}
use Rattle.ftl0_session.proofs.UploadLemmas.{taken-upload}
use Rattle.ftl0_session.proofs.session.take_upload.Goals as goal

pub returns : goal.returns
returns g c =
    taken-upload g.D.Disk c.args.moment (item_of c.args.packet) c.args.uploads.now c.take.new.self c.args.store.now c.take.new.store c.args.lists.now c.args.disk.now c.take.new.disk
    c.take.new.replies.items c.requires.kind c.take.result c.take.ensures.takes c.take.ensures.failed c.take.ensures.kept c.take.ensures.others c.take.ensures.caller c.take.ensures.healthy c.take.ensures.stands_on
    c.take.ensures.held c.take.ensures.only (c.stays_law.ensures.lists (store_in c.args.store.now) (store_in c.take.new.store) c.args.lists.now c.take.ensures.kept c.requires.may.complete)
