-- A packet that isn't of uploading, or comes while something is done of downloading: its row of downloading, or error
-- 1.
use Rattle.std.proofs.Common.{◌≡◌, Bool, None}
use Rattle.ftl0_session.proofs.Names.{item_of, Store, session_of, state_in, upload_row}
use Rattle.ftl0_session.proofs.RowLemmas.{upload-other}
use Rattle.ftl0_session.proofs.TakenLemmas.{may-still, taken-download, taken-error}
use Rattle.ftl0_session.proofs.session.take_other.Goals as goal

pub returns-then-take_download-clause-taken : goal.returns-then-take_download-clause-taken
returns-then-take_download-clause-taken g c moment =
    let none : (files : Store) (fails : Bool) → upload_row c.args.uploads.now.caller moment files (state_in c.args.store.now (session_of c.args.uploads.now c.args.downloads.now)) (item_of c.args.packet) fails ≡ None =
    λ files. upload-other c.args.uploads.now.caller moment files c.args.store.now c.args.uploads.now.phase c.args.downloads.now (item_of c.args.packet) c.args.of_uploading c.requires.one
    c.requires.kind c.requires.other in
    let may = may-still g.D.Disk c.args.uploads.now c.args.downloads.now c.take_download.new.downloads c.args.store.now c.take_download.new.store c.args.lists.now c.take_download.new.lists
    c.args.disk.now c.take_download.new.disk c.requires.may c.take_download.ensures.keeps in
    rw c.take_download.ensures.keeps.stays.same
    (taken-download g.D.Disk moment (item_of c.args.packet) c.args.uploads.now c.args.downloads.now c.take_download.new.downloads c.args.store.now c.args.lists.now c.take_download.new.lists c.args.disk.now
    c.take_download.new.disk none (g.met.D.Disk.lasts_same c.args.disk.now) c.requires.may.ready may c.args.replies.now.items c.take_download.new.replies.items (rw c.if-take_download.true at c.take_download.ensures.takes))

pub returns-clause-taken : goal.returns-clause-taken
returns-clause-taken g c moment =
    let none : (files : Store) (fails : Bool) → upload_row c.args.uploads.now.caller moment files (state_in c.args.store.now (session_of c.args.uploads.now c.args.downloads.now)) (item_of c.args.packet) fails ≡ None =
    λ files. upload-other c.args.uploads.now.caller moment files c.args.store.now c.args.uploads.now.phase c.args.downloads.now (item_of c.args.packet) c.args.of_uploading c.requires.one
    c.requires.kind c.requires.other in
    let may = may-still g.D.Disk c.args.uploads.now c.args.downloads.now c.take_download.new.downloads c.args.store.now c.take_download.new.store c.args.lists.now c.take_download.new.lists
    c.args.disk.now c.take_download.new.disk c.requires.may c.take_download.ensures.keeps in
    rw c.take_download.ensures.keeps.stays.same
    (taken-error g.D.Disk moment (item_of c.args.packet) c.args.uploads.now c.args.downloads.now c.take_download.new.downloads c.args.store.now c.args.lists.now c.take_download.new.lists c.args.disk.now
    c.take_download.new.disk none (g.met.D.Disk.lasts_same c.args.disk.now) c.requires.may.ready may c.args.replies.now.items c.take_download.new.replies.items c.refuse.new.replies.items c.args.of_uploading
    c.requires.kind c.refuse.ensures (rw c.if-take_download.false at c.take_download.ensures.takes))
