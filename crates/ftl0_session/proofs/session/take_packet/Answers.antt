-- A packet of uploading, while nothing is done of downloading, and any other one.
use Rattle.std.proofs.Common.{sym, subst}
use Rattle.ftl0_session.proofs.Names.{item_of, DownloadState, TakenOver, lent}
use Rattle.ftl0_session.proofs.session.take_packet.Goals as goal

pub returns-then-is_ready-clause-taken : goal.returns-then-is_ready-clause-taken
returns-then-is_ready-clause-taken g c =
    let a = c.args in
    let b = c.take_upload.new in
    subst (λ (part : DownloadState). TakenOver g.D.Disk a.moment (item_of a.packet) (lent a.uploads.now part a.store.now a.lists.now a.disk.now) (lent b.uploads part b.store a.lists.now b.disk) b.replies.items c.take_upload.result)
    (sym (c.is_ready.ensures.0 c.if-is_ready.true)) c.take_upload.ensures

pub returns-clause-taken : goal.returns-clause-taken
returns-clause-taken g c = c.take_other.ensures.taken c.args.moment
