use Rattle.std.proofs.Common.{List, Bool, false, Option, ap, sym, ◌∙◌, refl}
use Rattle.ftl0_session.proofs.Names.{CallSign, PacketValue, value_of, store_in, store_on, Store, on_like, CallerList, DownloadRow, DownloadState, command_row, download_row, directory_row, download_cmd_row, long_due, ready, select_row, short_due, made}
use Rattle.ftl0_session.proofs.FaultLemmas.{part-keeps}
use Rattle.ftl0_session.proofs.downloads.LikeLemmas.{cmd-like}
use Rattle.ftl0_session.proofs.downloads.TakeLemmas.{download-is, long-is, no_row, not_taken, row_in_ready, select-is, short-is, taken_alone, taken_reading}
use Rattle.ftl0_session.proofs.downloads.downloads.Downloads.take_command.Goals as goal

-- the packet's row over each store
abbrev rows : CallSign → List CallerList → DownloadState → PacketValue → Store → Bool → Option DownloadRow
rows caller lists state packet files = download_row caller files lists state packet

pub returns-in_default : goal.returns-in_default
returns-in_default g c = record {
  takes =
      not_taken g.D.Disk c.args.store.now (rows c.args.caller c.args.lists.now c.args.self.now (value_of c.args.packet.now)) _ c.args.disk.now (g.met.D.Disk.lasts_same c.args.disk.now)
      (λ files fails.
      row_in_ready _ _ _ _ _ fails c.requires.waits
      ∙ no_row _ _ _ c.args.packet.now fails c.in_default.not-DownloadCmd c.in_default.not-DirShortCmd c.in_default.not-DirLongCmd c.in_default.not-SelectCmd);
  keeps = record { stays = record { same = refl; ready = c.requires.ready }; due = rw c.requires.waits tt; complete = c.requires.complete };
}

pub returns-in-DownloadCmd-clause-takes : goal.returns-in-DownloadCmd-clause-takes
returns-in-DownloadCmd-clause-takes g c =
    let a = c.args in
    let given : Store → DownloadRow = λ files. download_cmd_row a.caller files a.lists.now c.in-DownloadCmd.number c.in-DownloadCmd.offset c.in-DownloadCmd.lock in
    taken_alone g.D.Disk a.store.now (rows a.caller a.lists.now a.self.now (value_of a.packet.now)) _ a.disk.now (g.met.D.Disk.lasts_same a.disk.now)
    (made c.download.new.self c.download.new.lists c.download.new.replies.items) given (given (store_in a.store.now))
    (λ files fails. row_in_ready _ _ _ _ _ fails c.requires.waits ∙ ap (λ v. command_row a.caller files a.lists.now (value_of v) fails) c.in-DownloadCmd.is ∙ download-is _ _ _ _ _ _ fails)
    (λ known.
    sym (cmd-like (store_in a.store.now) (store_on g.D.Disk a.store.now a.disk.now) (on_like g.D.Disk a.store.now a.disk.now c.requires.ready known) a.caller a.lists.now c.in-DownloadCmd.number
    c.in-DownloadCmd.offset c.in-DownloadCmd.lock)) refl (λ files. part-keeps a.caller files a.lists.now a.self.now (value_of a.packet.now) false) c.download.ensures.row

pub returns-in-DirShortCmd-clause-takes : goal.returns-in-DirShortCmd-clause-takes
returns-in-DirShortCmd-clause-takes g c =
    taken_reading g.D.Disk c.args.store.now (rows c.args.caller c.args.lists.now c.args.self.now (value_of c.args.packet.now)) _ c.args.disk.now (g.met.D.Disk.lasts_same c.args.disk.now) c.list.new.disk
    (made c.list.new.self c.list.new.lists c.list.new.replies.items) (λ files. directory_row c.args.caller files c.args.lists.now c.in-DirShortCmd.number short_due)
    (λ files fails. row_in_ready _ _ _ _ _ fails c.requires.waits ∙ ap (λ v. command_row c.args.caller files c.args.lists.now (value_of v) fails) c.in-DirShortCmd.is
    ∙ short-is _ _ _ _ fails) c.list.ensures.row

pub returns-in-DirLongCmd-clause-takes : goal.returns-in-DirLongCmd-clause-takes
returns-in-DirLongCmd-clause-takes g c =
    let list = c.list-in-DirLongCmd in
    taken_reading g.D.Disk c.args.store.now (rows c.args.caller c.args.lists.now c.args.self.now (value_of c.args.packet.now)) _ c.args.disk.now (g.met.D.Disk.lasts_same c.args.disk.now) list.new.disk
    (made list.new.self list.new.lists list.new.replies.items) (λ files. directory_row c.args.caller files c.args.lists.now c.in-DirLongCmd.number long_due)
    (λ files fails. row_in_ready _ _ _ _ _ fails c.requires.waits ∙ ap (λ v. command_row c.args.caller files c.args.lists.now (value_of v) fails) c.in-DirLongCmd.is
    ∙ long-is _ _ _ _ fails) list.ensures.row

pub returns-in-SelectCmd-clause-takes : goal.returns-in-SelectCmd-clause-takes
returns-in-SelectCmd-clause-takes g c =
    rw c.requires.waits
    (taken_reading g.D.Disk c.args.store.now (rows c.args.caller c.args.lists.now ready (value_of c.args.packet.now)) _ c.args.disk.now (g.met.D.Disk.lasts_same c.args.disk.now) c.select.new.disk
    (made ready c.select.new.lists c.select.new.replies.items) (λ files. select_row c.args.caller files c.args.lists.now c.in-SelectCmd.tokens.now)
    (λ files fails. row_in_ready _ _ _ _ _ fails refl ∙ ap (λ v. command_row c.args.caller files c.args.lists.now (value_of v) fails) c.in-SelectCmd.is
    ∙ select-is _ _ _ _ fails) c.select.ensures.row)
