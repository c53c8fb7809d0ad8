-- Each command by what it did, and refused words by why they were.
use Rattle.std.proofs.Common.{refl}
use Rattle.command_words.specs.declared.request.Request.TheVariants as request
use Rattle.pacsat_cli.proofs.Names.{cuts_by, seen_setting, lent, seen}
use Rattle.pacsat_cli.proofs.RunClient.{client-ends, may-run}
use Rattle.pacsat_cli.proofs.RunFile.{file-ends}
use Rattle.pacsat_cli.proofs.RunMake.{make-ends, may-make}
use Rattle.pacsat_cli.proofs.RunRefused.{means, refused-ends}
use Rattle.pacsat_cli.proofs.RunRehearsal.{rehearse-ends}
use Rattle.pacsat_cli.proofs.RunServe.{serve-ends}
use Rattle.pacsat_cli.proofs.RunSession.{most_blocks, session-ends, some_blocks}
use Rattle.pacsat_cli.proofs.top_call.run.Goals as goal

pub returns-in-Err : goal.returns-in-Err
returns-in-Err g c =
    let told = seen_setting g.B.Disk (cuts_by g.B.CutDisk.restarts g.B.CutDisk.arming g.B.CutDisk.plain g.B.CutDisk.is_starved) g.S.Shelf g.O.Out in
    let words = c.args.words.now in
    let why = c.in-Err.refusal in
    let h = means words why c.asked.result.now c.in-Err.is c.asked.ensures.usage c.asked.ensures.memory in
    let line = rw c.status_of_refused-status.ensures at c.show_line.ensures in
    rw c.status_of_refused-status.ensures
    (refused-ends words (c.one_meaning.ensures.only_one words) why h (seen g.D.Disk g.A.Air g.C.Clock.given) told
    (lent c.args.disk.now c.args.air.now c.args.clock.now) c.args.shelf.now c.args.bench.now.disks.items c.args.out.now
    c.show_line.new.out c.one_run_law.ensures c.one_step_law.ensures c.stays_law.ensures c.one_schedule.ensures line.shown
    line.no_line)

pub run_session-status-requires-clause-some : goal.run_session-status-requires-clause-some
run_session-status-requires-clause-some g c =
    some_blocks c.args.words.now c.in-Session.asked (rw c.in-Session.is at (rw c.in-Ok.is at c.asked.ensures.asks))

pub run_session-status-requires-clause-most : goal.run_session-status-requires-clause-most
run_session-status-requires-clause-most g c =
    most_blocks c.args.words.now c.in-Session.asked (rw c.in-Session.is at (rw c.in-Ok.is at c.asked.ensures.asks))

pub returns-in-Session : goal.returns-in-Session
returns-in-Session g c =
    let told = seen_setting g.B.Disk (cuts_by g.B.CutDisk.restarts g.B.CutDisk.arming g.B.CutDisk.plain g.B.CutDisk.is_starved) g.S.Shelf g.O.Out in
    let words = c.args.words.now in
    let asks = rw c.in-Session.is at (rw c.in-Ok.is at c.asked.ensures.asks) in
    let ran = c.run_session-status in
    let line = c.show_line-in-Session.ensures in
    session-ends g.D.Disk g.A.Air g.C.Clock.given c.args.disk.now ran.new.disk c.args.air.now ran.new.air c.args.clock.now
    ran.new.clock c.in-Session.asked ran.result words asks (c.one_meaning.ensures.only_one words)
    (c.one_meaning.ensures.determined words) ran.ensures.over told c.args.shelf.now c.args.bench.now.disks.items
    c.args.out.now c.show_line-in-Session.new.out c.session_acknowledges_law.ensures ran.ensures.clock line.shown
    line.no_line

pub run_serve-status-requires : goal.run_serve-status-requires
run_serve-status-requires g c =
    let asks = rw c.in-Serve.is at (rw c.in-Ok.is at c.asked.ensures.asks) in
    record { ranges = asks.text.ranges }

pub returns-in-Serve : goal.returns-in-Serve
returns-in-Serve g c =
    let told = seen_setting g.B.Disk (cuts_by g.B.CutDisk.restarts g.B.CutDisk.arming g.B.CutDisk.plain g.B.CutDisk.is_starved) g.S.Shelf g.O.Out in
    let words = c.args.words.now in
    let asks = rw c.in-Serve.is at (rw c.in-Ok.is at c.asked.ensures.asks) in
    let ran = c.run_serve-status in
    let line = c.show_line-in-Serve.ensures in
    serve-ends g.D.Disk g.A.Air g.C.Clock.given c.args.disk.now ran.new.disk c.args.air.now ran.new.air c.args.clock.now
    ran.new.clock c.in-Serve.asked ran.result words asks (c.one_meaning.ensures.only_one words)
    (c.one_meaning.ensures.determined words) ran.ensures.over told c.args.shelf.now c.args.bench.now.disks.items
    c.args.out.now c.show_line-in-Serve.new.out c.server_acknowledges_law.ensures line.shown line.no_line

pub returns-in-File : goal.returns-in-File
returns-in-File g c =
    let told = seen_setting g.B.Disk (cuts_by g.B.CutDisk.restarts g.B.CutDisk.arming g.B.CutDisk.plain g.B.CutDisk.is_starved) g.S.Shelf g.O.Out in
    let words = c.args.words.now in
    let asks = rw c.in-File.is at (rw c.in-Ok.is at c.asked.ensures.asks) in
    let ran = c.run_file-status in
    let line = c.show_line-in-File.ensures in
    file-ends (seen g.D.Disk g.A.Air g.C.Clock.given) told (lent c.args.disk.now c.args.air.now c.args.clock.now)
    c.args.shelf.now ran.new.shelf c.args.bench.now.disks.items c.args.out.now ran.new.out c.show_line-in-File.new.out words
    ran.result (c.one_meaning.ensures.only_one words) (c.one_meaning.ensures.determined words) line.shown line.no_line
    line.no_fewer_faults c.in-File.command c.in-File.name.now (request.File c.in-File.command c.in-File.name) asks asks refl
    ran.ensures.shown ran.ensures.held ran.ensures.shelf

pub run_making-status-requires : goal.run_making-status-requires
run_making-status-requires g c =
    may-make c.args.words.now c.in-Making.asked (rw c.in-Making.is at (rw c.in-Ok.is at c.asked.ensures.asks))

pub returns-in-Making : goal.returns-in-Making
returns-in-Making g c =
    let told = seen_setting g.B.Disk (cuts_by g.B.CutDisk.restarts g.B.CutDisk.arming g.B.CutDisk.plain g.B.CutDisk.is_starved) g.S.Shelf g.O.Out in
    let words = c.args.words.now in
    let asks = rw c.in-Making.is at (rw c.in-Ok.is at c.asked.ensures.asks) in
    let ran = c.run_making-status in
    let line = c.show_line-in-Making.ensures in
    make-ends (seen g.D.Disk g.A.Air g.C.Clock.given) told (lent c.args.disk.now c.args.air.now c.args.clock.now)
    c.args.shelf.now ran.new.shelf c.args.bench.now.disks.items c.args.out.now c.show_line-in-Making.new.out words ran.result
    (c.one_meaning.ensures.only_one words) (c.one_meaning.ensures.determined words) line.shown line.no_line
    c.in-Making.asked asks ran.ensures.made ran.ensures.shelf

pub run_client-status-requires : goal.run_client-status-requires
run_client-status-requires g c =
    may-run c.args.words.now c.in-Client.asked (rw c.in-Client.is at (rw c.in-Ok.is at c.asked.ensures.asks))

pub returns-in-Client : goal.returns-in-Client
returns-in-Client g c =
    let told = seen_setting g.B.Disk (cuts_by g.B.CutDisk.restarts g.B.CutDisk.arming g.B.CutDisk.plain g.B.CutDisk.is_starved) g.S.Shelf g.O.Out in
    let words = c.args.words.now in
    let asks = rw c.in-Client.is at (rw c.in-Ok.is at c.asked.ensures.asks) in
    let ran = c.run_client-status in
    let line = c.show_line-in-Client.ensures in
    client-ends (seen g.D.Disk g.A.Air g.C.Clock.given) told (lent c.args.disk.now c.args.air.now c.args.clock.now)
    (lent ran.new.disk ran.new.air ran.new.clock) c.args.shelf.now ran.new.shelf c.args.bench.now.disks.items
    c.args.out.now ran.new.out c.show_line-in-Client.new.out words ran.result (c.one_meaning.ensures.only_one words)
    (c.one_meaning.ensures.determined words) c.one_run_law.ensures c.one_step_law.ensures c.stays_law.ensures line.shown
    line.no_line line.no_fewer_faults c.in-Client.asked asks ran.ensures

pub returns-in-Rehearse : goal.returns-in-Rehearse
returns-in-Rehearse g c =
    let told = seen_setting g.B.Disk (cuts_by g.B.CutDisk.restarts g.B.CutDisk.arming g.B.CutDisk.plain g.B.CutDisk.is_starved) g.S.Shelf g.O.Out in
    let words = c.args.words.now in
    let asks = rw c.in-Rehearse.is at (rw c.in-Ok.is at c.asked.ensures.asks) in
    let ran = c.run_rehearsal-status in
    let line = c.show_line-in-Rehearse.ensures in
    rehearse-ends (seen g.D.Disk g.A.Air g.C.Clock.given) told (lent c.args.disk.now c.args.air.now c.args.clock.now)
    c.args.shelf.now ran.new.shelf c.args.bench.now.disks.items ran.new.bench.disks.items c.args.out.now ran.new.out
    c.show_line-in-Rehearse.new.out words ran.result (c.one_meaning.ensures.only_one words)
    (c.one_meaning.ensures.determined words) c.one_schedule.ensures line.shown line.no_line line.no_fewer_faults
    c.in-Rehearse.asked asks ran.ensures.shown ran.ensures.shelf.0 ran.ensures.shelf.1
