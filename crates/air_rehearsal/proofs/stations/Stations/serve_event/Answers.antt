-- The server takes part in its event, whichever it is.
use Rattle.std.proofs.Common.{◌≡◌, Option, None, Some, refl, sym, ap, subst, ◌∙◌, arith}
use Rattle.air_rehearsal.proofs.Names.{cuts_by, event_of, ArmsFor, IsTaken, IsUp, serving, Cut}
use Rattle.air_rehearsal.proofs.LaneLaws.{hearing_lanes, ticking_lanes}
use Rattle.air_rehearsal.proofs.PlayParts.{on_ok}
use Rattle.air_rehearsal.proofs.SameContent.{arms-content, plays-armed}
use Rattle.air_rehearsal.proofs.Served.{serves-cut}
use Rattle.air_rehearsal.proofs.ServedHeard.{keeps-no-cut, serves-answered}
use Rattle.air_rehearsal.proofs.ServingCounts.{arms-count}
use Rattle.air_rehearsal.proofs.ServingKeeps.{keeps-then}
use Rattle.air_rehearsal.proofs.ServingSent.{if-ok-more}
use Rattle.air_rehearsal.proofs.stations.Stations.serve_event.Goals as goal

pub answer-requires : goal.answer-requires
answer-requires g c =
    on_ok c.take_event-came.result _ _ c.take_event-came.ensures.up
    (λ (up : IsUp g.B.Disk c.take_event-came.new.self c.take_event-came.new.server c.take_event-came.new.disk). record {
      window = up.window;
      me = up.me;
      ready = up.ready;
    })

pub returns-in-Ok-clause-keeps : goal.returns-in-Ok-clause-keeps
returns-in-Ok-clause-keeps g c =
    keeps-then c.args.self.now (record c.take_event-came.new.self { cut = None }) c.answer.new.self
    (keeps-no-cut c.args.self.now c.take_event-came.new.self c.take_event-came.ensures.keeps) c.answer.ensures.keeps

pub returns-in-Err-clause-keeps : goal.returns-in-Err-clause-keeps
returns-in-Err-clause-keeps g c =
    keeps-then c.args.self.now (record c.take_event-came.new.self { cut = None }) c.answer.new.self
    (keeps-no-cut c.args.self.now c.take_event-came.new.self c.take_event-came.ensures.keeps) c.answer.ensures.keeps

pub returns-in-Some-clause-keeps : goal.returns-in-Some-clause-keeps
returns-in-Some-clause-keeps g c =
    keeps-no-cut c.args.self.now c.take_event-came.new.self c.take_event-came.ensures.keeps

pub returns-in-Ok-clause-serves : goal.returns-in-Ok-clause-serves
returns-in-Ok-clause-serves g c = λ world awaits allowed.
    let cuts = cuts_by g.B.CutDisk.restarts g.B.CutDisk.arming g.B.CutDisk.plain g.B.CutDisk.is_starved in
    let event = event_of c.args.event in
    let none : c.args.self.now.cut ≡ None = sym c.arm-cut.ensures.cut ∙ c.in-None.is in
    let disk = subst (λ (o : Option Cut). ArmsFor g.B.Disk cuts o c.args.disk.now c.arm-cut.new.disk) none
    c.arm-cut.ensures.arms in
    let old = serving c.args.self.now c.args.server c.args.disk.now in
    let mid = serving c.take_event-came.new.self c.take_event-came.new.server c.take_event-came.new.disk in
    let content =
    arms-content g.B.Disk cuts c.args.self.now.cut c.args.disk.now c.arm-cut.new.disk c.arm-cut.ensures.arms in
    let new = serving c.answer.new.self c.answer.new.server c.answer.new.disk in
    let armed = plays-armed g.B.Disk cuts world old c.arm-cut.new.disk awaits content in
    let taken = subst
    (λ d. IsTaken g.B.Disk world event (serving c.args.self.now c.args.server d) mid c.take_event-came.result) disk
    (c.take_event-came.ensures.takes world awaits.sound armed.0 armed.1 awaits.moment allowed) in
    serves-answered g.B.Disk cuts g.met.B.CutDisk.lasts_so g.met.B.Disk.content_is_image g.met.B.Disk.counts_now
    c.misses_law.ensures world (hearing_lanes c.sound_law.ensures c.step_law.ensures)
    (ticking_lanes c.sound_law.ensures c.step_law.ensures) c.args.event old mid new c.take_event-came.result awaits
    allowed
    (record {
      none = none;
      me = c.in-Ok.ensures.ready.up.me;
      k = c.answer.ensures.keeps.k ∙ c.take_event-came.ensures.keeps.k;
      uploads = c.answer.ensures.keeps.uploads;
      cut = c.answer.ensures.cut ∙ sym (c.take_event-came.ensures.cut ∙ none);
      disk = c.answer.ensures.disk;
      store = c.answer.ensures.same.store;
    }) taken c.in-Ok.ensures.came c.in-Ok.ensures.memory c.in-Ok.ensures.answers

pub returns-in-Some-clause-serves : goal.returns-in-Some-clause-serves
returns-in-Some-clause-serves g c =
    let cuts = cuts_by g.B.CutDisk.restarts g.B.CutDisk.arming g.B.CutDisk.plain g.B.CutDisk.is_starved in
    let event = event_of c.args.event in
    let waits : c.args.self.now.cut ≡ Some c.in-Some.cut = sym c.arm-cut.ensures.cut ∙ c.in-Some.is in
    let arms = subst (λ (o : Option Cut). ArmsFor g.B.Disk cuts o c.args.disk.now c.arm-cut.new.disk) waits
    c.arm-cut.ensures.arms in
    let old = serving c.args.self.now c.args.server c.args.disk.now in
    let mid = serving c.take_event-came.new.self c.take_event-came.new.server c.take_event-came.new.disk in
    let content =
    arms-content g.B.Disk cuts c.args.self.now.cut c.args.disk.now c.arm-cut.new.disk c.arm-cut.ensures.arms in
    if-ok-more _ _ c.be_cut.result
    (λ later gone world awaits allowed.
    let armed = plays-armed g.B.Disk cuts world old c.arm-cut.new.disk awaits content in
    let taken = c.take_event-came.ensures.takes world awaits.sound armed.0 armed.1 awaits.moment allowed in
    serves-cut g.B.Disk cuts g.met.B.CutDisk.lasts_so g.met.B.Disk.content_is_image g.met.B.Disk.counts_now world event
    g.met.B.Disk.lasts_on c.misses_law.ensures c.front_of_event_law.ensures old mid
    (serving (record c.take_event-came.new.self { cut = None }) later c.be_cut.new.disk) c.in-Some.cut
    c.arm-cut.new.disk c.take_event-came.result awaits waits arms taken gone refl c.take_event-came.ensures.keeps.me
    c.take_event-came.ensures.keeps.k c.arm-cut.ensures.ready.up.ready
    (c.sound_law.ensures.drops world event taken.coming taken.delivered awaits.sound allowed taken.takes))
    c.be_cut.ensures.cuts

pub returns-in-Ok-clause-faults : goal.returns-in-Ok-clause-faults
returns-in-Ok-clause-faults g c =
    let cuts = cuts_by g.B.CutDisk.restarts g.B.CutDisk.arming g.B.CutDisk.plain g.B.CutDisk.is_starved in
    let first = arms-count g.B.Disk cuts c.args.self.now.cut c.args.disk.now c.arm-cut.new.disk c.arm-cut.ensures.arms
    in
    let same = ap (λ d. g.B.Disk.write_faults d) c.answer.ensures.disk in
    omega (arith, first, same, c.take_event-came.ensures.faults)

pub returns-in-Err-clause-faults : goal.returns-in-Err-clause-faults
returns-in-Err-clause-faults g c =
    let cuts = cuts_by g.B.CutDisk.restarts g.B.CutDisk.arming g.B.CutDisk.plain g.B.CutDisk.is_starved in
    let first = arms-count g.B.Disk cuts c.args.self.now.cut c.args.disk.now c.arm-cut.new.disk c.arm-cut.ensures.arms
    in
    let same = ap (λ d. g.B.Disk.write_faults d) c.answer.ensures.disk in
    omega (arith, first, same, c.take_event-came.ensures.faults)

pub returns-in-Some-clause-faults : goal.returns-in-Some-clause-faults
returns-in-Some-clause-faults g c =
    let cuts = cuts_by g.B.CutDisk.restarts g.B.CutDisk.arming g.B.CutDisk.plain g.B.CutDisk.is_starved in
    let first = arms-count g.B.Disk cuts c.args.self.now.cut c.args.disk.now c.arm-cut.new.disk c.arm-cut.ensures.arms
    in
    omega (arith, first, c.be_cut.ensures.faults, c.take_event-came.ensures.faults)
