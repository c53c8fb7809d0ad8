-- The event comes where it may.
use Rattle.std.proofs.Common.{◌≡◌, false, true, refl, sym, subst}
use Rattle.air_schedule.specs.declared.event.Event.{Event as StoredEvent}
use Rattle.air_rehearsal.proofs.Names.{Option, IfSome, option_map, IfOk-weaker, cuts_by, event_value, IsInRange, Drives, driven_by, TriesIf, bench_of}
use Rattle.air_rehearsal.proofs.PlayParts.{on_ok_of}
use Rattle.air_rehearsal.proofs.DriveLemmas.{drives_none, drives_refuses, played-drives}
use Rattle.air_rehearsal.proofs.generator.Driver.play.Goals as goal

pub play-requires-clause-server : goal.play-requires-clause-server
play-requires-clause-server g c = c.requires.ready.server

pub play-requires-clause-clients : goal.play-requires-clause-clients
play-requires-clause-clients g c = c.requires.ready.clients

pub returns-in_default : goal.returns-in_default
returns-in_default g c =
    let cuts = cuts_by g.B.CutDisk.restarts g.B.CutDisk.arming g.B.CutDisk.plain g.B.CutDisk.is_starved in
    let at = driven_by c.args.self.now c.args.server c.args.disk.now c.args.disks.now in
    subst (λ (o : Option StoredEvent). Drives g.B.Disk cuts (TriesIf (option_map event_value o)) at at)
    (sym c.in_default.is) (drives_none g.B.Disk cuts at c.requires.ready)

pub returns-then-not-allows : goal.returns-then-not-allows
returns-then-not-allows g c =
    let cuts = cuts_by g.B.CutDisk.restarts g.B.CutDisk.arming g.B.CutDisk.plain g.B.CutDisk.is_starved in
    let at = driven_by c.args.self.now c.args.server c.args.disk.now c.args.disks.now in
    subst (λ (o : Option StoredEvent). Drives g.B.Disk cuts (TriesIf (option_map event_value o)) at at) (sym c.in-Some.is)
    (drives_refuses g.B.Disk cuts (event_value c.in-Some.event) at c.requires.ready
    (λ world playing allowed.
    let no : false ≡ true =
    (c.if-not-allows.ensures world playing.bench.sound playing.bench.plays.stations).1 allowed.possible in cc))

pub returns : goal.returns
returns g c =
    let cuts = cuts_by g.B.CutDisk.restarts g.B.CutDisk.arming g.B.CutDisk.plain g.B.CutDisk.is_starved in
    let old = driven_by c.args.self.now c.args.server c.args.disk.now c.args.disks.now in
    IfOk-weaker c.play.result _ _
    (λ later drives.
    subst
    (λ (o : Option StoredEvent).
    Drives g.B.Disk cuts (TriesIf (option_map event_value o)) old
    (record {
      state = c.args.self.now.draws.state;
      bench = bench_of c.play.new.self later c.play.new.disk c.play.new.disks;
    })) (sym c.in-Some.is) drives)
    (played-drives g.B.Disk cuts (event_value c.in-Some.event) c.args.self.now.draws.state _ _ _ _ c.play.result
    (λ world playing. record {
      in_range =
          subst (λ (o : Option StoredEvent). IfSome o (λ it. IsInRange (event_value it))) c.in-Some.is
          (c.requires.fits world playing.bench.sound playing.bench.plays.stations);
      possible =
          (c.if-not-allows.ensures world playing.bench.sound playing.bench.plays.stations).0 refl;
    }) c.play.ensures.server c.play.ensures.clients (on_ok_of c.play.result _ c.play.ensures.faults)
    c.play.ensures.plays)
