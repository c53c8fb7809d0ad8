-- What is asked, what is exchanged, and what ends the turn.
use Rattle.std.proofs.Common.{ap, subst, sym}
use Rattle.air_rehearsal.proofs.Names.{IfOk-weaker, cuts_by, IsReadyBench, Drawing, Exchanges, Takes, Turn, ending, none_looked, wish, bench_of, Stations}
use Rattle.air_rehearsal.proofs.DriveLemmas.{Then, drives_as, drives_takes, drives_then}
use Rattle.air_rehearsal.proofs.generator.Driver.turn.Goals as goal

pub play-requires-clause-ready : goal.play-requires-clause-ready
play-requires-clause-ready g c =
    subst (λ (s : Stations). IsReadyBench g.B.Disk (bench_of s c.args.server c.args.disk.now c.args.disks.now))
    (sym c.wish-wish.ensures.same) c.requires

pub play-requires-clause-fits : goal.play-requires-clause-fits
play-requires-clause-fits g c = c.wish-wish.ensures.fits

pub exchange_all-requires : goal.exchange_all-requires
exchange_all-requires g c = c.in_ok-server.ensures.ready

pub play-requires-2-clause-ready : goal.play-requires-2-clause-ready
play-requires-2-clause-ready g c =
    subst
    (λ (s : Stations).
    IsReadyBench g.B.Disk
    (bench_of s c.in_ok-server-2.server c.exchange_all.new.disk c.exchange_all.new.disks))
    (sym c.ending-ending.ensures.same) c.in_ok-server-2.ensures.ready

pub play-requires-2-clause-fits : goal.play-requires-2-clause-fits
play-requires-2-clause-fits g c = c.ending-ending.ensures.fits

pub returns : goal.returns
returns g c =
    let cuts = cuts_by g.B.CutDisk.restarts g.B.CutDisk.arming g.B.CutDisk.plain g.B.CutDisk.is_starved in
    let client = c.args.client in
    IfOk-weaker c.play-2.result _ _
    (λ later last.
    drives_as g.B.Disk cuts
    (Then
    (Then (λ (x y : Drawing). Takes (wish x.state client x.world) x y)
    (λ (x y : Drawing). Exchanges 20 client (none_looked x.world client) x y))
    (λ (x y : Drawing). Takes (ending x.state client) x y)) (Turn client) _ _
    (λ x y all. record {
      asked = all.1.0;
      asks = all.1.1;
      exchanged = all.0;
      exchanges = all.1.2;
      ends = all.2;
    })
    (drives_then g.B.Disk cuts
    (Then (λ (x y : Drawing). Takes (wish x.state client x.world) x y)
    (λ (x y : Drawing). Exchanges 20 client (none_looked x.world client) x y))
    (λ (x y : Drawing). Takes (ending x.state client) x y) _ _ _
    (drives_then g.B.Disk cuts (λ (x y : Drawing). Takes (wish x.state client x.world) x y)
    (λ (x y : Drawing). Exchanges 20 client (none_looked x.world client) x y) _ _ _
    (drives_takes g.B.Disk cuts (λ state world. wish state client world) c.wish-wish.result _ _ _
    (ap (λ (s : Stations). bench_of s c.args.server c.args.disk.now c.args.disks.now) c.wish-wish.ensures.same)
    (λ world playing. c.wish-wish.ensures.wish world playing.bench.sound playing.bench.plays.stations)
    c.in_ok-server.ensures) c.in_ok-server-2.ensures)
    (drives_takes g.B.Disk cuts (λ state world. ending state client) c.ending-ending.result _ _ _
    (ap (λ (s : Stations). bench_of s c.in_ok-server-2.server c.exchange_all.new.disk c.exchange_all.new.disks)
    c.ending-ending.ensures.same) (λ world playing. c.ending-ending.ensures.ending) last))) c.play-2.ensures
