use Rattle.std.proofs.Common.{◌≡◌, ◌∷◌, ℕ, ◌+◌, ◌≤◌, length, sym, ap, ◌∙◌, subst, arith, refl}
use Rattle.std.proofs.Common.{◌%◌}
use Rattle.air_rehearsal.specs.declared.rehearsing.RehearseStop.TheVariants as stop
use Rattle.air_rehearsal.proofs.Names.{List, map, slice_get, Some, false, true, option_map, length-map, slice_get-map, slice_get_read, cuts_by, CallSign, Event, IsInRange, event_value, OpensAll, bench_of, CanCount, the_server}
use Rattle.air_rehearsal.proofs.Along.{all_there, ends_there, goes_along, stops_there}
use Rattle.air_rehearsal.proofs.FirstBench.{played_first}
use Rattle.air_rehearsal.proofs.rehearsing.rehearse_over.Goals as goal

-- a rehearsal that stopped isn't unlawful
pub returns-in-Err-clause-unlawful : goal.returns-in-Err-clause-unlawful
returns-in-Err-clause-unlawful g c = λ line is tell.
    let same : c.ended.result ≡ stop.Unlawful line = cc in absurd (c.ended.ensures line same)

pub returns-in-Err-start-clause-unlawful : goal.returns-in-Err-start-clause-unlawful
returns-in-Err-start-clause-unlawful g c = λ line is tell.
    let same : c.ended-in-Err-start.result ≡ stop.Unlawful line = cc in absurd (c.ended-in-Err-start.ensures line same)

-- the event at this place of the schedule
event_at :
    {C : Type 0} (value : C → Event) (code : List C) (events : List Event) (i : ℕ) (it : C)
    → map value code ≡ events → slice_get code i ≡ Some it → slice_get events i ≡ Some (value it)
event_at value code events i it are is =
    ap (λ (xs : List Event). slice_get xs i) (sym are) ∙ slice_get-map value code i ∙ ap (option_map value) is

pub loop-event-init : goal.loop-event-init
loop-event-init g c =
    let cuts = cuts_by g.B.CutDisk.restarts g.B.CutDisk.arming g.B.CutDisk.plain g.B.CutDisk.is_starved in
    let it = c.args.schedule.now in
    let opens = subst
    (λ (k : ℕ). OpensAll g.B.Disk cuts k it.calls c.args.disks.now c.open.new.disks c.in-Ok.stations)
    c.window.ensures (subst
    (λ (calls : List CallSign). OpensAll g.B.Disk cuts c.window.result calls c.args.disks.now c.open.new.disks
    c.in-Ok.stations) c.clients.ensures c.in-Ok.ensures.opens) in
    record {
      server = c.in-Ok-start.ensures.ready;
      clients = c.in-Ok.ensures.ready;
      played = λ can. (
        _,
        played_first g.B.Disk cuts g.met.B.CutDisk.lasts_so g.met.B.Disk.content_is_image g.met.B.Disk.counts_now
            c.sound_law.ensures it c.fits_law.ensures c.args.disk.now c.start.new.disk
            c.args.disks.now c.open.new.disks c.requires c.in-Ok.stations c.in-Ok-start.server
            opens (c.in-Ok-start.ensures.starts) (c.in-Ok-start.ensures.memory refl),
      );
      line = (let same = ap length c.clients-2.ensures in let e : 2 + length c.clients-2.result.now ≡ 2 + length it.calls + 0 = omega (arith, same) in e);
    }

pub returns-then-not-allows-clause-unlawful : goal.returns-then-not-allows-clause-unlawful
returns-then-not-allows-clause-unlawful g c = λ line is tell.
    let cuts = cuts_by g.B.CutDisk.restarts g.B.CutDisk.arming g.B.CutDisk.plain g.B.CutDisk.is_starved in
    let it = c.args.schedule.now in
    let l = c.loop-event in
    let played = l.invariant.played (tell l.disk refl) in
    let bench = played.1.playing.bench in
    stops_there g.B.Disk cuts it l.event-index g.met.B.CutDisk.lasts_so (c.args.disk.now ∷ c.args.disks.now)
    (bench_of l.stations l.server l.disk l.disks) c.requires c.fits_law.ensures played _ line
    (event_at event_value c.events-events.result.now it.events l.event-index _ c.events-events.ensures (slice_get_read c.events-events.result.now _ l.event-index _ refl c.loop-event-test.true c.event-item.is))
    (λ allowed. let no : false ≡ true = (c.if-not-allows.ensures _ bench.sound bench.plays.stations).1 allowed.possible in cc)
    (let same : line ≡ l.line = cc in same ∙ l.invariant.line)

pub play-requires-clause-server : goal.play-requires-clause-server
play-requires-clause-server g c = c.loop-event.invariant.server

pub play-requires-clause-clients : goal.play-requires-clause-clients
play-requires-clause-clients g c = c.loop-event.invariant.clients

pub returns-in-Err-play-clause-unlawful : goal.returns-in-Err-play-clause-unlawful
returns-in-Err-play-clause-unlawful g c = λ line is tell.
    let same : c.ended-in-Err-play.result ≡ stop.Unlawful line = cc in absurd (c.ended-in-Err-play.ensures line same)

pub loop-event-preserved : goal.loop-event-preserved
loop-event-preserved g c =
    let cuts = cuts_by g.B.CutDisk.restarts g.B.CutDisk.arming g.B.CutDisk.plain g.B.CutDisk.is_starved in
    let it = c.args.schedule.now in
    let l = c.loop-event in
    let came = c.in-Ok-play.ensures in
    record {
      server = came.server;
      clients = came.clients;
      played = λ can.
          let could : CanCount g.B.Disk l.disk = (let on = came.faults in omega (arith, on, can)) in
          let played = l.invariant.played could in
          goes_along g.B.Disk cuts it l.event-index (c.args.disk.now ∷ c.args.disks.now)
          (bench_of l.stations l.server l.disk l.disks)
          (bench_of c.play.new.self c.in-Ok-play.server c.play.new.disk c.play.new.disks) _
          (event_at event_value c.events-events.result.now it.events l.event-index _ c.events-events.ensures (slice_get_read c.events-events.result.now _ l.event-index _ refl c.loop-event-test.true c.event-item.is))
          played (came.plays _ played.1.playing could (record {
            in_range =
                all_there IsInRange it.events l.event-index _ c.fits_law.ensures.in_range
                (event_at event_value c.events-events.result.now it.events l.event-index _
                c.events-events.ensures (slice_get_read c.events-events.result.now _ l.event-index _ refl c.loop-event-test.true c.event-item.is));
            possible =
                (c.if-not-allows.ensures _ played.1.playing.bench.sound played.1.playing.bench.plays.stations).0 refl;
          }));
      line =
          (let was = l.invariant.line in
          let few = c.fits_law.ensures.most in
          let many = c.events-events.type_inv in
          let e : (l.line + 1) % 18446744073709551616 ≡ 2 + length it.calls + (l.event-index + 1) =
          omega (arith, was, few, many.0, many.1, c.loop-event-test.true, l.auto.event-index-end) in e);
    }

pub returns-in-Ok-end-clause-rehearsed : goal.returns-in-Ok-end-clause-rehearsed
returns-in-Ok-end-clause-rehearsed g c = λ tell.
    let cuts = cuts_by g.B.CutDisk.restarts g.B.CutDisk.arming g.B.CutDisk.plain g.B.CutDisk.is_starved in
    let it = c.args.schedule.now in
    let l = c.loop-event in
    let lasts = g.met.B.CutDisk.lasts_so l.disk c.end.new.disk c.end.ensures.lasts in
    let could : CanCount g.B.Disk l.disk =
    (let on = lasts.writes in let can = tell c.end.new.disk refl in omega (arith, on, can)) in
    let played = l.invariant.played could in
    let bench = played.1.playing.bench in
    let ends = c.in-Ok-end.ensures.ends _ bench.sound bench.plays.stations bench.plays.blocks (bench.stands the_server _ refl) in
    ends_there g.B.Disk cuts it l.event-index g.met.B.CutDisk.lasts_so (c.args.disk.now ∷ c.args.disks.now)
    (bench_of l.stations l.server l.disk l.disks) c.requires c.fits_law.ensures played
    (record {
      sound = c.sound_law.ensures;
      parts = c.parts_law.ensures;
      stores = c.stores_law.ensures;
      schedules = c.schedule_law.ensures;
      follows = c.follows_law.ensures;
    })
    c.end.new.disk c.in-Ok-end.report (let same = ap length c.events-events.ensures in let e : length it.events ≤ l.event-index = omega (arith, same, length-map c.events-events.result.now event_value, c.loop-event-test.false, l.auto.event-index-end) in e) ends
