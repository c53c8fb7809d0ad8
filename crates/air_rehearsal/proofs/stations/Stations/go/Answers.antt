use Rattle.std.proofs.Common.{◌≡◌, refl, sym, ap, ◌∙◌, subst, suc, ℕ, IfOk}
use Rattle.air_rehearsal.proofs.Names.{cuts_by, event_value, Event, tick_server, to_server, bench_of}
use Rattle.air_rehearsal.proofs.PlayParts.{if_ok, number_at, on_ok_of}
use Rattle.air_rehearsal.proofs.PlayServer.{GoesSo, goes_event, served_ready}
use Rattle.air_rehearsal.proofs.stations.Stations.go.Goals as goal

pub returns-in-Some-Some-clause-clients : goal.returns-in-Some-Some-clause-clients
returns-in-Some-Some-clause-clients g c =
    on_ok_of c.serve_event.result _
    (served_ready g.B.Disk c.args.self.now c.count_cut.new.self c.serve_event.new.self c.args.disks.now
    c.count_cut.ensures c.serve_event.ensures.keeps c.requires.clients)

pub returns-in-Some-Some-clause-goes : goal.returns-in-Some-Some-clause-goes
returns-in-Some-Some-clause-goes g c =
    let coming : Event = to_server (suc c.in-Some-Some.c) (suc c.in-Some-Some.place) in
    let event_is : event_value c.args.event.now ≡ coming =
    ap event_value c.in-ToServer.is
    ∙ ap (λ (n : ℕ). to_server n c.in-ToServer.transmission)
    (number_at c.in-ToServer.client c.in-Some-Some.c (sym c.place_of.ensures ∙ c.in-Some-Some.is-0))
    ∙ ap (to_server (suc c.in-Some-Some.c))
    (number_at c.in-ToServer.transmission c.in-Some-Some.place (sym c.place_of-in-ToServer.ensures ∙ c.in-Some-Some.is-1)) in
    subst
    (λ (e : Event).
    IfOk c.serve_event.result
    (GoesSo g.B.Disk (cuts_by g.B.CutDisk.restarts g.B.CutDisk.arming g.B.CutDisk.plain g.B.CutDisk.is_starved)
    (bench_of c.args.self.now c.args.server c.args.disk.now c.args.disks.now) c.serve_event.new.self
    c.serve_event.new.disk e)) (sym event_is)
    (if_ok c.serve_event.result _ _ c.serve_event.ensures.serves
    (λ later serves world bench can moment allowed.
    goes_event g.B.Disk (cuts_by g.B.CutDisk.restarts g.B.CutDisk.arming g.B.CutDisk.plain g.B.CutDisk.is_starved)
    world (bench_of c.args.self.now c.args.server c.args.disk.now c.args.disks.now) c.count_cut.new.self bench
    c.count_cut.ensures can moment c.sound_law.ensures coming c.serve_event.new.self later c.serve_event.new.disk
    c.serve_event.ensures.keeps (serves world) (λ next it. it) refl (λ i. refl) refl allowed))

pub returns-in-TickServer-clause-clients : goal.returns-in-TickServer-clause-clients
returns-in-TickServer-clause-clients g c =
    on_ok_of c.serve_event-in-TickServer.result _
    (served_ready g.B.Disk c.args.self.now c.count_cut-in-TickServer.new.self c.serve_event-in-TickServer.new.self c.args.disks.now
    c.count_cut-in-TickServer.ensures c.serve_event-in-TickServer.ensures.keeps c.requires.clients)

pub returns-in-TickServer-clause-goes : goal.returns-in-TickServer-clause-goes
returns-in-TickServer-clause-goes g c =
    subst
    (λ (e : Event).
    IfOk c.serve_event-in-TickServer.result
    (GoesSo g.B.Disk (cuts_by g.B.CutDisk.restarts g.B.CutDisk.arming g.B.CutDisk.plain g.B.CutDisk.is_starved)
    (bench_of c.args.self.now c.args.server c.args.disk.now c.args.disks.now) c.serve_event-in-TickServer.new.self
    c.serve_event-in-TickServer.new.disk e)) (sym (ap event_value c.in-TickServer.is))
    (if_ok c.serve_event-in-TickServer.result _ _ c.serve_event-in-TickServer.ensures.serves
    (λ later serves world bench can moment allowed.
    goes_event g.B.Disk (cuts_by g.B.CutDisk.restarts g.B.CutDisk.arming g.B.CutDisk.plain g.B.CutDisk.is_starved)
    world (bench_of c.args.self.now c.args.server c.args.disk.now c.args.disks.now) c.count_cut-in-TickServer.new.self bench
    c.count_cut-in-TickServer.ensures can moment c.sound_law.ensures tick_server c.serve_event-in-TickServer.new.self later
    c.serve_event-in-TickServer.new.disk c.serve_event-in-TickServer.ensures.keeps (serves world) (λ next it. it) refl
    (λ i. refl) refl allowed))
