-- The event that comes is the world's: the frame that it delivers, or a tick.
use Rattle.std.proofs.Common.{ℕ, refl, sym, ap, subst, ◌∙◌, arith}
use Rattle.air_rehearsal.specs.declared.serving.ServerEvent.{ServerEvent}
use Rattle.air_rehearsal.proofs.Names.{event_of, happening, Hears, IsAllowed, IsTaken, serving, ticks}
use Rattle.air_rehearsal.proofs.PlayParts.{on_ok_of}
use Rattle.air_rehearsal.proofs.ServingKeeps.{keeps-self}
use Rattle.air_rehearsal.proofs.stations.Stations.take_event.Goals as goal

pub returns-in-Hear-clause-takes : goal.returns-in-Hear-clause-takes
returns-in-Hear-clause-takes g c = λ world sound plays known moment allowed.
    subst
    (λ (e : ServerEvent).
    IsTaken g.D.Disk world (event_of e) (serving c.args.self.now c.args.server.now c.args.disk.now)
    (serving c.hear.new.self c.hear.new.server c.hear.new.disk) c.hear.result) (sym c.in-Hear.is)
    (c.hear.ensures.takes world sound plays known moment
    (subst (λ (e : ServerEvent). IsAllowed world (event_of e)) c.in-Hear.is allowed))

pub returns-in-Tick-clause-up : goal.returns-in-Tick-clause-up
returns-in-Tick-clause-up g c =
    on_ok_of c.tick.result _
    (record {
      window = c.requires.up.window;
      me = c.tick.ensures.takes.me ∙ c.requires.up.me;
      ready = c.tick.ensures.ready;
    })

pub returns-in-Tick-clause-keeps : goal.returns-in-Tick-clause-keeps
returns-in-Tick-clause-keeps g c = keeps-self c.args.self.now

pub returns-in-Tick-clause-faults : goal.returns-in-Tick-clause-faults
returns-in-Tick-clause-faults g c =
    let still = ap (λ d. g.D.Disk.write_faults d) c.tick.ensures.untouched in omega (arith, still)

pub returns-in-Tick-clause-takes : goal.returns-in-Tick-clause-takes
returns-in-Tick-clause-takes g c = λ world sound plays known moment allowed.
    subst
    (λ (e : ServerEvent).
    IsTaken g.D.Disk world (event_of e) (serving c.args.self.now c.args.server.now c.args.disk.now)
    (serving c.args.self.now c.tick.new.self c.tick.new._disk) c.tick.result) (sym c.in-Tick.is)
    (record {
      coming = ticks _;
      delivered = world;
      takes = (refl, refl);
      hears =
          subst
          (λ (m : ℕ).
          Hears g.D.Disk (happening world.server (ticks m)) c.args.server.now c.tick.new.self c.args.disk.now
          c.tick.new._disk c.tick.result) moment (c.tick.ensures.takes.hears known world.server plays.server);
      plays = plays.stations;
    })
