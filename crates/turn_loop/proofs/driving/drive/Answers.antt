-- The station's turns.
use Rattle.std.proofs.Common.{[], None, subst, sym, ◌∙◌, ap}
use Rattle.turn_loop.proofs.Names.{at, NodeEvents, TookTurns, lent_party}
use Rattle.turn_loop.proofs.DriveLemmas.{owes-first, station-turns}
use Rattle.turn_loop.proofs.driving.drive.Goals as goal

pub take_turns-ended-requires : goal.take_turns-ended-requires
take_turns-ended-requires g c =
    let node = c.new-node.ensures in
    owes-first g.S.Station.me g.S.Station.course (at c.new-node.result c.args.disk.now) (node.me ∙ sym c.requires.me ∙ ap (λ s. g.S.Station.me s) (sym node.station)) node.heard
    (subst (λ s. g.S.Station.course.owes (at s c.args.disk.now) [] None [] (at s c.args.disk.now)) (sym node.station) c.requires.owes)

pub returns : goal.returns
returns g c =
    let node = c.new-node.ensures in
    let ended = c.take_turns-ended in
    let new = ended.new in
    record {
      turns =
          subst
          (λ s. TookTurns (NodeEvents c.args.me) g.S.Station.course g.A.Air g.C.Clock.given (lent_party s c.args.disk.now c.args.air.now c.args.clock.now)
          (lent_party new.party.station new.disk new.air new.clock) c.args.terms.now ended.result) node.station
          (station-turns g.S.Station.me g.S.Station.course g.A.Air g.C.Clock.given c.args.terms.now c.args.me (lent_party c.new-node.result c.args.disk.now c.args.air.now c.args.clock.now)
          (lent_party new.party new.disk new.air new.clock) ended.result (ap (λ s. g.S.Station.me s) node.station ∙ c.requires.me) node.heard ended.ensures.turns);
    }
