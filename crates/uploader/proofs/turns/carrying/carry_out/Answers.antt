-- The job is asked, and the station of the client takes turns.
use Rattle.std.proofs.Common.{None, false, refl, sym, subst, ap, ◌∙◌}
use Rattle.uploader.proofs.Names.{CallSign, at, NodeEvents, seen, TookTurns, lent_party, HasAsked, IsClient, answer_of, client_course, ClientStation}
use Rattle.uploader.proofs.turns.CarriedLemmas.{came-asked, carries, may-asked, refused-carries}
use Rattle.uploader.proofs.turns.CourseLemmas.{owes-none}
use Rattle.uploader.proofs.turns.carrying.carry_out.Goals as goal

pub returns-in-Err : goal.returns-in-Err
returns-in-Err g c = record {
  carried = λ base is.
      refused-carries (seen g.D.Disk g.A.Air g.C.Clock.given) g.met.D.Disk.lasts_same c.args.client c.args.disk.now c.args.job c.requires.may c.args.polls base c.args.air.now c.args.clock.now c.ask.new.self
      (c.in-Err.ensures.refused ∙ c.sends_nothing.ensures.same);
}

pub drive-station-requires-clause-owes : goal.drive-station-requires-clause-owes
drive-station-requires-clause-owes g c =
    let station : ClientStation = record { client = c.ask.new.self; halted = false } in
    owes-none g.D.Disk (at station c.args.disk.now) refl (may-asked (seen g.D.Disk g.A.Air g.C.Clock.given) g.met.D.Disk.lasts_same c.args.client c.args.disk.now c.args.job c.requires.may c.ask.new.self
    (subst (λ old. HasAsked old c.ask.new.self) c.sends_nothing.ensures.same c.in-Ok.ensures.notes))

pub returns : goal.returns
returns g c =
    let see = seen g.D.Disk g.A.Air g.C.Clock.given in
    let drove = c.drive-station in
    let station : ClientStation = record { client = c.ask.new.self; halted = false } in
    let from = lent_party station c.args.disk.now c.args.air.now c.args.clock.now in
    let to = lent_party drove.result.0 drove.new.disk drove.new.air drove.new.clock in
    let has = subst (λ old. HasAsked old c.ask.new.self) c.sends_nothing.ensures.same c.in-Ok.ensures.notes in
    record {
      carried = λ base is.
          carries see g.met.D.Disk.lasts_same c.one_run_law.ensures c.one_step_law.ensures c.goes_law.ensures c.args.client base c.args.job from to
          (came-asked see g.met.D.Disk.lasts_same c.args.client c.args.disk.now c.args.job c.requires.may c.ask.new.self has base is (c.sends_nothing.ensures.quiet.silent base is)
          c.requires.asked.new c.requires.asked.go_with (c.in-Ok.ensures.asks base (subst (λ old. IsClient old base) (sym c.sends_nothing.ensures.same) is))) c.args.polls drove.result.1
          (subst (λ (me : CallSign). TookTurns (NodeEvents me) (client_course g.D.Disk) g.A.Air g.C.Clock.given from to (record { polls = c.args.polls; given = None; first = None }) drove.result.1)
          (c.me-me.ensures ∙ has.same.me ∙ is.me) drove.ensures.turns)
          c.answer_by.result (c.answer_by.ensures ∙ ap (answer_of drove.result.1) c.outcome-reached.ensures.outcome);
    }
