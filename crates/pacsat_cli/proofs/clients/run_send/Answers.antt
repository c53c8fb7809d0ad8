use Rattle.std.proofs.Common.{Err, refl, subst}
use Rattle.pacsat_cli.proofs.Names.{lent, seen, ClientTerms, SendRan, outside}
use Rattle.pacsat_cli.proofs.clients.run_send.Goals as goal

-- what a send that was refused came to, with the terms that were asked for
pub returns-in-Err : goal.returns-in-Err
returns-in-Err g c =
    let see = seen g.D.Disk g.A.Air g.C.Clock.given in
    let old = outside (lent c.args.disk.now c.args.air.now c.args.clock.now) c.args.shelf.now c.args.out.now in
    let new = outside (lent c.send.new.disk c.send.new.air c.send.new.clock) c.send.new.shelf c.args.out.now in
    let name = c.args.request.now.name.now in
    let ran : SendRan see g.S.Shelf g.O.Out old new c.terms_of-terms.result name c.status_of_stop.result =
    record {
      ended = Err c.in-Err.why;
      ends = c.in-Err.ensures.ends;
      causes = c.in-Err.ensures.causes;
      file = c.in-Err.ensures.file;
      notes = c.in-Err.ensures.notes;
      held = c.in-Err.ensures.held;
      of_shelf = c.in-Err.ensures.shelf;
      closes = (c.status_of_stop.ensures, refl);
    } in
    record {
      ran = subst (λ (terms : ClientTerms). SendRan see g.S.Shelf g.O.Out old new terms name c.status_of_stop.result)
          c.terms_of-terms.ensures ran;
    }
