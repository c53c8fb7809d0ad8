use Rattle.std.proofs.Common.{ℕ, Ok, subst}
use Rattle.pacsat_cli.proofs.Names.{lent, seen, ClientTerms, FetchRan, file_asked, outside}
use Rattle.pacsat_cli.proofs.clients.run_fetch.Goals as goal

-- what a fetch came to, with the terms and the number that were asked for
pub returns-in-Ok : goal.returns-in-Ok
returns-in-Ok g c =
    let see = seen g.D.Disk g.A.Air g.C.Clock.given in
    let old = outside (lent c.args.disk.now c.args.air.now c.args.clock.now) c.args.shelf.now c.args.out.now in
    let new = outside (lent c.fetch.new.disk c.fetch.new.air c.fetch.new.clock) c.fetch.new.shelf c.show_numbered.new.out in
    let asked = c.args.request.now in
    let name = asked.name.now in
    let status = c.show_numbered.result in
    let ran : FetchRan see g.S.Shelf g.O.Out old new (file_asked c.terms_of-terms.result c.new-number.result name) status =
    record {
      ended = Ok c.in-Ok.field-0;
      ends = c.in-Ok.ensures.ends;
      causes = c.in-Ok.ensures.causes;
      notes = c.in-Ok.ensures.notes;
      of_shelf = c.in-Ok.ensures.shelf;
      closes = c.show_numbered.ensures;
    } in
    let numbered = subst (λ (n : ℕ). FetchRan see g.S.Shelf g.O.Out old new (file_asked c.terms_of-terms.result n name) status)
    c.new-number.ensures ran in
    record {
      ran = subst (λ (terms : ClientTerms). FetchRan see g.S.Shelf g.O.Out old new (file_asked terms asked.number name) status)
          c.terms_of-terms.ensures numbered;
    }
