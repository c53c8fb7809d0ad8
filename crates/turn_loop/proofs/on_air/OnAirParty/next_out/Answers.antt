-- What the station gives is given as KISS text.
use Rattle.std.proofs.Common.{◌≡◌, List, ℕ, ap, sym, ◌∙◌, subst}
use Rattle.turn_loop.proofs.Names.{kiss_text, GivesNext, at}
use Rattle.turn_loop.proofs.OnAirLemmas.{gave-all, gives-next}
use Rattle.turn_loop.proofs.on_air.OnAirParty.next_out.Goals as goal

pub returns-then-not-next_out-clause-all : goal.returns-then-not-next_out-clause-all
returns-then-not-next_out-clause-all g c is =
    gave-all g.S.Station.me g.S.Station.course (at c.args.self.now c.args.disk.now) c.next_out.new.self c.next_out.new.disk c.next_out.ensures.me (c.next_out.ensures.all c.if-not-next_out.true)

pub returns-clause-next : goal.returns-clause-next
returns-clause-next g c is =
    let said : kiss_text c.next_out.new.frame.items ≡ c.write_frame.new.out.items = ap kiss_text (sym c.deref.ensures.0) ∙ sym c.in-Ok.ensures.text in
    gives-next g.S.Station.me g.S.Station.course (at c.args.self.now c.args.disk.now) c.next_out.new.self c.next_out.new.disk c.next_out.ensures.me c.write_frame.new.out.items
    (subst (λ (t : List ℕ). GivesNext g.S.Station.course (at c.args.self.now.station c.args.disk.now) t (at c.next_out.new.self c.next_out.new.disk)) said (c.next_out.ensures.next c.if-not-next_out.false))
