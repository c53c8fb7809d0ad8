-- No event is cut at call 0.
use Rattle.std.proofs.Common.{◌≡◌, [], ◌∷◌, codes, decimal, subst, ap}
use Rattle.air_schedule.proofs.Names.{EventText, words_of}
use Rattle.air_schedule.proofs.EventCases.{zero_cut}
use Rattle.air_schedule.proofs.event_line.read_cut.Goals as goal

pub returns-then-call-eq0 : goal.returns-then-call-eq0
returns-then-call-eq0 c = λ event h.
    let zero : decimal c.in_ok-call.call ≡ decimal 0 = ap decimal c.if-call-eq0.true in
    let split : words_of c.args.fields.now ≡ c.in_ok-station.station.now ∷ decimal 0 ∷ decimal c.in_ok-call.choice ∷ []
    = cc (c.in_ok-station.ensures, c.in_ok-call.ensures, zero) in
    zero_cut event c.in_ok-station.station.now c.in_ok-call.choice (subst (λ words. EventText event (codes "cut" ∷ words)) split h)
