-- A line that is none of a client or an event can't follow.
use Rattle.std.proofs.Common.{◌≡◌, ◌∷◌, ◌++◌, ap, sym, subst}
use Rattle.air_schedule.proofs.Names.{IsCause, NoLine, IsNoEvent, BeginSchedule, LineText, LineWords, client_line, lines_of, words_of}
use Rattle.air_schedule.proofs.LineLemmas.{line_is_text}
use Rattle.air_schedule.proofs.ScheduleLemmas.{one_line, no_line_follows}
use Rattle.air_schedule.proofs.schedule.Schedule.add.Goals as goal

pub returns-in_default-clause-none : goal.returns-in_default-clause-none
returns-in_default-clause-none c = λ _ said more h begin. c.in_default.ensures.cases.0 (line_is_text said c.args.line.now h)

pub returns-in-Some-clause-none : goal.returns-in-Some-clause-none
returns-in-Some-clause-none c = λ bad said more h begin.
    let text : c.in-Ok.line.now ≡ c.args.line.now = c.in-Ok.ensures.cases.0 in
    let client : LineText (client_line c.in-Some.call) c.args.line.now = subst (LineText (client_line c.in-Some.call)) text c.in-Some.ensures in
    let same : said ≡ client_line c.in-Some.call = one_line said (client_line c.in-Some.call) (words_of c.args.line.now) h client in
    c.add_client.ensures.none bad more (subst (λ line. BeginSchedule (lines_of c.args.self.now ++ line ∷ more)) same begin)

pub returns-in-Err-clause-none : goal.returns-in-Err-clause-none
returns-in-Err-clause-none c = λ bad said more h begin.
    let text : words_of c.args.line.now ≡ words_of c.in-Ok.line.now = ap words_of (sym c.in-Ok.ensures.cases.0) in
    let cause : c.in-Err.fault ≡ NoLine = cc (bad) in
    let none : IsNoEvent (words_of c.in-Ok.line.now) = subst (IsCause (IsNoEvent (words_of c.in-Ok.line.now))) cause c.in-Err.ensures in
    no_line_follows c.args.self.now said more (words_of c.in-Ok.line.now) c.in_default-read_client.ensures none (subst (LineWords said) text h) begin
