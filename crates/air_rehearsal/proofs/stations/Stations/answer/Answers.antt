-- By what came to the server.
use Rattle.std.proofs.Common.{sym, subst, ◌∙◌}
use Rattle.air_rehearsal.specs.declared.serving.ServerEvent.{ServerEvent}
use Rattle.air_rehearsal.proofs.Names.{AnswersEvent}
use Rattle.air_rehearsal.proofs.PlayParts.{on_ok, on_ok_of}
use Rattle.air_rehearsal.proofs.ServingKeeps.{keeps-self}
use Rattle.air_rehearsal.proofs.stations.Stations.answer.Goals as goal

pub returns-then-starved-clause-keeps : goal.returns-then-starved-clause-keeps
returns-then-starved-clause-keeps g c = keeps-self c.args.self.now

pub returns-in_default-clause-keeps : goal.returns-in_default-clause-keeps
returns-in_default-clause-keeps g c = keeps-self c.args.self.now

pub returns-in-Hear-clause-memory : goal.returns-in-Hear-clause-memory
returns-in-Hear-clause-memory g c = on_ok_of c.reply.result _ (sym c.starved.ensures ∙ c.if-starved.false)

pub returns-in-Tick-clause-memory : goal.returns-in-Tick-clause-memory
returns-in-Tick-clause-memory g c = on_ok_of c.say.result _ (sym c.starved.ensures ∙ c.if-starved.false)

pub returns-in-Hear-clause-answers : goal.returns-in-Hear-clause-answers
returns-in-Hear-clause-answers g c =
    on_ok c.reply.result _ _ c.reply.ensures.replies
    (λ replies store it is.
    subst
    (λ (e : ServerEvent).
    AnswersEvent e store it c.reply.new.server c.args.self.now.parties.items c.reply.new.self.parties.items)
    (sym c.in-Hear.is) (λ party at. replies store it party is at))

pub returns-in-Tick-clause-answers : goal.returns-in-Tick-clause-answers
returns-in-Tick-clause-answers g c =
    on_ok c.say.result _ _ c.say.ensures.says
    (λ says store it is.
    subst
    (λ (e : ServerEvent).
    AnswersEvent e store it c.say.new.server c.args.self.now.parties.items c.say.new.self.parties.items)
    (sym c.in-Tick.is) (says store it is))
