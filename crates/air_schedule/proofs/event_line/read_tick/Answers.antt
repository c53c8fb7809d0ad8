-- No other station ticks.
use Rattle.std.proofs.Common.{sym, ◌∙◌}
use Rattle.air_schedule.proofs.EventCases.{no_tick}
use Rattle.air_schedule.proofs.WordLemmas.{other_words}
use Rattle.air_schedule.proofs.event_line.read_tick.Goals as goal

pub returns-in-None : goal.returns-in-None
returns-in-None c = λ event h.
    no_tick event c.args.station.now (other_words _ _ (sym c.eq.ensures ∙ c.if-eq.false)) c.in-None.ensures.one_word h
