-- A line that is no text is none of a schedule.
use Rattle.air_schedule.proofs.Names.{window_line}
use Rattle.air_schedule.proofs.LineLemmas.{line_is_text}
use Rattle.air_schedule.proofs.window.read_window.Goals as goal

pub returns-in_default : goal.returns-in_default
returns-in_default c = λ size h. c.in_default.ensures.cases.0 (line_is_text (window_line size) c.args.line.now h)
