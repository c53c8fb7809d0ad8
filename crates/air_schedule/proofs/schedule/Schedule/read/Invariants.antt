-- The lines that were read, and what is left of the text.
use Rattle.std.proofs.Common.{◌≡◌, ◌+◌, ◌≤◌, length}
use Rattle.air_schedule.proofs.Names.{IsSchedule, LinesThen, lines_of, parts_of}
use Rattle.air_schedule.proofs.schedule.Schedule.read.Given as goal

abbrev pub invariant-loop-rest : goal.invariant-loop-rest
invariant-loop-rest l =
    LinesThen (lines_of l.schedule) (parts_of l.rest) (parts_of l.text)
    × (l.line ≡ length (lines_of l.schedule) + 1)
    × (l.line + length l.rest ≤ length l.text + 1)
    × IsSchedule l.schedule

abbrev pub decreases-loop-rest : goal.decreases-loop-rest
decreases-loop-rest l = length l.rest
