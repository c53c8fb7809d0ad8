-- The line of the run so far is text.
use denote.Shadow.{shadow}
use denote.Text.{Utf8}
use Rattle.part_rows.proofs.frames.lines.put_lines.Given as goal

abbrev pub invariant-loop-line : goal.invariant-loop-line
invariant-loop-line l = shadow (Utf8 l.last)
