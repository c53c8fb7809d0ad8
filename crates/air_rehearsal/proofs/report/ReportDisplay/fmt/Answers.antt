-- What is written is the same text, however its parts are joined.
use Rattle.std.proofs.Common.{append_assoc}
use Rattle.air_rehearsal.proofs.report.ReportDisplay.fmt.Goals as goal

pub returns-clause-writes : goal.returns-clause-writes
returns-clause-writes g c plain ok =
    let written = c.write.ensures.writes plain ok in simp append_assoc (simp append_assoc at written)
