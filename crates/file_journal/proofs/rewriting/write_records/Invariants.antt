use Rattle.std.proofs.Common.{ℕ, List, ◌≡◌, ◌+◌, ◌++◌, length, Ok}
use Rattle.file_journal.proofs.Names.{Record, records_text, Covers}
use Rattle.file_journal.proofs.rewriting.write_records.Given as goal

abbrev pub invariant-loop-kind : goal.invariant-loop-kind
invariant-loop-kind g l =
    (done : List Record)
    × (g.R.Records.left l.fn.records ≡ done ++ g.R.Records.left l.records)
    × (l.place ≡ l.fn.gate + length (records_text done))
    × Covers {T = ℕ} {E = ℕ} g.D.Disk (length done) l.fn.gate (records_text done) l.fn.disk l.disk (Ok l.place)

abbrev pub decreases-loop-kind : goal.decreases-loop-kind
decreases-loop-kind g l = length (g.R.Records.left l.records)
