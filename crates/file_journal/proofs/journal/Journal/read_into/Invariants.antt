use Rattle.std.proofs.Common.{◌≡◌, ◌-◌, ◌^◌, IfSome}
use Rattle.file_journal.proofs.Names.{Reads, block_in, IsReadable, StandsOn}
use Rattle.file_journal.proofs.PositionLemmas.{IsOn}
use Rattle.file_journal.proofs.journal.Journal.read_into.Given as goal

abbrev pub invariant-loop : goal.invariant-loop
invariant-loop g l =
    (StandsOn g.D.Disk l.self l.disk
    × (l.self ≡ record l.fn.self { place = l.self.place; ended = l.self.ended })
    × Reads g.D.Disk ⊥ l.fn.disk l.disk
    × IfSome (g.D.Disk.content l.fn.disk) (λ octets. IsOn (g.L.Ledger.steps.step (block_in octets)) l.fn.self l.self (g.L.Ledger.state l.fn.ledger) (g.L.Ledger.state l.ledger) octets)
    × g.L.Ledger.by_records l.ledger
    × (g.L.Ledger.steps.number (g.L.Ledger.steps.kept (g.L.Ledger.state l.ledger)) ≡ g.L.Ledger.steps.number (g.L.Ledger.steps.kept (g.L.Ledger.state l.fn.ledger))))
    × IsReadable g.D.Disk l.self l.disk l.end

abbrev pub decreases-loop : goal.decreases-loop
decreases-loop g l = 2 ^ 63 - l.self.place
