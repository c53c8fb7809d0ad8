use Rattle.std.proofs.Common.{◌≡◌, ◌+◌, ℕ, List, ◌++◌, length}
use Rattle.pfh_reader.proofs.Names.{Extends, fed_len}
use Rattle.pfh_reader.proofs.checker.Checker.feed.Given as goal

-- those that were taken stand before those that are left
abbrev pub invariant-loop-rest : goal.invariant-loop-rest
invariant-loop-rest l =
    record {
      taken : (done : List ℕ) × (done ++ l.rest ≡ l.piece) × Extends l.initial.self l.self done;
      len : fed_len l.self + length l.rest ≡ fed_len l.initial.self + length l.piece;
    }

abbrev pub decreases-loop-rest : goal.decreases-loop-rest
decreases-loop-rest l = length l.rest
