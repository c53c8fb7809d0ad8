use Rattle.std.proofs.Common.{◌≡◌, ℕ, ◌<◌, get_or, take, drop}
use Rattle.pfh_writer.proofs.StepLemmas.{StampsOn}
use Rattle.pfh_writer.proofs.stamper.Stamper.feed.Given as goal

-- so many octets were passed, and the others are as they were
abbrev pub invariant-loop-octet : goal.invariant-loop-octet
invariant-loop-octet l = record {
  octets : (i : ℕ) → get_or l.initial.piece i 0 < 256;
  passed : StampsOn l.initial.self l.self (take l.octet-index l.initial.piece) (take l.octet-index l.piece);
  rest : drop l.octet-index l.piece ≡ drop l.octet-index l.initial.piece;
}
