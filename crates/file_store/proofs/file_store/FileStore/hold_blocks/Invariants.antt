use Rattle.std.proofs.Common.{◌≡◌, ◌*◌, drop}
use Rattle.file_store.proofs.Names.{grows, DoesTo, FitsBytes, waiting_with}
use Rattle.file_store.proofs.file_store.FileStore.hold_blocks.Given as goal

abbrev pub invariant-loop-block : goal.invariant-loop-block
invariant-loop-block g l = record {
  does : DoesTo g.D.Disk ⊥ l.fn.self l.self l.fn.disk l.disk (grows l.number l.block (waiting_with l.fn.self l.number l.bytes)) l.number;
  fits : FitsBytes l.self l.number l.later;
  left : waiting_with l.self l.number l.later ≡ drop (512 * l.block) (waiting_with l.fn.self l.number l.bytes);
}
