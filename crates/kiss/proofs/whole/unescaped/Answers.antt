use Rattle.std.proofs.Common.{arith}
use Rattle.kiss.proofs.Names.{take_rest}
use Rattle.kiss.proofs.Escapes.{read_more}
use Rattle.kiss.proofs.whole.unescaped.Goals as goal

pub loop-at-preserved : goal.loop-at-preserved
loop-at-preserved c = record {
  read = read_more c.args.piece.now c.loop-at.text.items _ c.loop-at.at c.in-Some.octet c.in-Some.len c.loop-at.invariant.read
      (rw take_rest at c.in-Some.ensures.found) c.in_ok-push.ensures.items;
  in_range = omega (arith, c.in-Some.ensures.len);
}
