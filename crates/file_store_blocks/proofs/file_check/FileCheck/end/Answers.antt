use Rattle.std.proofs.Common.{arith}
use Rattle.file_store_blocks.proofs.BlankedLemmas.{seal_sum, sealed_len, sealed_short}
use Rattle.file_store_blocks.proofs.file_check.FileCheck.end.Goals as goal

pub overflow_cast-result : goal.overflow_cast-result
overflow_cast-result c = omega (arith, sealed_short c.requires.1 c.in-Ok.sums (c.in-Ok.ensures.ok c.requires.1 c.requires.2.checked))

pub returns-in-Ok : goal.returns-in-Ok
returns-in-Ok c = λ stamp fed has. record {
  faultless = c.in-Ok.ensures.code fed has.checked;
  sum_is = seal_sum stamp c.args.self.now fed c.in-Ok.sums has (c.in-Ok.ensures.ok fed has.checked);
  len_is = sealed_len fed c.in-Ok.sums (c.in-Ok.ensures.ok fed has.checked);
}
