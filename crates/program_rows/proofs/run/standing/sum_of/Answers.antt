-- The octets of a complete entry are all there, and may be read.
use Rattle.std.proofs.Common.{arith}
use Rattle.file_store.specs.State.{store_in}
use Rattle.program_rows.proofs.Infos.{told-complete, told-held}
use Rattle.program_rows.proofs.run.standing.sum_of.Goals as goal

pub read_at-requires-clause-may : goal.read_at-requires-clause-may
read_at-requires-clause-may g c = record {
  ready = c.requires.ready;
  complete = told-complete (store_in c.args.store.now) c.args.number c.args.info c.requires.there c.requires.complete;
}

pub read_at-requires-clause-there : goal.read_at-requires-clause-there
read_at-requires-clause-there g c =
    let held = told-held (store_in c.args.store.now) c.args.number c.args.info c.requires.there in
    omega (arith, held, c.as_mut_slice.ensures.len, c.in_ok-resize.ensures.len)
