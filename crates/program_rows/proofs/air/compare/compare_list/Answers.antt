-- The list is cut into pieces of some octets.
use Rattle.program_rows.proofs.air.compare.compare_list.Goals as goal

pub next-requires : goal.next-requires
next-requires c = c.loop-number.invariant
