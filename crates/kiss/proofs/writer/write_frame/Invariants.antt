use Rattle.std.proofs.Common.{◌≡◌, ◌+◌, ◌≤◌, ◌*◌, ◌∷◌, take}
use Rattle.arrayvec.specs.ArrayVec.{array_vec_len}
use Rattle.kiss.proofs.Names.{fend, data_on_port_0, escape}
use Rattle.kiss.proofs.writer.write_frame.Given as goal

abbrev pub invariant-loop-octet : goal.invariant-loop-octet
invariant-loop-octet g l = record {
  text : l.out.items ≡ fend ∷ data_on_port_0 ∷ escape (take l.octet-index l.bytes);
  room : array_vec_len l.out ≤ 2 + 2 * l.octet-index;
}
