use Rattle.std.proofs.Common.{◌-◌, ◌<◌, length, arith}
use Rattle.client_notes.proofs.Names.{common_steps, All-from_get_or, octets_part}
use Rattle.client_notes.proofs.RecordLemmas.{length-part}
use Rattle.client_notes.proofs.reading.read_got.Goals as goal

pub returns : goal.returns
returns c =
    let content = c.args.content.now in
    let octets = All-from_get_or (λ octet. octet < 256) content 0 (λ i lt. omega (arith, c.type_inv.content i)) in
    let whole = length-part content 11 (length content - 11) (omega arith) in
    record {
      command = grind (arith, common_steps);
      writable = (
        c.in_ok-server.ensures.valid,
        omega arith,
        (octets_part content 11 (length content - 11) octets, omega (arith, whole), omega (arith, whole)),
      );
    }
