use Rattle.std.proofs.Common.{◌-◌, ◌<◌, length, drop, sym, ◌∙◌, arith, length-drop}
use Rattle.client_notes.proofs.Names.{take_all, All-from_get_or, octets_part}
use Rattle.client_notes.proofs.RecordLemmas.{length-part, start-in, start_lengths}
use Rattle.client_notes.proofs.reading.read_start.Goals as goal

pub returns : goal.returns
returns c =
    let content = c.args.content.now in
    let octets = All-from_get_or (λ octet. octet < 256) content 0 (λ i lt. omega (arith, c.type_inv.content i)) in
    let is = start_lengths content (sym c.if-not-is_start_len.ensures) in
    let name = length-part content 55 (length content - 55) (omega (arith, is.some)) in
    let digest = length-part content 22 32 (omega (arith, is.some)) in
    record {
      command =
          start-in content _ c.new.result c.le32-2.result c.in_ok-server.server c.in_ok-caller.caller c.if-not-is_start_len.ensures c.in_ok-server.ensures.call c.in_ok-caller.ensures.call (c.new.ensures ∙ c.le32.ensures) c.le32-2.ensures
          (take_all (length content - 55) (drop 55 content) (omega (arith, length-drop 55 content)));
      writable = (
        omega arith,
        c.in_ok-server.ensures.valid,
        c.in_ok-caller.ensures.valid,
        (octets_part content 55 (length content - 55) octets, omega (arith, name, is.some), omega (arith, name, is.whole, is.most)),
        omega arith,
        (octets_part content 22 32 octets, omega (arith, digest), omega (arith, digest)),
      );
    }
