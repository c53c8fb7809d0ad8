-- What the buffer holds after octets were put to the packet under way.
use Rattle.std.proofs.Common.{ℕ, ◌-◌, min, ◌<◌, List, ◌++◌, length, sym, ap, ◌∙◌, subst, arith}
use Rattle.ftl0_packets.proofs.Names.{text_len}
use Rattle.ftl0_packets.proofs.OctetLemmas.{octets_from}
use Rattle.ftl0_packets.proofs.ReaderLemmas.{IsBuffer-filled}
use Rattle.ftl0_packets.proofs.reader.PacketReader.take_octets.Goals as goal

pub invariant_of-self : goal.invariant_of-self
invariant_of-self c =
    let front = c.self.inside.text in
    let less = subst (λ (xs : List ℕ). length xs < text_len xs) (sym c.self.view_is) c.begin_next.ensures.less in
    let ends = c.end_of-self-inside.ensures ∙ ap (λ (xs : List ℕ). text_len (xs ++ c.args.bytes.now)) c.as_slice.ensures.octets in
    let count = c.min-taken.ensures ∙ ap (λ (n : ℕ). min (c.end_of-self-inside.result - n) (length c.args.bytes.now)) c.len.ensures.len in
    IsBuffer-filled front c.args.bytes.now c.put.new.self c.min-taken.result c.end_of-self-inside.result
    c.self.invariant.filling less (octets_from c.args.bytes.now (λ i. omega (arith, c.type_inv.bytes i))) ends count c.put.ensures

pub returns-clause-filling : goal.returns-clause-filling
returns-clause-filling c = (invariant_of-self c).filling
