-- What is read is what the type and the information say.
use Rattle.std.proofs.Common.{◌≡◌, rules, arith, sym, subst}
use Rattle.ftl0_packets.proofs.Names.{is_malformed, malformed_in, read_item, Item, PacketText, item_of}
use Rattle.ftl0_packets.proofs.OctetLemmas.{octets_from}
use Rattle.ftl0_packets.proofs.TextLemmas.{PacketText-whole}
use Rattle.ftl0_packets.proofs.text.read_text.Goals as goal

pub returns-clause-item : goal.returns-clause-item
unfolding read_item
returns-clause-item c = search rules

pub returns-clause-malformed : goal.returns-clause-malformed
unfolding is_malformed
returns-clause-malformed c = search rules

pub returns-clause-fault : goal.returns-clause-fault
unfolding malformed_in
returns-clause-fault c = search rules

pub returns-clause-text : goal.returns-clause-text
unfolding read_item
returns-clause-text c =
    let says : item_of c.read_information.result ≡ read_item c.args.octets.now = search rules in
    subst (λ (item : Item). PacketText item c.args.octets.now) (sym says)
    (PacketText-whole c.args.octets.now c.requires (octets_from c.args.octets.now (λ i. omega (arith, c.type_inv.octets i))))
