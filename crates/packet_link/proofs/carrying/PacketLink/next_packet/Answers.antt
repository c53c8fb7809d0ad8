-- What is taken is put to the packet under way.
use Rattle.std.proofs.Common.{ℕ, List, ◌∷◌, subst, sym, ◌∙◌, arith, length-drop}
use Rattle.packet_link.specs.Inside.{packet_link_state}
use Rattle.packet_link.proofs.Names.{packets_of, read_item, rest_of, octets_from, FindsPacket, PacketLinkState}
use Rattle.packet_link.proofs.ReaderLemmas.{some-of, waits-after, with-none}
use Rattle.packet_link.proofs.carrying.PacketLink.next_packet.Goals as goal

pub invariant_of-self : goal.invariant_of-self
invariant_of-self c =
    record {
      some = c.self.invariant.some;
      waiting =
          waits-after c.self.inside.reader c.feed-taken.new.self c.args.octets.now c.feed-taken.result.0 c.self.invariant.waiting (octets_from c.args.octets.now (λ i. omega (arith, c.type_inv.octets i)))
          c.feed-taken.ensures.octets c.feed-taken.ensures.none c.feed-taken.ensures.left;
    }

pub returns-clause-found : goal.returns-clause-found
returns-clause-found c =
    let now = packet_link_state (record { link = c.self.inside.link; reader = c.feed-taken.new.self }) in
    let P : PacketLinkState → List ℕ → Type 0 = λ s left. FindsPacket s now c.args.octets.now left in
    subst (λ (s : PacketLinkState). P s c.split_at.result.1.now) c.self.view_is
    (rw c.split_at.ensures.back (record {
      whole = c.feed-taken.ensures.readable.0 c.in-Whole.is;
      front = record {
        packets = with-none packets_of (λ octets. read_item c.feed-taken.new.self ∷ packets_of octets) _ _ _ _ (c.feed-taken.ensures.found c.in-Whole.is);
        rest = with-none rest_of rest_of _ _ _ _ c.feed-taken.ensures.rest;
      };
      fewer = omega (arith, length-drop c.feed-taken.result.0 c.args.octets.now, c.feed-taken.ensures.progress (some-of c.args.octets.now (sym c.is_empty.ensures ∙ c.if-is_empty.false)));
    }))
