-- The packets so far and the first of what is left.
use Rattle.std.proofs.Common.{List, [], ◌++◌, refl, subst}
use Rattle.ftl0_packets.proofs.Names.{append-nil, Item, Stream, items_of}
use Rattle.ftl0_packets.proofs.stream.packets.Goals as goal

pub returns : goal.returns
returns c =
    let all : Stream c.args.octets.now (items_of c.loop-packet.found.items ++ []) c.loop-packet.rest.now = c.loop-packet.invariant [] c.loop-packet.rest.now (refl, c.in_default.ensures.none) in
    subst (λ (items : List Item). Stream c.args.octets.now items c.loop-packet.rest.now) (append-nil (items_of c.loop-packet.found.items)) all
