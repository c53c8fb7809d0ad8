use Rattle.std.proofs.Common.{ℕ, List, ◌++◌, length}
use Rattle.ftl0_packets.proofs.Names.{Item, Stream, items_of}
use Rattle.ftl0_packets.proofs.stream.packets.Given as goal

-- whatever stream is left, the packets so far stand before it
abbrev pub invariant-loop-packet : goal.invariant-loop-packet
invariant-loop-packet l =
    (items : List Item) (left : List ℕ) → Stream l.rest items left → Stream l.octets (items_of l.found.items ++ items) left

abbrev pub decreases-loop-packet : goal.decreases-loop-packet
decreases-loop-packet l = length l.rest
