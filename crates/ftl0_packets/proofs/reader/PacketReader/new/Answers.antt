use Rattle.std.proofs.Common.{◌≡◌, ℕ, List, [], sym, subst, arith}
use Rattle.ftl0_packets.proofs.Names.{packets_of, rest_of, under_way}
use Rattle.ftl0_packets.proofs.StreamLemmas.{packets_of-less, rest_of-less}
use Rattle.ftl0_packets.proofs.reader.PacketReader.new.Goals as goal

pub returns-clause-none : goal.returns-clause-none
returns-clause-none c = subst (λ (xs : List ℕ). packets_of (under_way xs) ≡ []) (sym c.new.ensures) (packets_of-less [] (omega arith))

pub returns-clause-left : goal.returns-clause-left
returns-clause-left c = subst (λ (xs : List ℕ). rest_of (under_way xs) ≡ []) (sym c.new.ensures) (rest_of-less [] (omega arith))
