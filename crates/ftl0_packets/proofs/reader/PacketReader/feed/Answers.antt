-- What the buffer holds says the answer, and what it says of the stream.
use Rattle.std.proofs.Common.{◌≡◌, ℕ, List, ◌++◌, drop, sym, ap, ◌∙◌}
use Rattle.ftl0_packets.proofs.Names.{under_way, packets_of, rest_of}
use Rattle.ftl0_packets.proofs.ReaderLemmas.{IsPartial-fewer, IsAnswer, answer_of, Whole-is, More-is, packets_of-found, packets_of-waits, rest_of-fed, under_way-less, resplit}
use Rattle.ftl0_packets.proofs.StreamLemmas.{packets_of-less, rest_of-less}
use Rattle.ftl0_packets.proofs.reader.PacketReader.feed.Goals as goal

answer : (c : goal.After-fed) → IsAnswer c.take_octets-taken.new.self c.fed.result
answer c = answer_of _ _ c.fed.ensures

-- the octets before and after the call, whatever comes later
front : (c : goal.After-fed) (later : List ℕ) → under_way c.args.self.now ++ (c.args.bytes.now ++ later)
    ≡ c.take_octets-taken.new.self ++ (drop c.take_octets-taken.result c.args.bytes.now ++ later)
front c later =
    resplit (under_way c.args.self.now) c.args.bytes.now later c.take_octets-taken.result
    ∙ ap (λ (xs : List ℕ). xs ++ (drop c.take_octets-taken.result c.args.bytes.now ++ later)) (sym c.take_octets-taken.ensures.octets)

pub returns-clause-whole : goal.returns-clause-whole
returns-clause-whole c = Whole-is c.take_octets-taken.new.self c.fed.result c.take_octets-taken.ensures.filling (answer c)

pub returns-clause-partial : goal.returns-clause-partial
returns-clause-partial c = More-is c.take_octets-taken.new.self c.fed.result c.take_octets-taken.ensures.filling (answer c)

pub returns-clause-found : goal.returns-clause-found
returns-clause-found c whole later =
    ap packets_of (front c later)
    ∙ packets_of-found c.take_octets-taken.new.self c.fed.result c.take_octets-taken.ensures.filling (answer c)
    (drop c.take_octets-taken.result c.args.bytes.now ++ later) whole

pub returns-clause-waits : goal.returns-clause-waits
returns-clause-waits c more later =
    ap packets_of (front c later)
    ∙ packets_of-waits c.take_octets-taken.new.self c.fed.result c.take_octets-taken.ensures.filling (answer c)
    (drop c.take_octets-taken.result c.args.bytes.now ++ later) more

pub returns-clause-rest : goal.returns-clause-rest
returns-clause-rest c later =
    ap rest_of (front c later)
    ∙ rest_of-fed c.take_octets-taken.new.self c.fed.result c.take_octets-taken.ensures.filling (answer c)
    (drop c.take_octets-taken.result c.args.bytes.now ++ later)

pub returns-clause-none : goal.returns-clause-none
returns-clause-none c =
    packets_of-less (under_way c.take_octets-taken.new.self)
    (under_way-less c.take_octets-taken.new.self c.take_octets-taken.ensures.filling)

pub returns-clause-left : goal.returns-clause-left
returns-clause-left c =
    rest_of-less (under_way c.take_octets-taken.new.self)
    (under_way-less c.take_octets-taken.new.self c.take_octets-taken.ensures.filling)

pub returns-clause-no_more : goal.returns-clause-no_more
returns-clause-no_more c n below =
    IsPartial-fewer (under_way c.args.self.now) c.args.bytes.now c.take_octets-taken.new.self c.take_octets-taken.result n
    c.take_octets-taken.ensures.filling
    c.take_octets-taken.ensures.octets
    below c.take_octets-taken.ensures.taken
