use Rattle.std.proofs.Common.{◌<◌, ◌∙◌, length, arith}
use Rattle.real_outside.proofs.Wholes.{whole_answer}
use Rattle.real_outside.proofs.shelf.loading.read_whole.Goals as goal

pub returns-clause-answer : goal.returns-clause-answer
returns-clause-answer g c =
    let octets = c.read_to_end-read.new.buf in
    let small : length octets.items < 9223372036854775808 = omega (arith, octets.ok.0, octets.ok.1, octets.small) in
    let one_more = c.take.ensures.limit ∙ c.saturating_add.ensures in
    rw (← c.take.ensures.inner)
    (whole_answer _ c.read_to_end-read.result _ octets.items _ _ _ c.reading_answer.ensures.reading one_more small c.new-octets.ensures.items c.read_to_end-read.ensures.bytes)
