use Rattle.std.proofs.Common.{◌≡◌, List, ℕ, length, IfSome, Option, Err, sym, subst}
use Rattle.file_journal.proofs.Names.{ReadsNext, told_weaker}
use Rattle.file_journal.proofs.ReadingLemmas.{readable_of}
use Rattle.file_journal.proofs.journal.Journal.next.Goals as goal

-- what the room holds makes no difference to a refusal
pub returns-in-Err-clause-next : goal.returns-in-Err-clause-next
returns-in-Err-clause-next g c healthy =
    let reads = λ (octets : List ℕ). ReadsNext c.args.self.now c.find_next.new.self c.args.room.now.items octets (Err c.in-Err.fault) in
    subst (λ (content : Option (List ℕ)). IfSome content reads) c.len.ensures.only_reads.same_content
    (told_weaker (g.D.Disk.content c.len.new.self) _ reads (λ octets told answers. record { found = tt; none = answers.none; damaged = answers.damaged })
    (c.in-Err.ensures.next healthy))

pub find_next-requires-clause-end : goal.find_next-requires-clause-end
find_next-requires-clause-end g c =
    readable_of g.D.Disk c.args.self.now c.len.new.self c.in_ok-len.field-0 c.readable-end.result c.readable-end.ensures
    (subst (λ (content : Option (List ℕ)). IfSome content (λ octets. c.in_ok-len.field-0 ≡ length octets)) (sym c.len.ensures.only_reads.same_content) c.in_ok-len.ensures.len) c.in_ok-len.ensures.most
