use Rattle.std.proofs.Common.{◌≡◌, ℕ, ◌+◌, List, length, take, sym, ◌∙◌, ap, subst, arith}
use Rattle.file_journal.proofs.Names.{reading_at, record_of, with_record, up_to, Position, StandsOn, end_of, reads_now, at_told, if_told}
use Rattle.file_journal.proofs.PositionLemmas.{moved}
use Rattle.file_journal.proofs.journal.Journal.find_next.Goals as goal

pub returns-in-Some-clause-stands_on : goal.returns-in-Some-clause-stands_on
returns-in-Some-clause-stands_on g c =
    let D = g.D.Disk in
    let old = c.args.disk.now in
    let only = c.read_record.ensures.reads.only in
    let entry = record_of c.in-Some.kind c.read_record.new.room in
    let place : c.self.inside.place + (4 + length c.content.result.now) ≡ c.self.inside.place + 4 + length c.read_record.new.room = omega (arith, ap length c.content.ensures.octets) in
    moved _ (c.self.inside.place + (4 + length c.content.result.now)) entry place _ _ _ _ only.same_content (reads_now D old c.read_record.new.disk only)
    (if_told (D.content old) _ (λ octets told.
    let all = subst (λ (journal : Position). up_to (end_of journal) octets ≡ take c.args.end octets) (sym c.self.view_is) (at_told _ octets told c.requires.end.told) in
    ap (reading_at c.self.inside.place) all ∙ (at_told _ octets told (at_told _ c.in-Some.kind c.in-Some.is c.in_ok-read_record.ensures.found)).reading ∙ ap (λ (i : ℕ). with_record entry (reading_at i (take c.args.end octets))) (sym place)
    ∙ ap (λ (l : List ℕ). with_record entry (reading_at (c.self.inside.place + (4 + length c.content.result.now)) l)) (sym all)))
    (subst (λ (journal : Position). StandsOn D journal old) (sym c.self.view_is) c.requires.stands_on)
