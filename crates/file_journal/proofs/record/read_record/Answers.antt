use Rattle.std.proofs.Common.{rules, ◌≡◌, ◌+◌, ◌<◌, ◌++◌, List, ℕ, take, ◌∙◌, arith, ap, drop, subst, sym}
use Rattle.file_journal.proofs.Names.{common_steps, HasRecord, record_of, length-take-le, places, same_lists, at_told, if_told}
use Rattle.file_journal.proofs.ReadingLemmas.{closed_there, damaged_there, past_end, record_there, refuses_at}
use Rattle.file_journal.proofs.record.read_record.Goals as goal

pub returns-then-place-end-clause-refuses : goal.returns-then-place-end-clause-refuses
returns-then-place-end-clause-refuses g c = grind (arith, common_steps, refuses_at, past_end)

-- what was read is the front of what stands from the place on
pub returns-in-Closed-clause-none : goal.returns-in-Closed-clause-none
returns-in-Closed-clause-none g c is = grind (arith, common_steps, length-take-le, closed_there)

pub returns-in-Damaged-clause-refuses : goal.returns-in-Damaged-clause-refuses
returns-in-Damaged-clause-refuses g c = grind (arith, common_steps, length-take-le, refuses_at, damaged_there)

pub returns-in-Record-clause-found : goal.returns-in-Record-clause-found
returns-in-Record-clause-found g c =
    if_told (g.D.Disk.content c.args.disk.now) _ (λ octets told.
    let front = at_told _ octets told c.in_ok-read.ensures.room ∙ ap (λ (n : ℕ). take n (drop c.args.place octets)) (length-take-le c.min-count.result _ (omega (arith, c.min-count.ensures))) in
    subst (λ (octets_in : List ℕ). HasRecord c.args.place (record_of c.in-Record.kind octets_in) (take c.args.end octets)) (sym (same_lists _ _ (search (rules, places)) (λ k d below. grind (arith, places))))
    (record_there c.args.place c.min-count.result c.args.end octets c.read.new.room (omega (arith, c.if-place-end.false)) (at_told _ octets told c.requires.end.told) c.min-count.ensures front c.in-Record.kind c.in-Record.len c.in-Record.ensures))
