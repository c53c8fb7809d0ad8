-- The notes tell whether the client holds an acknowledgement of the task's file.
use Rattle.std.proofs.Common.{◌≡◌, ℕ, Bool, Some, ap, sym, subst, ◌∙◌, rules}
use Rattle.client_notes.specs.declared.answers.Noted.TheVariants as noted
use Rattle.air_rehearsal.proofs.Names.{same_Some, noted_at, Lists, NotesState, HoldsAck, TellsThen, acked_more}
use Rattle.air_rehearsal.proofs.AckedLemmas.{counts-not, counts-one}
use Rattle.air_rehearsal.proofs.KeptLemmas.{acked-number}
use Rattle.air_rehearsal.proofs.stations.Stations.count_task.Goals as goal

pub returns-in_default-clause-counts : goal.returns-in_default-clause-counts
returns-in_default-clause-counts g c seat at =
    let lists : c.notes.result.now.lists ≡ seat.party.client.lists =
    ap (λ (notes : NotesState). notes.lists) c.notes.ensures ∙ at.plays.client.lists
    in
    counts-not (record { party = seat.party; task = c.args.task }) c.args.report.now
    (λ acked.
    let there = c.noted_task.ensures ∙ ap (λ (them : Lists). noted_at them c.args.task) lists ∙ acked.1 in
    c.in_default.not-Some _ there)

pub returns-in_default-noted-clause-counts : goal.returns-in_default-noted-clause-counts
returns-in_default-noted-clause-counts g c seat at =
    let lists : c.notes.result.now.lists ≡ seat.party.client.lists =
    ap (λ (notes : NotesState). notes.lists) c.notes.ensures ∙ at.plays.client.lists
    in
    counts-not (record { party = seat.party; task = c.args.task }) c.args.report.now
    (λ acked.
    let there = c.noted_task.ensures ∙ ap (λ (them : Lists). noted_at them c.args.task) lists ∙ acked.1 in
    c.in_default-noted.not-Acked c.args.task acked.0 (same_Some _ _ (sym c.in-Some.is ∙ there)))

pub returns-clause-counts : goal.returns-clause-counts
returns-clause-counts g c seat at =
    let task = c.args.task in
    let number = c.in-Acked.number in
    let other = c.in-Acked.task in
    let lists : c.notes.result.now.lists ≡ seat.party.client.lists =
    ap (λ (notes : NotesState). notes.lists) c.notes.ensures ∙ at.plays.client.lists
    in
    let told : c.noted_task.result ≡ Some (noted.Acked other number) = search rules in
    let there : noted_at seat.party.client.lists task ≡ Some (noted.Acked other number) =
    ap (λ (them : Lists). noted_at them task) (sym lists) ∙ sym c.noted_task.ensures ∙ told
    in
    let holds : HoldsAck seat.party task number =
    subst (λ (it : ℕ). noted_at seat.party.client.lists task ≡ Some (noted.Acked it number))
    (acked-number seat.party.client.lists task other number there) there
    in
    let kept = c.in_ok-is_kept.ensures.kept seat at holds in
    counts-one (record { party = seat.party; task = task }) c.args.report.now c.count_acked.new.self (number, holds)
    (subst (λ (is : Bool). TellsThen (acked_more is) c.args.report.now c.count_acked.new.self) kept
    c.count_acked.ensures)
