-- From the last task on, the first that was acknowledged is the last one.
use Rattle.std.proofs.Common.{◌≡◌, ℕ, ◌-◌, ap, subst, ◌∙◌, arith}
use Rattle.air_rehearsal.proofs.Names.{noted_at, Lists, task_count, NotesState, is_acked, number_if_acked}
use Rattle.air_rehearsal.proofs.LastTasks.{NonePasses, acked-found, acked-more, acked-some, none-acked}
use Rattle.air_rehearsal.proofs.party.Party.last_acked.Goals as goal

pub returns-in-Some-clause-last : goal.returns-in-Some-clause-last
returns-in-Some-clause-last c seat is =
    let lists = seat.party.client.lists in
    let back = c.loop-back.back in
    let same : c.notes-notes.result.now.lists ≡ lists =
    ap (λ (notes : NotesState). notes.lists) c.notes-notes.ensures ∙ is.plays.client.lists in
    let count : c.tasks.result ≡ task_count lists = c.tasks.ensures.count ∙ ap task_count same in
    let task : c.new-task.result ≡ task_count lists - back = c.new-task.ensures ∙ ap (λ (n : ℕ). n - back) count in
    let end : c.tasks-back-end.result ≡ task_count lists = c.tasks-back-end.ensures.count ∙ ap task_count same in
    let told : c.noted_task.result ≡ noted_at lists (task_count lists - back) =
    c.noted_task.ensures ∙ ap (λ (l : Lists). noted_at l c.new-task.result) same ∙ ap (noted_at lists) task in
    acked-found lists back (omega (arith, c.loop-back-test.true, end))
    (subst (λ (l : Lists). NonePasses is_acked l back) is.plays.client.lists c.loop-back.invariant) c.in-Some.number
    (c.in-Some.ensures ∙ ap number_if_acked told)

pub returns-in-Some-clause-some : goal.returns-in-Some-clause-some
returns-in-Some-clause-some c seat is =
    let lists = seat.party.client.lists in
    let back = c.loop-back.back in
    let same : c.notes-notes.result.now.lists ≡ lists =
    ap (λ (notes : NotesState). notes.lists) c.notes-notes.ensures ∙ is.plays.client.lists in
    let count : c.tasks.result ≡ task_count lists = c.tasks.ensures.count ∙ ap task_count same in
    let task : c.new-task.result ≡ task_count lists - back = c.new-task.ensures ∙ ap (λ (n : ℕ). n - back) count in
    let told : c.noted_task.result ≡ noted_at lists (task_count lists - back) =
    c.noted_task.ensures ∙ ap (λ (l : Lists). noted_at l c.new-task.result) same ∙ ap (noted_at lists) task in
    acked-some seat.world seat.c seat.party (task_count lists - back) c.in-Some.number is.sound is.is_party
    (c.in-Some.ensures ∙ ap number_if_acked told)

pub loop-back-preserved : goal.loop-back-preserved
loop-back-preserved c =
    let lists = c.args.self.now.client.notes.lists in
    let back = c.loop-back.back in
    let same : c.notes-notes.result.now.lists ≡ lists = ap (λ (notes : NotesState). notes.lists) c.notes-notes.ensures in
    let count : c.tasks.result ≡ task_count lists = c.tasks.ensures.count ∙ ap task_count same in
    let task : c.new-task.result ≡ task_count lists - back = c.new-task.ensures ∙ ap (λ (n : ℕ). n - back) count in
    let end : c.tasks-back-end.result ≡ task_count lists = c.tasks-back-end.ensures.count ∙ ap task_count same in
    let told : c.noted_task.result ≡ noted_at lists (task_count lists - back) =
    c.noted_task.ensures ∙ ap (λ (l : Lists). noted_at l c.new-task.result) same ∙ ap (noted_at lists) task in
    acked-more lists back (omega (arith, c.loop-back-test.true, end)) c.loop-back.invariant
    (c.in_default.ensures ∙ ap number_if_acked told)

pub returns-clause-last : goal.returns-clause-last
returns-clause-last c seat is =
    let lists = seat.party.client.lists in
    let same : c.notes-notes.result.now.lists ≡ lists =
    ap (λ (notes : NotesState). notes.lists) c.notes-notes.ensures ∙ is.plays.client.lists in
    let end : c.tasks-back-end.result ≡ task_count lists = c.tasks-back-end.ensures.count ∙ ap task_count same in
    none-acked lists c.loop-back.back (omega (arith, c.loop-back-test.false, end))
    (subst (λ (l : Lists). NonePasses is_acked l c.loop-back.back) is.plays.client.lists c.loop-back.invariant)
