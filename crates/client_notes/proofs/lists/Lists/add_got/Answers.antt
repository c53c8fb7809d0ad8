use Rattle.std.proofs.Common.{◌≡◌, ◌+◌, ◌≤◌, List, length, Some, sym, ◌∙◌, ap, subst, ℕ}
use Rattle.client_notes.proofs.Names.{position, slice_set, longest_file, cut_to, changed_at, with_got, GotFile, Lists, got_of, is_file_of}
use Rattle.client_notes.proofs.ListLemmas.{back-got, got-fits, got-there, lists_of, place-within, same-file, with-got}
use Rattle.client_notes.proofs.lists.Lists.add_got.Goals as goal
use Rattle.client_notes.proofs.lists.Lists.add_got.Goals.{After-index_mut}

-- the place is that of the file
at : (c : After-index_mut) → position (is_file_of c.args.server c.args.number) c.self.inside.got.items ≡ Some c.in-Some.place
at c = ap (λ (l : Lists). position (is_file_of c.args.server c.args.number) l.got) c.self.view_is ∙ sym c.in-Some.ensures

pub append-requires : goal.append-requires
append-requires c =
    let file = c.index_mut.result.now in
    let there : got_of c.args.self.now c.args.server c.args.number ≡ c.index_mut.result.now.octets =
    ap (λ (l : Lists). got_of l c.args.server c.args.number) (sym c.self.view_is)
    ∙ got-there c.args.server c.args.number c.args.octets.now c.self.inside.got.items c.in-Some.place file (at c) (sym c.index_mut.ensures.value) in
    subst (λ (os : List ℕ). length os + length c.args.octets.now ≤ longest_file) there (got-fits c.args.self.now c.args.server c.args.number c.args.octets.now c.requires)

pub returns-in_ok-append-in-Some-clause-got : goal.returns-in_ok-append-in-Some-clause-got
returns-in_ok-append-in-Some-clause-got c =
    let before = (goal.at.returns-in_ok-append-in-Some-clause-got c).After-index_mut in
    ap (lists_of c.self.inside.tasks.items)
    (with-got c.args.server c.args.number c.args.octets.now c.self.inside.got.items c.in-Some.place c.index_mut.result.now (at before) (sym c.index_mut.ensures.value) c.append.new.self c.in_ok-append-in-Some.ensures.ok)
    ∙ ap (λ (l : Lists). lists_of l.tasks (with_got c.args.server c.args.number c.args.octets.now l.got)) c.self.view_is

pub returns-in_ok-append-in-Some-clause-back : goal.returns-in_ok-append-in-Some-clause-back
returns-in_ok-append-in-Some-clause-back c =
    let before = (goal.at.returns-in_ok-append-in-Some-clause-back c).After-index_mut in
    let files = c.self.inside.got.items in
    let place = c.in-Some.place in
    let file = c.index_mut.result.now in
    let is = sym c.index_mut.ensures.value in
    let within = place-within c.args.server c.args.number c.args.octets.now files place file (at before) is in
    let same : c.index.result.now ≡ c.index_mut.result.now = same-file files place c.index.result.now file within c.index.ensures c.index_mut.ensures.value in
    let octets : c.octets-len.result.now ≡ c.index_mut.result.now.octets = c.octets-len.ensures.octets ∙ ap (λ (f : GotFile). f.octets) same in
    ap (λ (os : List ℕ). changed_at c.in-Some.place (cut_to (length os)) (slice_set c.self.inside.got.items c.in-Some.place c.append.new.self)) octets
    ∙ back-got c.args.server c.args.number c.args.octets.now files place file (at before) is c.append.new.self c.in_ok-append-in-Some.ensures.ok
    ∙ ap (λ (l : Lists). l.got) c.self.view_is
