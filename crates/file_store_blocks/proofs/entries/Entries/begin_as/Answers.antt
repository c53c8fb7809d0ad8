use Rattle.std.proofs.Common.{rules, ◌≡◌, ◌+◌, ℕ, max, ◌∷◌, ◌<◌, [], ◌++◌, List, None, ap, sym, ◌∙◌, subst, length, arith}
use Rattle.file_store_blocks.proofs.Names.{IsCall, new_placed, with_later, AreKept, Becomes, EntriesState, PlacedFile, files_from, in_runs, store_of, Table, most_entries}
use Rattle.file_store_blocks.proofs.BeginLemmas.{begin_becomes, begin_kept, few_runs}
use Rattle.file_store_blocks.proofs.entries.Entries.begin_as.Goals as goal
use Rattle.file_store_blocks.proofs.entries.Entries.begin_as.Goals.{After-max-self-inside, After-self}

-- there are fewer files than a store may have
few : (c : After-self) → length c.self.inside.table.runs < most_entries
few c =
    let view = ap (λ (s : EntriesState). s.files) c.self.view_is in
    let call : IsCall c.args.caller = search rules in
    few_runs c.self.inside.table.runs c.self.inside.files.items c.self.inside.next c.self.inside.table.limit c.self.invariant.0 _ view c.args.number c.requires.rules c.args.caller c.args.length c.args.moment call c.requires.may

-- which number is next then
next_is : (c : After-max-self-inside) → c.max-self-inside.result ≡ max c.self.inside.next (c.args.number + 1)
next_is c = c.max-self-inside.ensures ∙ ap (λ (n : ℕ). max c.self.inside.next (n + 1)) c.get.ensures

pub begin-requires-clause-few : goal.begin-requires-clause-few
begin-requires-clause-few c = omega (arith, few (goal.at.begin-requires-clause-few c).After-self, c.self.invariant.2)

pub push_reserved-requires : goal.push_reserved-requires
push_reserved-requires c =
    omega (arith, few (goal.at.push_reserved-requires c).After-self, c.self.invariant.0.count, c.self.invariant.1, c.self.inside.files.ok.0)

pub invariant_of-self : goal.invariant_of-self
invariant_of-self c =
    let view = ap (λ (s : EntriesState). s.files) c.self.view_is in
    let call : IsCall c.args.caller = search rules in
    let table = c.begin.new.self in (
      subst (λ (fs : List PlacedFile). AreKept table.runs fs c.max-self-inside.result table.limit) (sym c.push_reserved.ensures.items)
          (subst (λ (n : ℕ). AreKept table.runs (c.self.inside.files.items ++ c.new-file.result ∷ []) n table.limit) (sym (next_is (goal.at.invariant_of-self c).After-max-self-inside))
          (begin_kept c.self.inside.table.runs c.self.inside.files.items c.self.inside.next c.self.inside.table.limit c.self.invariant.0 _ view c.args.number c.requires.rules c.args.caller c.args.length c.args.moment call c.requires.may
          table.runs _ table.limit c.new-file.result (ap (λ (t : Table). t.runs) c.begin.ensures) c.blocks_of_length.ensures (ap (λ (t : Table). t.limit) c.begin.ensures) c.new-file.ensures)),
      c.push_reserved.ensures.capacity ∙ c.self.invariant.1,
      ap (λ (t : Table). t.most) c.begin.ensures ∙ c.self.invariant.2,
    )

pub returns-clause-becomes : goal.returns-clause-becomes
returns-clause-becomes c =
    let view = ap (λ (s : EntriesState). s.files) c.self.view_is in
    let call : IsCall c.args.caller = search rules in
    let table = c.begin.new.self in
    let number = c.args.number in
    subst (λ (fs : List PlacedFile). Becomes c.args.self.now.files (files_from (in_runs table.runs fs) c.max-self-inside.result table.limit) (with_later (store_of c.args.self.now.files) (new_placed number c.args.caller c.args.length c.args.moment)) number None)
    (sym c.push_reserved.ensures.items)
    (subst (λ (n : ℕ). Becomes c.args.self.now.files (files_from (in_runs table.runs (c.self.inside.files.items ++ c.new-file.result ∷ [])) n table.limit) (with_later (store_of c.args.self.now.files) (new_placed number c.args.caller c.args.length c.args.moment)) number None) (sym (next_is (goal.at.returns-clause-becomes c).After-max-self-inside))
    (begin_becomes c.self.inside.table.runs c.self.inside.files.items c.self.inside.next c.self.inside.table.limit c.self.invariant.0 _ view c.args.number c.requires.rules c.args.caller c.args.length c.args.moment call c.requires.may
    table.runs _ table.limit c.new-file.result (ap (λ (t : Table). t.runs) c.begin.ensures) c.blocks_of_length.ensures (ap (λ (t : Table). t.limit) c.begin.ensures) c.new-file.ensures))
