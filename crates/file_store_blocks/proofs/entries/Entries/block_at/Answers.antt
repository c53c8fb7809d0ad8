use Rattle.std.proofs.Common.{◌≡◌, ◌<◌, Some, get_or, ap, sym, ◌∙◌, length, subst}
use Rattle.file_store_blocks.proofs.Names.{slice_get, slice_get-get_or, EntriesState, store_of, Run}
use Rattle.file_store_blocks.proofs.AnewLemmas.{at_says, entry_there, in_runs_range, run_at_is, says_at}
use Rattle.file_store_blocks.proofs.entries.Entries.block_at.Goals as goal

pub block-requires-clause-there : goal.block-requires-clause-there
block-requires-clause-there c =
    let view = ap (λ (s : EntriesState). s.files) c.self.view_is in
    in_runs_range c.self.inside.table.runs c.self.inside.files.items c.self.inside.next c.self.inside.table.limit c.self.invariant.0 _ view c.args.at c.requires.there

pub block-requires-clause-place : goal.block-requires-clause-place
block-requires-clause-place c =
    let view = ap (λ (s : EntriesState). s.files) c.self.view_is in
    let store = store_of c.args.self.now.files in
    let here = entry_there store.entries c.args.at c.requires.there in
    let within = at_says store c.args.at (λ f. c.args.place < length f.blocks) here.0 here.1 c.requires.within in
    subst (λ (r : Run). c.args.place < length r.blocks) (sym (run_at_is c.self.inside.table.runs c.self.inside.files.items c.self.inside.next c.self.inside.table.limit c.self.invariant.0 _ view c.args.at here.0 here.1)) within

pub returns : goal.returns
returns c =
    let view = ap (λ (s : EntriesState). s.files) c.self.view_is in
    let store = store_of c.args.self.now.files in
    says_at store c.args.at (λ f. slice_get f.blocks c.args.place ≡ Some c.block.result)
    (λ f is.
    let within = at_says store c.args.at (λ g. c.args.place < length g.blocks) f is c.requires.within in
    slice_get-get_or f.blocks c.args.place 0 within
    ∙ ap Some (sym (c.block.ensures ∙ ap (λ (r : Run). get_or r.blocks c.args.place 0) (run_at_is c.self.inside.table.runs c.self.inside.files.items c.self.inside.next c.self.inside.table.limit c.self.invariant.0 _ view c.args.at f is))))
