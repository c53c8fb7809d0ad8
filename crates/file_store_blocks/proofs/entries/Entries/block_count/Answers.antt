use Rattle.std.proofs.Common.{◌≡◌, ap, ◌∙◌, length}
use Rattle.file_store_blocks.proofs.Names.{EntriesState, store_of, Run}
use Rattle.file_store_blocks.proofs.AnewLemmas.{in_runs_range, run_at_is, says_at}
use Rattle.file_store_blocks.proofs.entries.Entries.block_count.Goals as goal

pub count-requires : goal.count-requires
count-requires c =
    let view = ap (λ (s : EntriesState). s.files) c.self.view_is in
    in_runs_range c.self.inside.table.runs c.self.inside.files.items c.self.inside.next c.self.inside.table.limit c.self.invariant.0 _ view c.args.at c.requires

pub returns-clause-count : goal.returns-clause-count
returns-clause-count c =
    let view = ap (λ (s : EntriesState). s.files) c.self.view_is in
    says_at (store_of c.args.self.now.files) c.args.at (λ f. c.count.result ≡ length f.blocks)
    (λ f is. c.count.ensures.count ∙ ap (λ (r : Run). length r.blocks) (run_at_is c.self.inside.table.runs c.self.inside.files.items c.self.inside.next c.self.inside.table.limit c.self.invariant.0 _ view c.args.at f is))
