use Rattle.std.proofs.Common.{◌≡◌, ap, sym, ◌∙◌, arith}
use Rattle.file_store_blocks.proofs.Names.{EntriesState, seal_of, store_of, Placed}
use Rattle.file_store_blocks.proofs.AnewLemmas.{count_entries, file_at, says_at, some_same}
use Rattle.file_store_blocks.proofs.entries.Entries.mark_at.Goals as goal

pub returns : goal.returns
returns c =
    let view = ap (λ (s : EntriesState). s.files) c.self.view_is in
    says_at (store_of c.args.self.now.files) c.args.at (λ f. seal_of c.mark.result ≡ f.seal)
    (λ f is.
    let here = file_at c.self.inside.table.runs c.self.inside.files.items c.self.inside.next c.self.inside.table.limit c.self.invariant.0 _ view c.args.at c.index.result.now c.index.ensures (omega (arith, c.requires, count_entries c.self.inside.table.runs c.self.inside.files.items c.self.inside.next c.self.inside.table.limit c.self.invariant.0 _ view)) in
    c.mark.ensures ∙ sym (ap (λ (g : Placed). g.seal) (some_same (sym is ∙ here))))
