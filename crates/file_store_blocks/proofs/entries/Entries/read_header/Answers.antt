use Rattle.std.proofs.Common.{ℕ, List, ap, sym, subst}
use Rattle.file_store_blocks.proofs.Names.{on_ok_weaker, EntriesState, StandsIn, IsSealedHeader}
use Rattle.file_store_blocks.proofs.ChangeLemmas.{own_runs}
use Rattle.file_store_blocks.proofs.entries.Entries.read_header.Goals as goal

pub read_header-requires-clause-stands : goal.read_header-requires-clause-stands
read_header-requires-clause-stands g c =
    let view = ap (λ (s : EntriesState). s.files) c.self.view_is in
    let own = own_runs c.self.inside.table.runs c.self.inside.files.items c.self.inside.next c.self.inside.table.limit c.self.invariant.0 _ view in
    let reads = c.sealed_file-file.ensures c.self.inside.table own in
    subst (λ (n : ℕ). StandsIn c.self.inside.table n c.sealed_file-file.result.blocks) (sym c.requires.blocks) reads.stands

pub read_header-requires-clause-sealed : goal.read_header-requires-clause-sealed
read_header-requires-clause-sealed g c told =
    let view = ap (λ (s : EntriesState). s.files) c.self.view_is in
    let own = own_runs c.self.inside.table.runs c.self.inside.files.items c.self.inside.next c.self.inside.table.limit c.self.invariant.0 _ view in
    let reads = c.sealed_file-file.ensures c.self.inside.table own in
    reads.is (g.D.Disk.content c.args.disk.now) (c.requires.seals told)

pub read_header-requires-clause-inside : goal.read_header-requires-clause-inside
read_header-requires-clause-inside g c =
    let view = ap (λ (s : EntriesState). s.files) c.self.view_is in
    let own = own_runs c.self.inside.table.runs c.self.inside.files.items c.self.inside.next c.self.inside.table.limit c.self.invariant.0 _ view in
    let reads = c.sealed_file-file.ensures c.self.inside.table own in
    reads.inside

pub returns-clause-header : goal.returns-clause-header
returns-clause-header g c =
    let view = ap (λ (s : EntriesState). s.files) c.self.view_is in
    let own = own_runs c.self.inside.table.runs c.self.inside.files.items c.self.inside.next c.self.inside.table.limit c.self.invariant.0 _ view in
    let reads = c.sealed_file-file.ensures c.self.inside.table own in
    on_ok_weaker c.read_header.result
    (λ given told sealed.
    subst (λ (os : List ℕ). IsSealedHeader os c.read_header.new.header.items) (reads.octets (g.D.Disk.content c.args.disk.now) sealed)
    (given told))
    c.read_header.ensures.header
