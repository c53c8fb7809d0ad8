use Rattle.std.proofs.Common.{◌+◌, ◌≤◌, ℕ, List, length, ap, sym, subst}
use Rattle.file_store_blocks.proofs.Names.{on_ok_weaker, EntriesState, StandsIn, FillsRoom}
use Rattle.file_store_blocks.proofs.ChangeLemmas.{own_runs}
use Rattle.file_store_blocks.proofs.entries.Entries.read_sealed.Goals as goal

pub read_stamped-requires-clause-stands : goal.read_stamped-requires-clause-stands
read_stamped-requires-clause-stands g c =
    let view = ap (λ (s : EntriesState). s.files) c.self.view_is in
    let own = own_runs c.self.inside.table.runs c.self.inside.files.items c.self.inside.next c.self.inside.table.limit c.self.invariant.0 _ view in
    let reads = c.sealed_file-file.ensures c.self.inside.table own in
    subst (λ (n : ℕ). StandsIn c.self.inside.table n c.sealed_file-file.result.blocks) (sym c.requires.blocks) reads.stands

pub read_stamped-requires-clause-sealed : goal.read_stamped-requires-clause-sealed
read_stamped-requires-clause-sealed g c told =
    let view = ap (λ (s : EntriesState). s.files) c.self.view_is in
    let own = own_runs c.self.inside.table.runs c.self.inside.files.items c.self.inside.next c.self.inside.table.limit c.self.invariant.0 _ view in
    let reads = c.sealed_file-file.ensures c.self.inside.table own in
    reads.is (g.D.Disk.content c.args.disk.now) (c.requires.seals told)

pub read_stamped-requires-clause-inside : goal.read_stamped-requires-clause-inside
read_stamped-requires-clause-inside g c =
    let view = ap (λ (s : EntriesState). s.files) c.self.view_is in
    let own = own_runs c.self.inside.table.runs c.self.inside.files.items c.self.inside.next c.self.inside.table.limit c.self.invariant.0 _ view in
    let reads = c.sealed_file-file.ensures c.self.inside.table own in
    subst (λ (n : ℕ). c.args.offset + length c.args.room.now ≤ n) (sym (reads.held c.requires.there)) (c.requires.inside c.requires.there)

pub returns-clause-room : goal.returns-clause-room
returns-clause-room g c =
    let view = ap (λ (s : EntriesState). s.files) c.self.view_is in
    let own = own_runs c.self.inside.table.runs c.self.inside.files.items c.self.inside.next c.self.inside.table.limit c.self.invariant.0 _ view in
    let reads = c.sealed_file-file.ensures c.self.inside.table own in
    on_ok_weaker c.read_stamped.result
    (λ given told sealed.
    subst (λ (os : List ℕ). FillsRoom os c.args.offset (length c.args.room.now) c.read_stamped.new.room)
    (reads.octets (g.D.Disk.content c.args.disk.now) sealed) (given told))
    c.read_stamped.ensures.room
