use Rattle.std.proofs.Common.{ap}
use Rattle.file_store_blocks.proofs.Names.{EntriesState}
use Rattle.file_store_blocks.proofs.ChangeLemmas.{free_is}
use Rattle.file_store_blocks.proofs.entries.Entries.is_free.Goals as goal

pub returns : goal.returns
returns c =
    let view = ap (λ (s : EntriesState). s.files) c.self.view_is in
    free_is c.self.inside.table.runs c.self.inside.files.items c.self.inside.next c.self.inside.table.limit c.self.invariant.0 _ view c.args.block c.is_free.result
    (λ yes. let free = c.is_free.ensures.0 yes in (free.below, free.free))
    (λ below free. c.is_free.ensures.1 (record { below = below; free = free }))
