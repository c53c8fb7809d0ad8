use Rattle.std.proofs.Common.{ap}
use Rattle.file_store_blocks.proofs.Names.{EntriesState}
use Rattle.file_store_blocks.proofs.ChangeLemmas.{lacks_room, lowest_is}
use Rattle.file_store_blocks.proofs.entries.Entries.lowest_free.Goals as goal

pub lowest_free-requires : goal.lowest_free-requires
lowest_free-requires c =
    let view = ap (λ (s : EntriesState). s.files) c.self.view_is in
    let room = lacks_room c.self.inside.table.runs c.self.inside.files.items c.self.inside.next c.self.inside.table.limit c.self.invariant.0 _ view c.requires.0 c.requires.1 in
    (room.0, record { there = room.1; room = room.2 })

pub returns-clause-lowest : goal.returns-clause-lowest
returns-clause-lowest c =
    let view = ap (λ (s : EntriesState). s.files) c.self.view_is in
    let free = c.lowest_free.ensures.free in
    lowest_is c.self.inside.table.runs c.self.inside.files.items c.self.inside.next c.self.inside.table.limit c.self.invariant.0 _ view c.lowest_free.result free.here.below free.here.free free.lower
