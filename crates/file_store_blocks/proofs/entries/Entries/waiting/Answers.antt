use Rattle.std.proofs.Common.{ap, sym, ◌∙◌}
use Rattle.file_store_blocks.proofs.Names.{EntriesState, octets_or_none}
use Rattle.file_store_blocks.proofs.ChangeLemmas.{rest_now}
use Rattle.file_store_blocks.proofs.entries.Entries.waiting.Goals as goal

pub returns-in-Some-clause-octets : goal.returns-in-Some-clause-octets
returns-in-Some-clause-octets c =
    let view = ap (λ (s : EntriesState). s.files) c.self.view_is in
    c.rest.ensures.octets
    ∙ ap octets_or_none
    (sym (rest_now c.self.inside.table.runs c.self.inside.files.items c.self.inside.next c.self.inside.table.limit c.self.invariant.0 _ view c.args.number c.in-Some.place c.place_of.result c.in-Some.is c.place_of.ensures.some c.index.result.now c.index.ensures))
