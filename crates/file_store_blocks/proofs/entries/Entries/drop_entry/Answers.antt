use Rattle.std.proofs.Common.{◌∙◌, ap}
use Rattle.file_store_blocks.proofs.Names.{EntriesState, Table}
use Rattle.file_store_blocks.proofs.ChangeLemmas.{drop_becomes, drop_kept, has_place, never_found}
use Rattle.file_store_blocks.proofs.entries.Entries.drop_entry.Goals as goal

pub unwrap-place-requires : goal.unwrap-place-requires
unwrap-place-requires c =
    has_place c.args.self.now.files.files c.args.number c.place_of.result c.place_of.ensures.none
    (λ none. never_found c.args.self.now.files c.args.number none c.requires)

pub invariant_of-self : goal.invariant_of-self
invariant_of-self c =
    let view = ap (λ (s : EntriesState). s.files) c.self.view_is in (
      drop_kept c.self.inside.table.runs c.self.inside.files.items c.self.inside.next c.self.inside.table.limit c.self.invariant.0 _ view c.args.number _ c.place_of.result c.unwrap-place.ensures c.place_of.ensures.some c.remove.result c.remove.ensures.value
          c.requires c.remove-2.new.self.runs c.remove-2.new.self.limit c.remove.new.self.items (ap (λ (t : Table). t.runs) c.remove-2.ensures) (ap (λ (t : Table). t.limit) c.remove-2.ensures) c.remove.ensures.items,
      c.remove.ensures.capacity ∙ c.self.invariant.1,
      ap (λ (t : Table). t.most) c.remove-2.ensures ∙ c.self.invariant.2,
    )

pub returns-clause-becomes : goal.returns-clause-becomes
returns-clause-becomes c =
    let view = ap (λ (s : EntriesState). s.files) c.self.view_is in
    drop_becomes c.self.inside.table.runs c.self.inside.files.items c.self.inside.next c.self.inside.table.limit c.self.invariant.0 _ view c.args.number _ c.place_of.result c.unwrap-place.ensures c.place_of.ensures.some c.remove.result c.remove.ensures.value
    c.requires c.remove-2.new.self.runs c.remove-2.new.self.limit c.remove.new.self.items (ap (λ (t : Table). t.runs) c.remove-2.ensures) (ap (λ (t : Table). t.limit) c.remove-2.ensures) c.remove.ensures.items
