use Rattle.std.proofs.Common.{◌≡◌, ◌≤◌, ℕ, Option, Some, refl, ap, sym, ◌∙◌, subst, arith}
use Rattle.file_store_blocks.proofs.Names.{IfOk, IfSome, ChecksFile, IsSealable, Placed, EntriesState, PlacedFiles, placed_info, StandsIn, octets_on, octets_in, IsTold, Info, blocks_on, fault_code}
use Rattle.file_store_blocks.proofs.ChangeLemmas.{entry_now, has_place, in_range, never_some, no_entry, number_x, stands_in}
use Rattle.file_store_blocks.proofs.entries.Entries.check.Goals as goal

pub unwrap-place-requires : goal.unwrap-place-requires
unwrap-place-requires g c =
    has_place c.args.self.now.files.files c.args.number c.place_of.result c.place_of.ensures.none
    (λ none. never_some _ (no_entry c.args.self.now.files c.args.number none) c.requires.there)

pub index-requires : goal.index-requires
index-requires g c =
    let view = ap (λ (s : EntriesState). s.files) c.self.view_is in
    let inside = in_range c.self.inside.table.runs c.self.inside.files.items c.self.inside.next c.self.inside.table.limit c.self.invariant.0 _ view c.args.number _ c.place_of.result c.unwrap-place.ensures c.place_of.ensures.some in
    omega (arith, inside, c.self.inside.files.ok.0)

pub check_file-requires-clause-stands : goal.check_file-requires-clause-stands
check_file-requires-clause-stands g c =
    let view = ap (λ (s : EntriesState). s.files) c.self.view_is in
    let place = c.unwrap-place.result in
    let stands = stands_in c.self.inside.table.runs c.self.inside.files.items c.self.inside.next c.self.inside.table.limit c.self.invariant.0 _ view c.args.number _ c.place_of.result c.unwrap-place.ensures c.place_of.ensures.some c.index.result.now c.index.ensures c.self.inside.table refl refl in
    let count = ap (λ (n : PlacedFiles). n.blocks) view ∙ sym c.requires.blocks in
    subst (λ (n : ℕ). StandsIn c.self.inside.table n (record { run = place; held = c.info-info.result.held })) count
    (subst (λ (h : ℕ). StandsIn c.self.inside.table c.self.inside.table.limit (record { run = place; held = h }))
    (ap (λ (i : Info). i.held) (sym c.info-info.ensures)) stands)

pub returns-clause-header : goal.returns-clause-header
returns-clause-header g c =
    let view = ap (λ (s : EntriesState). s.files) c.self.view_is in
    let content = g.D.Disk.content c.args.disk.now in
    let P : ℕ → Info → Type 0 = λ n i.
    IfOk c.check_file.result (λ header. IsTold content → IsSealable (record { number = n; by = i.caller; moment = c.args.moment })
    (octets_on content c.self.inside.table (record { run = c.unwrap-place.result; held = i.held })) header.sum header.len) in
    subst (λ (o : Option Placed). IfOk c.check_file.result (ChecksFile content o c.args.moment))
    (sym (entry_now c.self.inside.table.runs c.self.inside.files.items c.self.inside.next c.self.inside.table.limit c.self.invariant.0 _ view c.args.number _ c.place_of.result c.unwrap-place.ensures c.place_of.ensures.some c.index.result.now c.index.ensures))
    (subst (λ (n : ℕ). P n (placed_info c.index.result.now.entry))
    (sym (number_x c.self.inside.table.runs c.self.inside.files.items c.self.inside.next c.self.inside.table.limit c.self.invariant.0 _ view c.args.number _ c.place_of.result c.unwrap-place.ensures c.place_of.ensures.some c.index.result.now c.index.ensures))
    (subst (P c.args.number) c.info-info.ensures c.check_file.ensures.header))

pub returns-clause-inside : goal.returns-clause-inside
returns-clause-inside g c =
    let view = ap (λ (s : EntriesState). s.files) c.self.view_is in
    subst (λ (o : Option Placed). IfOk c.check_file.result (λ header. IfSome o (λ f. header.len ≤ f.held)))
    (sym (entry_now c.self.inside.table.runs c.self.inside.files.items c.self.inside.next c.self.inside.table.limit c.self.invariant.0 _ view c.args.number _ c.place_of.result c.unwrap-place.ensures c.place_of.ensures.some c.index.result.now c.index.ensures))
    (subst (λ (i : Info). IfOk c.check_file.result (λ header. header.len ≤ i.held)) c.info-info.ensures c.check_file.ensures.inside)

pub returns-clause-fault : goal.returns-clause-fault
returns-clause-fault g c = λ code is told.
    let view = ap (λ (s : EntriesState). s.files) c.self.view_is in
    let content = g.D.Disk.content c.args.disk.now in
    subst (λ (o : Option Placed). IfSome o (λ f. fault_code (octets_in (blocks_on content) f) ≡ Some code))
    (sym (entry_now c.self.inside.table.runs c.self.inside.files.items c.self.inside.next c.self.inside.table.limit c.self.invariant.0 _ view c.args.number _ c.place_of.result c.unwrap-place.ensures c.place_of.ensures.some c.index.result.now c.index.ensures))
    (subst (λ (i : Info). fault_code (octets_on content c.self.inside.table (record { run = c.unwrap-place.result; held = i.held })) ≡ Some code)
    c.info-info.ensures (c.check_file.ensures.fault code is told))
