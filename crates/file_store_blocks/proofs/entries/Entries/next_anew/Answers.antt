use Rattle.std.proofs.Common.{◌+◌, ◌≤◌, ◌∷◌, ap, sym, ◌∙◌, arith}
use Rattle.file_store_blocks.proofs.Names.{option_map, left_from, placed_value, store_of, Record}
use Rattle.file_store_blocks.proofs.AnewLemmas.{anew_next, anew_none, anew_some}
use Rattle.file_store_blocks.proofs.entries.Entries.next_anew.Goals as goal

pub returns-in-Some-clause-some : goal.returns-in-Some-clause-some
returns-in-Some-clause-some c =
    let store = store_of c.args.self.now.files in
    let place = c.args.place.now in
    let file : 1 ≤ place.entry = omega (arith, c.if-place-eq0.false) in
    let is = sym c.command_at.ensures.command ∙ ap (option_map placed_value) c.in-Some.is in
    anew_some store place.entry place.part file (placed_value c.in-Some.command) is
    ∙ ap (λ (e : Record). e ∷ left_from store place.entry (place.part + 1)) (sym c.write.ensures)

pub returns-in_default-command_at-clause-none : goal.returns-in_default-command_at-clause-none
returns-in_default-command_at-clause-none c = λ same.
    let store = store_of c.args.self.now.files in
    let place = c.args.place.now in
    let file : 1 ≤ place.entry = omega (arith, c.if-place-eq0.false) in
    anew_none store place.entry place.part file (sym c.command_at.ensures.command ∙ ap (option_map placed_value) c.in_default.is)
    (sym c.command_at-2.ensures.command ∙ ap (option_map placed_value) c.in_default-command_at.is)

pub returns-clause-some : goal.returns-clause-some
returns-clause-some c =
    let store = store_of c.args.self.now.files in
    let place = c.args.place.now in
    let file : 1 ≤ place.entry = omega (arith, c.if-place-eq0.false) in
    let is = sym c.command_at-2.ensures.command ∙ ap (option_map placed_value) c.in-Some-command_at.is in
    anew_next store place.entry place.part file (sym c.command_at.ensures.command ∙ ap (option_map placed_value) c.in_default.is)
    (placed_value c.in-Some-command_at.command) is
    ∙ ap (λ (e : Record). e ∷ left_from store (place.entry + 1) 1) (sym c.write-2.ensures)
