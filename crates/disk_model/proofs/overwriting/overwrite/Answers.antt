use Rattle.std.proofs.Common.{◌≡◌, ◌+◌, ◌++◌, List, ℕ, length, take, drop, ◌∙◌, ap, arith}
use Rattle.disk_model.proofs.Names.{common_steps, write_over}
use Rattle.disk_model.proofs.Writes.{padded_write}
use Rattle.disk_model.proofs.overwriting.overwrite.Goals as goal

pub returns-clause-ok : goal.returns-clause-ok
returns-clause-ok c =
    let at = c.args.at in
    let bytes = c.args.bytes.now in
    let padded = c.as_mut_slice.ensures.value ∙ c.in_ok-extend_to.ensures.ok in
    let written : c.replace.new.octets ≡ write_over c.args.octets.now.items at bytes =
    c.replace.ensures ∙ ap (λ (l : List ℕ). take at l ++ bytes ++ drop (at + length bytes) l) padded ∙ padded_write c.args.octets.now.items at bytes in
    grind (arith, common_steps, written)

pub returns-clause-octets : goal.returns-clause-octets
returns-clause-octets c = λ k d below. omega (arith, c.type_inv.octets k d below)
