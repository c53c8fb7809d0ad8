use Rattle.std.proofs.Common.{List, ℕ, Option, ap, sym, ◌∙◌, subst}
use Rattle.file_store_blocks.proofs.Names.{IsSome, EntriesState}
use Rattle.file_store_blocks.proofs.ChangeLemmas.{rest_now}
use Rattle.file_store_blocks.proofs.entries.Entries.is_out.Goals as goal

pub returns-in-Some : goal.returns-in-Some
returns-in-Some c =
    let view = ap (λ (s : EntriesState). s.files) c.self.view_is in
    let rest = rest_now c.self.inside.table.runs c.self.inside.files.items c.self.inside.next c.self.inside.table.limit c.self.invariant.0 _ view c.args.number c.in-Some.place c.place_of.result c.in-Some.is c.place_of.ensures.some c.index.result.now c.index.ensures in (
      λ out. subst (λ (o : Option (List ℕ)). IsSome o) (sym rest) (sym c.is_out.ensures ∙ out),
      λ some. c.is_out.ensures ∙ subst (λ (o : Option (List ℕ)). IsSome o) rest some,
    )
