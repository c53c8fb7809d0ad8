use Rattle.std.proofs.Common.{◌+◌, ◌%◌, ℕ, List, ap, ◌∙◌, subst}
use Rattle.pfh_writer.proofs.Names.{sum16, ItemValue, AreOthers, BuilderValue}
use Rattle.pfh_writer.proofs.BuiltLemmas.{header_sum-parts}
use Rattle.pfh_writer.proofs.builder.HeaderBuilder.header_sum.Goals as goal

pub returns : goal.returns
returns c =
    let are : AreOthers c.self.inside.others c.args.self.now.others =
    subst (λ (l : List ItemValue). AreOthers c.self.inside.others l) (ap (λ (b : BuilderValue). b.others) c.self.view_is) c.self.invariant in
    ap (λ (n : ℕ). (n + c.sum16-2.result) % 65536) (c.sum16.ensures ∙ ap sum16 c.as_slice.ensures.value)
    ∙ ap (λ (n : ℕ). (sum16 c.first-first.result.items + n) % 65536) (c.sum16-2.ensures ∙ ap sum16 c.as_slice-2.ensures)
    ∙ header_sum-parts c.args.self.now c.self.inside.others are c.first-first.ensures.name c.first-first.ensures.ext c.args.says.file_size c.args.says.body_sum
    c.args.says.body_offset c.first-first.result.items c.first-first.ensures.text
