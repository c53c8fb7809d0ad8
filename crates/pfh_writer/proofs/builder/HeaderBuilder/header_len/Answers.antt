use Rattle.std.proofs.Common.{◌+◌, ℕ, List, length, ap, ◌∙◌, subst}
use Rattle.pfh_writer.proofs.Names.{ItemValue, AreOthers, BuilderValue}
use Rattle.pfh_writer.proofs.BuiltLemmas.{built_len-is}
use Rattle.pfh_writer.proofs.builder.HeaderBuilder.header_len.Goals as goal

pub returns : goal.returns
returns c =
    let are : AreOthers c.self.inside.others c.args.self.now.others =
    subst (λ (l : List ItemValue). AreOthers c.self.inside.others l) (ap (λ (b : BuilderValue). b.others) c.self.view_is) c.self.invariant in
    ap (λ (n : ℕ). n + length c.as_slice.result.now + 3) c.first_len.ensures.len
    ∙ ap (λ (t : List ℕ). 70 + length t + 3) c.as_slice.ensures
    ∙ built_len-is c.args.self.now c.self.inside.others are c.first_len.ensures.name c.first_len.ensures.ext
