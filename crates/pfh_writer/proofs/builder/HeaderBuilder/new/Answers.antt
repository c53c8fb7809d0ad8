use Rattle.std.proofs.Common.{[], ap, List}
use Rattle.pfh_writer.proofs.Names.{ItemValue}
use Rattle.pfh_writer.proofs.OthersLemmas.{no_others, read_back}
use Rattle.pfh_writer.proofs.builder.HeaderBuilder.new.Goals as goal

pub invariant_of-result : goal.invariant_of-result
invariant_of-result c = no_others c.in_ok-others.others c.in_ok-others.ensures

pub returns : goal.returns
returns c =
    ap
    (λ (l : List ItemValue). record { name = c.args.name; ext = c.args.ext; created = c.args.created; modified = c.args.modified; seu = c.args.seu; file_type = c.args.file_type; others = l })
    (read_back [] c.in_ok-others.others tt c.in_ok-others.ensures)
