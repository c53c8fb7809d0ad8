use Rattle.std.proofs.Common.{refl}
use Rattle.real_outside.specs.declared.files.file_call.FileCall.TheVariants as call
use Rattle.real_outside.proofs.Names.{ChecksPart, asks_one}
use Rattle.real_outside.proofs.shelf.keeping.check_part.Goals as goal

pub returns : goal.returns
returns g c =
    let part = c.args.part.now in
    let there = c.look.result in
    asks_one (ChecksPart part c.part_answer.result) _ _ (call.Look part there) c.look.ensures
    (there, refl, c.part_answer.ensures)
