use Rattle.std.proofs.Common.{take, ap, arith, subst, sym}
use Rattle.std.proofs.lemmas.Str.{IsUtf8-from_ascii}
use Rattle.px_base.proofs.Names.{IsAscii, common_steps}
use Rattle.px_base.proofs.Calls.{front_is_ascii, front_is_base}
use Rattle.px_base.proofs.call.base_text.Goals as goal

pub returns-in-Ok-clause-base : goal.returns-in-Ok-clause-base
returns-in-Ok-clause-base c =
    let front = front_is_base c.args.chars.now c.requires in
    grind (arith, common_steps, front, c.in-Ok.ensures.cases.0)

-- The characters before the first blank are ASCII, so they are text.
pub returns-in-Err-clause-base : goal.returns-in-Err-clause-base
returns-in-Err-clause-base c =
    let same = ap (λ n. take n c.args.chars.now) (sym c.unpadded_length.ensures.value) in
    absurd (c.in-Err.ensures.cases.0 (IsUtf8-from_ascii _ (subst IsAscii same (front_is_ascii c.args.chars.now c.requires))))
