-- A text is hexadecimal of few octets where it is read into room for half as many.
use Rattle.std.proofs.Common.{arith}
use Rattle.command_words.proofs.ClientTexts.{hex_length}
use Rattle.command_words.proofs.hex_text.is_hex.Goals as goal

pub returns-then-text-clause-none : goal.returns-then-text-clause-none
returns-then-text-clause-none c = λ _ octets is. omega (arith, hex_length c.args.text.now octets is, c.if-text.true)
