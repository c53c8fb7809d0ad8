use Rattle.std.proofs.Common.{string_bytes, ◌∙◌}
use Rattle.command_words.proofs.Copies.{copied}
use Rattle.command_words.proofs.words.Words.copy.Goals as goal

pub returns : goal.returns
returns c =
    copied string_bytes c.self.inside.words.items c.in_ok-clone.field-0.items c.in_ok-clone.ensures.cases.0 ∙ c.self.view_is
