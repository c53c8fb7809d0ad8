use Rattle.std.proofs.Common.{◌∙◌, ap, rules}
use Rattle.std.proofs.lemmas.Fn.{filter_same}
use Rattle.client_notes.proofs.Names.{not, without_got, GotFile, Lists, is_file_of}
use Rattle.client_notes.proofs.ListLemmas.{lists_of}
use Rattle.client_notes.proofs.lists.Lists.forget.Goals as goal

pub returns : goal.returns
returns c =
    let kept = filter_same _ (λ (f : GotFile). not (is_file_of c.args.server c.args.number f)) _ (λ x b f k. search rules) _ _ c.retain.ensures.filtered in
    ap (lists_of c.self.inside.tasks.items) kept ∙ ap (λ (l : Lists). lists_of l.tasks (without_got c.args.server c.args.number l.got)) c.self.view_is
