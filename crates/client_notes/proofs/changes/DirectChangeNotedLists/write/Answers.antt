use Rattle.std.proofs.Common.{sym, subst}
use Rattle.client_notes.proofs.Names.{IsTrue, record_of, is_allowed, command_value, Lists, lists_of}
use Rattle.client_notes.proofs.KeptLemmas.{all-noted}
use Rattle.client_notes.proofs.PutLemmas.{writes-turn}
use Rattle.client_notes.proofs.changes.DirectChangeNotedLists.write.Goals as goal

pub returns : goal.returns
returns c =
    let noted = c.args._noted.now in
    let command = command_value c.args.self.now.command in
    record {
      writes = writes-turn (lists_of noted) command (record_of c.write.result c.write.new.content) c.write.ensures
          c.requires.may.2 (subst (λ (l : Lists). IsTrue (is_allowed l command)) (sym (all-noted noted c.requires.may.0)) c.requires.may.1);
    }
