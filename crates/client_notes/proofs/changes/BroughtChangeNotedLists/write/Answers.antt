use Rattle.client_notes.proofs.Names.{record_of, command_value, lists_of}
use Rattle.client_notes.proofs.PutLemmas.{writes-turn}
use Rattle.client_notes.proofs.changes.BroughtChangeNotedLists.write.Goals as goal

pub returns : goal.returns
returns c =
    record {
      writes = writes-turn (lists_of c.args._noted.now) (command_value c.args.self.now.command)
          (record_of c.write.result c.write.new.content) c.write.ensures c.requires.may.2 c.requires.may.1;
    }
