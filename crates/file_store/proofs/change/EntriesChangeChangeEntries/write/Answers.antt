use Rattle.std.proofs.Common.{◌∙◌, ap, subst}
use Rattle.file_store.proofs.Names.{PlacedCommand, IsWritable, record_of_placed, record_of}
use Rattle.file_store.proofs.TurnLemmas.{turn-written}
use Rattle.file_store.proofs.change.EntriesChangeChangeEntries.write.Goals as goal

pub returns : goal.returns
returns c =
    let value = c.command.ensures.value in
    record {
      writes = turn-written c.args.self.now c.args.entries.now (record_of c.write.result c.write.new.content) c.requires.may (subst (λ (command : PlacedCommand). IsWritable command) value c.command.ensures.writable)
          (c.write.ensures ∙ ap record_of_placed value);
    }
