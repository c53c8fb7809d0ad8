use Rattle.std.proofs.Common.{[], subst}
use Rattle.file_store.proofs.Names.{Blocks, HasFor, EntriesChange}
use Rattle.file_store.proofs.change.EntriesChangeChangeEntries.make.Goals as goal

pub begin-requires : goal.begin-requires
begin-requires c =
    let held : Blocks = λ b. [] in
    let has = subst (λ (it : EntriesChange). HasFor it c.args.entries.now) c.in-Begin.is c.requires.has in
    (held, has held)
