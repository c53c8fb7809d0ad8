use Rattle.std.proofs.Common.{subst}
use Rattle.file_store.proofs.Names.{store_of, outlined_next, IsNextComplete, StoreState, store_in}
use Rattle.file_store.proofs.file_store.FileStore.numbers.Goals as goal

pub returns : goal.returns
returns c =
    subst (λ (s : StoreState). IsNextComplete (store_in s) c.args.after c.next_complete.result) c.self.view_is
    (outlined_next (store_of c.self.inside.kept.ledger.files) c.args.after c.next_complete.result c.next_complete.ensures)
