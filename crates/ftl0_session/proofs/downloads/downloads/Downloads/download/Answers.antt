use Rattle.std.proofs.Common.{List, sym, subst}
use Rattle.ftl0_session.proofs.Names.{CallerList, store_in, AreComplete}
use Rattle.ftl0_session.proofs.downloads.ListLemmas.{after-files}
use Rattle.ftl0_session.proofs.downloads.downloads.Downloads.download.Goals as goal

pub returns-in-Ok-clause-complete : goal.returns-in-Ok-clause-complete
returns-in-Ok-clause-complete c =
    let store = store_in c.args.store.now in
    subst (λ (lists : List CallerList). AreComplete store lists) (sym c.take_numbers.ensures)
    (after-files store c.args.lists.now c.args.caller c.args.number 1 c.requires.complete)
