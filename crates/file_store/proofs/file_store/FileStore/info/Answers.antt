use Rattle.std.proofs.Common.{◌∙◌, ap, subst}
use Rattle.file_store.proofs.Names.{option_map, store_of, outlined_rules, info_of, IsStore, entry_of, StoreState, store_in}
use Rattle.file_store.proofs.ToldLemmas.{shown-info}
use Rattle.file_store.proofs.file_store.FileStore.info.Goals as goal

pub returns-clause-info : goal.returns-clause-info
returns-clause-info c =
    c.info.ensures.info ∙ shown-info (store_of c.self.inside.kept.ledger.files) c.args.number
    ∙ ap (λ (s : StoreState). option_map info_of (entry_of (store_in s) c.args.number)) c.self.view_is

pub returns-clause-rules : goal.returns-clause-rules
returns-clause-rules c =
    subst (λ (s : StoreState). IsStore (store_in s)) c.self.view_is
    (outlined_rules (store_of c.self.inside.kept.ledger.files) c.next.ensures.rules c.next.ensures.some c.next.ensures.most)
