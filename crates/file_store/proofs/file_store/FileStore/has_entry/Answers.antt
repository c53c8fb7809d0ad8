use Rattle.std.proofs.Common.{◌≡◌, refl, sym, ◌∙◌, rules}
use Rattle.file_store.proofs.Names.{octets_of, told, store_in}
use Rattle.file_store.proofs.ToldLemmas.{has-told, told-count, told-entry}
use Rattle.file_store.proofs.file_store.FileStore.has_entry.Goals as goal

pub returns : goal.returns
returns c =
    let self = c.args.self.now in
    let up = c.args.up.now in
    let info = c.in-Some.info in
    let is = told (store_in self) c.number.result info c.info.ensures.rules c.in-Some.ensures.info in
    let held : info.held ≡ up.held = search rules in (
      λ theirs.
          let both = c.is_theirs.ensures.0 theirs in (
            is.entry.begun,
            octets_of is.entry.holding,
            told-entry (store_in self) c.number.result info is up c.number.ensures (both.0 ∙ c.caller.ensures) (both.1 ∙ c.length.ensures) (search rules),
            sym (told-count (store_in self) c.number.result info is) ∙ held,
          ),
      λ has.
          let all = has-told (store_in self) c.number.result info is self up refl c.number.ensures has in
          c.is_theirs.ensures.1 (all.2 ∙ sym c.caller.ensures, all.3 ∙ sym c.length.ensures),
    )
