use Rattle.std.proofs.Common.{◌≡◌, true, false, [], Some, sym, ◌∙◌, ap, subst, arith, rules}
use Rattle.file_store.proofs.Names.{store_of, entry_of, told, told-held, StoreState, rest_in, store_in, Holds, Upload}
use Rattle.file_store.proofs.OnLemmas.{in_parked}
use Rattle.file_store.proofs.TokenLemmas.{placed-there}
use Rattle.file_store.proofs.ToldLemmas.{told-caller, told-complete, told-holds, told-length, told-short, told-upload}
use Rattle.file_store.proofs.file_store.FileStore.resume.Goals as goal

pub returns-then-not-is_theirs-clause-refused : goal.returns-then-not-is_theirs-clause-refused
returns-then-not-is_theirs-clause-refused c =
    let self = c.args.self.now in
    let info = c.in-Some.info in
    let is = told (store_in self) c.args.number info c.info.ensures.rules c.in-Some.ensures.info in (
      is.entry,
      is.found,
      λ both.
          let theirs = c.is_theirs.ensures.1 (told-caller (store_in self) c.args.number info is ∙ both.0, told-length (store_in self) c.args.number info is ∙ both.1) in
          let other : c.is_theirs.result ≡ false = search rules in
          cc (sym theirs ∙ other),
    )

pub new-requires-clause-held : goal.new-requires-clause-held
new-requires-clause-held c =
    let self = c.args.self.now in
    let info = c.in-Some.info in
    let is = told (store_in self) c.args.number info c.info.ensures.rules c.in-Some.ensures.info in
    let theirs : c.is_theirs.result ≡ true = search rules in
    omega (arith, told-held (store_in self) c.args.number info is, (c.is_theirs.ensures.0 theirs).1)

pub new-requires-clause-file : goal.new-requires-clause-file
new-requires-clause-file c =
    let self = c.args.self.now in
    let info = c.in-Some.info in
    let is = told (store_in self) c.args.number info c.info.ensures.rules c.in-Some.ensures.info in
    let theirs : c.is_theirs.result ≡ true = search rules in
    omega (arith, told-short (store_in self) c.args.number info is c.info.ensures.rules, (c.is_theirs.ensures.0 theirs).1)

pub returns-clause-resumed : goal.returns-clause-resumed
returns-clause-resumed c =
    let self = c.args.self.now in
    let info = c.in-Some.info in
    let is = told (store_in self) c.args.number info c.info.ensures.rules c.in-Some.ensures.info in
    let theirs : c.is_theirs.result ≡ true = search rules in
    let both = c.is_theirs.ensures.0 theirs in
    let partial_is : info.complete ≡ false = search rules in
    let healthy : self.journal.failed ≡ false = search rules in (
      is.entry,
      (
        (is.found, sym (told-caller (store_in self) c.args.number info is) ∙ both.0, sym (told-length (store_in self) c.args.number info is) ∙ both.1),
        sym (told-complete (store_in self) c.args.number info is) ∙ partial_is,
        λ failed. cc (sym failed ∙ healthy),
      ),
      c.new.ensures ∙ told-upload (store_in self) c.args.number info is c.args.caller c.args.length both.0 both.1,
    )

pub returns-clause-holds : goal.returns-clause-holds
returns-clause-holds c =
    let self = c.args.self.now in
    let inside : StoreState = record { files = c.self.inside.kept.ledger.files; journal = c.self.inside.kept.journal } in
    let new : StoreState = record { files = c.take_out.new.self.files; journal = c.self.inside.kept.journal } in
    let info = c.in-Some.info in
    let is = told (store_in self) c.args.number info c.info.ensures.rules c.in-Some.ensures.info in
    let theirs : c.is_theirs.result ≡ true = search rules in
    let both = c.is_theirs.ensures.0 theirs in
    let partial_is : info.complete ≡ false = search rules in
    let rest = c.take_out.ensures.here in
    subst (λ (u : Upload). Holds new u × (rest_in new u.number ≡ Some [])) (sym c.new.ensures)
    (told-holds (store_in self) c.args.number info is new c.args.caller c.args.length both.0 both.1 partial_is (in_parked inside new c.take_out.ensures.store_is ∙ ap store_in c.self.view_is) rest, rest)

pub take_out-requires-clause-there : goal.take_out-requires-clause-there
take_out-requires-clause-there c =
    let info = c.in-Some.info in
    let is = told (store_in c.args.self.now) c.args.number info c.info.ensures.rules c.in-Some.ensures.info in
    placed-there (store_of c.self.inside.kept.ledger.files) c.args.number is.entry (ap (λ (s : StoreState). entry_of (store_in s) c.args.number) c.self.view_is ∙ is.found)
