use Rattle.std.proofs.Common.{◌≡◌, ℕ, true, false, [], ◌∷◌, IsErr, None, Some, is_some, refl, sym, ◌∙◌, ap, subst, arith, rules}
use Rattle.file_store.specs.declared.refusals.BeginRefusal.TheVariants as refusal
use Rattle.file_store.proofs.Names.{outlined, PlacedStore, new_placed, placed_of, with_new, KeepsRests, PlacedFiles, rest_of, store_of, new_is_found, none_past, outlined_new, outlined_rules, CallSign, Command, after, begin, IsStore, KeepsComplete, Store, begin-KeepsComplete, RefusesBegin, Does, StoreState, placed_in, rest_in, state_from, store_in, Holds, Upload, new_upload, BeginRefusal}
use Rattle.file_store.proofs.DoesLemmas.{Does-moved, Does-same}
use Rattle.file_store.proofs.OnLemmas.{in_parked, stands_parked}
use Rattle.file_store.proofs.PutLemmas.{begin-barred, begin-may, none-may, refused-as}
use Rattle.file_store.proofs.TokenLemmas.{holds-each}
use Rattle.file_store.proofs.UploadLemmas.{begun-holds, begun-uploads, rest-none}
use Rattle.file_store.proofs.file_store.FileStore.begin.Goals as goal

pub returns-in-Some-clause-refused : goal.returns-in-Some-clause-refused
returns-in-Some-clause-refused g c =
    let inside : StoreState = state_from c.self.inside.kept.ledger.files c.self.inside.kept.journal in
    subst (λ (r : BeginRefusal). RefusesBegin c.args.self.now c.args.length r) (sym c.from.ensures)
    (begin-barred inside c.args.self.now c.in-Some.bar c.args.length c.self.view_is c.in-Some.ensures.some)

pub returns-then-failed-clause-refused : goal.returns-then-failed-clause-refused
returns-then-failed-clause-refused g c =
    let inside : StoreState = state_from c.self.inside.kept.ledger.files c.self.inside.kept.journal in
    let none : c.begin_bar.result ≡ None = search rules in
    (begin-may inside c.args.self.now c.begin_bar.result c.args.length c.self.view_is none c.begin_bar.ensures.none, search rules)

pub put_change-requires-clause-may : goal.put_change-requires-clause-may
put_change-requires-clause-may g c =
    let none : c.begin_bar.result ≡ None = search rules in
    record { rules = c.next-number.ensures.rules; has = λ held. none-may c.begin_bar.result _ none (c.begin_bar.ensures.none held) }

pub returns-in_err-put_change-clause-refused : goal.returns-in_err-put_change-clause-refused
returns-in_err-put_change-clause-refused g c =
    let self = c.args.self.now in
    let inside : StoreState = state_from c.self.inside.kept.ledger.files c.self.inside.kept.journal in
    let none : c.begin_bar.result ≡ None = search rules in
    let healthy : self.journal.failed ≡ false = search rules in
    refused-as self c.args.length c.from_residual.result refusal.Disk (search rules)
    (begin-may inside self c.begin_bar.result c.args.length c.self.view_is none c.begin_bar.ensures.none, λ failed. cc (sym failed ∙ healthy))

pub returns-in_err-put_change-clause-does : goal.returns-in_err-put_change-clause-does
returns-in_err-put_change-clause-does g c reaches =
    let D = g.D.Disk in
    let P = IsErr c.from_residual.result in
    let inside : StoreState = state_from c.self.inside.kept.ledger.files c.self.inside.kept.journal in
    let new : StoreState = state_from c.put_change.new.kept.ledger.files c.put_change.new.kept.journal in
    let command : ℕ → Command = λ n. begin n c.args.caller c.args.length c.args.moment in
    subst (λ (s : StoreState). Does D P s new c.args.disk.now c.put_change.new.disk (command s.files.next ∷ [])) c.self.view_is
    (Does-same D (true ≡ true) P inside new c.args.disk.now c.put_change.new.disk (command inside.files.next ∷ []) (λ is. search rules) (λ is. refl) c.in_err-put_change.ensures.does)

pub take_out-requires-clause-there : goal.take_out-requires-clause-there
take_out-requires-clause-there g c =
    let store : PlacedStore = store_of c.self.inside.kept.ledger.files in
    let caller : CallSign = c.args.caller in
    ap is_some
    (ap (λ (s : PlacedStore). placed_of s c.next-number.result) c.in_ok-put_change.ensures.makes.store_is
    ∙ ap (placed_of (with_new store (new_placed store.next caller c.args.length c.args.moment))) c.next-number.ensures.next
    ∙ new_is_found store c.next-number.ensures.rules (new_placed store.next caller c.args.length c.args.moment) refl)

pub returns-clause-does : goal.returns-clause-does
returns-clause-does g c reaches =
    let D = g.D.Disk in
    let inside : StoreState = state_from c.self.inside.kept.ledger.files c.self.inside.kept.journal in
    let put : StoreState = state_from c.put_change.new.kept.ledger.files c.put_change.new.kept.journal in
    let new : StoreState = state_from c.take_out.new.self.files c.put_change.new.kept.journal in
    let command : ℕ → Command = λ n. begin n c.args.caller c.args.length c.args.moment in
    subst (λ (s : StoreState). Does D (false ≡ true) s new c.args.disk.now c.put_change.new.disk (command s.files.next ∷ [])) c.self.view_is
    (Does-moved D (false ≡ true) inside put inside new c.args.disk.now c.put_change.new.disk (command inside.files.next ∷ []) refl refl c.take_out.ensures.store_is refl c.in_ok-put_change.ensures.does)

pub returns-clause-stands_on : goal.returns-clause-stands_on
returns-clause-stands_on g c =
    let put : StoreState = state_from c.put_change.new.kept.ledger.files c.put_change.new.kept.journal in
    let new : StoreState = state_from c.take_out.new.self.files c.put_change.new.kept.journal in
    stands_parked g.D.Disk put new c.put_change.new.disk c.take_out.ensures.store_is refl c.put_change.ensures.stands_on

pub returns-clause-made : goal.returns-clause-made
returns-clause-made g c =
    let inside : StoreState = state_from c.self.inside.kept.ledger.files c.self.inside.kept.journal in
    let put : StoreState = state_from c.put_change.new.kept.ledger.files c.put_change.new.kept.journal in
    let new : StoreState = state_from c.take_out.new.self.files c.put_change.new.kept.journal in
    subst (λ (s : StoreState). store_in new ≡ after (store_in s) (begin (store_in s).next c.args.caller c.args.length c.args.moment)) c.self.view_is
    (in_parked put new c.take_out.ensures.store_is ∙ ap outlined c.in_ok-put_change.ensures.makes.store_is
    ∙ outlined_new (placed_in inside) inside.files.next c.args.caller c.args.length c.args.moment)

pub returns-clause-holds : goal.returns-clause-holds
returns-clause-holds g c =
    let self = c.args.self.now in
    let inside : StoreState = state_from c.self.inside.kept.ledger.files c.self.inside.kept.journal in
    let new : StoreState = state_from c.take_out.new.self.files c.put_change.new.kept.journal in
    let kept : IsStore (store_in self) =
    subst (λ (s : StoreState). IsStore (store_in s)) c.self.view_is (outlined_rules (placed_in inside) c.next-number.ensures.rules c.next-number.ensures.some c.next-number.ensures.most) in
    let number : c.next-number.result ≡ (store_in self).next = c.next-number.ensures.next ∙ ap (λ (s : StoreState). s.files.next) c.self.view_is in
    let rest : rest_in new (store_in self).next ≡ Some [] = ap (λ (n : ℕ). rest_in new n) (sym number) ∙ c.take_out.ensures.here in
    let up : c.new.result ≡ new_upload (store_in self).next c.args.caller c.args.length = c.new.ensures ∙ ap (λ (n : ℕ). new_upload n c.args.caller c.args.length) number in
    subst (λ (u : Upload). Holds new u × (rest_in new u.number ≡ Some [])) (sym up)
    (begun-holds self new c.args.caller c.args.length c.args.moment kept (returns-clause-made g c) rest, rest)

pub returns-clause-every_image : goal.returns-clause-every_image
returns-clause-every_image g c =
    let D = g.D.Disk in
    let new : StoreState = state_from c.take_out.new.self.files c.put_change.new.kept.journal in
    let made = (returns-clause-does g c refl).done (λ e. cc e) in
    holds-each D new c.put_change.new.disk made.1 (returns-clause-stands_on g c) c.new.result (returns-clause-holds g c).0

pub returns-clause-fresh : goal.returns-clause-fresh
returns-clause-fresh g c =
    let files : PlacedFiles = c.self.inside.kept.ledger.files in
    let none = none_past (store_of files) c.next-number.ensures.rules files.next (omega arith) in
    let number : c.new.result.number ≡ files.next = ap (λ (u : Upload). u.number) c.new.ensures ∙ c.next-number.ensures.next in
    ap (λ (s : StoreState). rest_in s c.new.result.number) (sym c.self.view_is) ∙ ap (rest_of files) number ∙ rest-none files files.next none

pub returns-clause-uploads : goal.returns-clause-uploads
returns-clause-uploads g c =
    let self = c.args.self.now in
    let inside : StoreState = state_from c.self.inside.kept.ledger.files c.self.inside.kept.journal in
    let new : StoreState = state_from c.take_out.new.self.files c.put_change.new.kept.journal in
    let kept : IsStore (store_in self) =
    subst (λ (s : StoreState). IsStore (store_in s)) c.self.view_is (outlined_rules (placed_in inside) c.next-number.ensures.rules c.next-number.ensures.some c.next-number.ensures.most) in
    let rests : KeepsRests self.files new.files (store_in self).next = search rules in
    begun-uploads self new c.args.caller c.args.length c.args.moment kept (returns-clause-made g c) rests

pub returns-clause-kept : goal.returns-clause-kept
returns-clause-kept g c =
    let self = c.args.self.now in
    subst (λ (s : Store). KeepsComplete (store_in self) s) (sym (returns-clause-made g c))
    (begin-KeepsComplete (store_in self) self.files.next c.args.caller c.args.length c.args.moment)
