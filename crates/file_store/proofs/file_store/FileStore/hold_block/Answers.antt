use Rattle.std.proofs.Common.{◌≡◌, List, ℕ, [], ◌∷◌, length, take, true, false, IsErr, Option, refl, ◌∙◌, ap, subst, rules}
use Rattle.file_store.proofs.Names.{ChangesRest, octets_or_none, rest_with, grow, DoesTo, StoreState, rest_in, state_from, waiting_with}
use Rattle.file_store.proofs.HoldLemmas.{DoesTo-from, DoesTo-same, block-fills, block-waits, later-fits, later-is}
use Rattle.file_store.proofs.file_store.FileStore.hold_block.Goals as goal

pub hold-requires-clause-fills : goal.hold-requires-clause-fills
hold-requires-clause-fills g c =
    let self = c.args.self.now in
    let number = c.args.number in
    let bytes = c.args.bytes.now in
    let mid : StoreState = state_from c.bring.new.self.files c.self.inside.kept.journal in
    let lacking : List ℕ = c.split_at.result.0.now in
    let waits = ap length (c.waiting-waiting.ensures.octets ∙ ap (λ (s : StoreState). octets_or_none (rest_in s number)) c.self.view_is) in
    let changes = subst (λ (s : StoreState). ChangesRest s.files mid.files number (rest_with s.files number lacking)) c.self.view_is c.bring.ensures in
    block-fills self mid number _ bytes lacking _ c.requires.fits c.requires.there waits c.split_at.ensures.front c.split_at.ensures.back changes

pub returns-in_err-hold-clause-does : goal.returns-in_err-hold-clause-does
returns-in_err-hold-clause-does g c =
    let D = g.D.Disk in
    let self = c.args.self.now in
    let number = c.args.number in
    let bytes = c.args.bytes.now in
    let mid : StoreState = state_from c.bring.new.self.files c.self.inside.kept.journal in
    let lacking : List ℕ = c.split_at.result.0.now in
    let waits = ap length (c.waiting-waiting.ensures.octets ∙ ap (λ (s : StoreState). octets_or_none (rest_in s number)) c.self.view_is) in
    let changes = subst (λ (s : StoreState). ChangesRest s.files mid.files number (rest_with s.files number lacking)) c.self.view_is c.bring.ensures in
    let P = IsErr c.from_residual.result in
    let block = take 512 (waiting_with self number bytes) in
    let to = subst (λ (o : Option (List ℕ)). DoesTo D (true ≡ true) mid c.hold.new.self c.args.disk.now c.hold.new.disk (grow number (octets_or_none o) ∷ []) number) (block-waits self mid number _ bytes lacking _ c.requires.fits c.requires.there waits c.split_at.ensures.front c.split_at.ensures.back changes) c.in_err-hold.ensures.does in
    DoesTo-from D c.args.disk.now c.hold.new.disk (grow number block ∷ []) number P self mid c.hold.new.self _ changes (ap (λ (s : StoreState). s.journal) c.self.view_is)
    (DoesTo-same D c.args.disk.now c.hold.new.disk (grow number block ∷ []) number (true ≡ true) P mid c.hold.new.self (λ is. search rules) (λ is. refl) to)

pub returns-clause-does : goal.returns-clause-does
returns-clause-does g c =
    let D = g.D.Disk in
    let self = c.args.self.now in
    let number = c.args.number in
    let bytes = c.args.bytes.now in
    let mid : StoreState = state_from c.bring.new.self.files c.self.inside.kept.journal in
    let lacking : List ℕ = c.split_at.result.0.now in
    let waits = ap length (c.waiting-waiting.ensures.octets ∙ ap (λ (s : StoreState). octets_or_none (rest_in s number)) c.self.view_is) in
    let changes = subst (λ (s : StoreState). ChangesRest s.files mid.files number (rest_with s.files number lacking)) c.self.view_is c.bring.ensures in
    let block = take 512 (waiting_with self number bytes) in
    let to = subst (λ (o : Option (List ℕ)). DoesTo D (false ≡ true) mid c.hold.new.self c.args.disk.now c.hold.new.disk (grow number (octets_or_none o) ∷ []) number) (block-waits self mid number _ bytes lacking _ c.requires.fits c.requires.there waits c.split_at.ensures.front c.split_at.ensures.back changes) c.in_ok-hold.ensures.does in
    DoesTo-from D c.args.disk.now c.hold.new.disk (grow number block ∷ []) number (false ≡ true) self mid c.hold.new.self _ changes (ap (λ (s : StoreState). s.journal) c.self.view_is) to

pub returns-clause-later : goal.returns-clause-later
returns-clause-later g c =
    let self = c.args.self.now in
    let number = c.args.number in
    let bytes = c.args.bytes.now in
    let mid : StoreState = state_from c.bring.new.self.files c.self.inside.kept.journal in
    let lacking : List ℕ = c.split_at.result.0.now in
    let waits = ap length (c.waiting-waiting.ensures.octets ∙ ap (λ (s : StoreState). octets_or_none (rest_in s number)) c.self.view_is) in
    let changes = subst (λ (s : StoreState). ChangesRest s.files mid.files number (rest_with s.files number lacking)) c.self.view_is c.bring.ensures in
    later-is self mid number _ bytes lacking _ c.requires.fits c.requires.there waits c.split_at.ensures.front c.split_at.ensures.back changes

pub returns-clause-fits : goal.returns-clause-fits
returns-clause-fits g c =
    let self = c.args.self.now in
    let number = c.args.number in
    let bytes = c.args.bytes.now in
    let mid : StoreState = state_from c.bring.new.self.files c.self.inside.kept.journal in
    let lacking : List ℕ = c.split_at.result.0.now in
    let waits = ap length (c.waiting-waiting.ensures.octets ∙ ap (λ (s : StoreState). octets_or_none (rest_in s number)) c.self.view_is) in
    let changes = subst (λ (s : StoreState). ChangesRest s.files mid.files number (rest_with s.files number lacking)) c.self.view_is c.bring.ensures in
    later-fits self mid number _ bytes lacking _ c.requires.fits c.requires.there waits c.split_at.ensures.front c.split_at.ensures.back changes c.hold.new.self (c.in_ok-hold.ensures.does.whole (λ e. cc e)) c.in_ok-hold.ensures.rest
