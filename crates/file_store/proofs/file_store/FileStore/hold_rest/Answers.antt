use Rattle.std.proofs.Common.{◌≡◌, true, false, List, length, IsErr, sym, ◌∙◌, ap, subst, arith}
use Rattle.file_store.proofs.Names.{Command, octets_or_none, DoesTo, StoreState, rest_in}
use Rattle.file_store.proofs.SealLemmas.{rest-grow, rest-none}
use Rattle.file_store.proofs.UploadLemmas.{whole-fills}
use Rattle.file_store.proofs.file_store.FileStore.hold_rest.Goals as goal

pub hold-requires-clause-fills : goal.hold-requires-clause-fills
hold-requires-clause-fills g c =
    let number = c.args.number in
    let some : ¬ (length c.waiting-waiting.result.now ≡ 0) = c.if-waiting-eq0.false in
    let all = ap length c.waiting-waiting.ensures.octets ∙ ap (λ (s : StoreState). length (octets_or_none (rest_in s number))) c.self.view_is in
    whole-fills c.args.self.now number (length c.waiting-waiting.result.now) c.requires.whole (omega (arith, some)) all

pub returns-then-waiting-eq0-clause-does : goal.returns-then-waiting-eq0-clause-does
returns-then-waiting-eq0-clause-does g c =
    let number = c.args.number in
    let self = c.args.self.now in
    let all = ap length c.waiting-waiting.ensures.octets ∙ ap (λ (s : StoreState). length (octets_or_none (rest_in s number))) c.self.view_is in
    rest-none g.D.Disk (false ≡ true) self c.args.disk.now number (octets_or_none (rest_in self number)) (sym all ∙ c.if-waiting-eq0.true) (λ is. cc is) c.requires.ready (g.met.D.Disk.lasts_same c.args.disk.now)

pub returns-clause-does : goal.returns-clause-does
returns-clause-does g c =
    let number = c.args.number in
    let some : ¬ (length c.waiting-waiting.result.now ≡ 0) = c.if-waiting-eq0.false in
    let all = ap length c.waiting-waiting.ensures.octets ∙ ap (λ (s : StoreState). length (octets_or_none (rest_in s number))) c.self.view_is in
    subst (λ (cs : List Command). DoesTo g.D.Disk (IsErr c.hold.result) c.args.self.now c.hold.new.self c.args.disk.now c.hold.new.disk cs number)
    (rest-grow number (octets_or_none (rest_in c.args.self.now number)) (λ none. some (all ∙ none))) c.hold.ensures.does
