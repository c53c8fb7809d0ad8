use Rattle.std.proofs.Common.{◌≡◌, true, false, ℕ, List, [], ◌∷◌, ◌++◌, ◌*◌, ◌-◌, length, drop, Option, Some, is_some, take, IsErr, refl, ◌∙◌, ap, subst, arith, rules, length-append, length-drop}
use Rattle.file_store.proofs.Names.{ChangesRest, octets_or_none, rest_with, Command, grow, grows, whole_grows, DoesTo, StoreState, rest_in, state_from, waiting_with}
use Rattle.file_store.proofs.HoldLemmas.{DoesTo-none, DoesTo-same, DoesTo-then, DoesTo-to, all-later, block-there, blocks-cut, brought-waits, left-later, one-more}
use Rattle.file_store.proofs.file_store.FileStore.hold_blocks.Goals as goal

pub loop-block-init : goal.loop-block-init
loop-block-init g c = record {
  does = DoesTo-none g.D.Disk ⊥ c.args.self.now c.args.disk.now c.args.number (λ never. never) c.requires.ready (g.met.D.Disk.lasts_same c.args.disk.now);
  fits = c.requires.fits;
  left = refl;
}

pub hold_block-requires-clause-there : goal.hold_block-requires-clause-there
hold_block-requires-clause-there g c =
    block-there c.args.number c.loop-block.block _ _ c.loop-block.invariant.left c.args.blocks c.loop-block-test.true c.requires.whole

pub returns-in_err-later-clause-does : goal.returns-in_err-later-clause-does
returns-in_err-later-clause-does g c =
    let D = g.D.Disk in
    let self = c.args.self.now in
    let mid = c.loop-block.self in
    let new = c.hold_block.new.self in
    let number = c.args.number in
    let bytes = c.args.bytes.now in
    let all = waiting_with self number bytes in
    let now = waiting_with mid number c.loop-block.later.now in
    let i = c.loop-block.block in
    let P = IsErr c.from_residual.result in
    let inv = c.loop-block.invariant in
    let step = DoesTo-same D c.loop-block.disk c.hold_block.new.disk (grow number (take 512 now) ∷ []) number (true ≡ true) P mid new (λ is. search rules) (λ is. refl) c.in_err-later.ensures.does in
    let more = DoesTo-then D (grows number i all) (grow number (take 512 now) ∷ []) number g.met.D.Disk.lasts_on P self mid new c.args.disk.now c.loop-block.disk c.hold_block.new.disk inv.does step in
    blocks-cut D P self new c.args.disk.now c.hold_block.new.disk number bytes _ _ (search rules) c.requires.ready.stands_on.holds.reached c.requires.fits
    (all-later number i all now inv.left c.args.blocks c.loop-block-test.true c.requires.whole)
    (subst (λ (cs : List Command). DoesTo D P self new c.args.disk.now c.hold_block.new.disk cs number) (one-more number i all now inv.left) more)

pub loop-block-preserved : goal.loop-block-preserved
loop-block-preserved g c =
    let D = g.D.Disk in
    let self = c.args.self.now in
    let mid = c.loop-block.self in
    let new = c.hold_block.new.self in
    let number = c.args.number in
    let all = waiting_with self number c.args.bytes.now in
    let now = waiting_with mid number c.loop-block.later.now in
    let i = c.loop-block.block in
    let inv = c.loop-block.invariant in
    let step = DoesTo-same D c.loop-block.disk c.hold_block.new.disk (grow number (take 512 now) ∷ []) number (false ≡ true) ⊥ mid new (λ is. cc is) (λ never. absurd never) c.in_ok-later.ensures.does in
    record {
      does =
          subst (λ (cs : List Command). DoesTo D ⊥ self new c.args.disk.now c.hold_block.new.disk cs number) (one-more number i all now inv.left)
          (DoesTo-then D (grows number i all) (grow number (take 512 now) ∷ []) number g.met.D.Disk.lasts_on ⊥ self mid new c.args.disk.now c.loop-block.disk c.hold_block.new.disk inv.does step);
      fits = c.in_ok-later.ensures.fits;
      left =
          ap (λ (o : Option (List ℕ)). octets_or_none o ++ c.in_ok-later.later.now) c.in_ok-later.ensures.rest
          ∙ c.in_ok-later.ensures.later ∙ left-later number i all now inv.left;
    }

pub returns-clause-does : goal.returns-clause-does
returns-clause-does g c =
    let D = g.D.Disk in
    let self = c.args.self.now in
    let mid = c.loop-block.self in
    let number = c.args.number in
    let all = waiting_with self number c.args.bytes.now in
    let inv = c.loop-block.invariant in
    let new : StoreState = state_from c.bring.new.self.files c.self.inside.kept.journal in
    let end : c.loop-block.block ≡ c.args.blocks = search rules in
    let brought = subst (λ (s : StoreState). ChangesRest s.files new.files number (rest_with s.files number c.loop-block.later.now)) c.self.view_is c.bring.ensures in
    let to = subst (λ (n : ℕ). DoesTo D ⊥ self mid c.args.disk.now c.loop-block.disk (grows number n all) number) (end ∙ c.requires.whole) inv.does in
    DoesTo-to D c.args.disk.now c.loop-block.disk (whole_grows number all) number (false ≡ true) self mid new _ brought (ap (λ (s : StoreState). s.journal) c.self.view_is)
    (DoesTo-same D c.args.disk.now c.loop-block.disk (whole_grows number all) number ⊥ (false ≡ true) self mid (λ never. absurd never) (λ e. cc e) to)

pub returns-clause-rest : goal.returns-clause-rest
returns-clause-rest g c =
    let mid = c.loop-block.self in
    let number = c.args.number in
    let all = waiting_with c.args.self.now number c.args.bytes.now in
    let inv = c.loop-block.invariant in
    let new : StoreState = state_from c.bring.new.self.files c.self.inside.kept.journal in
    let end : c.loop-block.block ≡ c.args.blocks = search rules in
    let brought = subst (λ (s : StoreState). ChangesRest s.files new.files number (rest_with s.files number c.loop-block.later.now)) c.self.view_is c.bring.ensures in
    brought-waits mid new number c.loop-block.later.now inv.fits.waits brought ∙ ap (λ (octets : List ℕ). Some octets) (inv.left ∙ ap (λ (n : ℕ). drop (512 * n) all) (end ∙ c.requires.whole))

pub bring-requires-clause-room : goal.bring-requires-clause-room
bring-requires-clause-room g c =
    let number = c.args.number in
    let all = waiting_with c.args.self.now number c.args.bytes.now in
    let inv = c.loop-block.invariant in
    let end : c.loop-block.block ≡ c.args.blocks = search rules in
    let waits = octets_or_none (rest_in c.loop-block.self number) in
    let long : length (waits ++ c.loop-block.later.now) ≡ length all - 512 * c.loop-block.block = ap length inv.left ∙ length-drop (512 * c.loop-block.block) all in
    let same = ap (λ (s : StoreState). length (octets_or_none (rest_in s number))) c.self.view_is in
    omega (arith, same, long, length-append waits c.loop-block.later.now, end, c.requires.whole)

pub bring-requires-clause-out : goal.bring-requires-clause-out
bring-requires-clause-out g c =
    ap is_some (ap (λ (s : StoreState). rest_in s c.args.number) c.self.view_is ∙ c.loop-block.invariant.fits.waits.out)
