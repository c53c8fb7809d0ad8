use Rattle.std.proofs.Common.{◌≡◌, ℕ, Ok, Err, None, refl, sym, ◌∙◌, ap, subst, arith, rules}
use Rattle.file_store.specs.declared.end.End.TheVariants as end
use Rattle.file_store.proofs.Names.{Becomes, store_of, puts_among, puts_none, EndsFile, LeavesOthers, HoldsInEach, StoreState, placed_in, state_from, Holds, Upload, held_whole}
use Rattle.file_store.proofs.OnLemmas.{stands_parked}
use Rattle.file_store.proofs.OrderLemmas.{seals-bad, seals-cut, seals-good, seals-known, seals-unread}
use Rattle.file_store.proofs.SealLemmas.{leaves-keeps, leaves-then, parked-leaves}
use Rattle.file_store.proofs.SealedLemmas.{ended-each, ended-kept, ended-unread}
use Rattle.file_store.proofs.TokenLemmas.{holds-each}
use Rattle.file_store.proofs.UploadLemmas.{keeps-parked, whole-waiting}
use Rattle.file_store.proofs.file_store.FileStore.seal.Goals as goal

pub returns-then-failed-clause-keeps : goal.returns-then-failed-clause-keeps
returns-then-failed-clause-keeps g c =
    keeps-parked g.D.Disk c.args.self.now c.park.new.self c.args.disk.now c.args.up.number c.park.ensures.rest.store_is c.park.ensures.journal c.requires.stands_on c.park.ensures.rest.others

pub end_file-requires-clause-whole : goal.end_file-requires-clause-whole
end_file-requires-clause-whole g c =
    whole-waiting c.args.self.now c.args.up c.number-number.result c.number-number.ensures c.requires.holds (omega (arith, c.missing.ensures.missing, c.if-missing-gt0.false))

pub returns-in-Ok-Sealed-clause-ends : goal.returns-in-Ok-Sealed-clause-ends
returns-in-Ok-Sealed-clause-ends g c reaches =
    let D = g.D.Disk in
    let self = c.args.self.now in
    let ends : EndsFile D (Ok end.Sealed) self c.end_file.new.self c.args.disk.now c.end_file.new.disk c.args.up.number c.args.moment = search rules in
    seals-good D self c.end_file.new.self c.args.disk.now c.end_file.new.disk c.args.up c.args.moment _ ends

pub returns-in-Ok-Dropped-clause-ends : goal.returns-in-Ok-Dropped-clause-ends
returns-in-Ok-Dropped-clause-ends g c reaches =
    let D = g.D.Disk in
    let self = c.args.self.now in
    let ends : EndsFile D (Ok (end.Dropped c.in-Ok-Dropped.code)) self c.end_file.new.self c.args.disk.now c.end_file.new.disk c.args.up.number c.args.moment = search rules in
    seals-bad D self c.end_file.new.self c.args.disk.now c.end_file.new.disk c.args.up c.args.moment c.in-Ok-Dropped.code ends

pub returns-in-Ok-Unread-clause-ends : goal.returns-in-Ok-Unread-clause-ends
returns-in-Ok-Unread-clause-ends g c reaches =
    let D = g.D.Disk in
    let self = c.args.self.now in
    let ends : EndsFile D (Ok end.Unread) self c.end_file.new.self c.args.disk.now c.end_file.new.disk c.args.up.number c.args.moment = search rules in
    seals-unread D self c.end_file.new.self c.args.disk.now c.end_file.new.disk c.args.up c.args.moment _ ends

pub returns-in-Ok-Unread-clause-unread : goal.returns-in-Ok-Unread-clause-unread
returns-in-Ok-Unread-clause-unread g c back is =
    let D = g.D.Disk in
    let self = c.args.self.now in
    let ends : EndsFile D (Ok end.Unread) self c.end_file.new.self c.args.disk.now c.end_file.new.disk c.args.up.number c.args.moment = search rules in
    let same : back ≡ held_whole c.args.up = let w = c.whole.ensures in cc in
    subst (λ (u : Upload). HoldsInEach D u c.end_file.new.disk) (sym same)
    (holds-each D c.end_file.new.self c.end_file.new.disk ((ends.does.done (λ e. cc e)).1) ends.leaves.stands_on (held_whole c.args.up)
    (ended-unread D self c.end_file.new.self c.args.disk.now c.end_file.new.disk c.args.up c.args.moment c.requires.holds ends))

pub returns-in-Err-clause-ends : goal.returns-in-Err-clause-ends
returns-in-Err-clause-ends g c reaches =
    let D = g.D.Disk in
    let self = c.args.self.now in
    let up = c.args.up in
    let disk_now = c.end_file.new.disk in
    let journal = c.self-2.inside.kept.journal in
    let new : StoreState = state_from c.park-in-Err.new.self.files journal in
    let ends : EndsFile D (Err c.in-Err.field-0) self c.end_file.new.self c.args.disk.now disk_now up.number c.args.moment = search rules in
    let store = c.park-in-Err.ensures.store_is ∙ ap (λ (s : StoreState). store_of s.files) c.self-2.view_is in
    seals-cut D self c.end_file.new.self c.args.disk.now disk_now up c.args.moment _ new store (ap (λ (s : StoreState). s.journal) c.self-2.view_is) ends

pub returns-in-Ok-Sealed-clause-does : goal.returns-in-Ok-Sealed-clause-does
returns-in-Ok-Sealed-clause-does g c reaches known =
    seals-known g.D.Disk _ c.args.self.now c.end_file.new.self c.args.disk.now c.end_file.new.disk c.args.up c.args.moment (returns-in-Ok-Sealed-clause-ends g c reaches) known

pub returns-in-Ok-Dropped-clause-does : goal.returns-in-Ok-Dropped-clause-does
returns-in-Ok-Dropped-clause-does g c reaches known =
    seals-known g.D.Disk _ c.args.self.now c.end_file.new.self c.args.disk.now c.end_file.new.disk c.args.up c.args.moment (returns-in-Ok-Dropped-clause-ends g c reaches) known

pub returns-in-Err-clause-does : goal.returns-in-Err-clause-does
returns-in-Err-clause-does g c reaches known =
    let new : StoreState = state_from c.park-in-Err.new.self.files c.self-2.inside.kept.journal in
    seals-known g.D.Disk _ c.args.self.now new c.args.disk.now c.end_file.new.disk c.args.up c.args.moment (returns-in-Err-clause-ends g c reaches) known

pub returns-in-Ok-Sealed-clause-complete : goal.returns-in-Ok-Sealed-clause-complete
returns-in-Ok-Sealed-clause-complete g c =
    let D = g.D.Disk in
    let self = c.args.self.now in
    let ends : EndsFile D (Ok end.Sealed) self c.end_file.new.self c.args.disk.now c.end_file.new.disk c.args.up.number c.args.moment = search rules in
    ended-kept D self c.end_file.new.self c.args.disk.now c.end_file.new.disk c.args.up c.args.moment c.requires.holds ends

pub returns-in-Ok-Sealed-clause-every_image : goal.returns-in-Ok-Sealed-clause-every_image
returns-in-Ok-Sealed-clause-every_image g c =
    let D = g.D.Disk in
    let self = c.args.self.now in
    let ends : EndsFile D (Ok end.Sealed) self c.end_file.new.self c.args.disk.now c.end_file.new.disk c.args.up.number c.args.moment = search rules in
    ended-each D self c.end_file.new.self c.args.disk.now c.end_file.new.disk c.args.up c.args.moment c.requires.holds ends

pub returns-in-Ok-Sealed-clause-keeps : goal.returns-in-Ok-Sealed-clause-keeps
returns-in-Ok-Sealed-clause-keeps g c =
    let D = g.D.Disk in
    let self = c.args.self.now in
    let ends : EndsFile D (Ok end.Sealed) self c.end_file.new.self c.args.disk.now c.end_file.new.disk c.args.up.number c.args.moment = search rules in
    leaves-keeps D self c.end_file.new.self c.end_file.new.disk c.args.up c.requires.holds ends.leaves

pub returns-in-Ok-Dropped-clause-keeps : goal.returns-in-Ok-Dropped-clause-keeps
returns-in-Ok-Dropped-clause-keeps g c =
    let D = g.D.Disk in
    let self = c.args.self.now in
    let leaves : LeavesOthers D self c.end_file.new.self c.end_file.new.disk c.args.up.number = search rules in
    leaves-keeps D self c.end_file.new.self c.end_file.new.disk c.args.up c.requires.holds leaves

pub returns-in-Ok-Unread-clause-back : goal.returns-in-Ok-Unread-clause-back
returns-in-Ok-Unread-clause-back g c =
    let D = g.D.Disk in
    let self = c.args.self.now in
    let ends : EndsFile D (Ok end.Unread) self c.end_file.new.self c.args.disk.now c.end_file.new.disk c.args.up.number c.args.moment = search rules in
    subst (λ (u : Upload). Holds c.end_file.new.self u) (sym c.whole.ensures) (ended-unread D self c.end_file.new.self c.args.disk.now c.end_file.new.disk c.args.up c.args.moment c.requires.holds ends)

pub returns-in-Ok-Unread-clause-keeps : goal.returns-in-Ok-Unread-clause-keeps
returns-in-Ok-Unread-clause-keeps g c =
    let D = g.D.Disk in
    let self = c.args.self.now in
    let leaves : LeavesOthers D self c.end_file.new.self c.end_file.new.disk c.args.up.number = search rules in
    leaves-keeps D self c.end_file.new.self c.end_file.new.disk c.args.up c.requires.holds leaves

pub returns-then-failed-clause-puts : goal.returns-then-failed-clause-puts
returns-then-failed-clause-puts g c = puts_among g.D.Disk _ c.args.disk.now c.args.disk.now (puts_none g.D.Disk c.args.disk.now _ (λ is. cc is) (g.met.D.Disk.lasts_same c.args.disk.now))

pub returns-in-Err-clause-keeps : goal.returns-in-Err-clause-keeps
returns-in-Err-clause-keeps g c =
    let D = g.D.Disk in
    let self = c.args.self.now in
    let up = c.args.up in
    let disk_now = c.end_file.new.disk in
    let journal = c.self-2.inside.kept.journal in
    let mid : StoreState = state_from c.self-2.inside.kept.ledger.files journal in
    let new : StoreState = state_from c.park-in-Err.new.self.files journal in
    let ended : LeavesOthers D self c.end_file.new.self disk_now up.number = search rules in
    let leaves = subst (λ (s : StoreState). LeavesOthers D self s disk_now up.number) (sym c.self-2.view_is) ended in
    let parked = subst (λ (n : ℕ). Becomes mid.files new.files (placed_in mid) n None) c.end-in-Err.ensures c.park-in-Err.ensures in
    let stands = stands_parked D mid new disk_now parked.store_is refl leaves.stands_on in
    leaves-keeps D self new disk_now up c.requires.holds
    (leaves-then D self mid new disk_now disk_now up.number leaves (parked-leaves D mid new disk_now up.number stands parked))
