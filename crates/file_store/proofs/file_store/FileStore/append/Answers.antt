use Rattle.std.proofs.Common.{◌≡◌, ℕ, ◌+◌, ◌*◌, ◌/◌, true, false, length, None, Some, sym, ◌∙◌, ap, subst, arith}
use Rattle.file_store.proofs.Names.{ChangesRest, octets_or_none, unfilled_block, whole_grows, DoesTo, StoreState, rest_in, state_from, Holds, Upload, appended, appending, waiting_with}
use Rattle.file_store.proofs.HoldLemmas.{DoesTo-to}
use Rattle.file_store.proofs.TokenLemmas.{holds-each}
use Rattle.file_store.proofs.UploadLemmas.{appended-holds, appending-are, blocks-come, bytes-fit, does-keeps, keeps-parked}
use Rattle.file_store.proofs.file_store.FileStore.append.Goals as goal

pub returns-then-failed-clause-keeps : goal.returns-then-failed-clause-keeps
returns-then-failed-clause-keeps g c =
    keeps-parked g.D.Disk c.args.self.now c.park.new.self c.args.disk.now c.args.up.number c.park.ensures.rest.store_is c.park.ensures.journal c.requires.stands_on c.park.ensures.rest.others

pub hold_blocks-requires-clause-fits : goal.hold_blocks-requires-clause-fits
hold_blocks-requires-clause-fits g c =
    bytes-fit c.args.self.now c.args.up c.args.bytes.now c.number-number.result c.number-number.ensures c.requires.holds (omega (arith, c.missing.ensures.missing, c.if-bytes-missing.false))

pub hold_blocks-requires-clause-whole : goal.hold_blocks-requires-clause-whole
hold_blocks-requires-clause-whole g c =
    let number = c.number-number.result in
    blocks-come c.args.self.now number c.waiting.result.now c.args.bytes.now (c.waiting.ensures.octets ∙ ap (λ (s : StoreState). octets_or_none (rest_in s number)) c.self.view_is)

pub returns-in-Ok-clause-holds : goal.returns-in-Ok-clause-holds
returns-in-Ok-clause-holds g c =
    let self = c.args.self.now in
    let up = c.args.up in
    let bytes = c.args.bytes.now in
    let new = c.hold_blocks.new.self in
    let to = subst (λ (n : ℕ). DoesTo g.D.Disk (false ≡ true) self new c.args.disk.now c.hold_blocks.new.disk (whole_grows n (waiting_with self n bytes)) n) c.number-number.ensures c.in-Ok.ensures.does in
    let rest = subst (λ (n : ℕ). rest_in new n ≡ Some (unfilled_block (waiting_with self n bytes))) c.number-number.ensures c.in-Ok.ensures.rest in
    let blocks =
    blocks-come self c.number-number.result c.waiting.result.now bytes (c.waiting.ensures.octets ∙ ap (λ (s : StoreState). octets_or_none (rest_in s c.number-number.result)) c.self.view_is)
    ∙ ap (λ (n : ℕ). length (waiting_with self n bytes) / 512) c.number-number.ensures in
    let next : c.moved_on.result ≡ appended self up bytes = c.moved_on.ensures ∙ ap (λ (n : ℕ). record up { held = up.held + 512 * n }) blocks in
    subst (λ (u : Upload). Holds new u) (sym next)
    (appended-holds self new up bytes c.requires.holds (omega (arith, c.missing.ensures.missing, c.if-bytes-missing.false)) (to.whole (λ e. cc e)) rest)

pub returns-in-Ok-clause-memory : goal.returns-in-Ok-clause-memory
returns-in-Ok-clause-memory g c =
    let self = c.args.self.now in
    let bytes = c.args.bytes.now in
    let to = subst (λ (n : ℕ). DoesTo g.D.Disk (false ≡ true) self c.hold_blocks.new.self c.args.disk.now c.hold_blocks.new.disk (whole_grows n (waiting_with self n bytes)) n) c.number-number.ensures c.in-Ok.ensures.does in
    to.whole (λ e. cc e)

pub returns-in-Ok-clause-every_image : goal.returns-in-Ok-clause-every_image
returns-in-Ok-clause-every_image g c =
    let to = c.in-Ok.ensures.does in
    holds-each g.D.Disk c.hold_blocks.new.self c.hold_blocks.new.disk (to.does.done (λ e. cc e)).1 to.stands_on c.moved_on.result (returns-in-Ok-clause-holds g c)

pub returns-in-Ok-clause-keeps : goal.returns-in-Ok-clause-keeps
returns-in-Ok-clause-keeps g c =
    let self = c.args.self.now in
    let up = c.args.up in
    let bytes = c.args.bytes.now in
    let new = c.hold_blocks.new.self in
    let to = subst (λ (n : ℕ). DoesTo g.D.Disk (false ≡ true) self new c.args.disk.now c.hold_blocks.new.disk (whole_grows n (waiting_with self n bytes)) n) c.number-number.ensures c.in-Ok.ensures.does in
    does-keeps g.D.Disk self new c.hold_blocks.new.disk (appending self up bytes) up c.requires.holds (appending-are self up bytes) to.part to.stands_on to.rests

pub returns-in-Err-clause-does : goal.returns-in-Err-clause-does
returns-in-Err-clause-does g c reaches =
    let D = g.D.Disk in
    let self = c.args.self.now in
    let bytes = c.args.bytes.now in
    let held = c.hold_blocks.new.self in
    let disk_now = c.hold_blocks.new.disk in
    let new : StoreState = state_from c.park-in-Err.new.self.files c.self-2.inside.kept.journal in
    let parked = subst (λ (s : StoreState). ChangesRest s.files new.files c.args.up.number None) c.self-2.view_is (subst (λ (n : ℕ). ChangesRest c.self-2.inside.kept.ledger.files new.files n None) c.end.ensures c.park-in-Err.ensures) in
    let to = subst (λ (n : ℕ). DoesTo D (true ≡ true) self held c.args.disk.now disk_now (whole_grows n (waiting_with self n bytes)) n) c.number-number.ensures c.in-Err.ensures.does in
    let all = DoesTo-to D c.args.disk.now disk_now (appending self c.args.up bytes) c.args.up.number (true ≡ true) self held new None parked (ap (λ (s : StoreState). s.journal) c.self-2.view_is) to in
    all.does

pub returns-in-Err-clause-keeps : goal.returns-in-Err-clause-keeps
returns-in-Err-clause-keeps g c =
    let D = g.D.Disk in
    let self = c.args.self.now in
    let bytes = c.args.bytes.now in
    let held = c.hold_blocks.new.self in
    let disk_now = c.hold_blocks.new.disk in
    let new : StoreState = state_from c.park-in-Err.new.self.files c.self-2.inside.kept.journal in
    let parked = subst (λ (s : StoreState). ChangesRest s.files new.files c.args.up.number None) c.self-2.view_is (subst (λ (n : ℕ). ChangesRest c.self-2.inside.kept.ledger.files new.files n None) c.end.ensures c.park-in-Err.ensures) in
    let to = subst (λ (n : ℕ). DoesTo D (true ≡ true) self held c.args.disk.now disk_now (whole_grows n (waiting_with self n bytes)) n) c.number-number.ensures c.in-Err.ensures.does in
    let all = DoesTo-to D c.args.disk.now disk_now (appending self c.args.up bytes) c.args.up.number (true ≡ true) self held new None parked (ap (λ (s : StoreState). s.journal) c.self-2.view_is) to in
    does-keeps D self new disk_now (appending self c.args.up bytes) c.args.up c.requires.holds (appending-are self c.args.up bytes) all.part all.stands_on all.rests
