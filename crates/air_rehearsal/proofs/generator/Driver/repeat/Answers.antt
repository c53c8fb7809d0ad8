-- Each delivery is one more.
use Rattle.std.proofs.Common.{◌≡◌, ℕ, ◌+◌, ◌-◌, refl, subst, sym, arith}
use Rattle.air_rehearsal.proofs.Names.{cuts_by, Event, IsInRange, delivery_of, Tries, TriesTimes}
use Rattle.air_rehearsal.proofs.DrawLemmas.{delivery-fits, times-more}
use Rattle.air_rehearsal.proofs.DriveLemmas.{Owes, drives_as, owes_done, owes_more, owes_none}
use Rattle.air_rehearsal.proofs.generator.Driver.repeat.Goals as goal

pub loop-init : goal.loop-init
loop-init g c =
    let cuts = cuts_by g.B.CutDisk.restarts g.B.CutDisk.arming g.B.CutDisk.plain g.B.CutDisk.is_starved in
    let event : Event = delivery_of c.args.way c.args.client (c.args.place + 1) in
    let times : ℕ = c.args.times in
    owes_none g.B.Disk cuts (TriesTimes times event) (TriesTimes (times - 0) event) _ c.requires.ready
    (λ world playing x last is state_is left.
    subst (λ (n : ℕ). TriesTimes n event x last) (let e : times - 0 ≡ times = omega arith in e) left)

pub delivery-delivery-requires : goal.delivery-delivery-requires
delivery-delivery-requires g c = c.requires.place

pub play-requires-clause-ready : goal.play-requires-clause-ready
play-requires-clause-ready g c = c.loop.invariant.ready

pub play-requires-clause-fits : goal.play-requires-clause-fits
play-requires-clause-fits g c = λ world sound plays.
    subst IsInRange (sym c.delivery-delivery.ensures) (delivery-fits c.args.way c.args.client (c.args.place + 1))

pub loop-preserved : goal.loop-preserved
loop-preserved g c =
    let cuts = cuts_by g.B.CutDisk.restarts g.B.CutDisk.arming g.B.CutDisk.plain g.B.CutDisk.is_starved in
    let event : Event = delivery_of c.args.way c.args.client (c.args.place + 1) in
    let times : ℕ = c.args.times in
    let i : ℕ = c.loop.counter in
    owes_more g.B.Disk cuts (TriesTimes times event) (TriesTimes (times - i) event) (TriesTimes (times - (i + 1)) event) _ _
    _ c.loop.invariant
    (drives_as g.B.Disk cuts _ (Owes (TriesTimes (times - i) event) (TriesTimes (times - (i + 1)) event)) _ _
    (λ x y tries last left.
    times-more event times i x y last c.loop-test.true (subst (λ (e : Event). Tries e x y) c.delivery-delivery.ensures tries) left)
    c.in_ok-server.ensures)

pub returns : goal.returns
returns g c =
    let cuts = cuts_by g.B.CutDisk.restarts g.B.CutDisk.arming g.B.CutDisk.plain g.B.CutDisk.is_starved in
    let event : Event = delivery_of c.args.way c.args.client (c.args.place + 1) in
    let times : ℕ = c.args.times in
    let i : ℕ = c.loop.counter in
    owes_done g.B.Disk cuts (TriesTimes times event) (TriesTimes (times - i) event) _ _
    (λ x.
    subst (λ (n : ℕ). TriesTimes n event x x) (let e : 0 ≡ times - i = omega (arith, c.loop-test.false) in e) refl)
    c.loop.invariant
