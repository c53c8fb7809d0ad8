-- Each round is one more.
use Rattle.std.proofs.Common.{◌≡◌, ℕ, ◌+◌, ◌-◌, refl, subst, arith}
use Rattle.air_rehearsal.proofs.Names.{cuts_by, rounds, Turns}
use Rattle.air_rehearsal.proofs.DrawLemmas.{rounds-more}
use Rattle.air_rehearsal.proofs.DriveLemmas.{Owes, drives_as, owes_done, owes_more, owes_none}
use Rattle.air_rehearsal.proofs.generator.Driver.rounds.Goals as goal

pub loop-init : goal.loop-init
loop-init g c =
    let cuts = cuts_by g.B.CutDisk.restarts g.B.CutDisk.arming g.B.CutDisk.plain g.B.CutDisk.is_starved in
    let count : ℕ = c.args.count in
    owes_none g.B.Disk cuts (Turns (rounds count)) (Turns (rounds (count - 0))) _ c.requires
    (λ world playing x last is state_is left.
    subst (λ (n : ℕ). Turns (rounds n) x last) (let e : count - 0 ≡ count = omega arith in e) left)

pub round-requires : goal.round-requires
round-requires g c = c.loop.invariant.ready

pub loop-preserved : goal.loop-preserved
loop-preserved g c =
    let cuts = cuts_by g.B.CutDisk.restarts g.B.CutDisk.arming g.B.CutDisk.plain g.B.CutDisk.is_starved in
    let count : ℕ = c.args.count in
    let i : ℕ = c.loop.counter in
    owes_more g.B.Disk cuts (Turns (rounds count)) (Turns (rounds (count - i))) (Turns (rounds (count - (i + 1)))) _ _ _
    c.loop.invariant
    (drives_as g.B.Disk cuts (Turns (rounds 1)) (Owes (Turns (rounds (count - i))) (Turns (rounds (count - (i + 1))))) _ _
    (λ x y turns last left. rounds-more count i x y last c.loop-test.true turns left) c.in_ok-server.ensures)

pub returns : goal.returns
returns g c =
    let cuts = cuts_by g.B.CutDisk.restarts g.B.CutDisk.arming g.B.CutDisk.plain g.B.CutDisk.is_starved in
    let count : ℕ = c.args.count in
    let i : ℕ = c.loop.counter in
    owes_done g.B.Disk cuts (Turns (rounds count)) (Turns (rounds (count - i))) _ _
    (λ x.
    subst (λ (n : ℕ). Turns (rounds n) x x) (let e : 0 ≡ count - i = omega (arith, c.loop-test.false) in e) refl)
    c.loop.invariant
