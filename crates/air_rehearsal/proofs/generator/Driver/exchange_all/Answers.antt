-- Each exchange is one more.
use Rattle.std.proofs.Common.{◌≡◌, ◌+◌, ◌-◌, ℕ, refl, sym, ap, subst, arith, ◌∙◌}
use Rattle.air_rehearsal.proofs.Names.{cuts_by, Drawing, Exchange, Exchanges, IsClosed, none_looked, still_looked, Looked}
use Rattle.air_rehearsal.proofs.DrawLemmas.{exchanges-closed, exchanges-more}
use Rattle.air_rehearsal.proofs.DriveLemmas.{Owes, drives_in, drives_none, owes_all, owes_done, owes_more, owes_none}
use Rattle.air_rehearsal.proofs.generator.Driver.exchange_all.Goals as goal

pub loop-init : goal.loop-init
loop-init g c =
    let cuts = cuts_by g.B.CutDisk.restarts g.B.CutDisk.arming g.B.CutDisk.plain g.B.CutDisk.is_starved in
    let client : ℕ = c.args.client in
    let looked : Looked = c.none-looked.result in
    owes_none g.B.Disk cuts (λ (old new : Drawing). Exchanges 20 client (none_looked old.world client) old new)
    (Exchanges (20 - 0) client looked) _ c.requires
    (λ world playing x last is state_is left.
    subst (λ (it : Looked). Exchanges 20 client it x last)
    (c.none-looked.ensures world playing.bench.plays.stations ∙ ap (λ w. none_looked w client) (sym is)) left)

pub is_closed-requires : goal.is_closed-requires
is_closed-requires g c = c.loop.invariant.ready.clients

pub returns-then-is_closed : goal.returns-then-is_closed
returns-then-is_closed g c =
    let cuts = cuts_by g.B.CutDisk.restarts g.B.CutDisk.arming g.B.CutDisk.plain g.B.CutDisk.is_starved in
    let client : ℕ = c.args.client in
    let left = Exchanges (20 - c.loop.counter) client c.loop.looked in
    owes_all g.B.Disk cuts (λ (old new : Drawing). Exchanges 20 client (none_looked old.world client) old new) left _ _ _
    c.loop.invariant
    (drives_in g.B.Disk cuts (λ (old new : Drawing). new ≡ old) left _ _
    (λ world playing x y is state_is same.
    exchanges-closed c.loop.counter client c.loop.looked x y c.loop-test.true
    (subst (λ w. IsClosed w client) (sym is)
    ((c.if-is_closed.ensures world playing.bench.plays.stations playing.bench.enough).0 refl)) same)
    (drives_none g.B.Disk cuts _ c.loop.invariant.ready))

pub exchange-requires : goal.exchange-requires
exchange-requires g c = c.loop.invariant.ready

pub loop-preserved : goal.loop-preserved
loop-preserved g c =
    let cuts = cuts_by g.B.CutDisk.restarts g.B.CutDisk.arming g.B.CutDisk.plain g.B.CutDisk.is_starved in
    let client : ℕ = c.args.client in
    let done : ℕ = c.loop.counter in
    let looked : Looked = c.loop.looked in
    let at : Looked = c.at-looked.result in
    let now : Looked = c.exchange.new.looked in
    let left = Exchanges (20 - done) client looked in
    let less = Exchanges (20 - (done + 1)) client now in
    owes_more g.B.Disk cuts (λ (old new : Drawing). Exchanges 20 client (none_looked old.world client) old new) left
    less _ _ _ c.loop.invariant
    (drives_in g.B.Disk cuts (Exchange client at now) (Owes left less) _ _
    (λ world playing x y is state_is exchange last exchanges.
    exchanges-more done client looked now x y last c.loop-test.true
    (λ closed.
    let yes =
    (c.if-is_closed.ensures world playing.bench.plays.stations playing.bench.enough).1
    (subst (λ w. IsClosed w client) is closed) in cc)
    (subst (λ (it : Looked). Exchange client it now x y)
    (c.at-looked.ensures world playing.bench.plays.stations ∙ ap (λ w. still_looked w client looked) (sym is)) exchange)
    exchanges) c.in_ok-server.ensures)

pub returns : goal.returns
returns g c =
    let cuts = cuts_by g.B.CutDisk.restarts g.B.CutDisk.arming g.B.CutDisk.plain g.B.CutDisk.is_starved in
    let client : ℕ = c.args.client in
    owes_done g.B.Disk cuts (λ (old new : Drawing). Exchanges 20 client (none_looked old.world client) old new)
    (Exchanges (20 - c.loop.counter) client c.loop.looked) _ _
    (λ x.
    subst (λ (n : ℕ). Exchanges n client c.loop.looked x x)
    (let e : 0 ≡ 20 - c.loop.counter = omega (arith, c.loop-test.false) in e) refl) c.loop.invariant
