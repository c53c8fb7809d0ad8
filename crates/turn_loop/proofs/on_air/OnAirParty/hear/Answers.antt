-- Octets that finish no frame for the station are passed over, and the first that does hands it on.
use Rattle.std.proofs.Common.{◌≡◌, length, [], ◌∷◌, ◌+◌, None, Some, subst, sym, ◌∙◌, take, arith}
use Rattle.ax25_frames.specs.Values.{value_of}
use Rattle.turn_loop.proofs.Names.{take_all, take_more, octets_from_fits, at, octets_at, on_air}
use Rattle.turn_loop.proofs.BringsLemmas.{is_true, no-frame, octet-heard, one-frame}
use Rattle.turn_loop.proofs.OnAirLemmas.{fed-all, fed-frame, feeding-more, feeding-none, feeding-run, octets-front, octets-more}
use Rattle.turn_loop.proofs.on_air.OnAirParty.hear.Goals as goal

pub loop-count-init : goal.loop-count-init
loop-count-init g c = feeding-none g.S.Station.me (at c.args.self.now c.args.disk.now) c.requires.fit.1

pub loop-count-preserved-then-not-feed : goal.loop-count-preserved-then-not-feed
loop-count-preserved-then-not-feed g c =
    let moment = c.args.moment in
    let piece = c.args.piece.now in
    let count = c.loop-count.count + c.pass-count.result in
    let mid = c.pass-count.new.self in
    feeding-more g.S.Station.me (at c.args.self.now c.args.disk.now) (at (record { reader = mid; station = c.loop-count.self.station }) c.loop-count.disk) (octets_at moment (take count piece))
    (feeding-run g.S.Station.me (at c.args.self.now c.args.disk.now) (at c.loop-count.self c.loop-count.disk) moment piece c.loop-count.count c.pass-count.result c.loop-count.invariant mid c.pass-count.ensures.me c.pass-count.ensures.hears)
    c.feed.new.self _ moment c.feed.ensures.me
    (λ all heard. (
      octet-heard mid.me mid c.feed.new.self _ all heard c.feed.result c.feed.ensures.hears,
      no-frame mid.me mid c.feed.new.self _ all heard c.feed.result c.if-not-feed.true c.feed.ensures.hears,
    ))
    (octets_at moment (take (count + 1) piece)) (octets-more moment piece count _ (take_more piece count 0 (omega (arith, c.loop-count-test.true))))

pub loop-count-preserved : goal.loop-count-preserved
loop-count-preserved g c =
    let moment = c.args.moment in
    let piece = c.args.piece.now in
    let count = c.loop-count.count + c.pass-count.result in
    let mid = c.pass-count.new.self in
    feeding-more g.S.Station.me (at c.args.self.now c.args.disk.now) (at (record { reader = mid; station = c.loop-count.self.station }) c.loop-count.disk) (octets_at moment (take count piece))
    (feeding-run g.S.Station.me (at c.args.self.now c.args.disk.now) (at c.loop-count.self c.loop-count.disk) moment piece c.loop-count.count c.pass-count.result c.loop-count.invariant mid c.pass-count.ensures.me c.pass-count.ensures.hears)
    c.feed.new.self _ moment c.feed.ensures.me
    (λ all heard. (
      octet-heard mid.me mid c.feed.new.self _ all heard c.feed.result c.feed.ensures.hears,
      one-frame mid.me mid c.feed.new.self _ all heard c.feed.new.self.me None c.feed.ensures.me (c.feed.ensures.ended.0 (is_true c.feed.result c.if-not-feed.false)) c.in-None.ensures.frame c.feed.result c.if-not-feed.false c.feed.ensures.hears,
    ))
    (octets_at moment (take (count + 1) piece)) (octets-more moment piece count _ (take_more piece count 0 (omega (arith, c.loop-count-test.true))))

pub returns-in-Ok-clause-takes : goal.returns-in-Ok-clause-takes
returns-in-Ok-clause-takes g c =
    let moment = c.args.moment in
    let piece = c.args.piece.now in
    let count = c.loop-count.count + c.pass-count.result in
    let mid = c.pass-count.new.self in
    fed-frame g.S.Station.me (at c.args.self.now c.args.disk.now) (at (record { reader = mid; station = c.loop-count.self.station }) c.loop-count.disk) (octets_at moment (take count piece))
    (feeding-run g.S.Station.me (at c.args.self.now c.args.disk.now) (at c.loop-count.self c.loop-count.disk) moment piece c.loop-count.count c.pass-count.result c.loop-count.invariant mid c.pass-count.ensures.me c.pass-count.ensures.hears)
    c.feed.new.self _ moment (value_of c.in-Some.frame ∷ []) c.feed.ensures.me
    (λ all heard. (
      octet-heard mid.me mid c.feed.new.self _ all heard c.feed.result c.feed.ensures.hears,
      one-frame mid.me mid c.feed.new.self _ all heard c.feed.new.self.me (Some (value_of c.in-Some.frame)) c.feed.ensures.me (c.feed.ensures.ended.0 (is_true c.feed.result c.if-not-feed.false)) c.in-Some.ensures.frame c.feed.result c.if-not-feed.false c.feed.ensures.hears,
    ))
    g.S.Station.course None c.hear.new.self c.hear.new.disk
    (octets_at moment (take (count + 1) piece)) (octets-more moment piece count _ (take_more piece count 0 (omega (arith, c.loop-count-test.true))))
    (octets-front moment piece (count + 1) (octets_from_fits piece c.type_inv.piece)) c.requires.fit.2 c.hear.ensures.me c.in-Ok.ensures.takes

pub returns-in-Err-clause-halts : goal.returns-in-Err-clause-halts
returns-in-Err-clause-halts g c =
    let moment = c.args.moment in
    let piece = c.args.piece.now in
    let count = c.loop-count.count + c.pass-count.result in
    let mid = c.pass-count.new.self in
    let halt = c.in-Err.ensures.takes in (
      count + 1,
      omega arith,
      omega (arith, c.pass-count.ensures.within, c.loop-count-test.true),
      (
        halt.0,
        halt.1,
        fed-frame g.S.Station.me (at c.args.self.now c.args.disk.now) (at (record { reader = mid; station = c.loop-count.self.station }) c.loop-count.disk) (octets_at moment (take count piece))
            (feeding-run g.S.Station.me (at c.args.self.now c.args.disk.now) (at c.loop-count.self c.loop-count.disk) moment piece c.loop-count.count c.pass-count.result c.loop-count.invariant mid c.pass-count.ensures.me c.pass-count.ensures.hears)
            c.feed.new.self _ moment (value_of c.in-Some.frame ∷ []) c.feed.ensures.me
            (λ all heard. (
              octet-heard mid.me mid c.feed.new.self _ all heard c.feed.result c.feed.ensures.hears,
              one-frame mid.me mid c.feed.new.self _ all heard c.feed.new.self.me (Some (value_of c.in-Some.frame)) c.feed.ensures.me (c.feed.ensures.ended.0 (is_true c.feed.result c.if-not-feed.false)) c.in-Some.ensures.frame c.feed.result c.if-not-feed.false c.feed.ensures.hears,
            ))
            g.S.Station.course (Some halt.0) c.hear.new.self c.hear.new.disk
            (octets_at moment (take (count + 1) piece)) (octets-more moment piece count _ (take_more piece count 0 (omega (arith, c.loop-count-test.true))))
            (octets-front moment piece (count + 1) (octets_from_fits piece c.type_inv.piece)) c.requires.fit.2 c.hear.ensures.me halt.2,
      ),
    )

pub returns-clause-takes : goal.returns-clause-takes
returns-clause-takes g c =
    let moment = c.args.moment in
    let piece = c.args.piece.now in
    let same : take c.loop-count.count piece ≡ take (length piece) piece = take_all _ piece c.loop-count-test.false ∙ sym (take_all _ piece (omega arith)) in
    subst (λ (os : _). (on_air g.S.Station.me g.S.Station.course).owes (at c.args.self.now c.args.disk.now) (octets_at moment os) None [] (at c.loop-count.self c.loop-count.disk)) same
    (fed-all g.S.Station.me (at c.args.self.now c.args.disk.now) (at c.loop-count.self c.loop-count.disk) (octets_at moment (take c.loop-count.count piece)) c.loop-count.invariant
    g.S.Station.course c.is_lawful.ensures c.requires.fit.0 c.requires.fit.2 (octets-front moment piece c.loop-count.count (octets_from_fits piece c.type_inv.piece)))

pub returns-then-count-piece-clause-takes : goal.returns-then-count-piece-clause-takes
returns-then-count-piece-clause-takes g c =
    let moment = c.args.moment in
    let piece = c.args.piece.now in
    let count = c.loop-count.count + c.pass-count.result in
    let mid = c.pass-count.new.self in
    let now = at (record { reader = mid; station = c.loop-count.self.station }) c.loop-count.disk in
    fed-all g.S.Station.me (at c.args.self.now c.args.disk.now) now (octets_at moment (take count piece))
    (feeding-run g.S.Station.me (at c.args.self.now c.args.disk.now) (at c.loop-count.self c.loop-count.disk) moment piece c.loop-count.count c.pass-count.result c.loop-count.invariant mid c.pass-count.ensures.me c.pass-count.ensures.hears)
    g.S.Station.course c.is_lawful.ensures c.requires.fit.0 c.requires.fit.2 (octets-front moment piece count (octets_from_fits piece c.type_inv.piece))
