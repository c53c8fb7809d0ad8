-- What each of the two stations sent.
use Rattle.std.proofs.Common.{inl, inr, refl, arith}
use Rattle.air_rehearsal.proofs.Names.{[], None, IfOk-weaker, cuts_by, to_client, Answers, Carries, between}
use Rattle.air_rehearsal.proofs.DrawLemmas.{answers-carry, answers-tick, no-more, some-between}
use Rattle.air_rehearsal.proofs.DriveLemmas.{drives_as}
use Rattle.air_rehearsal.proofs.ExchangeLemmas.{exchanged}
use Rattle.air_rehearsal.proofs.generator.Driver.exchange.Goals as goal

pub carry-requires : goal.carry-requires
carry-requires g c = c.requires

pub tick-requires : goal.tick-requires
tick-requires g c = c.in_ok-server.ensures.ready

pub carry-requires-2 : goal.carry-requires-2
carry-requires-2 g c = c.in_ok-server.ensures.ready

pub returns-then-not-is_beyond : goal.returns-then-not-is_beyond
returns-then-not-is_beyond g c =
    let cuts = cuts_by g.B.CutDisk.restarts g.B.CutDisk.arming g.B.CutDisk.plain g.B.CutDisk.is_starved in
    let client = c.args.client in
    let before = c.args.looked.now in
    let sent = c.count_to_server-looked.result in
    let answered = c.count_to_client-looked.result in
    IfOk-weaker c.tick.result _ _
    (λ later ticks.
    exchanged g.B.Disk cuts client before sent answered _ _ _
    (λ world playing. c.count_to_server-looked.ensures world playing.bench.plays.stations)
    (λ world playing. c.count_to_client-looked.ensures world playing.bench.plays.stations) c.in_ok-server.ensures
    (drives_as g.B.Disk cuts (Answers client [] [])
    (Answers client (between before.to_server sent) (between before.to_client answered)) _ _
    (λ x y both.
    answers-tick client before.to_server sent before.to_client answered x y
    (no-more before.to_server sent (λ more. let no = c.if-not-is_beyond.ensures.1 (inl more) in cc))
    (no-more before.to_client answered (λ more. let no = c.if-not-is_beyond.ensures.1 (inr more) in cc)) both) ticks))
    c.tick.ensures

pub returns : goal.returns
returns g c =
    let cuts = cuts_by g.B.CutDisk.restarts g.B.CutDisk.arming g.B.CutDisk.plain g.B.CutDisk.is_starved in
    let client = c.args.client in
    let before = c.args.looked.now in
    let sent = c.count_to_server-looked.result in
    let answered = c.count_to_client-looked.result in
    IfOk-weaker c.carry-2.result _ _
    (λ later carried.
    exchanged g.B.Disk cuts client before sent answered _ _ _
    (λ world playing. c.count_to_server-looked.ensures world playing.bench.plays.stations)
    (λ world playing. c.count_to_client-looked.ensures world playing.bench.plays.stations) c.in_ok-server.ensures
    (drives_as g.B.Disk cuts (Carries (to_client client) None (between before.to_client answered))
    (Answers client (between before.to_server sent) (between before.to_client answered)) _ _
    (λ x y carries.
    answers-carry client (between before.to_server sent) (between before.to_client answered) x y
    (λ none none_either.
    let one = some-between before.to_server sent none in
    let other = some-between before.to_client answered none_either in
    elim (c.if-not-is_beyond.ensures.0 refl) [
      | inl more ↦ omega (arith, more, one)
      | inr more ↦ omega (arith, more, other)
    ]) carries) carried))
    c.carry-2.ensures
