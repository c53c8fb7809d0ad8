-- Each transmission is one more.
use Rattle.std.proofs.Common.{IfSome, ◌≡◌, ◌+◌, ◌%◌, ◌==◌, ℕ, List, None, Option, refl, sym, ap, subst, arith, ◌∙◌}
use Rattle.air_rehearsal.proofs.Names.{option_map, cuts_by, event_value, Event, IsInRange, Driven, Drives, delivery_of, driven_by, Carries, Drawing, TriesIf, TriesTimes, between, drawn, fate_of, next_number, put_off, times_of, Bench, bench_of, Fate}
use Rattle.air_rehearsal.proofs.DrawLemmas.{carries-more, delivery-fits, none-between, put-off, put-off-fits}
use Rattle.air_rehearsal.proofs.DriveLemmas.{Owes, Then, drives_draws, drives_in, drives_then, owes_done, owes_more, owes_none}
use Rattle.air_rehearsal.proofs.generator.Driver.carry.Goals as goal

pub loop-place-init : goal.loop-place-init
loop-place-init g c =
    let cuts = cuts_by g.B.CutDisk.restarts g.B.CutDisk.arming g.B.CutDisk.plain g.B.CutDisk.is_starved in
    let all = Carries (delivery_of c.args.way c.args.client) None (between c.args.from c.args.to) in
    record {
      late = tt;
      drives = owes_none g.B.Disk cuts all all _ c.requires (λ world playing x last is state_is left. left);
    }

pub repeat-requires-clause-ready : goal.repeat-requires-clause-ready
repeat-requires-clause-ready g c = c.loop-place.invariant.drives.ready

pub play-requires-clause-ready : goal.play-requires-clause-ready
play-requires-clause-ready g c = c.in_ok-server.ensures.ready

pub play-requires-clause-fits : goal.play-requires-clause-fits
play-requires-clause-fits g c = λ world sound plays. c.loop-place.invariant.late

pub loop-place-preserved : goal.loop-place-preserved
loop-place-preserved g c =
    let cuts = cuts_by g.B.CutDisk.restarts g.B.CutDisk.arming g.B.CutDisk.plain g.B.CutDisk.is_starved in
    let l = c.loop-place in
    let event : ℕ → Event = delivery_of c.args.way c.args.client in
    let place : ℕ = l.place in
    let to : ℕ = c.args.to in
    let number : ℕ = c.next-drawn.result in
    let fate : Fate = fate_of (number % 16) ((place + 1) == to) in
    let fate_is : c.by-fate.result ≡ fate = c.by-fate.ensures in
    let waiting : Option Event = option_map event_value l.late in
    let later : Option Event = put_off fate (event (place + 1)) in
    let later_is : option_map event_value c.put_off-late.result ≡ later =
    ap (option_map event_value) c.put_off-late.ensures
    ∙ put-off event_value c.by-fate.result c.delivery.result
    ∙ ap (put_off c.by-fate.result) c.delivery.ensures
    ∙ ap (λ (f : Fate). put_off f (event (place + 1))) fate_is in
    let whole = Carries event None (between c.args.from to) in
    let left = Carries event waiting (between place to) in
    let less = Carries event (option_map event_value c.put_off-late.result) (between (place + 1) to) in
    let bench : Bench _ = bench_of l.self.stations l.server l.disk l.disks in
    let draws = drives_draws g.B.Disk cuts 1 l.self.draws.state bench l.invariant.drives.ready in
    let first : Drives g.B.Disk cuts (λ (old new : Drawing). new ≡ drawn 1 old)
    (record { state = l.self.draws.state; bench = bench })
    (record { state = c.next-drawn.new.self.state; bench = bench }) =
    subst
    (λ (state : ℕ).
    Drives g.B.Disk cuts (λ (old new : Drawing). new ≡ drawn 1 old)
    (record { state = l.self.draws.state; bench = bench }) (record { state = state; bench = bench }))
    (sym c.next-drawn.ensures.state) draws in
    let before : Driven _ = record { state = c.next-drawn.new.self.state; bench = bench } in
    let amid : Driven _ = driven_by c.repeat.new.self c.in_ok-server.server c.repeat.new.disk c.repeat.new.disks in
    let second =
    subst (λ (n : ℕ). Drives g.B.Disk cuts (TriesTimes n (event (place + 1))) before amid)
    (c.times.ensures ∙ ap times_of fate_is) c.in_ok-server.ensures in
    record {
      late =
          subst (λ (o : Option _). IfSome o (λ it. IsInRange (event_value it))) (sym c.put_off-late.ensures)
          (put-off-fits c.by-fate.result c.delivery.result
          (subst IsInRange (sym c.delivery.ensures) (delivery-fits c.args.way c.args.client (place + 1))));
      drives =
          owes_more g.B.Disk cuts whole left less _ _ _ l.invariant.drives
          (drives_in g.B.Disk cuts
          (Then (λ (old new : Drawing). new ≡ drawn 1 old)
          (Then (TriesTimes (times_of fate) (event (place + 1))) (TriesIf waiting))) (Owes left less) _ _
          (λ world playing x y is state_is came last carries.
          carries-more event waiting place to number x y last c.loop-place-test.true
          (c.next-drawn.ensures.number ∙ ap next_number (sym state_is)) came
          (subst (λ (o : Option Event). Carries event o (between (place + 1) to) y last) later_is carries))
          (drives_then g.B.Disk cuts (λ (old new : Drawing). new ≡ drawn 1 old)
          (Then (TriesTimes (times_of fate) (event (place + 1))) (TriesIf waiting)) _ _ _ first
          (drives_then g.B.Disk cuts (TriesTimes (times_of fate) (event (place + 1))) (TriesIf waiting) _ _ _ second
          c.in_ok-server-2.ensures)));
    }

pub returns : goal.returns
returns g c =
    let cuts = cuts_by g.B.CutDisk.restarts g.B.CutDisk.arming g.B.CutDisk.plain g.B.CutDisk.is_starved in
    let l = c.loop-place in
    let event : ℕ → Event = delivery_of c.args.way c.args.client in
    owes_done g.B.Disk cuts (Carries event None (between c.args.from c.args.to))
    (Carries event (option_map event_value l.late) (between l.place c.args.to)) _ _
    (λ x.
    subst (λ (numbers : List ℕ). Carries event (option_map event_value l.late) numbers x x)
    (sym (none-between l.place c.args.to (let past = c.loop-place-test.false in omega (arith, past)))) refl)
    l.invariant.drives
