-- What the client of the number is asked for.
use Rattle.std.proofs.Common.{rules, ◌≡◌, ◌≤◌, ◌%◌, ℕ, Option, None, Some, refl, sym, ap, subst, ◌∙◌}
use Rattle.air_world.specs.Attempts.Party.{Party}
use Rattle.air_rehearsal.proofs.Names.{min, option_map, option_map_or, event_value, ask_download, ask_upload, Draw, next_number, none_drawn, state_after, wish_of, Seat}
use Rattle.air_rehearsal.proofs.AllowedLemmas.{has-party}
use Rattle.air_rehearsal.proofs.NumberedLemmas.{none-here}
use Rattle.air_rehearsal.proofs.WishLemmas.{downloads, draws-none, draws-question, draws-resume, going-is, none-going}
use Rattle.air_rehearsal.proofs.WishLemmas.{some-going, uploads}
use Rattle.air_rehearsal.proofs.generator.Driver.wish.Goals as goal
use Rattle.air_rehearsal.proofs.generator.Driver.wish.Goals.{in_default-via-in-Some+else-drawn-eq0}
use Rattle.air_rehearsal.proofs.generator.Driver.wish.Goals.{in_default-via-in_default}

pub returns-in_err-party-clause-wish : goal.returns-in_err-party-clause-wish
returns-in_err-party-clause-wish c world sound plays =
    let self = c.args.self.now in
    let none =
    ap (λ (o : Option Party). option_map_or (wish_of self.draws.state c.args.client) o none_drawn)
    (none-here self.stations world plays c.args.client c.in_err-party.ensures) in
    record {
      event_is = ap (option_map event_value) c.from_residual.ensures ∙ sym (ap (λ (d : Draw). d.event) none);
      state_is = ap (λ (d : Draw). state_after d.count self.draws.state) (sym none);
    }

pub returns-then-not-is_free-clause-wish : goal.returns-then-not-is_free-clause-wish
returns-then-not-is_free-clause-wish c world sound plays =
    let self = c.args.self.now in
    let stored = c.in_ok-party.party.now in
    let it = has-party self.stations world sound plays c.args.client stored c.in_ok-party.ensures in
    let free = c.is_free.ensures.party (record { world = world; c = it.c; party = it.party }) it.seat in
    draws-none self.stations world sound plays c.args.client self.draws.state stored it
    (λ idle. let yes = free.1 idle in let no = c.if-not-is_free.true in cc)

pub returns-then-is_some-clause-wish : goal.returns-then-is_some-clause-wish
returns-then-is_some-clause-wish c world sound plays =
    let self = c.args.self.now in
    let stored = c.in_ok-party.party.now in
    let it = has-party self.stations world sound plays c.args.client stored c.in_ok-party.ensures in
    let seat : Seat = record { world = world; c = it.c; party = it.party } in
    let free = (c.is_free.ensures.party seat it.seat).0 c.if-not-is_free.false in
    let last = going-is it.party.client.lists c.last_going.result (c.last_going.ensures.last seat it.seat) in
    let task = some-going c.last_going.result (sym c.is_some.ensures ∙ c.if-is_some.true) in
    draws-resume self.stations world sound plays c.args.client self.draws.state stored it free _ task.0 (last ∙ task.1)
    refl

pub returns-in-Some-clause-fits : goal.returns-in-Some-clause-fits
returns-in-Some-clause-fits c world sound plays =
    let self = c.args.self.now in
    let stored = c.in_ok-party.party.now in
    let it = has-party self.stations world sound plays c.args.client stored c.in_ok-party.ensures in
    let some = c.in-Some.ensures.some (record { world = world; c = it.c; party = it.party }) it.seat in
    (subst (λ (n : ℕ). 1 ≤ n) (sym c.get.ensures) some, search rules)

pub returns-in-Some-clause-wish : goal.returns-in-Some-clause-wish
returns-in-Some-clause-wish c world sound plays =
    let self = c.args.self.now in
    let stored = c.in_ok-party.party.now in
    let it = has-party self.stations world sound plays c.args.client stored c.in_ok-party.ensures in
    let seat : Seat = record { world = world; c = it.c; party = it.party } in
    let free = (c.is_free.ensures.party seat it.seat).0 c.if-not-is_free.false in
    let last = going-is it.party.client.lists c.last_going.result (c.last_going.ensures.last seat it.seat) in
    let none = none-going c.last_going.result (sym c.is_some.ensures ∙ c.if-is_some.false) in
    let drawn : ℕ = next_number self.draws.state in
    let fourth : (drawn % 4) ≡ 0 = ap (λ (n : ℕ). n % 4) (sym c.next-drawn.ensures.number) ∙ c.if-drawn-eq0.true in
    draws-question self.stations world sound plays c.args.client self.draws.state stored it free _
    (Some c.in-Some.number) c.next-drawn.new.self.state (last ∙ none) (sym (c.in-Some.ensures.last seat it.seat))
    (ap (ask_download c.args.client) c.get.ensures ∙ sym (downloads drawn c.args.client c.in-Some.number fourth))
    c.next-drawn.ensures.state

pub returns-in_default-clause-wish : goal.returns-in_default-clause-wish
returns-in_default-clause-wish c world sound plays =
    let self = c.args.self.now in
    let stored = c.in_ok-party.party.now in
    let it = has-party self.stations world sound plays c.args.client stored c.in_ok-party.ensures in
    let seat : Seat = record { world = world; c = it.c; party = it.party } in
    let free = (c.is_free.ensures.party seat it.seat).0 c.if-not-is_free.false in
    let last = going-is it.party.client.lists c.last_going.result (c.last_going.ensures.last seat it.seat) in
    let none = none-going c.last_going.result (sym c.is_some.ensures ∙ c.if-is_some.false) in
    let drawn : ℕ = next_number self.draws.state in
    let number_is = c.next-drawn.ensures.number in
    let octets : c.min.result ≡ min (drawn % 40001) 40000 =
    c.min.ensures ∙ ap (λ (n : ℕ). min (n % 40001) 40000) number_is in
    elim c.in_default.branch [
      | in_default-via-in-Some+else-drawn-eq0 w ↦
          draws-question self.stations world sound plays c.args.client self.draws.state stored it free _
          (Some w.in-Some.number) c.next-drawn.new.self.state (last ∙ none)
          (sym (w.in-Some.ensures.last seat it.seat))
          (ap (λ (n : ℕ). ask_upload c.args.client n) octets
          ∙ sym
          (uploads drawn c.args.client w.in-Some.number
          (λ is. w.if-drawn-eq0.false (ap (λ (n : ℕ). n % 4) number_is ∙ is))))
          c.next-drawn.ensures.state
      | in_default-via-in_default w ↦
          draws-question self.stations world sound plays c.args.client self.draws.state stored it free _ None
          c.next-drawn.new.self.state (last ∙ none) (sym (w.in_default.ensures.last seat it.seat))
          (ap (λ (n : ℕ). ask_upload c.args.client n) octets) c.next-drawn.ensures.state
    ]
