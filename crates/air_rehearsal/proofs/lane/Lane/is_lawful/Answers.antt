-- By the sort of the frame at the place.
use Rattle.std.proofs.Common.{refl, sym, ◌∙◌}
use Rattle.air_rehearsal.proofs.Names.{not_from_false, window_of}
use Rattle.air_rehearsal.proofs.LaneLemmas.{call-lawful, foremost-lawful, none-lawful, overtaken-lawful, plain-lawful}
use Rattle.air_rehearsal.proofs.PairLemmas.{get-none, get-some}
use Rattle.air_rehearsal.proofs.lane.Lane.is_lawful.Goals as goal

pub returns-in_default : goal.returns-in_default
returns-in_default c list same =
    let all = c.args.self.now.sent.items in
    let at = get-none all c.deref.result.now c.args.place c.deref.ensures.value c.in_default.ensures.lookup.3 in
    (λ yes. cc, λ may. absurd (none-lawful all list same (window_of c.args.k) c.args.place at may))

pub returns-in-Call : goal.returns-in-Call
returns-in-Call c list same =
    let all = c.args.self.now.sent.items in
    let sent = c.in-Some.frame.now in
    let at = get-some all c.deref.result.now c.args.place sent c.deref.ensures.value c.in-Some.ensures.lookup.3 in
    call-lawful all list same c.args.place sent at (window_of c.args.k) c.in-Call.is

pub returns-then-not-is_overtaken : goal.returns-then-not-is_overtaken
returns-then-not-is_overtaken c list same =
    let all = c.args.self.now.sent.items in
    let sent = c.in-Some.frame.now in
    let at = get-some all c.deref.result.now c.args.place sent c.deref.ensures.value c.in-Some.ensures.lookup.3 in (
      λ yes.
          foremost-lawful all list same c.args.place sent at (window_of c.args.k) c.in-Numbered.is
          (sym c.is_overtaken.ensures ∙ c.if-not-is_overtaken.true),
      λ may. not_from_false c.is_overtaken.result c.if-not-is_overtaken.true,
    )

pub returns-else-not-is_overtaken : goal.returns-else-not-is_overtaken
returns-else-not-is_overtaken c list same =
    let all = c.args.self.now.sent.items in
    let sent = c.in-Some.frame.now in
    let at = get-some all c.deref.result.now c.args.place sent c.deref.ensures.value c.in-Some.ensures.lookup.3 in
    overtaken-lawful all list same c.args.place sent at c.args.k c.is_recent.result c.in-Numbered.is
    (sym c.is_overtaken.ensures ∙ c.if-not-is_overtaken.false) c.is_recent.ensures

pub returns-in-Plain : goal.returns-in-Plain
returns-in-Plain c list same =
    let all = c.args.self.now.sent.items in
    let sent = c.in-Some.frame.now in
    let at = get-some all c.deref.result.now c.args.place sent c.deref.ensures.value c.in-Some.ensures.lookup.3 in
    (λ yes. plain-lawful all list same c.args.place sent at (window_of c.args.k) c.in-Plain.is, λ may. refl)
