-- The upload of the session is given up, and the files stay.
use Rattle.std.proofs.Common.{◌≡◌, ap, sym, ◌∙◌, subst}
use Rattle.ftl0_session.specs.declared.uploads.phase.Phase.TheVariants as phase
use Rattle.ftl0_session.proofs.Names.{store_in, in_parked, Phase, NoOtherOut, PhaseIsHeld, SessionState, number_of}
use Rattle.ftl0_session.proofs.uploads.HoldLemmas.{own-entry}
use Rattle.ftl0_session.proofs.uploads.OtherLemmas.{changes-same, only-none, others-kept}
use Rattle.ftl0_session.proofs.uploads.session.Session.end.Goals as goal

pub returns-in-Receiving-clause-only : goal.returns-in-Receiving-clause-only
returns-in-Receiving-clause-only c = λ was.
    let store = c.args.store.now in
    let now = c.park.new.self in
    let up = c.in-Receiving.up in
    let rest = c.park.ensures.rest in
    let here : c.args.self.phase ≡ phase.Receiving up = ap (λ (s : SessionState). s.phase) (sym c.self.view_is) ∙ c.in-Receiving.is in
    only-none store now up.number c.args.self.caller (changes-same up.number (store_in store) (store_in now) (in_parked store now rest.store_is)) rest.others
    (subst (λ (p : Phase). NoOtherOut store c.args.self.caller (number_of p)) here was) rest.here

pub returns-in-Receiving-clause-others : goal.returns-in-Receiving-clause-others
returns-in-Receiving-clause-others c =
    let store = c.args.store.now in
    let now = c.park.new.self in
    let up = c.in-Receiving.up in
    let rest = c.park.ensures.rest in
    let here : c.args.self.phase ≡ phase.Receiving up = ap (λ (s : SessionState). s.phase) (sym c.self.view_is) ∙ c.in-Receiving.is in
    let held = subst (λ (p : Phase). PhaseIsHeld store c.args.self.caller p) here c.requires in
    others-kept store now up.number c.args.self.caller (changes-same up.number (store_in store) (store_in now) (in_parked store now rest.store_is)) rest.others
    (own-entry c.args.self.caller store up held.0 held.1) c.park.ensures.uploads
