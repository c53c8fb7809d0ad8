-- What the server makes of a frame: of the attempts of the client whose frame it is, and of all others.
use Rattle.std.proofs.Common.{◌≡◌, ◌≢◌, ℕ, List, [], ◌∷◌, Bool, true, false, refl, sym, ap, subst, ◌∙◌}
use Rattle.ftl0_server.specs.StepLaws.Steps as server
use Rattle.air_world.proofs.attempts.Names.{CallSign, FrameValue, is_call, hears, HearingLaw, Server, ServerStep, Stepped, Attempt, Calls, IsBetween, SaysFit, ServerHearsLaw, did_in, after_hearing}
use Rattle.air_world.proofs.attempts.Current.{ComesBy, comes-by, newest-served}
use Rattle.air_world.proofs.attempts.ServerCalls.{opened-at, opened-calls, reopened-at}
use Rattle.air_world.proofs.attempts.ServerHears.{heard-calls}
use Rattle.air_world.proofs.attempts.ServerPassed.{passed-calls}
use Rattle.air_world.proofs.attempts.ServerStays.{IsHeard, frame-cases, frame-keeps-server, heard-resits, heard-slots}
use Rattle.air_world.proofs.attempts.ServerStays.{opened-resits, opened-slots, passed-slots}
use Rattle.air_world.proofs.attempts.Sitting.{calls-kept, none-seats, other-seats}

module _ (hearing_law : HearingLaw) (old : Server) (frame : FrameValue) (moment : ℕ) (gives : Stepped)
    (between : IsBetween old)
    (step : ServerStep old (hears frame moment) [] gives) where
  -- ---- another client's

  other : (me : CallSign) (attempts : List Attempt) → Calls old me attempts → me ≢ frame.src
      → Calls gives.new me attempts
  other me attempts calls apart =
      frame-cases old frame moment gives step (Calls gives.new me attempts)
      (λ h. let slots = heard-slots old frame moment gives step hearing_law between h in
      calls-kept old gives.new me between
      (other-seats old gives.new me frame.src h.place h.changes.now h.changes.within apart slots between
      (heard-resits old frame moment gives step hearing_law between h)) attempts h.changes.keeps.me
      h.changes.keeps.window calls)
      (λ h. let slots = opened-slots old frame moment gives step hearing_law between h in
      calls-kept old gives.new me between
      (other-seats old gives.new me frame.src h.place h.changes.now h.changes.within apart slots between
      (opened-resits old frame moment gives step hearing_law between h)) attempts h.changes.keeps.me
      h.changes.keeps.window calls)
      (λ h. let slots = passed-slots old frame moment gives step hearing_law between h in
      calls-kept old gives.new me between (none-seats old gives.new me slots) attempts h.changes.keeps.me
      h.changes.keeps.window calls)

  -- ---- the sender's

  module _ (fits : SaysFit old frame moment) (attempts marked : List Attempt) (calls : Calls old frame.src attempts)
      (comes : ComesBy attempts marked frame) where
    abbrev Then : List Attempt → Type 0
    Then list = Calls gives.new frame.src (after_hearing (did_in moment step) frame list)

    here : Calls old frame.src (comes.attempt ∷ comes.older)
    here = subst (Calls old frame.src) comes.attempts_are calls

    heard-by : IsHeard old frame moment gives step → (b : Bool) → is_call frame.kind.control ≡ b → Then marked
    heard-by h true calls_is =
        let at =
        reopened-at old frame moment gives step between calls_is fits.moment_fits hearing_law h
        (comes.attempt ∷ comes.older) here.attempts_are
        (here.sits.some h.place h.c h.is_place h.there) in
        subst Then (sym comes.marked_is)
        (opened-calls old frame moment gives step between calls_is fits.moment_fits at comes.attempt comes.older
        here.attempts_are here.windows comes.place comes.t
        comes.lawful comes.frame_is)
    heard-by h false other_is =
        let has =
        newest-served frame.src old.me comes.attempt comes.older h.c comes.place comes.t here.attempts_are.0
        comes.lawful.sent
        (ap (λ (f : FrameValue). is_call f.kind.control) (sym comes.frame_is) ∙ other_is)
        (here.sits.some h.place h.c h.is_place h.there) in
        subst Then (sym comes.marked_is)
        (heard-calls old frame moment gives step hearing_law between h other_is fits comes.attempt comes.older has.side
        has.is_side has.connected_is has.is_up
        here.attempts_are here.windows here.sits.newest_up comes.place comes.t comes.lawful comes.frame_is)

    own : Then marked
    own =
        frame-cases old frame moment gives step (Then marked) (λ h. heard-by h (is_call frame.kind.control) refl)
        (λ h. subst Then (sym comes.marked_is)
        (opened-calls old frame moment gives step between h.calls fits.moment_fits
        (opened-at old frame moment gives step between h.calls fits.moment_fits hearing_law h) comes.attempt comes.older
        here.attempts_are here.windows
        comes.place comes.t comes.lawful comes.frame_is))
        (λ h. subst Then (sym comes.marked_is)
        (passed-calls old frame moment gives step between h comes.attempt comes.older comes.place comes.t
        comes.lawful.sent here))

pub server-hears : HearingLaw → server.SomeStepLaw → server.OneStepLaw → ServerHearsLaw
server-hears hearing_law some one = record {
  server =
      λ old frame moment gives between step. frame-keeps-server old frame moment gives step hearing_law between some
      one;
  own = λ old frame moment gives attempts marked between fits calls delivers step.
      own hearing_law old frame moment gives between step fits attempts marked calls
      (comes-by attempts marked frame delivers);
  other = λ old frame moment gives me attempts between calls apart step. other hearing_law old frame moment gives
      between step me attempts calls apart;
}
