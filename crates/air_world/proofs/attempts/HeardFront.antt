-- What a session takes by a frame are the next packets that its client said.
use Rattle.std.proofs.Common.{◌≡◌, ℕ, List, [], ◌∷◌, ◌++◌, Bool, true, Some, Ok, map, sym, subst, ◌∙◌}
use Rattle.ftl0_server.specs.Entries as session
use Rattle.ftl0_server.specs.Entries.{entries_heard}
use Rattle.ftl0_server.specs.StepLaws.Steps as server
use Rattle.air_world.proofs.attempts.Names.{AllByRecursion, CallSign, FrameValue, IsLawful, Transmission, delivering, sending_all, LinkEnd, Window, hears, Store, CallerList, Connected, HearingLaw, Attempt, IsAttempt, AreAttempts, HeardFrontLaw, AreFirstOf, ServerSide, said_by_client}
use Rattle.air_world.proofs.attempts.Current.{comes-by}
use Rattle.air_world.proofs.attempts.Fronts.{took-first}
use Rattle.air_world.proofs.attempts.ServerHears.{own-step}
use Rattle.air_world.proofs.attempts.ServerLink.{answered-by}
use Rattle.air_world.proofs.attempts.ServerOwn.{OwnStep, hears-on, linked}
use Rattle.air_world.proofs.attempts.ServerStays.{heard-at}
use Rattle.air_world.proofs.attempts.SessionAppend.{packets-are}

module _ (me server : CallSign) (a : Attempt) (side : ServerSide) (is : IsAttempt me server a)
    (has : a.server ≡ Some side) (is_up : side.is_up ≡ true)
    (place : ℕ) (t : Transmission) (lawful : IsLawful a.window a.by_client place t) (frame : FrameValue)
    (frame_is : frame ≡ t.frame) where
  module _ (w : Window) (same : a.window ≡ w) (moment : ℕ) (store : Store) (lists : List CallerList)
      (frames : List FrameValue) (last : LinkEnd) (up : Bool)
      (h : OwnStep w moment store lists frame frames last up side.connected) where
    pub own-front : AreFirstOf
        (session.items_in (side.entries ++ entries_heard w moment store lists side.connected frame))
        (map Ok (said_by_client a.client))
    own-front =
        took-first me server a (delivering a.by_client place t) (sending_all a.by_server frames) last _ _ is
        (linked me server a side is has is_up place t lawful frame frame_is w same moment store lists frames last up h)
        (packets-are w moment store lists frame side (entries_heard w moment store lists side.connected frame) frames
        last up (answered-by me server a side is has).session
        (hears-on me server a side is has is_up place t lawful frame frame_is w same moment store lists frames last up
        h))

pub heard-front : HearingLaw → server.SomeStepLaw → HeardFrontLaw
heard-front hearing_law some old frame moment attempts marked place c between calls delivers other is there served =
    let on = some old (hears frame moment) [] between.may_step in
    let at = heard-at old frame moment on.gives on.step place c is there in
    let are = subst (λ (l : List Attempt). AreAttempts frame.src old.me l) served.attempts_are calls.attempts_are in
    let windows =
    subst (λ (l : List Attempt). AllByRecursion (λ a. a.window ≡ old.window) l) served.attempts_are calls.windows in
    let comes = comes-by attempts marked frame delivers in
    let newest : comes.attempt ∷ comes.older ≡ served.attempt ∷ served.older =
    sym comes.attempts_are ∙ served.attempts_are in
    let lawful =
    subst (λ (a : Attempt). IsLawful a.window a.by_client comes.place comes.t)
    (let same : comes.attempt ≡ served.attempt = cc in same) comes.lawful in
    subst
    (λ (x : Connected). AreFirstOf
    (session.items_in (served.side.entries ++ entries_heard old.window moment old.store old.lists x frame))
    (map Ok (said_by_client served.attempt.client))) served.connected_is
    (own-front frame.src old.me served.attempt served.side are.0 served.is_side served.is_up comes.place comes.t
    lawful frame comes.frame_is old.window windows.0 moment old.store old.lists on.gives.frames at.0.ends.last _
    (own-step old frame moment on.gives on.step hearing_law between at.0 other served.side
    (served.connected_is ∙ sym at.1)))
