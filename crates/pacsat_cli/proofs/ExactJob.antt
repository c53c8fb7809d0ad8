-- The status of a client's command that came to its job, by what the definition makes of that.
use Rattle.std.proofs.Common.{◌≡◌, ℕ, List, [], ◌∷◌, ◌++◌, length, refl, ap, sym, subst, ◌∙◌, inl, inr, arith, true}
use Rattle.std.specs.Prelude.{◌⊎◌}
use Rattle.px_base.specs.declared.air.Turn.TheVariants as turn
use Rattle.ftl0_client.specs.Outcome.TheVariants as outcome
use Rattle.turn_loop.specs.declared.finished.Finished.TheVariants as finished
use Rattle.turn_loop.specs.declared.stop.NodeStop.TheVariants as node
use Rattle.uploader.specs.declared.stop.SendStop.TheVariants as stop
use Rattle.pacsat_cli.specs.declared.status.RefusedBy.TheVariants as by_whom
use Rattle.pacsat_cli.specs.declared.status.Status.TheVariants as status
use Rattle.pacsat_cli.proofs.Names.{Contains, Option, None, Some, Result, Ok, Err, EndsWith, HasEnd, Turn, Outcome, TurnsBy, Finished, NodeStop, SendStop, ComesBy, IsCutShort, is_of_turns, by_outcome, stop_of_turns, Status, IsCause, IsLinkDown, IsNoFault, IsWanted, status_of_stop}
use Rattle.pacsat_cli.proofs.ClientStops.{StatusBy}
use Rattle.pacsat_cli.proofs.OpenTurns.{ends_with-not_open, failed-no_end}

-- ---- the statuses of faults

abbrev pub faults : List Status
faults = status.AirWrite ∷ status.Disk ∷ status.Out ∷ status.Shelf ∷ status.OutOfMemory ∷ []

pub at-write : Contains faults status.AirWrite
at-write = (0, omega arith, refl)

pub at-disk : Contains faults status.Disk
at-disk = (1, omega arith, refl)

pub at-out : Contains faults status.Out
at-out = (2, omega arith, refl)

pub at-shelf : Contains faults status.Shelf
at-shelf = (3, omega arith, refl)

pub at-memory : Contains faults status.OutOfMemory
at-memory = (4, omega arith, refl)

-- a status that is one of these isn't none of them
pub no-fault : {X : Type 0} (s other : Status) → IsNoFault s → s ≡ other → Contains faults other → X
no-fault s other fine is fault = absurd (fine (subst (λ (t : Status). Contains faults t) (sym is) fault))

-- ---- turns end in one way

ends-have : (earlier : List Turn) → HasEnd (earlier ++ turn.End ∷ [])
ends-have [] = tt
ends-have ((turn.Bytes octets) ∷ earlier) = ends-have earlier
ends-have (turn.Quiet ∷ earlier) = ends-have earlier
ends-have (turn.Fail ∷ earlier) = ends-have earlier
ends-have (turn.End ∷ earlier) = tt

fail-or-end : {X : Type 0} (turns : List Turn) → EndsWith turns turn.Fail → EndsWith turns turn.End → X
fail-or-end turns fail end =
    let P : List Turn → Type 0 = λ x. HasEnd x in
    absurd (failed-no_end fail.0 fail.2 (subst P (sym end.1 ∙ fail.1) (ends-have end.0)))

-- turns that end a command end it in one way
same-stops : (polls : ℕ) (turns : List Turn) (a b : Result Finished NodeStop) → is_of_turns a ≡ true → is_of_turns b ≡ true → TurnsBy a polls turns → TurnsBy b polls turns → stop_of_turns a ≡ stop_of_turns b
same-stops polls turns (Ok (finished.Closed count)) (Ok (finished.Closed other)) of too h k = refl
same-stops polls turns (Ok (finished.Closed count)) (Err node.AirRead) of too h k = fail-or-end turns k h.0
same-stops polls turns (Ok (finished.Closed count)) (Err node.Spent) of too h k = absurd (ends_with-not_open turns turn.End h.0 k.1)
same-stops polls turns (Ok (finished.Closed count)) b of too h k = absurd (cc too)
same-stops polls turns (Err node.AirRead) (Ok (finished.Closed other)) of too h k = fail-or-end turns h k.0
same-stops polls turns (Err node.AirRead) (Err node.AirRead) of too h k = refl
same-stops polls turns (Err node.AirRead) (Err node.Spent) of too h k = absurd (ends_with-not_open turns turn.Fail h k.1)
same-stops polls turns (Err node.AirRead) b of too h k = absurd (cc too)
same-stops polls turns (Err node.Spent) (Ok (finished.Closed other)) of too h k = absurd (ends_with-not_open turns turn.End k.0 h.1)
same-stops polls turns (Err node.Spent) (Err node.AirRead) of too h k = absurd (ends_with-not_open turns turn.Fail k h.1)
same-stops polls turns (Err node.Spent) (Err node.Spent) of too h k = refl
same-stops polls turns (Err node.Spent) b of too h k = absurd (cc too)
same-stops polls turns a b of too h k = absurd (cc of)

-- ---- outcomes

wanted-ok : (reached : Outcome) → IsWanted (Some reached) → by_outcome reached ≡ Ok reached
wanted-ok (outcome.Acked number) h = refl
wanted-ok (outcome.Fetched number) h = refl
wanted-ok outcome.Listed h = refl
wanted-ok (outcome.Refused code) h = absurd h
wanted-ok (outcome.BadFile code) h = absurd h
wanted-ok (outcome.LinkDown why) h = absurd h
wanted-ok (outcome.Strange kind) h = absurd h

-- what is wanted is an outcome
wanted-some : (reached : Option Outcome) → IsWanted reached → (some : Outcome) × (reached ≡ Some some) × IsWanted (Some some)
wanted-some None h = absurd h
wanted-some (Some some) h = (some, refl, h)

down-either : (turns : List Turn) (reached : Option Outcome) → IsLinkDown turns reached → ((some : Outcome) × (reached ≡ Some some) × (by_outcome some ≡ Err stop.LinkDown)) ⊎ ((reached ≡ None) × EndsWith turns turn.End)
down-either turns (Some (outcome.LinkDown why)) h = inl (outcome.LinkDown why, refl, refl)
down-either turns None h = inr (refl, h)
down-either turns (Some (outcome.Acked number)) h = absurd h
down-either turns (Some (outcome.Fetched number)) h = absurd h
down-either turns (Some outcome.Listed) h = absurd h
down-either turns (Some (outcome.Refused code)) h = absurd h
down-either turns (Some (outcome.BadFile code)) h = absurd h
down-either turns (Some (outcome.Strange kind)) h = absurd h

-- ---- a command and its job

-- How a command ended by what came of its job: it stopped as that did, or by a fault behind it; and it is done only where
-- that came which it asks for.
pub record EndsAs {T : Type 0} (came : Result Outcome SendStop) (ended : Result T SendStop) : Type 0 where
  pub along : (why : SendStop) → ended ≡ Err why → (came ≡ Err why) ⊎ Contains faults (status_of_stop why)
  pub some : (value : T) → ended ≡ Ok value → (reached : Outcome) × (came ≡ Ok reached) × IsWanted (Some reached)

module _ {T : Type 0} (came : Result Outcome SendStop) (ended : Result T SendStop) (s : Status) (is : StatusBy ended s) (ends_as : EndsAs came ended) (fine : IsNoFault s) where
  -- it stopped as its job did
  came-err : (why : SendStop) → came ≡ Err why → s ≡ status_of_stop why
  came-err why e = by_end ended refl
    where
      by_end : (r : Result T SendStop) → ended ≡ r → s ≡ status_of_stop why
      by_end (Ok value) it = let h = ends_as.some value it in absurd (let both = sym h.1 ∙ e in cc)
      by_end (Err other) it = elim (ends_as.along other it) [
        | inl same ↦ (let both : other ≡ why = (let x = sym same ∙ e in cc) in is.stopped other it ∙ ap status_of_stop both)
        | inr fault ↦ no-fault s (status_of_stop other) fine (is.stopped other it) fault
      ]

  -- or is done with it
  came-ok : (reached : Outcome) → came ≡ Ok reached → (s ≡ status.Done) × IsWanted (Some reached)
  came-ok reached e = by_end ended refl
    where
      by_end : (r : Result T SendStop) → ended ≡ r → (s ≡ status.Done) × IsWanted (Some reached)
      by_end (Ok value) it =
          let h = ends_as.some value it in
          let same : h.0 ≡ reached = (let x = sym h.1 ∙ e in cc) in
          (elim (is.done value it) [ inl done ↦ done | inr out ↦ no-fault s status.Out fine out at-out ], subst (λ (r : Outcome). IsWanted (Some r)) same h.2)
      by_end (Err other) it = elim (ends_as.along other it) [
        | inl same ↦ absurd (let x = sym same ∙ e in cc)
        | inr fault ↦ no-fault s (status_of_stop other) fine (is.stopped other it) fault
      ]

  cut-never : {X : Type 0} → IsCutShort came → X
  cut-never (inl e) = no-fault s status.AirWrite fine (came-err stop.AirWrite e) at-write
  cut-never (inr (inl e)) = no-fault s status.Disk fine (came-err stop.Disk e) at-disk
  cut-never (inr (inr e)) = no-fault s status.OutOfMemory fine (came-err stop.OutOfMemory e) at-memory

  -- the status has its cause
  outcome-cause : (polls : ℕ) (turns : List Turn) (reached : Outcome) → came ≡ by_outcome reached → IsCause polls turns (Some reached) s
  outcome-cause polls turns (outcome.Acked number) e = subst (λ (t : Status). IsCause polls turns (Some (outcome.Acked number)) t) (sym (came-ok (outcome.Acked number) e).0) tt
  outcome-cause polls turns (outcome.Fetched number) e = subst (λ (t : Status). IsCause polls turns (Some (outcome.Fetched number)) t) (sym (came-ok (outcome.Fetched number) e).0) tt
  outcome-cause polls turns outcome.Listed e = subst (λ (t : Status). IsCause polls turns (Some outcome.Listed) t) (sym (came-ok outcome.Listed e).0) tt
  outcome-cause polls turns (outcome.Refused code) e = subst (λ (t : Status). IsCause polls turns (Some (outcome.Refused code)) t) (sym (came-err (stop.Refused code) e)) refl
  outcome-cause polls turns (outcome.BadFile code) e = subst (λ (t : Status). IsCause polls turns (Some (outcome.BadFile code)) t) (sym (came-err (stop.BadFile code) e)) refl
  outcome-cause polls turns (outcome.LinkDown why) e = subst (λ (t : Status). IsCause polls turns (Some (outcome.LinkDown why)) t) (sym (came-err stop.LinkDown e)) tt
  outcome-cause polls turns (outcome.Strange kind) e = subst (λ (t : Status). IsCause polls turns (Some (outcome.Strange kind)) t) (sym (came-err (stop.Strange kind) e)) refl

  turns-cause : (polls : ℕ) (turns : List Turn) (reached : Option Outcome) (ended_ : Result Finished NodeStop) → is_of_turns ended_ ≡ true → reached ≡ None → TurnsBy ended_ polls turns → came ≡ Err (stop_of_turns ended_)
      → IsCause polls turns reached s
  turns-cause polls turns reached (Err node.AirRead) of working ends e = subst (λ (t : Status). IsCause polls turns reached t) (sym (came-err stop.AirRead e)) (working, ends)
  turns-cause polls turns reached (Ok (finished.Closed count)) of working ends e =
      subst (λ (t : Status). IsCause polls turns reached t) (sym (came-err stop.LinkDown e)) (subst (λ (r : Option Outcome). IsLinkDown turns r) (sym working) ends.0)
  turns-cause polls turns reached (Err node.Spent) of working ends e = subst (λ (t : Status). IsCause polls turns reached t) (sym (came-err stop.Spent e)) (working, ends.0, ends.1)
  turns-cause polls turns reached ended_ of working ends e = absurd (cc of)

  module _ (polls : ℕ) (turns : List Turn) (reached : Option Outcome) (comes : ComesBy polls turns reached came) where
    to-cause : IsCause polls turns reached s
    to-cause = elim comes [
      | inl became ↦ subst (λ (r : Option Outcome). IsCause polls turns r s) (sym became.1) (outcome-cause polls turns became.0 became.2)
      | inr others ↦ elim others [
        | inl t ↦ turns-cause polls turns reached t.ended t.of_turns t.working t.ends t.came_is
        | inr cut ↦ cut-never cut
      ]
    ]

    -- something became of the job
    became : (result : Result Outcome SendStop) (some : Outcome) → reached ≡ Some some → by_outcome some ≡ result → came ≡ result
    became result some is e = elim comes [
      | inl there ↦ (let same : there.0 ≡ some = (let both = sym there.1 ∙ is in cc) in there.2 ∙ ap by_outcome same ∙ e)
      | inr others ↦ elim others [ inl t ↦ absurd (let both = sym t.working ∙ is in cc) | inr cut ↦ cut-never cut ]
    ]

    -- nothing did
    turned_by : (ended_ : Result Finished NodeStop) → is_of_turns ended_ ≡ true → reached ≡ None → TurnsBy ended_ polls turns → s ≡ status_of_stop (stop_of_turns ended_)
    turned_by ended_ of working ends = elim comes [
      | inl there ↦ absurd (let both = sym working ∙ there.1 in cc)
      | inr others ↦ elim others [
        | inl t ↦ came-err (stop_of_turns ended_) (t.came_is ∙ ap Err (same-stops polls turns t.ended ended_ t.of_turns of t.ends ends))
        | inr cut ↦ cut-never cut
      ]
    ]

    from-cause : (other : Status) → IsCause polls turns reached other → s ≡ other
    from-cause status.Done h =
        let wanted = wanted-some reached h in
        (came-ok wanted.0 (became (Ok wanted.0) wanted.0 wanted.1 (wanted-ok wanted.0 wanted.2))).0
    from-cause (status.Refused (by_whom.Server code)) h = came-err (stop.Refused code) (became (Err (stop.Refused code)) (outcome.Refused code) h refl)
    from-cause (status.Refused (by_whom.Fault code)) h = came-err (stop.BadFile code) (became (Err (stop.BadFile code)) (outcome.BadFile code) h refl)
    from-cause (status.Strange kind) h = came-err (stop.Strange kind) (became (Err (stop.Strange kind)) (outcome.Strange kind) h refl)
    from-cause status.LinkDown h = elim (down-either turns reached h) [
      | inl down ↦ came-err stop.LinkDown (became (Err stop.LinkDown) down.0 down.1 down.2)
      | inr ended_ ↦ turned_by (Ok (finished.Closed (length turns))) refl ended_.0 (ended_.1, refl)
    ]
    from-cause status.AirRead h = turned_by (Err node.AirRead) refl h.0 h.1
    from-cause status.Spent h = turned_by (Err node.Spent) refl h.0 (h.1, h.2)
    from-cause (status.Refused by_whom.Shown) h = absurd h
    from-cause other h = absurd h

  pub comes-exactly : (polls : ℕ) (turns : List Turn) (reached : Option Outcome) → ComesBy polls turns reached came → (other : Status) → ((s ≡ other) → IsCause polls turns reached other) × (IsCause polls turns reached other → s ≡ other)
  comes-exactly polls turns reached comes other =
      (λ e. subst (λ (t : Status). IsCause polls turns reached t) e (to-cause polls turns reached comes), from-cause polls turns reached comes other)
