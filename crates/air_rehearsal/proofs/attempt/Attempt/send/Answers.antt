-- The frame that is read is sent; a SABM begins an attempt.
use Rattle.std.proofs.Common.{◌≡◌, ap, refl, subst, sym, ◌∙◌}
use Rattle.air_rehearsal.specs.declared.attempt.Attempt.{Attempt}
use Rattle.air_rehearsal.proofs.Names.{on_ok_weaker, FrameValue, is_call, HasLanes, beginning, sort_of}
use Rattle.air_rehearsal.proofs.AttemptLemmas.{Begins, begins, goes-on, sends}
use Rattle.air_rehearsal.proofs.attempt.Attempt.send.Goals as goal
use Rattle.air_rehearsal.proofs.attempt.Attempt.send.Goals.{then-is_call, else-is_call}

pub returns-in_default : goal.returns-in_default
returns-in_default c lanes frame has text = absurd (c.in_default.ensures.only frame text)

pub returns : goal.returns
returns c =
    on_ok_weaker c.put.result
    (λ puts lanes frame has text.
    let is = c.in-Ok.ensures.only frame text in
    let call_is : c.is_call.result ≡ is_call frame.kind.control =
    c.is_call.ensures ∙ ap (λ (it : FrameValue). is_call it.kind.control) is in
    let was : Begins c.if-is_call.self lanes (is_call frame.kind.control) =
    elim c.if-is_call.branch [
      | then-is_call w ↦
          begins c.if-is_call.self lanes (is_call frame.kind.control) (sym call_is ∙ w.if-is_call.true)
          (subst (λ (self : Attempt). HasLanes self (beginning lanes)) (sym w.self-is) (w.begin.ensures lanes has))
      | else-is_call w ↦
          goes-on c.if-is_call.self lanes (is_call frame.kind.control) (sym call_is ∙ w.if-is_call.false)
          (subst (λ (self : Attempt). HasLanes self lanes) (sym w.self-is) has)
    ] in
    sends frame lanes c.if-is_call.self _ was refl refl refl
    (puts _ frame was.by_client text
    (c.of.ensures ∙ ap (λ (it : FrameValue). sort_of it.kind.control) is)))
    c.put.ensures
