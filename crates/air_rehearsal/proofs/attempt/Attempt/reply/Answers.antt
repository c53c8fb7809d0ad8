-- The frame that is read is sent, and if it is a UA the attempt is answered.
use Rattle.std.proofs.Common.{◌≡◌, ◌||◌, ap, refl, ◌∙◌}
use Rattle.air_rehearsal.proofs.Names.{on_ok_weaker, FrameValue, is_ua, sort_of}
use Rattle.air_rehearsal.proofs.AttemptLemmas.{replies}
use Rattle.air_rehearsal.proofs.attempt.Attempt.reply.Goals as goal
use Rattle.air_rehearsal.proofs.attempt.Attempt.reply.Goals.{then-self, else-self}

pub returns-in_default : goal.returns-in_default
returns-in_default c lanes frame has text = absurd (c.in_default.ensures.only frame text)

pub returns : goal.returns
returns c =
    on_ok_weaker c.put.result
    (λ puts lanes frame has text.
    let is = c.in-Ok.ensures.only frame text in
    let answered : c.if-self.self ≡ (c.args.self.now.is_answered || is_ua frame.kind.control) =
    elim c.if-self.branch [
      | then-self w ↦ cc (w.if-self.true, w.self-is)
      | else-self w ↦
          let ua_is = ap (λ (it : FrameValue). is_ua it.kind.control) is in
          cc (w.if-self.false, w.is_ua-self.ensures, w.self-is)
    ] in
    replies frame lanes c.args.self.now _ has refl answered refl
    (puts lanes.by_server frame has.by_server text
    (c.of.ensures ∙ ap (λ (it : FrameValue). sort_of it.kind.control) is)))
    c.put.ensures
