-- Each frame is handed out by the server and replied in the attempt, until nothing is left.
use Rattle.std.proofs.Common.{ℕ, List, refl, sym, ap, subst, ◌∙◌}
use Rattle.ftl0_server.specs.ServerState.{server_pending}
use Rattle.air_rehearsal.proofs.Names.{FrameText}
use Rattle.air_rehearsal.proofs.ServingSent.{replies-all, replies-first, replies-more}
use Rattle.air_rehearsal.proofs.serving.reply_all.Goals as goal

pub loop-out-init : goal.loop-out-init
loop-out-init c =
    (record { store = refl; me = refl }, λ store it is. replies-first store it c.args.server.now c.args.attempt.now is)

pub loop-out-preserved : goal.loop-out-preserved
loop-out-preserved c =
    let same = c.loop-out.invariant.0 in
    let next = c.next_out.ensures.same in (
      record { store = next.store ∙ same.store; me = next.me ∙ same.me },
      λ store it is.
          replies-more store it c.loop-out.server c.next_out.new.self c.args.attempt.now c.loop-out.attempt
          c.reply.new.self c.loop-out.out.items c.next_out.new.out.items c.next_out.result
          (c.loop-out.invariant.1 store it is) c.loop-out-test.true (c.next_out.ensures.next store)
          (λ lanes frame has text.
          c.in_ok-reply.ensures lanes frame has
          (subst (λ (o : List ℕ). FrameText frame o) (sym c.as_slice.ensures.value) text)),
    )

pub returns-clause-silent : goal.returns-clause-silent
returns-clause-silent c =
    ap server_pending (c.next_out.ensures.none c.loop-out-test.false) ∙ sym c.next_out.ensures.pending
    ∙ c.loop-out-test.false

pub returns-clause-replies : goal.returns-clause-replies
returns-clause-replies c = λ store it is.
    replies-all store it c.loop-out.server c.next_out.new.self c.args.attempt.now c.loop-out.attempt c.loop-out.out.items
    c.next_out.new.out.items c.next_out.result (c.loop-out.invariant.1 store it is) c.loop-out-test.false
    (c.next_out.ensures.next store) (c.next_out.ensures.settles store)
