-- The phase that the session goes on to is the one that was answered.
use Rattle.std.proofs.Common.{◌≡◌, ap, ap₂, sym, ◌∙◌, subst}
use Rattle.ftl0_session.proofs.Names.{CallSign, item_of, Phase, at, packet_of, IsHeld, IsOnlyOut, SessionState, state_of, TakesPacket, working_at}
use Rattle.ftl0_session.proofs.uploads.session.Session.take.Goals as goal

-- a session by its parts
abbrev session_of : CallSign → Phase → SessionState
session_of caller phase = record { caller = caller; phase = phase }

pub returns : goal.returns
returns g c =
    let phase : c.replace-phase.result ≡ c.args.self.now.phase = c.replace-phase.ensures.value ∙ ap (λ (s : SessionState). s.phase) c.self.view_is in
    let by : c.self.inside.caller ≡ c.args.self.now.caller = ap (λ (s : SessionState). s.caller) c.self.view_is in
    let here = c.take_asked-phase.ensures (item_of c.args.packet) c.of-asked.ensures in
    let all = rw (by, phase) at here in
    let same = ap₂ session_of by c.replace.ensures.after in
    let b = c.take_asked-phase.new in
    record {
      takes =
          subst
          (λ (s : SessionState). TakesPacket g.D.Disk (packet_of c.args.self.now.caller c.args.moment (item_of c.args.packet))
          (working_at (at c.args.store.now c.args.disk.now) (state_of c.args.store.now c.args.self.now.phase)) (working_at (at b.store b.disk) (state_of b.store s.phase)) b.replies.items
          c.take_asked-phase.result.1) (sym same) all.takes;
      failed = all.failed;
      kept = all.kept;
      others = all.others;
      caller = by;
      healthy = all.healthy;
      stands_on = all.stands_on;
      held = subst (λ (s : SessionState). IsHeld b.store s) (sym same) all.held;
      only = subst (λ (s : SessionState). IsOnlyOut b.store s) (sym same) all.only;
    }
