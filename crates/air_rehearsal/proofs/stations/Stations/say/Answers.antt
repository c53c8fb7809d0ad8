-- Each frame is handed out by the server and sent to the client that it is for, until nothing is left.
use Rattle.std.proofs.Common.{ℕ, List, refl, sym, ap, subst, ◌∙◌}
use Rattle.ftl0_server.specs.ServerState.{server_pending}
use Rattle.air_rehearsal.proofs.Names.{FrameText, IsGoodK, IsReady, StoreState}
use Rattle.air_rehearsal.proofs.ServingKeeps.{keeps-self, keeps-then, says-all, says-first, says-more}
use Rattle.air_rehearsal.proofs.stations.Stations.say.Goals as goal

pub loop-out-init : goal.loop-out-init
loop-out-init g c = (
  c.requires,
  keeps-self c.args.self.now,
  refl,
  record { store = refl; me = refl },
  λ store it is. says-first store it c.args.server.now c.args.self.now.parties.items is,
)

pub loop-out-preserved : goal.loop-out-preserved
loop-out-preserved g c =
    let up = c.loop-out.invariant.0 in
    let keeps = c.in_ok-send.ensures.keeps in
    let same = c.next_out.ensures.same in (
      record {
        window = subst (λ (k : ℕ). IsGoodK k) (sym keeps.k) up.window;
        me = same.me ∙ up.me ∙ sym keeps.me;
        ready = subst (λ (s : StoreState). IsReady g.D.Disk s c.args._disk.now) (sym same.store) up.ready;
      },
      keeps-then c.args.self.now c.loop-out.self c.send.new.self c.loop-out.invariant.1 keeps,
      c.in_ok-send.ensures.cut ∙ c.loop-out.invariant.2,
      record {
        store = same.store ∙ c.loop-out.invariant.3.store;
        me = same.me ∙ c.loop-out.invariant.3.me;
      },
      λ store it is.
          says-more store it c.loop-out.server c.next_out.new.self c.args.self.now.parties.items
          c.loop-out.self.parties.items c.send.new.self.parties.items c.loop-out.out.items c.next_out.new.out.items
          c.next_out.result (c.loop-out.invariant.4 store it is) c.loop-out-test.true (c.next_out.ensures.next store)
          (λ frame text.
          c.in_ok-send.ensures.timed frame
          (subst (λ (o : List ℕ). FrameText frame o) (sym c.as_slice.ensures.value) text)),
    )

pub returns-in_err-send-clause-keeps : goal.returns-in_err-send-clause-keeps
returns-in_err-send-clause-keeps g c =
    keeps-then c.args.self.now c.loop-out.self c.send.new.self c.loop-out.invariant.1 c.send.ensures.keeps

pub returns-clause-ready : goal.returns-clause-ready
returns-clause-ready g c =
    let up = c.loop-out.invariant.0 in
    let same = c.next_out.ensures.same in
    record {
      up = record {
        window = up.window;
        me = same.me ∙ up.me;
        ready = subst (λ (s : StoreState). IsReady g.D.Disk s c.args._disk.now) (sym same.store) up.ready;
      };
      silent =
          ap server_pending (c.next_out.ensures.none c.loop-out-test.false) ∙ sym c.next_out.ensures.pending
          ∙ c.loop-out-test.false;
    }

pub returns-clause-says : goal.returns-clause-says
returns-clause-says g c = λ store it is.
    says-all store it c.loop-out.server c.next_out.new.self c.args.self.now.parties.items c.loop-out.self.parties.items
    c.loop-out.out.items c.next_out.new.out.items c.next_out.result (c.loop-out.invariant.4 store it is)
    c.loop-out-test.false (c.next_out.ensures.next store) (c.next_out.ensures.settles store)
