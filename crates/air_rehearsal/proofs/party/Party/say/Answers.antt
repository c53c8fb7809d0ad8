-- What the client has to send is sent, frame after frame.
use Rattle.std.proofs.Common.{refl, sym, ap, subst, List}
use Rattle.air_rehearsal.proofs.Names.{FrameText, Party}
use Rattle.air_rehearsal.proofs.SayLemmas.{handed_out, none_left, says_all, says_more, says_none, theirs_still}
use Rattle.air_rehearsal.proofs.party.Party.say.Goals as goal

pub loop-out-init : goal.loop-out-init
loop-out-init g c = record {
  theirs = c.requires;
  keeps = refl;
  same = refl;
  says = λ client lanes is has. says_none client lanes c.args.self.now is has;
}

pub loop-out-preserved : goal.loop-out-preserved
loop-out-preserved g c =
    let now : Party = record c.loop-out.self { client = c.next_out.new.self; attempt = c.send.new.self } in
    record {
      theirs =
          theirs_still g.D.Disk c.loop-out.self now c.args._disk.now refl refl refl c.next_out.ensures.same
          c.loop-out.invariant.theirs;
      keeps = ap (λ (p : Party). record p { client = c.next_out.new.self; attempt = c.send.new.self }) c.loop-out.invariant.keeps;
      same = refl;
      says = λ client lanes is has.
          let so_far = c.loop-out.invariant.says client lanes is has in
          says_more client lanes c.loop-out.self now c.next_out.new.out.items so_far
          (handed_out so_far.now c.loop-out.self.client c.next_out.new.self c.loop-out.out.items
          c.next_out.new.out.items
          (c.loop-out-test.ensures.next so_far.now so_far.is_now))
          (λ lanes frame has text.
          c.in_ok-send.ensures lanes frame has
          (subst (λ (octets : List _). FrameText frame octets) (sym c.as_slice.ensures.value) text));
    }

pub returns-clause-says : goal.returns-clause-says
returns-clause-says g c = λ client lanes is has.
    let so_far = c.loop-out.invariant.says client lanes is has in
    let now : Party = record c.loop-out.self { client = c.next_out.new.self } in
    says_all client lanes c.loop-out.self now so_far
    (none_left so_far.now c.loop-out.self.client c.next_out.new.self c.loop-out.out.items c.next_out.new.out.items
    (c.loop-out-test.ensures.next so_far.now so_far.is_now))
    (c.loop-out-test.ensures.none refl).0 refl
