-- Each client in its turn is sent the frame, if it is for it.
use Rattle.std.proofs.Common.{◌<◌, length, refl, sym, ap, arith}
use Rattle.air_rehearsal.proofs.Names.{FrameValue}
use Rattle.air_rehearsal.proofs.ReadyLemmas.{read_at}
use Rattle.air_rehearsal.proofs.ServingKeeps.{keep-length, keep-on, keep-set, keeps-self, timed-end, timed-start}
use Rattle.air_rehearsal.proofs.ServingKeeps.{timed-step}
use Rattle.air_rehearsal.proofs.stations.Stations.send.Goals as goal

pub returns-in_default-clause-keeps : goal.returns-in_default-clause-keeps
returns-in_default-clause-keeps c = keeps-self c.args.self.now

pub returns-in_default-clause-timed : goal.returns-in_default-clause-timed
returns-in_default-clause-timed c = λ frame text. absurd (c.in_default.ensures.only frame text)

pub loop-i-init : goal.loop-i-init
loop-i-init c =
    (keeps-self c.args.self.now, refl, λ frame text dest_is. timed-start frame c.args.self.now.parties.items)

pub loop-i-preserved : goal.loop-i-preserved
loop-i-preserved c =
    let first = c.args.self.now.parties.items in
    let all = c.loop-i.self.parties.items in
    let i = c.loop-i.i in
    let self = c.index_mut.result.now in
    let keeps = c.loop-i.invariant.0 in
    let within : i < length all =
    omega (arith, keep-length first all keeps.parties, c.loop-i-test.true, c.len-i-end.ensures) in
    let at = read_at all i self within c.index_mut.ensures.value in (
      record {
        me = keeps.me;
        k = keeps.k;
        parties =
            keep-on first all _ keeps.parties (keep-set all i self c.send_to.new.party at c.send_to.ensures.keeps);
        uploads = keeps.uploads;
        moment = keeps.moment;
        report = keeps.report;
      },
      c.loop-i.invariant.1,
      λ frame text dest_is.
          timed-step frame i first all self c.send_to.new.party (c.loop-i.invariant.2 frame text dest_is) at
          (c.in_ok-send_to.ensures.timed frame text dest_is),
    )

pub returns-in_err-send_to-clause-keeps : goal.returns-in_err-send_to-clause-keeps
returns-in_err-send_to-clause-keeps c =
    let first = c.args.self.now.parties.items in
    let all = c.loop-i.self.parties.items in
    let i = c.loop-i.i in
    let self = c.index_mut.result.now in
    let keeps = c.loop-i.invariant.0 in
    let within : i < length all =
    omega (arith, keep-length first all keeps.parties, c.loop-i-test.true, c.len-i-end.ensures) in
    let at = read_at all i self within c.index_mut.ensures.value in
    record {
      me = keeps.me;
      k = keeps.k;
      parties = keep-on first all _ keeps.parties (keep-set all i self c.send_to.new.party at c.send_to.ensures.keeps);
      uploads = keeps.uploads;
      moment = keeps.moment;
      report = keeps.report;
    }

pub returns-clause-timed : goal.returns-clause-timed
returns-clause-timed c = λ frame text.
    let first = c.args.self.now.parties.items in
    let dest_is = sym (ap (λ (f : FrameValue). f.dest) (c.in-Ok.ensures.only frame text)) in
    timed-end frame c.loop-i.i first c.loop-i.self.parties.items (c.loop-i.invariant.2 frame text dest_is)
    (λ less. let no : ⊥ = omega (arith, less, c.loop-i-test.false, c.len-i-end.ensures) in no)
