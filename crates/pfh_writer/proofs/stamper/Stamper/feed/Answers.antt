use Rattle.std.proofs.Common.{◌≡◌, ℕ, ◌<◌, ◌≤◌, List, length, take, get_or, arith, sym, ap, ◌∙◌, subst, refl}
use Rattle.pfh_writer.proofs.Names.{take_all, StamperValue}
use Rattle.pfh_writer.proofs.StepLemmas.{StampsOn, stamps_none, passed_more, rest_more, same_octet}
use Rattle.pfh_writer.proofs.FrontLemmas.{stamps_all, stamps_body}
use Rattle.pfh_writer.proofs.stamper.Stamper.feed.Goals as goal

pub returns-in-Body-clause-fed : goal.returns-in-Body-clause-fed
returns-in-Body-clause-fed c = λ fed given h.
    stamps_body c.args.self.now fed given c.args.piece.now (sym (ap (λ (s : StamperValue). s.stage) c.self.view_is) ∙ c.in-Body.is) h

pub loop-octet-init : goal.loop-octet-init
loop-octet-init c = record { octets = λ i. omega (arith, c.type_inv.piece i); passed = stamps_none c.args.self.now; rest = refl }

pub loop-octet-preserved : goal.loop-octet-preserved
loop-octet-preserved c =
    let invariant = c.loop-octet.invariant in
    let within : c.loop-octet.octet-index < length c.args.piece.now = c.loop-octet-test.true in
    let other = same_octet c.args.self.now c.loop-octet.self c.take.new.self c.args.piece.now c.loop-octet.piece c.loop-octet.octet-index c.take.result within
    c.loop-octet.auto.piece invariant.rest in
    let there : get_or c.args.piece.now c.loop-octet.octet-index 0 < 256 = invariant.octets c.loop-octet.octet-index in
    let below : get_or c.loop-octet.piece c.loop-octet.octet-index 0 < 256 = subst (λ (n : ℕ). n < 256) (sym other.0) there in
    record {
      octets = invariant.octets;
      passed =
          passed_more c.args.self.now c.loop-octet.self c.take.new.self c.args.piece.now c.loop-octet.piece c.loop-octet.octet-index c.take.result within
          c.loop-octet.auto.piece invariant.rest invariant.passed below c.take.ensures.stamp c.take.ensures.sum c.take.ensures.stage
          c.take.ensures.octet;
      rest =
          rest_more c.args.self.now c.loop-octet.self c.take.new.self c.args.piece.now c.loop-octet.piece c.loop-octet.octet-index c.take.result within
          c.loop-octet.auto.piece invariant.rest;
    }

pub returns-clause-stamp : goal.returns-clause-stamp
returns-clause-stamp c = c.loop-octet.invariant.passed.stamp

pub returns-clause-sum : goal.returns-clause-sum
returns-clause-sum c = c.loop-octet.invariant.passed.sum

pub returns-clause-fed : goal.returns-clause-fed
returns-clause-fed c = λ fed given h.
    let over : length c.args.piece.now ≤ c.loop-octet.octet-index = c.loop-octet-test.false in
    let len : length c.loop-octet.piece ≡ length c.args.piece.now = c.loop-octet.auto.piece in
    stamps_all c.args.self.now c.loop-octet.self fed given c.args.piece.now c.loop-octet.piece
    (subst (λ (t : List ℕ). StampsOn c.args.self.now c.loop-octet.self t c.loop-octet.piece) (take_all _ c.args.piece.now over)
    (subst (λ (t : List ℕ). StampsOn c.args.self.now c.loop-octet.self (take c.loop-octet.octet-index c.args.piece.now) t)
    (take_all _ c.loop-octet.piece (omega arith)) c.loop-octet.invariant.passed))
    h
