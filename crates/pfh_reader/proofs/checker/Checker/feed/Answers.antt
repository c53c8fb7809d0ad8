-- More octets are taken.
use Rattle.std.proofs.Common.{ℕ, List, ◌++◌, length, take, ap, ◌∙◌, subst, arith, append_assoc, length-drop}
use Rattle.pfh_reader.proofs.Names.{take_rest, take-append-drop, HasFed}
use Rattle.pfh_reader.proofs.checker.Checker.feed.Goals as goal

pub loop-rest-preserved : goal.loop-rest-preserved
loop-rest-preserved c =
    let done : List ℕ = c.loop-rest.invariant.taken.0 in
    let more : List ℕ = take c.take-taken.result c.loop-rest.rest.now in
    let left = take_rest c.loop-rest.rest.now c.take-taken.result in
    record {
      taken = (
        done ++ more,
        append_assoc done more _
            ∙ ap (λ (t : List ℕ). done ++ (more ++ t)) left
            ∙ ap (λ (t : List ℕ). done ++ t) (take-append-drop c.take-taken.result c.loop-rest.rest.now)
            ∙ c.loop-rest.invariant.taken.1,
        λ fed is. subst (HasFed c.take-taken.new.self) (append_assoc fed done more) (c.take-taken.ensures.takes.fed (fed ++ done) (c.loop-rest.invariant.taken.2 fed is)),
      );
      len = omega (arith, ap length left, length-drop c.take-taken.result c.loop-rest.rest.now);
    }
