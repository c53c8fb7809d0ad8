-- One more item is taken, and then all are.
use Rattle.std.proofs.Common.{List, [], ◌∷◌, ◌++◌, sym, ap, ◌∙◌, subst, append_assoc}
use Rattle.pfh_reader.proofs.Names.{append-nil, ItemValue, ItemList, item_value, IsClaims}
use Rattle.pfh_reader.proofs.checker.take_items.Goals as goal

pub loop-item-init : goal.loop-item-init
loop-item-init c = record {
  stop = ap (λ (walk : ItemList). walk.stop) c.over-items.ensures.read;
  taken = (
    [],
    ap (λ (walk : ItemList). walk.items) c.over-items.ensures.read,
    λ items is. subst (λ (all : List ItemValue). IsClaims all c.args.claims.now) (sym (append-nil items)) is,
  );
}

pub loop-item-preserved : goal.loop-item-preserved
loop-item-preserved c =
    let item : ItemValue = item_value c.in-Some.item in
    let done : List ItemValue = c.loop-item.invariant.taken.0 in
    record {
      stop = c.in-Some.ensures.steps.1 ∙ c.loop-item.invariant.stop;
      taken = (
        done ++ item ∷ [],
        append_assoc done (item ∷ []) c.next.new.self.items ∙ ap (λ (t : List ItemValue). done ++ t) (sym c.in-Some.ensures.steps.0) ∙ c.loop-item.invariant.taken.1,
        λ items is.
            subst (λ (all : List ItemValue). IsClaims all c.take.new.self) (append_assoc items done (item ∷ []))
            (c.take.ensures (items ++ done) (c.loop-item.invariant.taken.2 items is)),
      );
    }
