use Rattle.std.proofs.Common.{◌≡◌, ◌++◌, ◌∷◌, [], ◌<◌, List, ℕ, true, false, None, Some, Option, length, refl, sym, ◌∙◌, ap, subst, arith, lit≤, length-append}
use Rattle.ftl0_session.proofs.Names.{append-nil, All-append, All-cons, All-nil, header_items, IsCompleteIn, IsNextComplete, StoreState, store_in, store_on, Store, like_next, on_like, on_rules, holds, tree_of, AreFiles, chosen, octets_in}
use Rattle.ftl0_session.proofs.downloads.ChosenLemmas.{above_of, above-few, above-fewer, chosen-end, chosen-start, chosen-step, next-below}
use Rattle.ftl0_session.proofs.downloads.ReadsLemmas.{files-then, known-then, none-yet, one-more}
use Rattle.ftl0_session.proofs.downloads.selecting.chosen_files.Goals as goal

-- what isn't a `Some` is `None`
no_value : (o : Option ℕ) → ((n : ℕ) → o ≡ Some n → ⊥) → o ≡ None
no_value None not_some = refl
no_value (Some n) not_some = absurd (not_some n refl)

pub loop-numbers-init : goal.loop-numbers-init
loop-numbers-init g c =
    let D = g.D.Disk in
    let store = c.args.store.now in
    let disk = c.args.disk.now in
    let tree = tree_of c.args.selection.now in
    record {
      numbers = λ known.
          ap (λ (n : ℕ). c.new-numbers.result.items ++ chosen tree (above_of n (store_on D store disk).entries)) c.new-above.ensures
          ∙ ap (λ (l : List ℕ). l ++ chosen tree (above_of 0 (store_on D store disk).entries)) c.new-numbers.ensures
          ∙ chosen-start (store_on D store disk) (on_rules D store disk c.requires known c.state_law.ensures.rules) tree;
      complete = subst (λ (l : List ℕ). AreFiles (store_in store) l) (sym c.new-numbers.ensures) (All-nil _);
      room = omega (arith, ap (λ (l : List ℕ). length l) c.new-numbers.ensures, above-few c.new-above.result (store_in store).entries);
      rules = c.state_law.ensures.rules;
      reads = none-yet D store disk c.requires (g.met.D.Disk.lasts_same disk);
      selection = refl;
    }

pub push-requires : goal.push-requires
push-requires g c =
    let inv = c.loop-numbers.invariant in
    let least = subst (λ (s : StoreState). IsNextComplete (store_in s) c.loop-numbers.above (Some c.in-Some.number)) inv.reads.stays.same c.in-Some.ensures in
    (lit≤ tt, omega (arith, inv.room, inv.rules.count, above-fewer (store_in c.args.store.now) c.loop-numbers.above c.in-Some.number least))

pub loop-numbers-smaller-then-holds : goal.loop-numbers-smaller-then-holds
loop-numbers-smaller-then-holds g c =
    let inv = c.loop-numbers.invariant in
    let store = store_in c.args.store.now in
    let least = subst (λ (s : StoreState). IsNextComplete (store_in s) c.loop-numbers.above (Some c.in-Some.number)) inv.reads.stays.same c.in-Some.ensures in
    let past : c.loop-numbers.above < c.in-Some.number = least.0 in
    let below = next-below store inv.rules (tree_of c.args.selection.now) c.loop-numbers.above c.in-Some.number least in
    omega (arith, past, below)

pub loop-numbers-smaller : goal.loop-numbers-smaller
loop-numbers-smaller g c =
    let inv = c.loop-numbers.invariant in
    let store = store_in c.args.store.now in
    let least = subst (λ (s : StoreState). IsNextComplete (store_in s) c.loop-numbers.above (Some c.in-Some.number)) inv.reads.stays.same c.in-Some.ensures in
    let past : c.loop-numbers.above < c.in-Some.number = least.0 in
    let below = next-below store inv.rules (tree_of c.args.selection.now) c.loop-numbers.above c.in-Some.number least in
    omega (arith, past, below)

pub loop-numbers-preserved-then-holds : goal.loop-numbers-preserved-then-holds
loop-numbers-preserved-then-holds g c =
    let D = g.D.Disk in
    let inv = c.loop-numbers.invariant in
    let store = c.args.store.now in
    let disk = c.args.disk.now in
    let files = store_on D store disk in
    let tree = tree_of c.args.selection.now in
    let above = c.loop-numbers.above in
    let next = c.in-Some.number in
    let numbers = c.loop-numbers.numbers.items in
    let least = subst (λ (s : StoreState). IsNextComplete (store_in s) above (Some next)) inv.reads.stays.same c.in-Some.ensures in
    let pushed : c.push.new.self.items ≡ numbers ++ next ∷ [] = c.push.ensures.items ∙ ap (λ (n : ℕ). numbers ++ n ∷ []) c.get.ensures in
    record {
      numbers = λ known.
          let is : true ≡ holds tree (header_items (octets_in files next)) =
          sym c.if-holds.true ∙ c.in_ok-holds.ensures.holds (known-then D ⊥ store c.loop-numbers.store disk c.loop-numbers.disk inv.reads known)
          ∙ ap (λ (s : Store). holds tree (header_items (octets_in s next))) (files-then D ⊥ store c.loop-numbers.store disk c.loop-numbers.disk inv.reads) in
          ap (λ (l : List ℕ). l ++ chosen tree (above_of next files.entries)) pushed
          ∙ chosen-step files (on_rules D store disk c.requires known inv.rules) tree above next numbers true
          (like_next (store_in store) files (on_like D store disk c.requires known) above (Some next) least) is (inv.numbers known);
      complete =
          subst (λ (l : List ℕ). AreFiles (store_in store) l) (sym pushed)
          (All-append (IsCompleteIn (store_in store)) numbers (next ∷ []) inv.complete (All-cons (IsCompleteIn (store_in store)) next [] least.1 (All-nil _)));
      room = omega (arith, inv.room, above-fewer (store_in store) above next least, ap (λ (l : List ℕ). length l) pushed, length-append numbers (next ∷ []));
      rules = inv.rules;
      reads = one-more D g.met.D.Disk.lasts_on _ (λ is. cc is) _ _ _ _ _ _ inv.reads c.in_ok-holds.ensures.reads;
      selection = refl;
    }

pub loop-numbers-preserved : goal.loop-numbers-preserved
loop-numbers-preserved g c =
    let D = g.D.Disk in
    let inv = c.loop-numbers.invariant in
    let store = c.args.store.now in
    let disk = c.args.disk.now in
    let files = store_on D store disk in
    let tree = tree_of c.args.selection.now in
    let above = c.loop-numbers.above in
    let next = c.in-Some.number in
    let numbers = c.loop-numbers.numbers.items in
    let least = subst (λ (s : StoreState). IsNextComplete (store_in s) above (Some next)) inv.reads.stays.same c.in-Some.ensures in
    record {
      numbers = λ known.
          let is : false ≡ holds tree (header_items (octets_in files next)) =
          sym c.if-holds.false ∙ c.in_ok-holds.ensures.holds (known-then D ⊥ store c.loop-numbers.store disk c.loop-numbers.disk inv.reads known)
          ∙ ap (λ (s : Store). holds tree (header_items (octets_in s next))) (files-then D ⊥ store c.loop-numbers.store disk c.loop-numbers.disk inv.reads) in
          ap (λ (l : List ℕ). l ++ chosen tree (above_of next files.entries)) (sym (append-nil numbers))
          ∙ chosen-step files (on_rules D store disk c.requires known inv.rules) tree above next numbers false
          (like_next (store_in store) files (on_like D store disk c.requires known) above (Some next) least) is (inv.numbers known);
      complete = inv.complete;
      room = omega (arith, inv.room, above-fewer (store_in store) above next least);
      rules = inv.rules;
      reads = one-more D g.met.D.Disk.lasts_on _ (λ is. cc is) _ _ _ _ _ _ inv.reads c.in_ok-holds.ensures.reads;
      selection = refl;
    }

pub returns-clause-numbers : goal.returns-clause-numbers
returns-clause-numbers g c = λ known.
    let D = g.D.Disk in
    let inv = c.loop-numbers.invariant in
    let store = c.args.store.now in
    let disk = c.args.disk.now in
    let files = store_on D store disk in
    let last = subst (λ (s : StoreState). IsNextComplete (store_in s) c.loop-numbers.above None) inv.reads.stays.same
    (subst (λ (o : Option ℕ). IsNextComplete (store_in c.loop-numbers.store) c.loop-numbers.above o) (no_value c.numbers.result c.in_default.not-Some) c.numbers.ensures) in
    chosen-end files (on_rules D store disk c.requires known inv.rules) (tree_of c.args.selection.now) c.loop-numbers.above c.loop-numbers.numbers.items
    (like_next (store_in store) files (on_like D store disk c.requires known) c.loop-numbers.above None last) (inv.numbers known)

pub returns-clause-complete : goal.returns-clause-complete
returns-clause-complete g c = c.loop-numbers.invariant.complete
