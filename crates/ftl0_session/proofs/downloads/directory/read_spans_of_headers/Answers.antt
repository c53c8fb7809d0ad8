use Rattle.std.proofs.Common.{◌≡◌, ◌++◌, ◌∷◌, [], ℕ, List, get_or, length, map, sym, ◌∙◌, ap, subst, arith, length-append}
use Rattle.ftl0_session.proofs.Names.{IsCompleteIn, StoreState, store_in, store_on, Store, AreStored, LiesIn, due_of, header_due, Span}
use Rattle.ftl0_session.proofs.downloads.DueLemmas.{map-more, stored-more}
use Rattle.ftl0_session.proofs.downloads.ReadsLemmas.{files-then, known-then, one-more}
use Rattle.ftl0_session.proofs.downloads.directory.read_spans_of_headers.Goals as goal

pub read_span-requires : goal.read_span-requires
read_span-requires g c =
    let stays = c.loop-number.invariant.reads.stays in
    record {
      ready = stays.ready;
      complete =
          subst (λ (s : StoreState). IsCompleteIn (store_in s) c.new.result) (sym stays.same)
          (subst (λ (n : ℕ). IsCompleteIn (store_in c.args.store.now) n) (sym c.new.ensures)
          (c.requires.complete c.loop-number.number-index 0 c.loop-number-test.true));
    }

pub loop-number-preserved : goal.loop-number-preserved
loop-number-preserved g c =
    let inv = c.loop-number.invariant in
    let i = c.loop-number.number-index in
    let numbers = c.args.numbers.now in
    let store = c.args.store.now in
    let spans : List Span = c.loop-number.spans.items in
    let span : Span = c.in_ok-read_span.field-0 in
    let files : Store = store_on g.D.Disk store c.args.disk.now in
    let pushed : c.push.new.self.items ≡ spans ++ span ∷ [] = c.push.ensures.items in
    record {
      spans = λ known.
          let here : due_of span ≡ header_due files (get_or numbers i 0) =
          c.in_ok-read_span.ensures.span (known-then g.D.Disk ⊥ store c.loop-number.store c.args.disk.now c.loop-number.disk inv.reads known)
          ∙ ap (λ (n : ℕ). header_due (store_on g.D.Disk c.loop-number.store c.loop-number.disk) n) c.new.ensures
          ∙ ap (λ (s : Store). header_due s (get_or numbers i 0)) (files-then g.D.Disk ⊥ store c.loop-number.store c.args.disk.now c.loop-number.disk inv.reads) in
          ap (λ (l : List Span). map due_of l) pushed ∙ map-more (header_due files) due_of numbers i spans span c.loop-number-test.true (inv.spans known) here;
      within =
          let lies : LiesIn (store_in store) span.number span.place span.last =
          subst (λ (s : StoreState). LiesIn (store_in s) span.number span.place span.last) inv.reads.stays.same c.in_ok-read_span.ensures.within in
          subst (λ (l : List Span). AreStored (store_in store) (map due_of l)) (sym pushed) (stored-more due_of (store_in store) spans span inv.within lies);
      count = omega (arith, inv.count, ap (λ (l : List Span). length l) pushed, length-append spans (span ∷ []));
      reads = one-more g.D.Disk g.met.D.Disk.lasts_on _ (λ is. cc is) _ _ _ _ _ _ inv.reads c.in_ok-read_span.ensures.reads;
    }
