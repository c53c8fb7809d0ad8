use Rattle.std.proofs.Common.{◌≡◌, ◌++◌, ◌∷◌, [], ◌-◌, ◌+◌, ◌<◌, get_or, length, min, take, false, true, sym, ◌∙◌, ap, subst, arith, length-append}
use Rattle.ftl0_session.proofs.Names.{StoreState, store_in, store_on, Store, IsStored, LiesIn, after_octets, due_len, due_octets, due_of, moved, Span}
use Rattle.ftl0_session.proofs.downloads.DueLemmas.{HasMore, at-map, some-at, step-count, step-few, step-left, step-octets}
use Rattle.ftl0_session.proofs.downloads.ReadsLemmas.{at_error, files-then, known-then, one-more}
use Rattle.ftl0_session.proofs.downloads.span.read_spans.Goals as goal

pub read-requires-clause-within : goal.read-requires-clause-within
read-requires-clause-within g c =
    let spans = c.args.spans.now in
    let i = c.loop-span.span-index in
    let span : Span = c.span-item.result in
    let lies = at-map (IsStored (store_in c.args.store.now)) due_of spans i span c.loop-span-test.true c.requires.within in
    let here = subst (λ (s : Span). LiesIn (store_in c.args.store.now) s.number s.place s.last) (sym c.span-item.is) lies in
    subst (λ (s : StoreState). LiesIn (store_in s) span.number span.place span.last) (sym c.loop-span.invariant.reads.stays.same) here

pub returns-in_err-read-clause-some : goal.returns-in_err-read-clause-some
returns-in_err-read-clause-some g c =
    let spans = c.args.spans.now in
    let i = c.loop-span.span-index in
    let span : Span = c.span-item.result in
    let lies = at-map (IsStored (store_in c.args.store.now)) due_of spans i span c.loop-span-test.true c.requires.within in
    let some = subst (λ (s : Span). 0 < due_len (due_of s)) c.span-item.is c.in_err-read.ensures.some in
    at_error c.from_residual.result (some-at (store_in c.args.store.now) due_of spans i span c.loop-span-test.true lies some)

pub loop-span-preserved : goal.loop-span-preserved
loop-span-preserved g c =
    let inv = c.loop-span.invariant in
    let spans = c.args.spans.now in
    let i = c.loop-span.span-index in
    let store = store_in c.args.store.now in
    let files = store_on g.D.Disk c.args.store.now c.args.disk.now in
    let lt = c.loop-span-test.true in
    let part = c.loop-span.part.items in
    let octets = c.read.new.part.items in
    let span : Span = c.span-item.result in
    let lies = at-map (IsStored store) due_of spans i span lt c.requires.within in
    let more = subst (λ (s : Span). HasMore part octets (due_of s)) c.span-item.is c.in_ok-read.ensures.count in
    let on = subst (λ (s : Span). due_of c.read.new.self ≡ moved (min (254 - length part) (due_len (due_of s))) (due_of s)) c.span-item.is c.in_ok-read.ensures.moved in
    record {
      octets = λ known.
          let is : octets ≡ part ++ take (254 - length part) (due_octets files (due_of (get_or spans i span))) =
          c.in_ok-read.ensures.octets (known-then g.D.Disk ⊥ c.args.store.now c.loop-span.store c.args.disk.now c.loop-span.disk inv.reads known)
          ∙ ap (λ (s : Store). part ++ take (254 - length part) (due_octets s (due_of span)))
          (files-then g.D.Disk ⊥ c.args.store.now c.loop-span.store c.args.disk.now c.loop-span.disk inv.reads)
          ∙ ap (λ (s : Span). part ++ take (254 - length part) (due_octets files (due_of s))) c.span-item.is in
          step-octets due_of spans i span lt part octets inv.few files is _ (inv.octets known);
      full = step-count due_of spans i span lt part octets inv.few more store lies _ inv.full;
      left =
          ap (λ l. Rattle.std.proofs.Common.map due_of l ++ after_octets (254 - length octets) (Rattle.std.proofs.Common.map due_of (Rattle.std.proofs.Common.drop (i + 1) spans))) c.push.ensures.items
          ∙ step-left due_of spans i span lt part octets inv.few more c.loop-span.left.items c.read.new.self _ on inv.left;
      few = step-few due_of spans i span lt part octets inv.few more;
      count = omega (arith, inv.count, ap (λ l. length l) c.push.ensures.items, length-append c.loop-span.left.items (c.read.new.self ∷ []));
      reads = one-more g.D.Disk g.met.D.Disk.lasts_on (false ≡ true) (λ is. cc is) _ _ _ _ _ _ inv.reads c.in_ok-read.ensures.reads;
    }
