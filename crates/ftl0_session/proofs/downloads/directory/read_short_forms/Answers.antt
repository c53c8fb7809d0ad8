use Rattle.std.proofs.Common.{◌≡◌, ◌++◌, ℕ, List, flat_map, get_or, length, take, sym, ◌∙◌, ap, subst, arith, rules, length-append}
use Rattle.ftl0_session.proofs.Names.{take_all, IsCompleteIn, StoreState, store_in, store_on, Store, octets_in, short_octets}
use Rattle.ftl0_session.proofs.downloads.DueLemmas.{flat-more}
use Rattle.ftl0_session.proofs.downloads.ReadsLemmas.{files-then, known-then, one-more}
use Rattle.ftl0_session.proofs.downloads.directory.read_short_forms.Goals as goal

pub read_short_form-requires : goal.read_short_form-requires
read_short_form-requires g c =
    let stays = c.loop-number.invariant.reads.stays in
    record {
      ready = stays.ready;
      complete =
          subst (λ (s : StoreState). IsCompleteIn (store_in s) c.new.result) (sym stays.same)
          (subst (λ (n : ℕ). IsCompleteIn (store_in c.args.store.now) n) (sym c.new.ensures)
          (c.requires.complete c.loop-number.number-index 0 c.loop-number-test.true));
    }

pub loop-number-preserved : goal.loop-number-preserved
loop-number-preserved g c =
    let inv = c.loop-number.invariant in
    let i = c.loop-number.number-index in
    let numbers = c.args.numbers.now in
    let forms = c.loop-number.forms.items in
    let form = c.in_ok-form.form in
    let files = store_on g.D.Disk c.args.store.now c.args.disk.now in
    let ext : c.try_extend_from_slice.new.self.items ≡ forms ++ form = search rules in
    let long : length form ≡ 73 = search rules in
    record {
      forms = λ known.
          let here : form ≡ short_octets (octets_in files (get_or numbers i 0)) =
          c.in_ok-form.ensures.form (known-then g.D.Disk ⊥ c.args.store.now c.loop-number.store c.args.disk.now c.loop-number.disk inv.reads known)
          ∙ ap (λ (n : ℕ). short_octets (octets_in (store_on g.D.Disk c.loop-number.store c.loop-number.disk) n)) c.new.ensures
          ∙ ap (λ (s : Store). short_octets (octets_in s (get_or numbers i 0))) (files-then g.D.Disk ⊥ c.args.store.now c.loop-number.store c.args.disk.now c.loop-number.disk inv.reads) in
          ext ∙ flat-more (λ number. short_octets (octets_in files number)) numbers i forms form c.loop-number-test.true (inv.forms known) here;
      count = omega (arith, inv.count, long, ap (λ l. length l) ext, length-append forms form);
      reads = one-more g.D.Disk g.met.D.Disk.lasts_on _ (λ is. cc is) _ _ _ _ _ _ inv.reads c.in_ok-form.ensures.reads;
    }

pub returns-clause-forms : goal.returns-clause-forms
returns-clause-forms g c =
    let numbers = c.args.numbers.now in
    let all : take c.loop-number.number-index numbers ≡ numbers =
    take_all c.loop-number.number-index numbers (omega (arith, c.loop-number-test.false)) in
    λ known.
    c.loop-number.invariant.forms known
    ∙ ap (λ (some : List ℕ). flat_map (λ number. short_octets (octets_in (store_on g.D.Disk c.args.store.now c.args.disk.now) number)) some) all
