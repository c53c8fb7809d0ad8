use Rattle.std.proofs.Common.{◌≡◌, ◌==◌, ◌<◌, ℕ, List, length, take, refl, ap, sym, ◌∙◌, subst, arith, rules, true, false, true≢false, Some}
use Rattle.ftl0_session.specs.Downloads.Sending.{next_due}
use Rattle.ftl0_session.proofs.Names.{nat_tests, data_end, data_part, dl_error_resp, packet_text, IsKnown, StoreState, store_in, store_on, Store, on_like, reads_same, IsDueIn, DownloadState, ready, is_due, octets_due, octets_left, state_after, state_at_end}
use Rattle.ftl0_session.proofs.AnsweringLemmas.{left-after, left-some}
use Rattle.ftl0_session.proofs.CauseLemmas.{end-no_error, part-no_error}
use Rattle.ftl0_session.proofs.downloads.DueLemmas.{due-after}
use Rattle.ftl0_session.proofs.downloads.LikeLemmas.{due-length-like, next-error}
use Rattle.ftl0_session.proofs.downloads.SentLemmas.{due-data, due-end, end-after}
use Rattle.ftl0_session.proofs.downloads.downloads.Downloads.fill.Goals as goal

pub returns-in-Ok-2-clause-may : goal.returns-in-Ok-2-clause-may
returns-in-Ok-2-clause-may g c =
    let stays = c.read_part.ensures.reads.stays in
    record {
      ready = stays.ready;
      due =
          subst (λ (s : StoreState). IsDueIn (store_in s) c.read_part.new.self) (sym stays.same)
          (subst (λ (d : DownloadState). IsDueIn (store_in c.args.store.now) d) (sym c.in-Ok.ensures.state)
          (due-after (store_in c.args.store.now) c.args.self.now 254 c.requires.due));
    }

pub returns-in-Ok-2-clause-fewer : goal.returns-in-Ok-2-clause-fewer
returns-in-Ok-2-clause-fewer g c = λ put.
    let store = store_in c.args.store.now in
    let state = c.args.self.now in
    let here : is_due state ≡ true = search rules in
    let some : (length (octets_due store state) == 0) ≡ false = search rules in
    subst (λ (d : DownloadState). octets_left store d < octets_left store state) (sym c.in-Ok.ensures.state)
    (omega (arith, left-after store state here c.requires.due some, left-some store state here))

pub returns-in-Err-clause-puts : goal.returns-in-Err-clause-puts
returns-in-Err-clause-puts g c =
    let D = g.D.Disk in
    let store = c.args.store.now in
    let disk = c.args.disk.now in
    let state = c.args.self.now in
    let files : Store = store_on D store disk in
    let here : is_due state ≡ true = search rules in
    let next : IsKnown D disk → next_due files state true ≡ Some (record { packet = dl_error_resp 3; state = ready }) =
    λ known.
    next-error files state here
    (omega (arith, c.in-Err.ensures.some, due-length-like (store_in store) files (on_like D store disk c.requires.ready known) state c.requires.due)) c.in-Err.ensures.read in
    record {
      fails = true;
      reads = reads_same D disk c.read_part.new.disk _ (true ≡ true) (λ e. refl) (λ e. refl) c.in-Err.ensures.reads.reads;
      told = λ known failed. rw (next known) refl;
      is_due = λ known. rw (next known) (refl, search rules, c.refuse.ensures);
      tells = (λ failed. (refl, c.refuse.ensures), λ both. refl);
    }

pub returns-in-Ok-clause-puts : goal.returns-in-Ok-clause-puts
returns-in-Ok-clause-puts g c =
    let D = g.D.Disk in
    let store = c.args.store.now in
    let disk = c.args.disk.now in
    let state = c.args.self.now in
    let files : Store = store_on D store disk in
    let here : is_due state ≡ true = search rules in
    let none : length (octets_due (store_in store) state) ≡ 0 = search rules in
    let next : IsKnown D disk → next_due files state false ≡ Some (record { packet = data_end; state = state_at_end state }) =
    λ known.
    due-end files state false here (omega (arith, none, due-length-like (store_in store) files (on_like D store disk c.requires.ready known) state c.requires.due)) in
    record {
      fails = false;
      reads = reads_same D disk c.read_part.new.disk _ (false ≡ true) (λ e. absurd cc) (λ e. absurd (true≢false (sym e))) c.in-Ok.ensures.reads.reads;
      told = λ known failed. absurd (true≢false (sym failed));
      tells = (λ failed. absurd (true≢false (sym failed)), λ both. absurd (end-no_error (sym c.write_packet.ensures.text ∙ both.1)));
      is_due = λ known. rw (next known) (refl, c.end.ensures ∙ ap state_at_end c.in-Ok.ensures.state ∙ end-after state 254, c.write_packet.ensures.text);
    }

pub returns-in-Ok-2-clause-puts : goal.returns-in-Ok-2-clause-puts
returns-in-Ok-2-clause-puts g c =
    let D = g.D.Disk in
    let store = c.args.store.now in
    let disk = c.args.disk.now in
    let state = c.args.self.now in
    let files : Store = store_on D store disk in
    let here : is_due state ≡ true = search rules in
    let test : (length (octets_due (store_in store) state) == 0) ≡ false = search rules in
    let some : 0 < length (octets_due (store_in store) state) = grind (arith, nat_tests, test) in
    let next : IsKnown D disk → next_due files state false ≡ Some (record { packet = data_part (take 254 (octets_due files state)); state = state_after 254 state }) =
    λ known.
    due-data files state here (omega (arith, some, due-length-like (store_in store) files (on_like D store disk c.requires.ready known) state c.requires.due)) in
    record {
      fails = false;
      reads = reads_same D disk c.read_part.new.disk _ (false ≡ true) (λ e. absurd cc) (λ e. absurd (true≢false (sym e))) c.in-Ok.ensures.reads.reads;
      told = λ known failed. absurd (true≢false (sym failed));
      tells = (λ failed. absurd (true≢false (sym failed)), λ both. absurd (part-no_error _ (sym c.write_packet-in-Ok-2.ensures.text ∙ both.1)));
      is_due = λ known.
          let part : c.deref.result.now ≡ take 254 (octets_due files state) = c.deref.ensures.0 ∙ c.in-Ok.ensures.octets known in
          rw (next known) (refl, c.in-Ok.ensures.state, c.write_packet-in-Ok-2.ensures.text ∙ ap (λ (l : List ℕ). packet_text (data_part l)) part);
    }
