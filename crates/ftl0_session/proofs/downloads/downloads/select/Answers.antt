use Rattle.std.proofs.Common.{◌≡◌, List, ℕ, length, append-nil, refl, ap, ◌∙◌, sym, subst, rules, true, false, true≢false}
use Rattle.ftl0_session.proofs.Names.{packet_text, select_resp, tree_of, CallerList, selected, reads_none, reads_same, StoreState, store_in, store_on, Store, AreComplete, chosen, ready, select_row, SelectsNone, made_by}
use Rattle.ftl0_session.proofs.CauseLemmas.{says-one, says-refused}
use Rattle.ftl0_session.proofs.downloads.LikeLemmas.{header-refused, made-is, made-refused}
use Rattle.ftl0_session.proofs.downloads.ListLemmas.{selected-files}
use Rattle.ftl0_session.proofs.downloads.SelectLemmas.{selects-differ}
use Rattle.ftl0_session.proofs.downloads.downloads.select.Goals as goal

pub returns-in-Ok-clause-keeps : goal.returns-in-Ok-clause-keeps
returns-in-Ok-clause-keeps g c =
    let store = store_in c.args.store.now in
    let numbers = c.in-Ok.numbers.items in
    let is : c.select.new.self ≡ selected c.args.lists.now c.args.caller numbers =
    c.select.ensures ∙ ap (λ (l : List ℕ). selected c.args.lists.now c.args.caller l) c.deref.ensures.0 in
    let stays = c.chosen_files.ensures.reads.stays in
    record {
      stays = stays;
      due = tt;
      complete =
          subst (λ (s : StoreState). AreComplete (store_in s) c.select.new.self) (sym stays.same)
          (subst (λ (l : List CallerList). AreComplete store l) (sym is)
          (selected-files store c.args.lists.now c.args.caller numbers c.requires.complete c.in-Ok.ensures.complete));
    }

pub returns-in-Err-clause-keeps : goal.returns-in-Err-clause-keeps
returns-in-Err-clause-keeps g c =
    let stays = c.chosen_files.ensures.reads.stays in
    record { stays = stays; due = tt; complete = subst (λ (s : StoreState). AreComplete (store_in s) c.args.lists.now) (sym stays.same) c.requires.complete }

pub returns-in_default-clause-row : goal.returns-in_default-clause-row
returns-in_default-clause-row g c =
    let a = c.args in
    let D = g.D.Disk in
    let store = c.args.store.now in
    let disk = c.args.disk.now in
    let lists = c.args.lists.now in
    let text = c.refuse.ensures in
    let none : SelectsNone a.tokens.now = search rules in
    record {
      fails = false;
      reads = reads_none D disk (false ≡ true) (λ e. absurd (true≢false (sym e))) (g.met.D.Disk.lasts_same disk);
      told = λ known failed. absurd (true≢false (sym failed));
      is_row = λ known. made-refused ready lists 8 _ refl text ∙ sym (ap made_by (none a.caller (store_on D store disk) lists false));
      anyway = λ same. (refl, made-refused ready lists 8 _ refl text ∙ sym (ap made_by (none a.caller (store_in store) lists false)));
      says = says-refused D disk false 8 _ refl refl text;
    }

pub returns-in-Ok-clause-row : goal.returns-in-Ok-clause-row
returns-in-Ok-clause-row g c =
    let a = c.args in
    let D = g.D.Disk in
    let store = c.args.store.now in
    let disk = c.args.disk.now in
    let lists = c.args.lists.now in
    let tree = tree_of c.in-Some.selection in
    let selects = c.in-Some.ensures.some in
    let numbers : List ℕ = c.in-Ok.numbers.items in
    let count : c.len.result ≡ length numbers = search rules in
    let text : c.write_packet.new.out.items ≡ packet_text (select_resp (length numbers)) = c.write_packet.ensures.text ∙ ap (λ (k : ℕ). packet_text (select_resp k)) count in
    record {
      fails = false;
      reads = reads_same D disk c.chosen_files.new.disk _ (false ≡ true) (λ e. absurd cc) (λ e. absurd (true≢false (sym e))) c.in-Ok.ensures.reads.reads;
      told = λ known failed. absurd (true≢false (sym failed));
      is_row = λ known.
          let files : Store = store_on D store disk in
          let are : numbers ≡ chosen tree files.entries = c.in-Ok.ensures.numbers known in
          made-is ready ready c.select.new.self (selected lists a.caller (chosen tree files.entries)) _ _ refl
          (c.select.ensures ∙ ap (λ (l : List ℕ). selected lists a.caller l) (c.deref.ensures.0 ∙ are))
          (text ∙ ap (λ (l : List ℕ). packet_text (select_resp (length l))) are ∙ sym (append-nil (packet_text (select_resp (length (chosen tree files.entries))))))
          ∙ sym (ap made_by (selects a.caller files lists false));
      anyway = λ same. absurd (selects-differ a.tokens.now tree selects a.caller (store_in store) lists same);
      says =
          says-one D disk false _ (select_resp (length numbers)) (text ∙ sym (append-nil (packet_text (select_resp (length numbers))))) (λ failed. absurd (true≢false (sym failed))) tt;
    }

pub returns-in-Err-clause-row : goal.returns-in-Err-clause-row
returns-in-Err-clause-row g c =
    let a = c.args in
    let D = g.D.Disk in
    let store = c.args.store.now in
    let disk = c.args.disk.now in
    let lists = c.args.lists.now in
    let selects = c.in-Some.ensures.some in
    header-refused D store disk c.chosen_files.new.disk (λ files. select_row a.caller files lists a.tokens.now) lists _ _ c.chosen_files.result c.in-Err.is c.chosen_files.ensures.reads.reads
    c.chosen_files.ensures.there (λ known. selects a.caller (store_on D store disk) lists true)
    (λ same. selects-differ a.tokens.now (tree_of c.in-Some.selection) selects a.caller (store_in store) lists same) (made-refused ready lists 3 _ refl c.refuse-in-Err.ensures)
