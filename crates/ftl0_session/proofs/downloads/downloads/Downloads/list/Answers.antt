use Rattle.std.proofs.Common.{◌≡◌, ◌==◌, List, [], ℕ, length, true, false, true≢false, refl, ap, ◌∙◌, sym, subst, arith, rules}
use Rattle.ftl0_session.proofs.Names.{list_all, CallerList, StoreState, store_in, store_on, Store, on_like, reads_none, reads_same, AreComplete, AreFiles, directory_row, has_file, listing, lists_after, due_by, made_by}
use Rattle.ftl0_session.proofs.CauseLemmas.{says-nothing, says-refused}
use Rattle.ftl0_session.proofs.downloads.LikeLemmas.{all-like, header-refused, made-is, made-refused, row-listed, row-missing, row-nothing, row-unread_header, rows-differ}
use Rattle.ftl0_session.proofs.downloads.FileLemmas.{all-complete}
use Rattle.ftl0_session.proofs.downloads.ListLemmas.{after-files, listed-few}
use Rattle.ftl0_session.proofs.downloads.downloads.Downloads.list.Goals as goal

pub read_headers-requires-clause-may : goal.read_headers-requires-clause-may
read_headers-requires-clause-may g c =
    let store = store_in c.args.store.now in
    let all : list_all (has_file store) c.deref.result.now ≡ true = sym c.are_files.ensures ∙ c.if-not-are_files.false in
    record {
      ready = c.requires.ready;
      few = search rules;
      complete = subst (λ (l : List ℕ). AreFiles store l) (c.deref.ensures.0 ∙ sym c.deref-2.ensures.0) (all-complete store c.deref.result.now all);
    }

pub take_numbers-requires : goal.take_numbers-requires
take_numbers-requires g c = λ zero.
    omega (arith, listed-few c.args.lists.now c.args.caller c.args.number zero, ap (λ (l : List ℕ). length l) c.files_to_list-numbers.ensures)

pub returns-in-Ok-clause-keeps : goal.returns-in-Ok-clause-keeps
returns-in-Ok-clause-keeps g c =
    let store = store_in c.args.store.now in
    let stays = c.read_headers.ensures.reads.stays in
    record {
      stays = stays;
      due = c.read_headers.ensures.due;
      complete =
          subst (λ (s : StoreState). AreComplete (store_in s) c.take_numbers.new.lists) (sym stays.same)
          (subst (λ (l : List CallerList). AreComplete store l) (sym c.take_numbers.ensures)
          (after-files store c.args.lists.now c.args.caller c.args.number _ c.requires.complete));
    }

pub returns-in-Err-clause-keeps : goal.returns-in-Err-clause-keeps
returns-in-Err-clause-keeps g c =
    let stays = c.read_headers.ensures.reads.stays in
    record {
      stays = stays;
      due = c.read_headers.ensures.due;
      complete = subst (λ (s : StoreState). AreComplete (store_in s) c.args.lists.now) (sym stays.same) c.requires.complete;
    }

pub returns-then-is_empty-clause-row : goal.returns-then-is_empty-clause-row
returns-then-is_empty-clause-row g c =
    let a = c.args in
    let D = g.D.Disk in
    let store = c.args.store.now in
    let disk = c.args.disk.now in
    let lists = c.args.lists.now in
    let numbers : List ℕ = c.files_to_list-numbers.result.items in
    let none : (length numbers == 0) ≡ true = search rules in
    let text = c.refuse.ensures in
    let listed = sym c.files_to_list-numbers.ensures in
    record {
      fails = false;
      reads = reads_none D disk (false ≡ true) (λ e. absurd (true≢false (sym e))) (g.met.D.Disk.lasts_same disk);
      told = λ known failed. absurd (true≢false (sym failed));
      is_row = λ known.
          made-refused a.self.now lists 11 _ c.requires.waits text ∙ sym (ap made_by (row-nothing a.caller (store_on D store disk) lists a.number (due_by a.form) numbers false listed none));
      anyway = λ same. (
        refl,
        made-refused a.self.now lists 11 _ c.requires.waits text ∙ sym (ap made_by (row-nothing a.caller (store_in store) lists a.number (due_by a.form) numbers false listed none)),
      );
      says = says-refused D disk false 11 _ refl refl text;
    }

pub returns-then-not-are_files-clause-row : goal.returns-then-not-are_files-clause-row
returns-then-not-are_files-clause-row g c =
    let a = c.args in
    let D = g.D.Disk in
    let store = c.args.store.now in
    let disk = c.args.disk.now in
    let lists = c.args.lists.now in
    let files : Store = store_on D store disk in
    let numbers : List ℕ = c.files_to_list-numbers.result.items in
    let some : (length numbers == 0) ≡ false = search rules in
    let text = c.refuse-then-not-are_files.ensures in
    let listed = sym c.files_to_list-numbers.ensures in
    let missing_in : list_all (has_file (store_in store)) numbers ≡ false = ap (λ (l : List ℕ). list_all (has_file (store_in store)) l) (sym c.deref.ensures.0) ∙ sym c.are_files.ensures ∙ c.if-not-are_files.true in
    record {
      anyway = λ same. (
        refl,
        made-refused a.self.now lists 4 _ c.requires.waits text ∙ sym (ap made_by (row-missing a.caller (store_in store) lists a.number (due_by a.form) numbers listed some false missing_in)),
      );
      says = says-refused D disk false 4 _ refl refl text;
      fails = false;
      reads = reads_none D disk (false ≡ true) (λ e. absurd (true≢false (sym e))) (g.met.D.Disk.lasts_same disk);
      told = λ known failed. absurd (true≢false (sym failed));
      is_row = λ known.
          let missing : list_all (has_file files) numbers ≡ false =
          sym (all-like (store_in store) files (on_like D store disk c.requires.ready known) numbers) ∙ missing_in in
          made-refused a.self.now lists 4 _ c.requires.waits text
          ∙ sym (ap made_by (row-missing a.caller files lists a.number (due_by a.form) numbers (sym c.files_to_list-numbers.ensures) some false missing));
    }

pub returns-in-Ok-clause-row : goal.returns-in-Ok-clause-row
returns-in-Ok-clause-row g c =
    let a = c.args in
    let D = g.D.Disk in
    let store = c.args.store.now in
    let disk = c.args.disk.now in
    let lists = c.args.lists.now in
    let files : Store = store_on D store disk in
    let numbers : List ℕ = c.files_to_list-numbers.result.items in
    let some : (length numbers == 0) ≡ false = search rules in
    let count : c.len.result ≡ length numbers = search rules in
    let all_in : list_all (has_file (store_in store)) numbers ≡ true = ap (λ (l : List ℕ). list_all (has_file (store_in store)) l) (sym c.deref.ensures.0) ∙ sym c.are_files.ensures ∙ c.if-not-are_files.false in
    record {
      anyway = λ same. absurd (rows-differ a.caller (store_in store) lists a.number (due_by a.form) numbers (sym c.files_to_list-numbers.ensures) some all_in same);
      says = says-nothing D disk false _ refl c.clear.ensures;
      fails = false;
      reads = reads_same D disk c.read_headers.new.disk _ (false ≡ true) (λ e. absurd cc) (λ e. absurd (true≢false (sym e))) c.in-Ok.ensures.reads.reads;
      told = λ known failed. absurd (true≢false (sym failed));
      is_row = λ known.
          let all : list_all (has_file files) numbers ≡ true =
          sym (all-like (store_in store) files (on_like D store disk c.requires.ready known) numbers) ∙ all_in in
          made-is c.read_headers.new.self (listing (due_by a.form files numbers)) c.take_numbers.new.lists (lists_after lists a.caller a.number (length numbers)) c.clear.new.self.items []
          (c.in-Ok.ensures.listing known ∙ ap (λ (l : List ℕ). listing (due_by a.form files l)) c.deref-2.ensures.0)
          (c.take_numbers.ensures ∙ ap (λ (n : ℕ). lists_after lists a.caller a.number n) count) c.clear.ensures
          ∙ sym (ap made_by (row-listed a.caller files lists a.number (due_by a.form) numbers (sym c.files_to_list-numbers.ensures) some all));
    }

pub returns-in-Err-clause-row : goal.returns-in-Err-clause-row
returns-in-Err-clause-row g c =
    let a = c.args in
    let D = g.D.Disk in
    let store = c.args.store.now in
    let disk = c.args.disk.now in
    let lists = c.args.lists.now in
    let files : Store = store_on D store disk in
    let numbers : List ℕ = c.files_to_list-numbers.result.items in
    let some : (length numbers == 0) ≡ false = search rules in
    let all_in : list_all (has_file (store_in store)) numbers ≡ true = ap (λ (l : List ℕ). list_all (has_file (store_in store)) l) (sym c.deref.ensures.0) ∙ sym c.are_files.ensures ∙ c.if-not-are_files.false in
    header-refused D store disk c.read_headers.new.disk (λ there. directory_row a.caller there lists a.number (due_by a.form)) lists _ _ c.read_headers.result c.in-Err.is c.read_headers.ensures.reads.reads c.read_headers.ensures.there
    (λ known.
    let all : list_all (has_file files) numbers ≡ true =
    sym (all-like (store_in store) files (on_like D store disk c.requires.ready known) numbers) ∙ all_in in
    row-unread_header a.caller files lists a.number (due_by a.form) numbers (sym c.files_to_list-numbers.ensures) some all)
    (λ same. rows-differ a.caller (store_in store) lists a.number (due_by a.form) numbers (sym c.files_to_list-numbers.ensures) some all_in same)
    (made-refused c.read_headers.new.self lists 3 _ c.in-Err.ensures.ready c.refuse-in-Err.ensures)
