-- A file that goes on: its row, over each store that is so.
use Rattle.std.proofs.Common.{◌≡◌, ℕ, [], ◌∷◌, length, refl, ap, sym, ◌∙◌, subst, Some}
use Rattle.ftl0_session.proofs.Names.{texts, ul_go_resp, Entry, entry_of, octets_of, found-number, in_parked, like_entry, like_is_complete, like_none, like_octets_length, store_in, Upload, resumed_row, NoOtherOut}
use Rattle.ftl0_session.proofs.uploads.OtherLemmas.{changes-same, only-own, only-wider, others-kept}
use Rattle.ftl0_session.proofs.uploads.Rows.{upload-refused}
use Rattle.ftl0_session.proofs.uploads.UploadRows.{receiving-at, row-bad, row-no_such, row-resumed, row-whole_already}
use Rattle.ftl0_session.proofs.uploads.session.resume.Goals as goal

pub returns-in-Ok : goal.returns-in-Ok
returns-in-Ok c = λ moment.
    let a = c.args in
    let store = c.args.store.now in
    let now = c.resume.new.self in
    let up = c.in-Ok.up in
    let found = c.in-Ok.ensures.resumed in
    let theirs = found.1.0 in
    let is_number : up.number ≡ a.number = ap (λ (u : Upload). u.number) found.2 ∙ found-number a.number (store_in store).entries found.0 theirs.0 in
    let held : c.held.result ≡ length (octets_of found.0.holding) = c.held.ensures.value ∙ ap (λ (u : Upload). u.held) found.2 in
    let entries = changes-same a.number (store_in store) (store_in now) (in_parked store now c.in-Ok.ensures.rest.store_is) in
    let own : (e : Entry) → entry_of (store_in store) a.number ≡ Some e → e.caller ≡ a.caller = λ e here. (let one : Some e ≡ Some found.0 = sym here ∙ theirs.0 in let same : e ≡ found.0 = cc in ap (λ (x : Entry). x.caller) same ∙ theirs.1) in
    record {
      answered = refl;
      gives = λ files like.
          let there = like_entry (store_in store) files like a.number found.0 theirs.0 in
          let count : length (octets_of found.0.holding) ≡ length (octets_of there.0.holding) = like_octets_length found.0 there.0 there.2 in (
            resumed_row a.number (length (octets_of there.0.holding)),
            row-resumed a.caller moment a.number a.length c.requires.number files there.0 there.1 (sym there.2.caller ∙ theirs.1) (sym there.2.length ∙ theirs.2)
                (sym (like_is_complete found.0 there.0 there.2) ∙ found.1.1),
            refl,
            receiving-at now up a.number [] is_number c.in-Ok.ensures.holds.1,
            c.go_on.ensures ∙ ap (λ (n : ℕ). texts (ul_go_resp a.number n ∷ [])) (held ∙ count),
          );
      files = c.in-Ok.ensures.rest.store_is;
      journal = c.in-Ok.ensures.journal;
      held = (c.in-Ok.ensures.holds.0, ap (λ (u : Upload). u.caller) found.2 ∙ theirs.1);
      only =
          subst (λ (n : ℕ). NoOtherOut now a.caller (Some n)) (sym is_number)
          (only-own store now a.number a.caller entries c.in-Ok.ensures.rest.others (only-wider store a.caller a.number c.requires.only));
      others = others-kept store now a.number a.caller entries c.in-Ok.ensures.rest.others own (λ other ne holds. c.in-Ok.ensures.uploads other holds);
    }

pub returns-in-Err-NoSuch : goal.returns-in-Err-NoSuch
returns-in-Err-NoSuch c = λ moment.
    let none = rw c.in-Err-NoSuch.field-0-is at c.in-Err-NoSuch.ensures.refused in
    upload-refused c.args.caller moment _ c.args.store.now c.resume.new.self 4 _ _
    (λ files like. row-no_such c.args.caller moment c.args.number c.args.length c.requires.number files (like_none (store_in c.args.store.now) files like c.args.number none))
    c.in-Err-NoSuch.ensures.err c.refuse.ensures.taken c.refuse.ensures.text c.requires.only

pub returns-in-Err-Bad : goal.returns-in-Err-Bad
returns-in-Err-Bad c = λ moment.
    let bad = rw c.in-Err-Bad.field-0-is at c.in-Err-Bad.ensures.refused in
    upload-refused c.args.caller moment _ c.args.store.now c.resume.new.self 2 _ _
    (λ files like.
    let there = like_entry (store_in c.args.store.now) files like c.args.number bad.0 bad.1 in
    row-bad c.args.caller moment c.args.number c.args.length c.requires.number files there.0 there.1 (λ both. bad.2 (there.2.caller ∙ both.0, there.2.length ∙ both.1)))
    c.in-Err-Bad.ensures.err c.refuse-in-Err-Bad.ensures.taken c.refuse-in-Err-Bad.ensures.text c.requires.only

pub returns-in-Err-Complete : goal.returns-in-Err-Complete
returns-in-Err-Complete c = λ moment.
    let whole = rw c.in-Err-Complete.field-0-is at c.in-Err-Complete.ensures.refused in
    upload-refused c.args.caller moment _ c.args.store.now c.resume.new.self 12 _ _
    (λ files like.
    let there = like_entry (store_in c.args.store.now) files like c.args.number whole.0 whole.1.0 in
    row-whole_already c.args.caller moment c.args.number c.args.length c.requires.number files there.0 there.1 (sym there.2.caller ∙ whole.1.1) (sym there.2.length ∙ whole.1.2)
    (sym (like_is_complete whole.0 there.0 there.2) ∙ whole.2))
    c.in-Err-Complete.ensures.err c.refuse-in-Err-Complete.ensures.taken c.refuse-in-Err-Complete.ensures.text c.requires.only
