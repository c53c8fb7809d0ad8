-- A new file: its row, or the answer to a refusal.
use Rattle.std.proofs.Common.{◌≡◌, ℕ, [], ◌∷◌, refl, ap, sym, ◌∙◌, subst, Some, true≢false}
use Rattle.ftl0_session.proofs.Names.{Ok, texts, ul_go_resp, upload_cmd, begin, store_in, Upload, packet_of, command, granted_row, receiving, NoOtherOut, receiving_of}
use Rattle.ftl0_session.proofs.uploads.BeginLemmas.{begin-like, begin-refused, begun-only, begun-others, granted-like}
use Rattle.ftl0_session.proofs.uploads.DoesLemmas.{takes-done}
use Rattle.ftl0_session.proofs.uploads.UploadRows.{receiving-at}
use Rattle.ftl0_session.proofs.uploads.session.begin.Goals as goal

pub returns-in-Ok : goal.returns-in-Ok
returns-in-Ok g c =
    let store = c.args.store.now in
    let now = c.begin.new.self in
    let up = c.in-Ok.up in
    let next : ℕ = (store_in store).next in
    let does = c.in-Ok.ensures.does refl in
    let number : up.number ≡ next = ap (λ (u : Upload). u.number) c.in-Ok.ensures.upload in
    record {
      takes =
          takes-done g.D.Disk (packet_of c.args.caller c.args.moment (Ok (upload_cmd 0 c.args.length))) command store c.args.disk.now c.requires.ready (receiving_of now up) now c.begin.new.disk _ _
          (begin next c.args.caller c.args.length c.args.moment ∷ []) (λ e. absurd (true≢false (sym e))) does c.in-Ok.ensures.made
          (λ files like. (
            granted_row c.args.caller c.args.moment files.next c.args.length,
            granted-like c.args.caller c.args.moment c.args.length (store_in store) files like c.state_law.ensures.rules c.in-Ok.ensures.can.0,
            begin-like c.args.caller c.args.moment c.args.length (store_in store) files like,
            receiving-at now up next [] number c.in-Ok.ensures.holds.1 ∙ ap (λ (n : ℕ). receiving n []) like.next,
            c.go_on.ensures ∙ ap (λ (n : ℕ). texts (ul_go_resp n 0 ∷ [])) (c.number.ensures ∙ number ∙ like.next),
          ));
      failed = λ e. absurd (cc e);
      healthy = λ fine. (does.done (λ e. absurd (true≢false (sym e)))).1;
      stands_on = c.in-Ok.ensures.stands_on;
      held = (c.in-Ok.ensures.holds.0, ap (λ (u : Upload). u.caller) c.in-Ok.ensures.upload);
      only =
          subst (λ (n : ℕ). NoOtherOut now c.args.caller (Some n)) (sym number)
          (begun-only c.args.caller c.args.moment c.args.length store now c.state_law.ensures.rules c.in-Ok.ensures.rests c.in-Ok.ensures.made c.requires.only);
      others = begun-others c.args.caller c.args.moment c.args.length store now c.state_law.ensures.rules c.in-Ok.ensures.rests c.in-Ok.ensures.made c.in-Ok.ensures.uploads;
      kept = c.in-Ok.ensures.kept;
    }

pub returns-in-Err : goal.returns-in-Err
returns-in-Err g c =
    begin-refused g.D.Disk c.args.caller c.args.moment c.args.length c.args.store.now c.begin.new.self c.args.disk.now c.begin.new.disk c.state_law.ensures.rules c.requires
    (g.met.D.Disk.lasts_same c.args.disk.now) c.in-Err.refusal _ _ c.in-Err.ensures.refused c.in-Err.ensures.untouched c.in-Err.ensures.does (c.in-Err.ensures.unmade refl)
    c.in-Err.ensures.stands_on c.in-Err.ensures.uploads c.in-Err.ensures.rests c.in-Err.ensures.kept c.refuse_begin.ensures
