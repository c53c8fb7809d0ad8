-- DATA: its row, or code 3.
use Rattle.std.proofs.Common.{◌≡◌, ◌⊎◌, ℕ, [], ◌∷◌, refl, ap, sym, ◌∙◌, subst, inl, inr, Some, true, false, true≢false}
use Rattle.ftl0_session.specs.declared.uploads.phase.Phase.TheVariants as phase
use Rattle.ftl0_session.proofs.Names.{Ok, Item, data_part, ul_nak_resp, unfilled_block, rest_in, Upload, appending, with_bytes, packet_of, aborting, command, taken_row, NoOtherOut, receiving_of}
use Rattle.ftl0_session.proofs.uploads.DoesLemmas.{answered-alone, takes-cut, takes-done}
use Rattle.ftl0_session.proofs.uploads.HoldLemmas.{own-entry, parked, taken, too_much}
use Rattle.ftl0_session.proofs.uploads.OtherLemmas.{only-none, only-own, others-kept}
use Rattle.ftl0_session.proofs.uploads.UploadRows.{receiving-at}
use Rattle.ftl0_session.proofs.uploads.session.take_data.Goals as goal

pub returns-in-Ok : goal.returns-in-Ok
returns-in-Ok g c = λ moment.
    let a = c.args in
    let store = c.args.store.now in
    let now = c.append.new.self in
    let bytes = c.args.octets.now in
    let holds = c.requires.held.0 in
    let does = c.in-Ok.ensures.does refl in
    let fine : false ≡ true → ⊥ = λ e. absurd (true≢false (sym e)) in
    let number : c.in-Ok.up.number ≡ a.up.number = ap (λ (u : Upload). u.number) c.in-Ok.ensures.upload in
    rw c.reply_nothing.ensures.taken
    (record {
      takes =
          takes-done g.D.Disk (packet_of a.caller moment (Ok (data_part bytes))) (receiving_of store a.up) store a.disk.now c.requires.ready (receiving_of now c.in-Ok.up) now c.append.new.disk _ _ (appending store a.up bytes) fine does c.in-Ok.ensures.memory
          (λ files like. (
            taken_row a.up.number (with_bytes store a.up bytes),
            taken a.caller store a.up holds files like moment bytes c.in-Ok.ensures.can.0,
            refl,
            receiving-at now c.in-Ok.up a.up.number (unfilled_block (with_bytes store a.up bytes)) number (ap (λ (n : ℕ). rest_in now n) number ∙ c.in-Ok.ensures.rest),
            c.reply_nothing.ensures.text,
          ));
      failed = λ e. absurd (cc e);
      healthy = λ ok. (does.done fine).1;
      stands_on = c.in-Ok.ensures.keeps.stands_on;
      held = (c.in-Ok.ensures.holds, ap (λ (u : Upload). u.caller) c.in-Ok.ensures.upload ∙ c.requires.held.1);
      only =
          subst (λ (n : ℕ). NoOtherOut now a.caller (Some n)) (sym number)
          (only-own store now a.up.number a.caller c.in-Ok.ensures.keeps.entries c.in-Ok.ensures.keeps.rests c.requires.only);
      others =
          others-kept store now a.up.number a.caller c.in-Ok.ensures.keeps.entries c.in-Ok.ensures.keeps.rests
          (own-entry a.caller store a.up holds c.requires.held.1) c.in-Ok.ensures.keeps.uploads;
      kept = c.in-Ok.ensures.keeps.kept;
    })

untouched : {P : Type 0} → (false ≡ true) ⊎ P → P
untouched (inl never) = absurd (true≢false (sym never))
untouched (inr p) = p

pub returns-in-Err-TooMuch : goal.returns-in-Err-TooMuch
returns-in-Err-TooMuch g c = λ moment.
    let holds = c.requires.held.0 in
    let refused = rw c.in-Err-TooMuch.field-0-is at c.in-Err-TooMuch.ensures.refused in
    let same = rw c.in-Err-TooMuch.field-0-is at c.in-Err-TooMuch.ensures.back in
    let still : c.append.new.disk ≡ c.args.disk.now = untouched (rw c.in-Err-TooMuch.field-0-is at c.in-Err-TooMuch.ensures.untouched) in
    let changes = rw (same, refused.1) at c.park.ensures.rest in
    let journal = rw same at c.park.ensures.journal in
    let uploads = rw (same, refused.1) at c.park.ensures.uploads in
    let item : Item = Ok (data_part c.args.octets.now) in
    rw still
    (answered-alone g.D.Disk (packet_of c.args.caller moment item) (receiving_of c.args.store.now c.args.up) c.args.store.now c.args.disk.now c.requires.ready c.park.new.self _ (phase.Aborting, Ok tt)
    (g.met.D.Disk.lasts_same c.args.disk.now)
    (parked c.args.caller c.args.store.now c.args.up holds moment item c.park.new.self phase.Aborting
    (record { state = aborting; commands = []; replies = ul_nak_resp 1 ∷ [] }) _
    (λ files like. too_much c.args.caller c.args.store.now c.args.up holds files like moment c.args.octets.now refused.0) refl refl c.reply_nak.ensures refl tt c.requires.held.1 changes journal uploads
    c.requires.only))

pub returns-in-Err-Disk : goal.returns-in-Err-Disk
returns-in-Err-Disk g c = λ moment.
    let a = c.args in
    let store = c.args.store.now in
    let now = c.append.new.self in
    let bytes = c.args.octets.now in
    let holds = c.requires.held.0 in
    let refused = rw c.in-Err-Disk.field-0-is at c.in-Err-Disk.ensures.refused in
    let reached = rw c.in-Err-Disk.field-0-is at c.in-Err-Disk.ensures.does in
    let does = reached refl in
    let spent = rw c.in-Err-Disk.field-0-is at c.in-Err-Disk.ensures.spent in
    record {
      takes =
          takes-cut g.D.Disk (packet_of a.caller moment (Ok (data_part bytes))) (receiving_of store a.up) store a.disk.now c.requires.ready command now c.append.new.disk _ _ (appending store a.up bytes) refl does
          (λ files like. (
            taken_row a.up.number (with_bytes store a.up bytes),
            taken a.caller store a.up holds files like moment bytes refused.0,
            refl,
          )) refl c.reply_nak-in-Err-Disk.ensures;
      failed = λ e. (does.cut refl).failed;
      healthy = λ ok. absurd (ok refl);
      stands_on = c.in-Err-Disk.ensures.keeps.stands_on;
      held = tt;
      only = only-none store now a.up.number a.caller c.in-Err-Disk.ensures.keeps.entries c.in-Err-Disk.ensures.keeps.rests c.requires.only (spent refl);
      others =
          others-kept store now a.up.number a.caller c.in-Err-Disk.ensures.keeps.entries c.in-Err-Disk.ensures.keeps.rests
          (own-entry a.caller store a.up holds c.requires.held.1) c.in-Err-Disk.ensures.keeps.uploads;
      kept = c.in-Err-Disk.ensures.keeps.kept;
    }
