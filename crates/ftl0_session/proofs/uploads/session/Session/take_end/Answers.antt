-- DATA_END: its row, or code 3.
use Rattle.std.proofs.Common.{◌≡◌, ◌⊎◌, ℕ, List, [], ◌∷◌, refl, ap, sym, ◌∙◌, subst, inl, inr, eq-eqb, Option, None, Some, true, false, true≢false}
use Rattle.file_store.specs.Upload.{waiting}
use Rattle.ftl0_session.specs.declared.uploads.phase.Phase.TheVariants as phase
use Rattle.ftl0_session.proofs.Names.{Ok, ⊤, fault_code, Item, data_end, ul_ack_resp, ul_nak_resp, Command, last_grow, KeepsComplete, KeepsRests, ChangesEntry, store_in, store_on, Store, octets_come, sealing, among-parked, among-same, in_parked, on_like, stands_parked, packet_of, command, unread_row, whole_row, receiving_of}
use Rattle.ftl0_session.proofs.uploads.DoesLemmas.{answered-alone, takes-among, takes-fault}
use Rattle.ftl0_session.proofs.uploads.HoldLemmas.{end-looks, own-entry, parked, sealing-some, short, unread, whole, whole-sealing}
use Rattle.ftl0_session.proofs.CauseLemmas.{says-one}
use Rattle.ftl0_session.proofs.uploads.CaseLemmas.{fault-other}
use Rattle.ftl0_session.proofs.uploads.OtherLemmas.{only-none, others-kept}
use Rattle.ftl0_session.proofs.uploads.session.Session.take_end.Goals as goal

pub returns-in-Ok : goal.returns-in-Ok
returns-in-Ok g c =
    let a = c.args in
    let caller = c.args.self.now.caller in
    let store = c.args.store.now in
    let now = c.seal.new.self in
    let disk = c.args.disk.now in
    let disk_now = c.seal.new.disk in
    let holds = c.requires.held.0 in
    let files : Store = store_on g.D.Disk store disk in
    let commands : List Command = sealing files store a.up a.moment in
    record {
      takes =
          takes-among g.D.Disk (packet_of caller a.moment (Ok data_end)) (receiving_of store a.up) store disk c.requires.ready command now disk_now _ _ false commands (λ e. cc e) c.in-Ok.ensures.puts c.in-Ok.ensures.misses
          (λ known. among-same g.D.Disk _ ⊥ 0 0 store now disk disk_now commands (λ e. cc e) (λ never. absurd never) refl (c.in-Ok.ensures.does refl known))
          (λ known. (
            whole_row a.moment a.up.number (waiting store a.up) None,
            whole caller store a.up holds files (on_like g.D.Disk store disk c.requires.ready known) a.moment None c.in-Ok.ensures.can.0 (c.in-Ok.ensures.good known),
            whole-sealing files store a.up a.moment None (c.in-Ok.ensures.good known),
            refl,
            c.ack.ensures,
          )) (λ known failed. absurd (true≢false (sym failed))) (λ ok none. absurd (sealing-some files store a.up a.moment none))
          (λ row looks. absurd (end-looks caller store a.up holds a.moment row c.in-Ok.ensures.can.0 looks))
          (says-one g.D.Disk disk false _ ul_ack_resp c.ack.ensures (λ failed. absurd (true≢false (sym failed))) tt);
      failed = λ e. absurd (cc e);
      healthy = λ ok. c.in-Ok.ensures.goes_on (λ e. cc e) ∙ c.requires.ready.healthy;
      stands_on = c.in-Ok.ensures.keeps.stands_on;
      held = tt;
      only = only-none store now a.up.number caller c.in-Ok.ensures.keeps.entries c.in-Ok.ensures.keeps.rests c.requires.only c.in-Ok.ensures.ended;
      others =
          others-kept store now a.up.number caller c.in-Ok.ensures.keeps.entries c.in-Ok.ensures.keeps.rests (own-entry caller store a.up holds c.requires.held.1) c.in-Ok.ensures.keeps.uploads;
      kept = c.in-Ok.ensures.keeps.kept;
    }

untouched : {P : Type 0} → (false ≡ true) ⊎ P → P
untouched (inl never) = absurd (true≢false (sym never))
untouched (inr p) = p

pub returns-in-Err-Short : goal.returns-in-Err-Short
returns-in-Err-Short g c =
    let holds = c.requires.held.0 in
    let refused = rw c.in-Err-Short.field-0-is at c.in-Err-Short.ensures.refused in
    let stays = rw c.in-Err-Short.field-0-is at c.in-Err-Short.ensures.short in
    let same = stays _ refl in
    let still : c.seal.new.disk ≡ c.args.disk.now = untouched (rw c.in-Err-Short.field-0-is at c.in-Err-Short.ensures.untouched) in
    let changes = rw (same, refused.1) at c.park.ensures.rest in
    let journal = rw same at c.park.ensures.journal in
    let uploads = rw (same, refused.1) at c.park.ensures.uploads in
    let item : Item = Ok data_end in
    rw still
    (answered-alone g.D.Disk (packet_of c.args.self.now.caller c.args.moment item) (receiving_of c.args.store.now c.args.up) c.args.store.now c.args.disk.now c.requires.ready c.park.new.self _ (phase.Command, Ok tt)
    (g.met.D.Disk.lasts_same c.args.disk.now)
    (parked c.args.self.now.caller c.args.store.now c.args.up holds c.args.moment item c.park.new.self phase.Command
    (record { state = command; commands = []; replies = ul_nak_resp 16 ∷ [] }) _
    (λ files like. short c.args.self.now.caller c.args.store.now c.args.up holds files like c.args.moment refused.0) refl refl c.reply_nak.ensures refl tt c.requires.held.1 changes journal uploads
    c.requires.only))

pub returns-in-Err-Header : goal.returns-in-Err-Header
returns-in-Err-Header g c =
    let a = c.args in
    let caller = c.args.self.now.caller in
    let store = c.args.store.now in
    let now = c.seal.new.self in
    let disk = c.args.disk.now in
    let disk_now = c.seal.new.disk in
    let code : ℕ = c.in-Err-Header.code in
    let holds = c.requires.held.0 in
    let refused = rw c.in-Err-Header.field-0-is at c.in-Err-Header.ensures.refused in
    let reached = rw c.in-Err-Header.field-0-is at c.in-Err-Header.ensures.does in
    let spent = rw c.in-Err-Header.field-0-is at c.in-Err-Header.ensures.spent in
    let puts = rw c.in-Err-Header.field-0-is at c.in-Err-Header.ensures.puts in
    let misses = rw c.in-Err-Header.field-0-is at c.in-Err-Header.ensures.misses in
    let goes_on = rw c.in-Err-Header.field-0-is at c.in-Err-Header.ensures.goes_on in
    let files : Store = store_on g.D.Disk store disk in
    let commands : List Command = sealing files store a.up a.moment in
    record {
      takes =
          takes-among g.D.Disk (packet_of caller a.moment (Ok data_end)) (receiving_of store a.up) store disk c.requires.ready command now disk_now _ _ false commands (λ e. cc e) puts misses
          (λ known. among-same g.D.Disk _ ⊥ 0 0 store now disk disk_now commands (λ e. cc e) (λ never. absurd never) refl (reached refl known))
          (λ known. (
            whole_row a.moment a.up.number (waiting store a.up) (Some code),
            whole caller store a.up holds files (on_like g.D.Disk store disk c.requires.ready known) a.moment (Some code) refused.0.0 (refused.1.1 known),
            whole-sealing files store a.up a.moment (Some code) (refused.1.1 known),
            refl,
            c.write_packet.ensures.text,
          )) (λ known failed. absurd (true≢false (sym failed))) (λ ok none. absurd (sealing-some files store a.up a.moment none))
          (λ row looks. absurd (end-looks caller store a.up holds a.moment row refused.0.0 looks))
          (says-one g.D.Disk disk false _ (ul_nak_resp code) c.write_packet.ensures.text (λ failed. absurd (true≢false (sym failed)))
          (λ three. absurd (true≢false (sym (eq-eqb code 3 three) ∙ fault-other (Some refused.1.0.0) code (ap (λ (k : ℕ). Some k) (sym refused.1.0.1))))));
      failed = λ e. absurd (cc e);
      healthy = λ ok. goes_on (λ e. cc e) ∙ c.requires.ready.healthy;
      stands_on = c.in-Err-Header.ensures.keeps.stands_on;
      held = tt;
      only = only-none store now a.up.number caller c.in-Err-Header.ensures.keeps.entries c.in-Err-Header.ensures.keeps.rests c.requires.only (spent refl);
      others =
          others-kept store now a.up.number caller c.in-Err-Header.ensures.keeps.entries c.in-Err-Header.ensures.keeps.rests
          (own-entry caller store a.up holds c.requires.held.1) c.in-Err-Header.ensures.keeps.uploads;
      kept = c.in-Err-Header.ensures.keeps.kept;
    }

pub returns-in-Err-Read : goal.returns-in-Err-Read
returns-in-Err-Read g c =
    let a = c.args in
    let caller = c.args.self.now.caller in
    let store = c.args.store.now in
    let mid = c.seal.new.self in
    let now = c.park-in-Err-Read.new.self in
    let disk = c.args.disk.now in
    let disk_now = c.seal.new.disk in
    let holds = c.requires.held.0 in
    let refused = rw c.in-Err-Read.field-0-is at c.in-Err-Read.ensures.refused in
    let reached = rw c.in-Err-Read.field-0-is at c.in-Err-Read.ensures.does in
    let puts = rw c.in-Err-Read.field-0-is at c.in-Err-Read.ensures.puts in
    let misses = rw c.in-Err-Read.field-0-is at c.in-Err-Read.ensures.misses in
    let goes_on = rw c.in-Err-Read.field-0-is at c.in-Err-Read.ensures.goes_on in
    let keeps = c.in-Err-Read.ensures.keeps in
    let parks = rw refused.1 at c.park-in-Err-Read.ensures.rest in
    let uploads = rw refused.1 at c.park-in-Err-Read.ensures.uploads in
    let journal = c.park-in-Err-Read.ensures.journal in
    let files : Store = store_on g.D.Disk store disk in
    let commands : List Command = last_grow a.up.number (waiting store a.up) in
    let same : store_in now ≡ store_in mid = in_parked mid now parks.store_is in
    let entries = subst (λ (s : Store). ChangesEntry (store_in store) s a.up.number) (sym same) keeps.entries in
    let rests : KeepsRests store.files now.files a.up.number = λ other ne. parks.others other ne ∙ keeps.rests other ne in
    record {
      takes =
          takes-among g.D.Disk (packet_of caller a.moment (Ok data_end)) (receiving_of store a.up) store disk c.requires.ready command now disk_now _ _ true commands (λ e. cc e) puts misses
          (λ known.
          among-parked g.D.Disk ⊥ 1 store mid now disk disk_now commands parks.store_is journal
          (among-same g.D.Disk _ ⊥ 1 1 store mid disk disk_now commands (λ e. cc e) (λ never. absurd never) refl (reached refl known)))
          (λ known. (
            unread_row a.up.number (waiting store a.up),
            unread caller store a.up holds files (on_like g.D.Disk store disk c.requires.ready known) a.moment refused.0.0,
            refl,
            refl,
            c.reply_nak-in-Err-Read.ensures,
          )) (λ known failed. refl) (λ ok none. absurd (true≢false ok)) (λ row looks. absurd (end-looks caller store a.up holds a.moment row refused.0.0 looks))
          (says-one g.D.Disk disk true _ (ul_nak_resp 3) c.reply_nak-in-Err-Read.ensures (λ failed. refl) (λ three. refl));
      failed = λ e. absurd (cc e);
      healthy = λ ok. ap (λ j. j.failed) journal ∙ goes_on (λ e. cc e) ∙ c.requires.ready.healthy;
      stands_on = stands_parked g.D.Disk mid now disk_now parks.store_is journal keeps.stands_on;
      held = tt;
      only = only-none store now a.up.number caller entries rests c.requires.only parks.here;
      others =
          others-kept store now a.up.number caller entries rests (own-entry caller store a.up holds c.requires.held.1)
          (λ other ne held. uploads other ne (keeps.uploads other ne held));
      kept = subst (λ (s : Store). KeepsComplete (store_in store) s) (sym same) keeps.kept;
    }

pub returns-in-Err-Disk : goal.returns-in-Err-Disk
returns-in-Err-Disk g c =
    let a = c.args in
    let caller = c.args.self.now.caller in
    let store = c.args.store.now in
    let now = c.seal.new.self in
    let disk = c.args.disk.now in
    let disk_now = c.seal.new.disk in
    let holds = c.requires.held.0 in
    let refused = rw c.in-Err-Disk.field-0-is at c.in-Err-Disk.ensures.refused in
    let reached = rw c.in-Err-Disk.field-0-is at c.in-Err-Disk.ensures.does in
    let spent = rw c.in-Err-Disk.field-0-is at c.in-Err-Disk.ensures.spent in
    let puts = rw c.in-Err-Disk.field-0-is at c.in-Err-Disk.ensures.puts in
    let misses = rw c.in-Err-Disk.field-0-is at c.in-Err-Disk.ensures.misses in
    let stops = rw c.in-Err-Disk.field-0-is at c.in-Err-Disk.ensures.stops in
    let files : Store = store_on g.D.Disk store disk in
    let fault : Option ℕ = fault_code (octets_come files store a.up) in
    let commands : List Command = sealing files store a.up a.moment in
    record {
      takes =
          takes-fault g.D.Disk (packet_of caller a.moment (Ok data_end)) (receiving_of store a.up) store disk c.requires.ready command now disk_now _ _ commands refl puts misses
          (λ known. among-same g.D.Disk _ ⊤ 0 0 store now disk disk_now commands (λ e. tt) (λ t. refl) refl (reached refl known))
          (λ known. (
            whole_row a.moment a.up.number (waiting store a.up) fault,
            whole caller store a.up holds files (on_like g.D.Disk store disk c.requires.ready known) a.moment fault refused.0 refl,
            whole-sealing files store a.up a.moment fault refl,
          )) (λ none. absurd (sealing-some files store a.up a.moment none)) refl c.reply_nak-in-Err-Disk.ensures
          (λ row looks. absurd (end-looks caller store a.up holds a.moment row refused.0 looks));
      failed = λ e. stops refl;
      healthy = λ ok. absurd (ok refl);
      stands_on = c.in-Err-Disk.ensures.keeps.stands_on;
      held = tt;
      only = only-none store now a.up.number caller c.in-Err-Disk.ensures.keeps.entries c.in-Err-Disk.ensures.keeps.rests c.requires.only (spent refl);
      others =
          others-kept store now a.up.number caller c.in-Err-Disk.ensures.keeps.entries c.in-Err-Disk.ensures.keeps.rests
          (own-entry caller store a.up holds c.requires.held.1) c.in-Err-Disk.ensures.keeps.uploads;
      kept = c.in-Err-Disk.ensures.keeps.kept;
    }
