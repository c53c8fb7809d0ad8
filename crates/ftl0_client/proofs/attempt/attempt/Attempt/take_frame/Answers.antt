-- What the link reported decides what becomes of the attempt.
use Rattle.std.proofs.Common.{rules, inl, inr, ◌≡◌, ◌++◌, ℕ, List, Option, Ok, ap, refl, sym, subst, ◌∙◌}
use Rattle.ftl0_client.proofs.Names.{value_of, Heard, Bytes, Closed, Nothing, Opened, Reopened, Why, Tells, after_frame, heard_of, Window, packets_of, under_way, MayTake, JobState, with_notes, Attempted, AttemptState, HearsBy, IsAttempt, working, TakesOctetsBy, accepting, after_hearing, down_by, packets_heard, with_end, attempt_state, taking, Several-none, puts_same}
use Rattle.ftl0_client.proofs.attempt.FeedLemmas.{hears-octets}
use Rattle.ftl0_client.proofs.attempt.HearLemmas.{hears-puts, hears-told}
use Rattle.ftl0_client.proofs.attempt.attempt.Attempt.take_frame.Goals as goal

pub returns-in-Bytes-clause-takes : goal.returns-in-Bytes-clause-takes
returns-in-Bytes-clause-takes g c =
    let s = c.self.inside in
    let frame = value_of c.args.frame.now in
    let mid = attempt_state (record { link = c.take.new.self; job = s.job; down = s.down }) in
    let now = attempt_state (record { link = c.take_packets.new.link; job = c.take_packets.new.job; down = s.down }) in
    let at_first = λ (old : AttemptState). with_notes old c.args.notes.now c.args.disk.now in
    let at_last = with_notes now c.take_packets.new.notes c.take_packets.new.disk in
    let same : c.information.result.now ≡ frame.kind.information = c.information.ensures (c.in-Bytes.ensures.bytes refl) in
    let takes =
    subst (λ (o : List ℕ). TakesOctetsBy g.D.Disk (mid.octets ++ o) now.octets (working mid.link mid.job c.args.notes.now c.args.disk.now)
    (working now.link now.job c.take_packets.new.notes c.take_packets.new.disk) c.take_packets.result) same c.take_packets.ensures.takes in
    let P : AttemptState → Type 0 =
    λ old. (w : Window) (a : Attempted) → IsAttempt w old a
    → HearsBy g.D.Disk w (taking c.args.notes.now.lists (after_hearing w a frame) (packets_heard w a frame)) (after_hearing w a frame) (packets_heard w a frame)
    (at_first old) at_last c.take_packets.result in
    subst P c.self.view_is (λ w a is.
    hears-told g.D.Disk w frame (at_first (attempt_state s)) at_last Bytes c.take_packets.result c.in-Bytes.ensures.heard a is
    (hears-octets g.D.Disk w (attempt_state s) (at_first mid) at_last (with_end a (after_frame w a.end frame))
    (record { link = c.in-Bytes.ensures.after w a.end is.link; rest = ap under_way c.in-Bytes.ensures.keeps.reader ∙ is.rest; job = is.job; down = is.down }) frame.kind.information refl
    c.take_packets.result takes))

pub returns-in-Bytes-clause-puts : goal.returns-in-Bytes-clause-puts
returns-in-Bytes-clause-puts g c =
    let s = c.self.inside in
    let some = c.stands_law.ensures.0 in
    let mid = attempt_state (record { link = c.take.new.self; job = s.job; down = s.down }) in
    let now = attempt_state (record { link = c.take_packets.new.link; job = c.take_packets.new.job; down = s.down }) in
    let a : Attempted = record { end = some.end; rest = mid.octets; job = s.job; down = s.down } in
    let octets = c.information.result.now in
    let at_first = with_notes mid c.args.notes.now c.args.disk.now in
    let at_last = with_notes now c.take_packets.new.notes c.take_packets.new.disk in
    hears-puts g.D.Disk g.met.D.Disk.lasts_on (accepting a octets) (packets_of (a.rest ++ octets)) at_first at_last some.w
    (taking c.args.notes.now.lists (accepting a octets) (packets_of (a.rest ++ octets))) c.take_packets.result
    (hears-octets g.D.Disk some.w mid at_first at_last a (record { link = some.stands; rest = refl; job = refl; down = refl }) octets refl c.take_packets.result c.take_packets.ensures.takes)

pub returns-in-Nothing : goal.returns-in-Nothing
returns-in-Nothing g c =
    let s = c.self.inside in
    let frame = value_of c.args.frame.now in
    let lists = c.args.notes.now.lists in
    let mid = attempt_state (record { link = c.take.new.self; job = s.job; down = s.down }) in
    let at = λ (state : AttemptState). with_notes state c.args.notes.now c.args.disk.now in
    let none = Several-none g.D.Disk ⊥ c.args.notes.now c.args.disk.now (λ never. never) c.requires.may.ready (g.met.D.Disk.lasts_same c.args.disk.now) in
    let P : AttemptState → Type 0 =
    λ old. (w : Window) (a : Attempted) → IsAttempt w old a
    → HearsBy g.D.Disk w (taking lists (after_hearing w a frame) (packets_heard w a frame)) (after_hearing w a frame) (packets_heard w a frame) (at old) (at mid) (Ok tt) in
    let told : (heard : Heard) → c.take.result ≡ heard → Tells s.link.link (λ w end. heard_of w end frame) heard = λ heard is.
    subst (λ (t : Heard). Tells s.link.link (λ w end. heard_of w end frame) t) is c.take.ensures.heard in
    let still : (w : Window) (a : Attempted) → IsAttempt w (attempt_state s) a → IsAttempt w mid (with_end a (after_frame w a.end frame)) = λ w a is.
    record { link = c.take.ensures.after w a.end is.link; rest = ap under_way c.take.ensures.keeps.reader ∙ is.rest; job = is.job; down = is.down } in
    let takes : P (attempt_state s) =
    elim c.in-Nothing.is [
      | inl nothing ↦ λ w a is. hears-told g.D.Disk w frame (at (attempt_state s)) (at mid) Nothing (Ok tt) (told Nothing nothing) a is (still w a is, none)
      | inr others ↦ elim others [
        | inl opened ↦ λ w a is. hears-told g.D.Disk w frame (at (attempt_state s)) (at mid) Opened (Ok tt) (told Opened opened) a is (still w a is, none)
        | inr reopened ↦ λ w a is. hears-told g.D.Disk w frame (at (attempt_state s)) (at mid) Reopened (Ok tt) (told Reopened reopened) a is (still w a is, none)
      ]
    ] in
    let may = subst (λ (o : AttemptState). MayTake g.D.Disk c.args.notes.now c.args.disk.now o.job) (sym c.self.view_is) c.requires.may in
    record {
      takes = subst P c.self.view_is takes;
      puts = puts_same g.D.Disk c.args.disk.now c.args.disk.now ⊥ _ (λ never. absurd never) (λ e. cc e) none.does.puts;
      fit = record { may = may; stands_on = c.requires.may.ready.stands_on; stations = search rules };
    }

pub returns-in-Closed-clause-takes : goal.returns-in-Closed-clause-takes
returns-in-Closed-clause-takes g c =
    let s = c.self.inside in
    let frame = value_of c.args.frame.now in
    let lists = c.args.notes.now.lists in
    let why = c.in-Closed.why in
    let mid = attempt_state (record { link = c.take.new.self; job = s.job; down = s.down }) in
    let at = λ (state : AttemptState). with_notes state c.args.notes.now c.args.disk.now in
    let none = Several-none g.D.Disk ⊥ c.args.notes.now c.args.disk.now (λ never. never) c.requires.may.ready (g.met.D.Disk.lasts_same c.args.disk.now) in
    let P : AttemptState → AttemptState → Type 0 =
    λ old now. (w : Window) (a : Attempted) → IsAttempt w old a
    → HearsBy g.D.Disk w (taking lists (after_hearing w a frame) (packets_heard w a frame)) (after_hearing w a frame) (packets_heard w a frame) (at old) (at now) (Ok tt) in
    let told : Tells s.link.link (λ w end. heard_of w end frame) (Closed why) =
    subst (λ (t : Heard). Tells s.link.link (λ w end. heard_of w end frame) t) c.in-Closed.is c.take.ensures.heard in
    let now : AttemptState = record mid { down = down_by s.job.ending s.down why } in
    subst (λ (o : AttemptState). P o c.close.new.self) c.self.view_is
    (subst (P (attempt_state s)) (sym c.close.ensures)
    (λ w a is.
    let down : down_by s.job.ending s.down why ≡ down_by a.job.ending a.down why =
    ap (λ (j : JobState). down_by j.ending s.down why) is.job ∙ ap (λ (d : Option Why). down_by a.job.ending d why) is.down in
    hears-told g.D.Disk w frame (at (attempt_state s)) (at now) (Closed why) (Ok tt) told a is
    (record { link = c.take.ensures.after w a.end is.link; rest = ap under_way c.take.ensures.keeps.reader ∙ is.rest; job = is.job; down = down }, none)))
