use Rattle.std.proofs.Common.{List, ℕ, length, get_or, refl, sym, ◌∙◌, ap, arith}
use Rattle.disk_model.proofs.Names.{quiet_surface, surface_after, calls_of, standing_open, synced_before}
use Rattle.disk_model.proofs.Crashes.{crash_of, synced_kept}
use Rattle.disk_model.proofs.Surfaces.{images_of_other_content}
use Rattle.disk_model.proofs.crash.lose_power.Goals as goal

pub returns-then-pick-eq0-clause-crash : goal.returns-then-pick-eq0-clause-crash
returns-then-pick-eq0-clause-crash c =
    let writes = c.args.writes.now in
    let synced = synced_before c.args.synced writes c.args.kept.now c.args.present.now.items in
    let left = c.restore.ensures.synced in
    let same = synced_kept (quiet_surface synced) (calls_of writes) c.requires.since.open_calls in
    let size = ap length same in
    let left_size = ap length left in
    record {
      left = record {
        octets = c.restore.ensures.octets;
        no_shorter = omega (arith, size, left_size);
        no_longer = omega (arith, size, left_size, c.requires.since.image.no_shorter, c.requires.since.image.no_longer);
        kept = λ place below shut. ap (λ (l : List ℕ). get_or l place 0) (left ∙ sym same);
      };
      synced = λ is. left ∙ sym same;
      written = λ is. absurd (omega (arith, is, c.if-pick-eq0.true));
      filled = λ is. absurd (omega (arith, is, c.if-pick-eq0.true));
    }

pub returns-then-pick-eq1-clause-crash : goal.returns-then-pick-eq1-clause-crash
returns-then-pick-eq1-clause-crash c =
    let present = c.args.present.now.items in
    let surface = surface_after (synced_before c.args.synced c.args.writes.now c.args.kept.now present) (calls_of c.args.writes.now) in
    record {
      left = images_of_other_content surface present present c.requires.since.image;
      synced = λ is. absurd (omega (arith, is, c.if-pick-eq1.true));
      written = λ is. refl;
      filled = λ is. absurd (omega (arith, is, c.if-pick-eq1.true));
    }

pub returns-clause-crash : goal.returns-clause-crash
returns-clause-crash c =
    crash_of (standing_open c.args.synced c.args.writes.now c.args.kept.now c.args.present.now.items) c.args.pick c.tear_all.result _ c.tear_all.ensures.image
    (λ is. c.tear_all.ensures.filled _ (c.new.ensures is)) c.if-pick-eq0.false c.if-pick-eq1.false
