use Rattle.std.proofs.Common.{ℕ, List, length, Ok, sym, ◌∙◌, true≢false}
use Rattle.file_journal.proofs.Names.{on_ok_weaker, IsTornFrom, on_ok_both, puts_on, puts_once, quiet_by_sync, goes_on, once, alike_same, if_told, told_weaker}
use Rattle.file_journal.proofs.write.write_synced.Goals as goal

pub returns-clause-makes : goal.returns-clause-makes
returns-clause-makes g c =
    let D = g.D.Disk in
    let old = c.args.disk.now in
    let mid = c.write_at.new.self in
    let new = c.sync.new.self in
    let torn : (image : List ℕ) → D.images mid image → IsTornFrom (D.images old) c.args.at (length c.args.octets.now) image = λ image now. c.write_at.ensures.torn image now in
    let same = g.met.D.Disk.lasts_same in
    record {
      ok = on_ok_weaker c.sync.result (λ durable. told_weaker (D.content old) _ _ (λ before told has. (has.0, c.sync.ensures.content ∙ has.1, has.2)) c.in_ok-write_at.ensures.written) c.sync.ensures.durable;
      quiet = on_ok_both c.sync.result (λ durable one. quiet_by_sync D mid new c.sync.ensures.content durable one c.sync.ensures.since_now) c.sync.ensures.durable c.sync.ensures.moment.one;
      since = if_told (D.content old) _ (λ before told.
          let P = IsTornFrom (D.images old) c.args.at (length c.args.octets.now) in
          goes_on D.moment D.images_since old mid new P _ (once D.moment D.images_since old mid P _ c.write_at.ensures.past torn) c.sync.ensures.past
          (λ image now. torn image (c.sync.ensures.images image now)));
      puts = puts_on D g.met.D.Disk.lasts_on old mid new _ _ (λ e. true≢false (sym e))
          (puts_once D (Ok c.in_ok-write_at.field-0) old mid (same old) (c.write_at.ensures.untold, c.write_at.ensures.told) c.write_at.ensures.read_faults
          c.in_ok-write_at.ensures.write_faults c.write_at.ensures.moment.at_most c.write_at.ensures.past c.write_at.ensures.lasts)
          (puts_once D c.sync.result mid new (same mid) (alike_same _ _ c.sync.ensures.content) c.sync.ensures.read_faults
          c.sync.ensures.write_faults c.sync.ensures.moment.at_most c.sync.ensures.past c.sync.ensures.lasts);
    }
