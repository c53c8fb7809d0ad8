use Rattle.std.proofs.Common.{IfSome, refl, ap, subst, sym}
use Rattle.file_journal.proofs.Names.{MayPut, put_of}
use Rattle.file_journal.proofs.HoldLemmas.{block_cut_holds, block_put_holds, block_put_same, block_put_since, moved_journal}
use Rattle.file_journal.proofs.kept.Kept.put_block.Goals as goal

pub returns-in-Ok-clause-stays : goal.returns-in-Ok-clause-stays
returns-in-Ok-clause-stays g c =
    let change = g.C.Change in
    let disk = g.met.D.Disk in
    let made = c.in-Ok.ensures in
    let asked = c.requires in
    let put = put_of c.in-Some.put in
    let may = subst (λ puts. IfSome puts (MayPut change.form change.steps (change.state c.args.self.now.ledger))) (sym c.in-Some.ensures.puts) c.in-Some.ensures.fits in
    record {
      kept = refl;
      stands_at = block_put_holds g.D.Disk change.steps change.seen change.form g.met.C.Change.is_seen disk.counts_now disk.earlier disk.content_is_image _ _ _ _ asked.may.stands_at asked.may.healthy made.puts.0.told
          c.put_block.new.self put may made.journal made.since made.stands_on made.ok made.ends.quiet;
      same = block_put_same g.D.Disk change.steps change.seen change.form g.met.C.Change.is_seen disk.counts_now disk.earlier disk.content_is_image _ _ _ _ asked.may.stands_at asked.may.healthy made.puts.0.told
          c.put_block.new.self put may made.journal made.since;
      since = block_put_since g.D.Disk change.steps change.seen change.form g.met.C.Change.is_seen disk.counts_now disk.earlier disk.content_is_image _ _ _ _ asked.may.stands_at asked.may.healthy made.puts.0.told
          c.put_block.new.self put may made.journal made.since;
      goes = record {
        journal = moved_journal c.args.self.now.journal c.put_block.new.self c.args.self.now.journal.place c.put_block.new.self.failed made.journal;
        fails = λ bad. cc bad;
        goes_on = λ good. made.ends.goes_on;
        puts = made.puts.0;
        within = made.within;
      };
    }

pub returns-in-Err-clause-stays : goal.returns-in-Err-clause-stays
returns-in-Err-clause-stays g c =
    let change = g.C.Change in
    let disk = g.met.D.Disk in
    let made = c.in-Err.ensures in
    let asked = c.requires in
    let put = put_of c.in-Some.put in
    let may = subst (λ puts. IfSome puts (MayPut change.form change.steps (change.state c.args.self.now.ledger))) (sym c.in-Some.ensures.puts) c.in-Some.ensures.fits in
    let failed = ap (λ p. p.failed) made.ends.fails in
    record {
      kept = refl;
      stands_at = block_cut_holds g.D.Disk change.steps change.seen change.form g.met.C.Change.is_seen disk.counts_now disk.earlier disk.content_is_image _ _ _ _ asked.may.stands_at asked.may.healthy made.puts.0.told
          c.put_block.new.self put may made.journal made.since made.stands_on failed;
      same = block_put_same g.D.Disk change.steps change.seen change.form g.met.C.Change.is_seen disk.counts_now disk.earlier disk.content_is_image _ _ _ _ asked.may.stands_at asked.may.healthy made.puts.0.told
          c.put_block.new.self put may made.journal made.since;
      since = block_put_since g.D.Disk change.steps change.seen change.form g.met.C.Change.is_seen disk.counts_now disk.earlier disk.content_is_image _ _ _ _ asked.may.stands_at asked.may.healthy made.puts.0.told
          c.put_block.new.self put may made.journal made.since;
      goes = record {
        journal = moved_journal c.args.self.now.journal c.put_block.new.self c.args.self.now.journal.place c.put_block.new.self.failed made.journal;
        fails = λ bad. failed;
        goes_on = λ good. absurd (good refl);
        puts = made.puts.0;
        within = made.within;
      };
    }
