use Rattle.std.proofs.Common.{refl, subst, sym}
use Rattle.file_journal.proofs.Names.{StandsAt, HoldSame, blocks_on}
use Rattle.file_journal.proofs.HoldLemmas.{put_holds, put_same, put_turns, turn_step}
use Rattle.file_journal.proofs.kept.Kept.put_record.Goals as goal

pub returns-in-Ok-clause-stands_at : goal.returns-in-Ok-clause-stands_at
returns-in-Ok-clause-stands_at g c =
    let change = g.C.Change in
    let disk = g.met.D.Disk in
    let made = c.in-Ok.ensures in
    let asked = c.requires in
    subst (λ s. StandsAt g.D.Disk change.form change.steps c.put.new.self s c.put.new.disk) (sym c.make.ensures.state)
    (put_holds g.D.Disk change.steps change.seen change.form g.met.C.Change.is_seen disk.counts_now disk.earlier disk.content_is_image _ _ _ _ asked.may.stands_at asked.may.healthy made.puts.told
    _ _ _ asked.writes.reaches asked.writes.number made.since (turn_step g.D.Disk change.steps change.seen change.form g.met.C.Change.is_seen _ _ _ _ asked.writes asked.lets asked.there) made.stands_on made.journal made.ok made.quiet)

pub returns-in-Ok-clause-same : goal.returns-in-Ok-clause-same
returns-in-Ok-clause-same g c =
    let change = g.C.Change in
    let disk = g.met.D.Disk in
    let made = c.in-Ok.ensures in
    let asked = c.requires in
    subst (λ s. HoldSame (change.steps.uses s) (blocks_on (g.D.Disk.content c.args.disk.now)) (blocks_on (g.D.Disk.content c.put.new.disk))) (sym c.make.ensures.state)
    (put_same g.D.Disk change.steps change.seen change.form g.met.C.Change.is_seen disk.counts_now disk.earlier disk.content_is_image _ _ _ _ asked.may.stands_at asked.may.healthy made.puts.told
    c.put.new.self _ _ asked.writes.reaches asked.writes.number made.since _ asked.writes.reaches asked.writes.number)

pub returns-in-Ok-clause-turns : goal.returns-in-Ok-clause-turns
returns-in-Ok-clause-turns g c =
    let change = g.C.Change in
    let disk = g.met.D.Disk in
    let made = c.in-Ok.ensures in
    let asked = c.requires in
    put_turns g.D.Disk change.steps change.seen change.form g.met.C.Change.is_seen disk.counts_now disk.earlier disk.content_is_image _ _ _ _ asked.may.stands_at asked.may.healthy made.puts.told
    c.put.new.self _ _ asked.writes.reaches asked.writes.number made.since (turn_step g.D.Disk change.steps change.seen change.form g.met.C.Change.is_seen _ _ _ _ asked.writes asked.lets asked.there) _ (λ still. (made.ok, made.quiet))

pub returns-in-Err-clause-same : goal.returns-in-Err-clause-same
returns-in-Err-clause-same g c =
    let change = g.C.Change in
    let disk = g.met.D.Disk in
    let made = c.in-Err.ensures in
    let asked = c.requires in
    put_same g.D.Disk change.steps change.seen change.form g.met.C.Change.is_seen disk.counts_now disk.earlier disk.content_is_image _ _ _ _ asked.may.stands_at asked.may.healthy made.puts.told
    c.put.new.self _ _ asked.writes.reaches asked.writes.number made.since _ asked.may.stands_at.holds.reached refl

pub returns-in-Err-clause-turns : goal.returns-in-Err-clause-turns
returns-in-Err-clause-turns g c =
    let change = g.C.Change in
    let disk = g.met.D.Disk in
    let made = c.in-Err.ensures in
    let asked = c.requires in
    put_turns g.D.Disk change.steps change.seen change.form g.met.C.Change.is_seen disk.counts_now disk.earlier disk.content_is_image _ _ _ _ asked.may.stands_at asked.may.healthy made.puts.told
    c.put.new.self _ _ asked.writes.reaches asked.writes.number made.since (turn_step g.D.Disk change.steps change.seen change.form g.met.C.Change.is_seen _ _ _ _ asked.writes asked.lets asked.there) _ (λ still. absurd (still refl))
