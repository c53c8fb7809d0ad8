use Rattle.std.proofs.Common.{ℕ, Err, Ok, Result, arith}
use Rattle.file_journal.proofs.Names.{DiskFault, told_weaker}
use Rattle.file_journal.proofs.RewriteLemmas.{anew_other, rewritten_is, writes_anew}
use Rattle.file_journal.proofs.journal.Journal.put_records.Goals as goal

pub write_half-requires-clause-fits : goal.write_half-requires-clause-fits
write_half-requires-clause-fits g c = omega (arith, c.requires.may.fits, c.other_half-half.ensures.fits)

pub choose-requires-clause-far : goal.choose-requires-clause-far
choose-requires-clause-far g c = omega (arith, c.requires.may.fits, c.other_half-half.ensures.fits, c.in-Ok.ensures.end)

pub returns-in-Ok-clause-anew : goal.returns-in-Ok-clause-anew
returns-in-Ok-clause-anew g c =
    let disk = g.met.D.Disk in
    let there : Result ℕ DiskFault = Ok c.in-Ok.end in
    let journal = c.args.self.now in
    let entries = g.R.Records.left c.args.records.now in
    let half = c.other_half-half.ensures in
    let new = c.write_half.new.disk in
    anew_other g.D.Disk entries journal c.choose.new.self c.args.disk.now new there _ (λ bad. bad) (λ bad. bad)
    (writes_anew g.D.Disk journal entries c.args.disk.now c.requires.healthy c.requires.may c.requires.stands_on there new c.other_half-half.result.1 c.other_half-half.result.0 half.gate half.half
    c.in-Ok.ensures.makes disk.counts_now disk.earlier disk.content_is_image c.choose.new.self
    (rewritten_is journal c.choose.new.self entries c.other_half-half.result.1 c.in-Ok.end c.other_half-half.result.0 c.choose.ensures half.half half.gate c.in-Ok.ensures.end c.requires.healthy) tt
    (told_weaker (g.D.Disk.content new) _ _ (λ now told image. (disk.images_fit _ now image).0) (disk.content_is_image new)) c.in-Ok.ensures.calls)

pub returns-in-Err-clause-anew : goal.returns-in-Err-clause-anew
returns-in-Err-clause-anew g c =
    let disk = g.met.D.Disk in
    let there : Result ℕ DiskFault = Err c.in-Err.fault in
    let journal = c.args.self.now in
    let entries = g.R.Records.left c.args.records.now in
    let half = c.other_half-half.ensures in
    let new = c.write_half.new.disk in
    anew_other g.D.Disk entries journal c.fail.new.self c.args.disk.now new there _ (λ bad. bad) (λ bad. bad)
    (writes_anew g.D.Disk journal entries c.args.disk.now c.requires.healthy c.requires.may c.requires.stands_on there new c.other_half-half.result.1 c.other_half-half.result.0 half.gate half.half
    c.in-Err.ensures.makes disk.counts_now disk.earlier disk.content_is_image c.fail.new.self tt c.fail.ensures
    (told_weaker (g.D.Disk.content new) _ _ (λ now told image. (disk.images_fit _ now image).0) (disk.content_is_image new)) c.in-Err.ensures.calls)
