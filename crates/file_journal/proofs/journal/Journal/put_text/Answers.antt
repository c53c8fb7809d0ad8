use Rattle.std.proofs.Common.{◌≡◌, ◌+◌, [], ◌∷◌, length, Ok, sym, ◌∙◌, ap, subst, arith, length-append}
use Rattle.file_journal.proofs.Names.{Position, StandsOn, record_of, told_weaker}
use Rattle.file_journal.proofs.AppendLemmas.{any_moment, appends, gate_there, leaves, stands_after}
use Rattle.file_journal.proofs.BoundLemmas.{append_stays}
use Rattle.file_journal.proofs.journal.Journal.put_text.Goals as goal

pub put_record-requires-clause-gate : goal.put_record-requires-clause-gate
put_record-requires-clause-gate g c =
    gate_there g.D.Disk _ c.args.disk.now (ap (λ (journal : Position). journal.failed) c.self.view_is ∙ c.requires.end.0) (ap (λ (journal : Position). journal.ended) c.self.view_is ∙ c.requires.end.1)
    (subst (λ (journal : Position). StandsOn g.D.Disk journal c.args.disk.now) (sym c.self.view_is) c.requires.stands_on)

pub returns-in-Ok-clause-since : goal.returns-in-Ok-clause-since
returns-in-Ok-clause-since g c =
    leaves g.D.Disk c.args.self.now c.args.disk.now c.requires.end.0 c.requires.end.1 c.requires.stands_on (record_of c.args._kind c.args._content.now) c.requires.fits.0 c.requires.fits.1
    _ c.self.view_is _ c.put_record.new.disk _ c.requires.text c.put_record.ensures.makes (g.met.D.Disk.counts_now _) (g.met.D.Disk.content_is_image _)

pub returns-in-Ok-clause-any_moment : goal.returns-in-Ok-clause-any_moment
returns-in-Ok-clause-any_moment g c healthy =
    any_moment g.D.Disk c.args.self.now c.args.disk.now c.requires.end.0 c.requires.end.1 c.requires.stands_on (record_of c.args._kind c.args._content.now) c.requires.fits.0 c.requires.fits.1
    _ c.self.view_is _ c.put_record.new.disk _ c.requires.text c.put_record.ensures.makes (g.met.D.Disk.counts_now _) (g.met.D.Disk.content_is_image _)

pub returns-in-Err-clause-since : goal.returns-in-Err-clause-since
returns-in-Err-clause-since g c =
    leaves g.D.Disk c.args.self.now c.args.disk.now c.requires.end.0 c.requires.end.1 c.requires.stands_on (record_of c.args._kind c.args._content.now) c.requires.fits.0 c.requires.fits.1
    _ c.self.view_is _ c.put_record.new.disk _ c.requires.text c.put_record.ensures.makes (g.met.D.Disk.counts_now _) (g.met.D.Disk.content_is_image _)

pub returns-in-Err-clause-any_moment : goal.returns-in-Err-clause-any_moment
returns-in-Err-clause-any_moment g c healthy =
    any_moment g.D.Disk c.args.self.now c.args.disk.now c.requires.end.0 c.requires.end.1 c.requires.stands_on (record_of c.args._kind c.args._content.now) c.requires.fits.0 c.requires.fits.1
    _ c.self.view_is _ c.put_record.new.disk _ c.requires.text c.put_record.ensures.makes (g.met.D.Disk.counts_now _) (g.met.D.Disk.content_is_image _)

pub returns-in-Ok-clause-ok : goal.returns-in-Ok-clause-ok
returns-in-Ok-clause-ok g c =
    appends g.D.Disk c.args.self.now c.args.disk.now c.requires.end.0 c.requires.end.1 c.requires.stands_on (record_of c.args._kind c.args._content.now) c.requires.fits.0 c.requires.fits.1
    _ c.self.view_is (Ok c.in-Ok.field-0) c.put_record.new.disk _ c.requires.text c.in-Ok.ensures.makes

pub returns-in-Ok-clause-stands_on : goal.returns-in-Ok-clause-stands_on
returns-in-Ok-clause-stands_on g c =
    let place : c.self.inside.place + length c.args.text.now ≡ c.self.inside.place + 4 + length c.args._content.now =
    omega (arith, ap length c.requires.text, length-append c.args._content.now (0 ∷ [])) in
    stands_after g.D.Disk c.args.self.now c.args.disk.now c.requires.end.0 c.requires.end.1 c.requires.stands_on (record_of c.args._kind c.args._content.now) c.requires.fits.0 c.requires.fits.1
    _ c.self.view_is (Ok c.in-Ok.field-0) c.put_record.new.disk _ c.requires.text c.in-Ok.ensures.makes (c.self.inside.place + length c.args.text.now) place
    (told_weaker (g.D.Disk.content c.put_record.new.disk) _ _ (λ now told image. (g.met.D.Disk.images_fit _ now image).0) (g.met.D.Disk.content_is_image _))

pub returns-in-Ok-clause-within : goal.returns-in-Ok-clause-within
returns-in-Ok-clause-within g c =
    append_stays g.D.Disk g.met.D.Disk.counts_now g.met.D.Disk.earlier g.met.D.Disk.content_is_image c.args.disk.now c.put_record.new.disk c.put_record.ensures.makes.puts.told
    c.args.self.now (record_of c.args._kind c.args._content.now) c.requires.fits.1 (returns-in-Ok-clause-since g c)

pub returns-in-Err-clause-within : goal.returns-in-Err-clause-within
returns-in-Err-clause-within g c =
    append_stays g.D.Disk g.met.D.Disk.counts_now g.met.D.Disk.earlier g.met.D.Disk.content_is_image c.args.disk.now c.put_record.new.disk c.put_record.ensures.makes.puts.told
    c.args.self.now (record_of c.args._kind c.args._content.now) c.requires.fits.1 (returns-in-Err-clause-since g c)
