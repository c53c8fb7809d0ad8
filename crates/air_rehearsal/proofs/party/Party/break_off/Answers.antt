-- The client starts again from the notes that its disk stands for, which are its own.
use Rattle.std.proofs.Common.{sym, ◌∙◌, subst}
use Rattle.air_rehearsal.proofs.Names.{cuts_by, EachImage, NotesState, StandsFor}
use Rattle.air_rehearsal.proofs.CutLemmas.{breaks_off}
use Rattle.air_rehearsal.proofs.party.Party.break_off.Goals as goal

pub returns-clause-breaks : goal.returns-clause-breaks
returns-clause-breaks g c = λ seat at_seat steady.
    let images = subst (λ (n : NotesState). EachImage g.B.Disk c.args.disk.now (λ image. StandsFor image n.lists))
    c.notes.ensures c.images_law.ensures in
    breaks_off g.B.Disk
    (cuts_by g.B.CutDisk.restarts g.B.CutDisk.arming g.B.CutDisk.plain g.B.CutDisk.is_starved)
    g.met.B.Disk.content_is_image g.met.B.Disk.counts_now g.met.B.CutDisk.lasts_so c.args.self.now c.restart.new.self
    seat c.args.disk.now c.restart.new.disk at_seat steady images c.in_ok-restart.ensures.restarts c.requires
    (sym c.starved.ensures ∙ c.if-starved.false)
