-- What power left on the disk stands for the notes after the first of the commands, from which the client starts again.
use Rattle.std.proofs.Common.{refl, ap, ◌∙◌, subst, List, ℕ, None}
use Rattle.air_rehearsal.proofs.Names.{cuts_by, halted, EachImage, task_count, NotesState, StandsFor, uploads_by, Party}
use Rattle.air_rehearsal.proofs.CutLemmas.{be_cut}
use Rattle.air_rehearsal.proofs.party.Party.be_cut.Goals as goal

pub returns-clause-cut : goal.returns-clause-cut
returns-clause-cut g c = λ seat whole at_seat is_part steady.
    let images =
    subst (λ (n : NotesState). EachImage g.B.Disk c.arm.new.disk (λ image. StandsFor image n.lists)) c.notes.ensures
    c.images_law.ensures in
    let touched : Party = c.touch_disk-came.new.self in
    let again : Party = c.restart.new.self in
    let keeps = c.touch_disk-came.ensures.keeps in
    let restarts = c.in_ok-restart.ensures.restarts in
    let kept = c.note_part.ensures.keeps in
    let uploads =
    c.in_ok-note_part.ensures.notes
    ∙ ap (λ (items : List ℕ). uploads_by c.args.part (task_count again.client.notes.lists) items)
    (ap (λ (p : Party). p.uploads.items) restarts.keeps ∙ ap (λ (p : Party). p.uploads.items) keeps) in
    be_cut g.B.Disk
    (cuts_by g.B.CutDisk.restarts g.B.CutDisk.arming g.B.CutDisk.plain g.B.CutDisk.is_starved)
    g.met.B.Disk.counts_now g.met.B.CutDisk.lasts_so c.args.self.now touched again seat c.args.part whole
    c.args.cut.call c.args.disk.now c.arm.new.disk c.touch_disk-came.new.disk c.strike.new.disk c.restart.new.disk
    (halted c.touch_disk-came.result) at_seat is_part steady c.arm.ensures images
    (c.touch_disk-came.ensures.touches seat whole at_seat is_part) c.in_ok-memory_found.ensures
    c.in_ok-strike.ensures.strikes restarts
    (record c.note_part.new.self { cut = None })
    (kept.me ∙ ap (λ (p : Party). p.me) restarts.keeps ∙ ap (λ (p : Party). p.me) keeps) c.requires.ready (ap (λ (p : Party). p.me) keeps)
    (ap (λ (p : Party). p.server) keeps) (ap (λ (p : Party). p.k) keeps) kept.client
    (kept.attempt ∙ ap (λ (p : Party). p.attempt) restarts.keeps) uploads refl
