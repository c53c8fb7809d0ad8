-- By the task's upload, as it was asked.
use Rattle.std.proofs.Common.{◌-◌, ◌≤◌, ℕ, ap, sym, subst, ◌∙◌}
use Rattle.air_world.specs.Attempts.Party.{file_of_task}
use Rattle.air_rehearsal.proofs.PairLemmas.{get-none, get-some}
use Rattle.air_rehearsal.proofs.TaskFiles.{asked-file, no-asked}
use Rattle.air_rehearsal.proofs.stations.Stations.file_at.Goals as goal

pub returns-in_ok-file_of-in-Some-get : goal.returns-in_ok-file_of-in-Some-get
returns-in_ok-file_of-in-Some-get c world played plays is =
    let stored = c.args.party.now in
    let self = c.args.self.now in
    let upload = c.in-Some.upload.now in
    let number = c.get-number.result in
    let some : 1 ≤ number = subst (λ (n : ℕ). 1 ≤ n) (sym c.get-number.ensures) c.requires in
    ap (λ (n : ℕ). file_of_task world.files played n) (sym c.get-number.ensures)
    ∙ asked-file stored played is.uploads_are number some self world plays upload
    (get-some stored.uploads.items c.deref.result.now (number - 1) upload c.deref.ensures.value
    c.in-Some.ensures.lookup.3) c.in-Some-get.asked.now c.in_ok-file_of-in-Some-get.field-0
    (get-some self.uploads.items c.deref-2.result.now upload c.in-Some-get.asked.now c.deref-2.ensures.value
    c.in-Some-get.ensures.lookup.3) c.in_ok-file_of-in-Some-get.ensures

pub returns-in-None : goal.returns-in-None
returns-in-None c world played plays is =
    let stored = c.args.party.now in
    let self = c.args.self.now in
    let upload = c.in-Some.upload.now in
    let number = c.get-number.result in
    let some : 1 ≤ number = subst (λ (n : ℕ). 1 ≤ n) (sym c.get-number.ensures) c.requires in
    ap (λ (n : ℕ). file_of_task world.files played n) (sym c.get-number.ensures)
    ∙ no-asked stored played is.uploads_are number some self world plays upload
    (get-some stored.uploads.items c.deref.result.now (number - 1) upload c.deref.ensures.value
    c.in-Some.ensures.lookup.3)
    (get-none self.uploads.items c.deref-2.result.now upload c.deref-2.ensures.value c.in-None.ensures.lookup.3)
