use Rattle.std.proofs.Common.{◌≡◌, Some, refl, sym, ◌∙◌, ap}
use Rattle.real_outside.proofs.Names.{FileDeviceState, SyncsFile, SyncsWithEntry, folder_of, asks_as}
use Rattle.real_outside.proofs.Taken.{taken_then}
use Rattle.real_outside.proofs.disk.file_device.FileDeviceDevice.sync.Goals as goal

pub returns-clause-syncs : goal.returns-clause-syncs
returns-clause-syncs g c =
    let State = FileDeviceState g.row.S.Denot g.row.S-File.Denot in
    let number = g.S.FileSystem.number in
    let calls_of = g.S.FileSystem.calls in
    let before = c.args.self.now in
    let file = c.in_ok-file.file in
    let inside = c.self.inside in
    let synced = c.sync_with_entry-synced in
    let answer = c.device_answer.result in
    let rest = c.in_ok-file.ensures.rest in
    let path : before.path ≡ inside.path.now =
    sym (ap (λ (s : State). s.path) c.self.view_is ∙ ap (λ (s : State). s.path) rest) in
    let has_entry : before.has_entry ≡ inside.has_entry =
    sym (ap (λ (s : State). s.has_entry) c.self.view_is ∙ ap (λ (s : State). s.has_entry) rest) in
    let asks = SyncsFile before.has_entry (folder_of before.path) answer in
    let after : State =
    record { files = synced.new.files; path = inside.path.now; file = Some file; has_entry = inside.has_entry } in
    taken_then number before after answer asks _ _ _ _ file
    (ap (λ (s : State). calls_of s.files) c.self.view_is) refl c.in_ok-file.ensures.takes
    (asks_as (SyncsWithEntry inside.has_entry (folder_of inside.path.now) synced.result (number file)) (asks (number file))
    _ _ (λ calls syncs. rw c.device_answer.ensures.system (rw has_entry (rw path syncs))) synced.ensures)
