use Rattle.std.proofs.Common.{Some, refl, ap}
use Rattle.real_outside.specs.Disk.FileDevices.{Writes}
use Rattle.real_outside.proofs.Names.{FileDeviceState, WritesOnce, asks_as}
use Rattle.real_outside.proofs.Taken.{taken_then}
use Rattle.real_outside.proofs.disk.file_device.FileDeviceDevice.write.Goals as goal

pub returns-clause-writes : goal.returns-clause-writes
returns-clause-writes g c =
    let State = FileDeviceState g.row.S.Denot g.row.S-File.Denot in
    let number = g.S.FileSystem.number in
    let calls_of = g.S.FileSystem.calls in
    let file = c.in_ok-file.file in
    let written = c.write_once-written in
    let answer = c.device_answer.result in
    let asks = Writes c.args.at c.args.bytes.now answer in
    let after : State =
    record { files = written.new.files; path = c.self.inside.path.now; file = Some file; has_entry = c.self.inside.has_entry } in
    taken_then number c.args.self.now after answer asks _ _ _ _ file
    (ap (λ (s : State). calls_of s.files) c.self.view_is) refl c.in_ok-file.ensures.takes
    (asks_as (WritesOnce c.args.at c.args.bytes.now written.result (number file)) (asks (number file)) _ _
    (λ calls writes. rw c.device_answer.ensures.system writes) written.ensures.writes)
