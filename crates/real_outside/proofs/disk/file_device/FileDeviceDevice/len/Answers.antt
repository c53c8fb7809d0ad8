use Rattle.std.proofs.Common.{[], ◌∷◌, Some, Result, refl, sym, ap, ℕ}
use Rattle.real_outside.specs.declared.files.file_call.FileCall.TheVariants as call
use Rattle.real_outside.proofs.Names.{AsksLength, FileDeviceState, SystemError, asks_one}
use Rattle.real_outside.proofs.Taken.{taken_then}
use Rattle.real_outside.proofs.disk.file_device.FileDeviceDevice.len.Goals as goal

pub returns-clause-asks : goal.returns-clause-asks
returns-clause-asks g c =
    let State = FileDeviceState g.row.S.Denot g.row.S-File.Denot in
    let number = g.S.FileSystem.number in
    let calls_of = g.S.FileSystem.calls in
    let file = c.in_ok-file.file in
    let length = c.length-length in
    let answer = c.device_answer.result in
    let after : State =
    record { files = length.new.self; path = c.self.inside.path.now; file = Some file; has_entry = c.self.inside.has_entry } in
    taken_then number c.args.self.now after answer (AsksLength answer) _ _ _ _ file
    (ap (λ (s : State). calls_of s.files) c.self.view_is) refl c.in_ok-file.ensures.takes
    (asks_one (AsksLength answer (number file)) _ _ (call.Length (number file) length.result) length.ensures
    (ap (λ (told : Result ℕ SystemError). call.Length (number file) told ∷ []) (sym c.device_answer.ensures.system)))
