use Rattle.std.proofs.Common.{◌≡◌, ℕ, [], ◌∷◌, length, Some, Result, refl, sym, ◌∙◌, ap}
use Rattle.real_outside.specs.Files.{octets_read}
use Rattle.real_outside.specs.declared.files.file_call.FileCall.TheVariants as call
use Rattle.real_outside.proofs.Names.{FileDeviceState, Reads, SystemError, asks_one}
use Rattle.real_outside.proofs.Taken.{taken_then}
use Rattle.real_outside.proofs.disk.file_device.FileDeviceDevice.read.Goals as goal

pub returns-clause-reads : goal.returns-clause-reads
returns-clause-reads g c =
    let State = FileDeviceState g.row.S.Denot g.row.S-File.Denot in
    let number = g.S.FileSystem.number in
    let calls_of = g.S.FileSystem.calls in
    let at = c.args.at in
    let file = c.in_ok-file.file in
    let read = c.read_at-read in
    let room = read.new.room in
    let all = length c.args.room.now in
    let answer = c.device_answer.result in
    let after : State =
    record { files = read.new.self; path = c.self.inside.path.now; file = Some file; has_entry = c.self.inside.has_entry } in
    taken_then number c.args.self.now after answer (Reads at room answer) _ _ _ _ file
    (ap (λ (s : State). calls_of s.files) c.self.view_is) refl c.in_ok-file.ensures.takes
    (asks_one (Reads at room answer (number file)) _ _ (call.Read (number file) at all (octets_read read.result room))
    read.ensures.moves.told
    (ap (λ (n : ℕ). call.Read (number file) at n (octets_read read.result room) ∷ []) (sym read.auto.room)
    ∙ ap (λ (told : Result ℕ SystemError). call.Read (number file) at (length room) (octets_read told room) ∷ [])
    (sym c.device_answer.ensures.system)))
