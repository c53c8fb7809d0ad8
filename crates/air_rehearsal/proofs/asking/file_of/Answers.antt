-- The builder has the file's header, and its body is the file's.
use Rattle.std.proofs.Common.{◌∙◌}
use Rattle.air_rehearsal.proofs.UploadFiles.{header-built, upload-built}
use Rattle.air_rehearsal.proofs.asking.file_of.Goals as goal

pub returns-in-Ok : goal.returns-in-Ok
returns-in-Ok c =
    upload-built c.args.upload c.args.octets c.put-2.new.self c.as_slice.result.now c.in-Ok.file
    (header-built c.in_ok-builder.builder c.put.new.self c.put-2.new.self c.in_ok-builder.ensures c.in_ok-put.ensures.ok
    c.in_ok-put-2.ensures.ok) (c.as_slice.ensures.value ∙ c.in_ok-body.ensures) c.in-Ok.ensures.file.file_text
