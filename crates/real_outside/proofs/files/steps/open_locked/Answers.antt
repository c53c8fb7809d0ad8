use Rattle.std.proofs.Common.{inr, Ok, Err, refl}
use Rattle.real_outside.specs.declared.files.file_call.FileCall.TheVariants as call
use Rattle.real_outside.proofs.Names.{OpensLocked}
use Rattle.real_outside.proofs.Asked.{asks_two}
use Rattle.real_outside.proofs.files.steps.open_locked.Goals as goal

pub returns-in-Err : goal.returns-in-Err
returns-in-Err g c =
    let path = c.args.path.now in
    let file = g.S.FileSystem.number c.in_ok-file.file in
    let error = c.in-Err.error in
    asks_two (OpensLocked path (Err error)) _ _ _ (call.Open path (Ok file)) (call.Lock file (Err error))
    c.in_ok-file.ensures c.in-Err.ensures (inr (file, refl))
