use Rattle.std.proofs.Common.{inr, Ok, refl}
use Rattle.real_outside.specs.declared.files.file_call.FileCall.TheVariants as call
use Rattle.real_outside.proofs.Names.{Keeps, KeepsFound}
use Rattle.real_outside.proofs.Asked.{after_call}
use Rattle.real_outside.proofs.shelf.keeping.keep_at.Goals as goal

pub returns : goal.returns
returns g c =
    let name = c.args.name.now in
    let bytes = c.args.bytes.now in
    let found = c.in_ok-found.found in
    let result = c.keep_found.result in
    after_call (KeepsFound name bytes found result) (Keeps name bytes result) _ _ _
    (call.Look name (Ok found)) c.in_ok-found.ensures (λ later keeps. inr (found, later, refl, keeps))
    c.keep_found.ensures
