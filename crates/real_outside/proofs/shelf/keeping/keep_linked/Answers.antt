use Rattle.std.proofs.Common.{inr, Ok, refl}
use Rattle.real_outside.specs.declared.files.file_call.FileCall.TheVariants as call
use Rattle.real_outside.proofs.Names.{KeepsAt, KeepsLinked}
use Rattle.real_outside.proofs.Asked.{after_call}
use Rattle.real_outside.proofs.shelf.keeping.keep_linked.Goals as goal

pub returns : goal.returns
returns g c =
    let name = c.args.name.now in
    let path = c.args.path.now in
    let bytes = c.args.bytes.now in
    let found = c.in_ok-found.found in
    let result = c.keep_linked_at.result in
    after_call (KeepsAt name path bytes found result) (KeepsLinked name path bytes result) _ _ _
    (call.Look path (Ok found)) c.in_ok-found.ensures (λ later keeps. inr (found, later, refl, keeps))
    c.keep_linked_at.ensures
