use Rattle.std.proofs.Common.{ℕ, Option, Ok, sym, subst}
use Rattle.real_outside.specs.declared.files.file_call.FileCall.TheVariants as call
use Rattle.real_outside.proofs.Names.{Asks, Once, Prepares}
use Rattle.real_outside.proofs.Kept.{in_turn, once}
use Rattle.real_outside.proofs.shelf.keeping.prepare.Goals as goal

pub returns-in-Some : goal.returns-in-Some
returns-in-Some g c =
    let file = g.S.FileSystem.number c.args.file.now in
    let mode = c.in-Some.mode in
    let result = c.set_mode.result in
    let calls_of = g.S.FileSystem.calls in
    subst
    (λ (given : Option ℕ). Asks (calls_of c.args.files.now) (calls_of c.set_mode.new.self) (Prepares given result file))
    (sym c.in-Some.is)
    (in_turn (Once (call.Cut file)) (Once (call.SetMode file mode)) _ _ _ result
    (once (call.Cut file) _ _ (Ok tt) c.in_ok-cut.ensures) (once (call.SetMode file mode) _ _ result c.set_mode.ensures))
