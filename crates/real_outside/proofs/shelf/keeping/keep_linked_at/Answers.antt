use Rattle.std.proofs.Common.{◌≡◌, inr, Some, false, sym, subst}
use Rattle.real_outside.specs.declared.files.file_call.Found.{Found}
use Rattle.real_outside.proofs.Names.{KeepsAt, Replaces, is_of_system, asks_as}
use Rattle.real_outside.proofs.shelf.keeping.keep_linked_at.Goals as goal

pub returns-in-File : goal.returns-in-File
returns-in-File g c =
    let name = c.args.name.now in
    let path = c.args.path.now in
    let bytes = c.args.bytes.now in
    let result = c.replace.result in
    let no : is_of_system name ≡ false = cc (c.is_of_system.ensures, c.if-not-is_of_system.true) in
    asks_as (Replaces path (Some c.in-File.mode) bytes result) (KeepsAt name path bytes c.args.found result)
    (g.S.FileSystem.calls c.args.files.now) (g.S.FileSystem.calls c.replace.new.files)
    (λ calls replaces. subst (λ (found : Found). KeepsAt name path bytes found result calls) (sym c.in-File.is) (inr (no, replaces))) c.replace.ensures
