use Rattle.std.proofs.Common.{List, ℕ, [], ◌∷◌, inr, Ok, refl, subst}
use Rattle.real_outside.specs.declared.files.file_call.FileCall.TheVariants as call
use Rattle.real_outside.proofs.Names.{Grows, SyncsWithEntry, folder_of}
use Rattle.real_outside.proofs.Asked.{asks_two}
use Rattle.real_outside.proofs.disk.file_device.sync_with_entry.Goals as goal

pub returns : goal.returns
returns g c =
    let calls_of = g.S.FileSystem.calls in
    let file = g.S.FileSystem.number c.args.file.now in
    let folder = folder_of c.args.path.now in
    let result = c.sync_folder.result in
    asks_two (SyncsWithEntry c.args.has_entry folder result file) _ _ _ (call.Sync file (Ok tt))
    (call.SyncFolder folder result) c.in_ok-sync.ensures
    (subst (λ (l : List ℕ). Grows (calls_of c.sync.new.self) (calls_of c.sync_folder.new.self) (call.SyncFolder l result ∷ []))
    c.folder_of.ensures c.sync_folder.ensures)
    (rw c.if-has_entry.false (inr refl))
