use Rattle.std.proofs.Common.{inl, inr, ℕ, List, [], ◌∷◌, Ok, Err, refl, subst}
use Rattle.real_outside.specs.declared.files.file_call.FileCall.TheVariants as call
use Rattle.real_outside.proofs.Names.{Grows, folder_of, FillsAndMoves, MovesFilled, asks_more}
use Rattle.real_outside.proofs.shelf.keeping.move_filled.Goals as goal

pub returns-in-Ok : goal.returns-in-Ok
returns-in-Ok g c =
    let calls_of = g.S.FileSystem.calls in
    let file = g.S.FileSystem.number c.args.file.now in
    let path = c.args.path.now in
    let part = c.args.part.now in
    let mode = c.args.mode in
    let held = g.S.FileSystem.number c.args.held.now in
    let bytes = c.args.bytes.now in
    let result = c.sync_folder.result in
    asks_more (FillsAndMoves path part mode held bytes (Ok tt) file) (MovesFilled path part mode held bytes result file)
    (calls_of c.args.files.now) (calls_of c.fill_and_move.new.files) (calls_of c.sync_folder.new.self) (call.SyncFolder (folder_of path) result)
    (subst (λ (l : List ℕ). Grows (calls_of c.fill_and_move.new.files) (calls_of c.sync_folder.new.self) (call.SyncFolder l result ∷ [])) c.folder_of.ensures c.sync_folder.ensures)
    (λ calls fills. inr (calls, refl, fills)) c.in-Ok.ensures

pub returns-in-Err : goal.returns-in-Err
returns-in-Err g c =
    let calls_of = g.S.FileSystem.calls in
    let file = g.S.FileSystem.number c.args.file.now in
    let path = c.args.path.now in
    let part = c.args.part.now in
    let mode = c.args.mode in
    let held = g.S.FileSystem.number c.args.held.now in
    let bytes = c.args.bytes.now in
    let error = c.in-Err.error in
    asks_more (FillsAndMoves path part mode held bytes (Err error) file) (MovesFilled path part mode held bytes (Err error) file)
    (calls_of c.args.files.now) (calls_of c.fill_and_move.new.files) (calls_of c.remove.new.self) (call.Remove part c.remove.result) c.remove.ensures
    (λ calls fills. inl (calls, c.remove.result, refl, refl, fills)) c.in-Err.ensures
