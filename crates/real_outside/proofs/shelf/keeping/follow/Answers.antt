use Rattle.std.proofs.Common.{inl, inr, ℕ, List, [], ◌∷◌, Ok, Err, refl, sym, subst}
use Rattle.real_outside.specs.declared.files.file_call.FileCall.TheVariants as call
use Rattle.real_outside.proofs.Names.{Grows, FollowsLink, KeepsLinked, KeepsUnresolved}
use Rattle.real_outside.proofs.Asked.{after_call}
use Rattle.real_outside.proofs.shelf.keeping.follow.Goals as goal

pub returns-in-Ok : goal.returns-in-Ok
returns-in-Ok g c =
    let calls_of = g.S.FileSystem.calls in
    let name = c.args.name.now in
    let bytes = c.args.bytes.now in
    let path = c.as_str.result.now in
    let result = c.keep_linked.result in
    after_call (KeepsLinked name path bytes result) (FollowsLink name bytes result)
    (calls_of c.args.files.now) (calls_of c.resolve.new.self) (calls_of c.keep_linked.new.files) (call.Resolve name (Ok path))
    (subst (λ (l : List ℕ). Grows (calls_of c.args.files.now) (calls_of c.resolve.new.self) (call.Resolve name (Ok l) ∷ [])) (sym c.as_str.ensures.value) c.in-Ok.ensures)
    (λ later keeps. inl (path, later, refl, keeps)) c.keep_linked.ensures

pub returns-in-Err : goal.returns-in-Err
returns-in-Err g c =
    let calls_of = g.S.FileSystem.calls in
    let name = c.args.name.now in
    let bytes = c.args.bytes.now in
    let error = c.in-Err.error in
    let result = c.keep_unresolved.result in
    after_call (KeepsUnresolved name bytes error result) (FollowsLink name bytes result)
    (calls_of c.args.files.now) (calls_of c.resolve.new.self) (calls_of c.keep_unresolved.new.files) (call.Resolve name (Err error)) c.in-Err.ensures
    (λ later keeps. inr (error, later, refl, keeps)) c.keep_unresolved.ensures
