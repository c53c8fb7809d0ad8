use Rattle.std.proofs.Common.{◌≡◌, inl, ℕ, List, ◌++◌, Option, Err, sym, subst}
use Rattle.real_outside.proofs.Names.{codes, OnLocked, Replaces, WritesNew, WritesOver, out_of_memory, asks_as}
use Rattle.real_outside.proofs.Errors.{handed_on}
use Rattle.real_outside.proofs.Kept.{none_replaced}
use Rattle.real_outside.proofs.shelf.keeping.replace.Goals as goal

pub returns-in_err-part : goal.returns-in_err-part
returns-in_err-part g c =
    let error = c.in_err-part.field-0.0 in
    let handed : c.from_residual.result ≡ Err error = handed_on c.from_residual.result error c.from_residual.ensures in
    let is : c.from_residual.result ≡ Err out_of_memory = cc (handed, c.in_err-part.ensures.err) in
    none_replaced c.args.path.now c.args.bytes.now c.args.mode (g.S.FileSystem.calls c.args.files.now) c.from_residual.result is

pub returns-in-None : goal.returns-in-None
returns-in-None g c =
    let path = c.args.path.now in
    let bytes = c.args.bytes.now in
    let result = c.write_new.result in
    let named : c.as_str.result.now ≡ path ++ codes ".part" = cc (c.as_str.ensures.value, c.in_ok-part.ensures.ok) in
    asks_as (WritesNew path c.as_str.result.now bytes result) (Replaces path c.args.mode bytes result)
    (g.S.FileSystem.calls c.args.files.now) (g.S.FileSystem.calls c.write_new.new.files)
    (λ calls replaces.
    subst (λ (mode : Option ℕ). Replaces path mode bytes result calls) (sym c.in-None.is)
    (inl (subst (λ (l : List ℕ). WritesNew path l bytes result calls) named replaces)))
    c.write_new.ensures

pub returns : goal.returns
returns g c =
    let path = c.args.path.now in
    let bytes = c.args.bytes.now in
    let result = c.replace_locked.result in
    let named : c.as_str-in-Some.result.now ≡ path ++ codes ".part" = cc (c.as_str-in-Some.ensures.value, c.in_ok-part.ensures.ok) in
    asks_as (OnLocked path (λ done held. WritesOver path c.as_str-in-Some.result.now c.in-Some.mode held bytes done) result) (Replaces path c.args.mode bytes result)
    (g.S.FileSystem.calls c.args.files.now) (g.S.FileSystem.calls c.replace_locked.new.files)
    (λ calls replaces.
    subst (λ (mode : Option ℕ). Replaces path mode bytes result calls) (sym c.in-Some.is)
    (inl (subst (λ (l : List ℕ). OnLocked path (λ done held. WritesOver path l c.in-Some.mode held bytes done) result calls) named replaces)))
    c.replace_locked.ensures
