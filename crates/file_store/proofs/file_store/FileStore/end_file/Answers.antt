use Rattle.std.proofs.Common.{◌≤◌, Err, refl, sym, ap, subst}
use Rattle.file_store.proofs.Names.{IfSome, IsSome, ChecksFile, HasFault, placed_of, IsReady, StoreState, placed_in}
use Rattle.file_store.proofs.SealLemmas.{ends-cut, ends-doubtful, ends-dropped, ends-err, ends-partial, ends-sealed, ends-takes, ends-there, ends-uncertain, ends-unread}
use Rattle.file_store.proofs.file_store.FileStore.end_file.Goals as goal

pub returns-in_err-hold_rest : goal.returns-in_err-hold_rest
returns-in_err-hold_rest g c =
    let D = g.D.Disk in
    let self = c.args.self.now in
    let new = c.hold_rest.new.self in
    record {
      ends = ends-err D c.from_residual.result self new c.args.disk.now c.hold_rest.new.disk c.args.number c.args.moment c.from_residual.ensures.0
          (λ e. ends-cut D self c.args.disk.now c.args.number c.args.moment c.requires.whole c.requires.ready e new c.hold_rest.new.disk c.in_err-hold_rest.ensures.does);
    }

pub check_file-requires-clause-there : goal.check_file-requires-clause-there
check_file-requires-clause-there g c =
    let mid_disk = c.hold_rest.new.disk in
    subst (λ (s : StoreState). IsSome (placed_of (placed_in s) c.args.number)) (sym c.self.view_is)
    (ends-there g.D.Disk c.args.self.now c.args.disk.now c.args.number c.args.moment c.requires.whole c.requires.ready g.met.D.Disk.lasts_same g.met.D.Disk.lasts_on c.hold_rest.new.self mid_disk mid_disk c.in_ok-hold_rest.ensures.does)

pub seal_entry-requires-clause-takes : goal.seal_entry-requires-clause-takes
seal_entry-requires-clause-takes g c =
    let number = c.args.number in
    let len = c.in-Ok.header.len in
    let inside = subst (λ (s : StoreState). IfSome (placed_of (placed_in s) number) (λ f. len ≤ f.held)) c.self.view_is c.in-Ok.ensures.inside in
    ends-takes g.D.Disk c.args.self.now c.args.disk.now number c.args.moment c.requires.whole c.requires.ready g.met.D.Disk.lasts_same g.met.D.Disk.lasts_on c.hold_rest.new.self c.hold_rest.new.disk c.check_file.new.disk
    c.in_ok-hold_rest.ensures.does len inside

pub returns-in_err-seal_entry-in-Ok : goal.returns-in_err-seal_entry-in-Ok
returns-in_err-seal_entry-in-Ok g c =
    let D = g.D.Disk in
    let number = c.args.number in
    let moment = c.args.moment in
    let self = c.args.self.now in
    let new = c.seal_entry.new.self in
    let found = subst (λ (s : StoreState). ChecksFile (D.content c.hold_rest.new.disk) (placed_of (placed_in s) number) moment c.in-Ok.header) c.self.view_is c.in-Ok.ensures.header in
    record {
      ends = ends-err D c.from_residual-in_err-seal_entry-in-Ok.result self new c.args.disk.now c.seal_entry.new.disk number moment c.from_residual-in_err-seal_entry-in-Ok.ensures.0
          (λ e. ends-uncertain D self c.args.disk.now number moment c.requires.whole c.requires.ready g.met.D.Disk.lasts_same g.met.D.Disk.lasts_on c.hold_rest.new.self c.hold_rest.new.disk c.check_file.new.disk
          c.in_ok-hold_rest.ensures.does _ (λ is. cc is) c.in-Ok.ensures.reads new c.seal_entry.new.disk c.seal_entry.ensures.leaves c.in-Ok.header found e c.in_err-seal_entry-in-Ok.ensures.does);
    }

pub drop_entry-requires-clause-partial : goal.drop_entry-requires-clause-partial
drop_entry-requires-clause-partial g c =
    ends-partial g.D.Disk c.args.self.now c.args.disk.now c.args.number c.args.moment c.requires.whole c.requires.ready g.met.D.Disk.lasts_same g.met.D.Disk.lasts_on c.hold_rest.new.self c.hold_rest.new.disk c.check_file.new.disk
    c.in_ok-hold_rest.ensures.does

pub returns-in_err-drop_entry-in-Err-Header : goal.returns-in_err-drop_entry-in-Err-Header
returns-in_err-drop_entry-in-Err-Header g c =
    let D = g.D.Disk in
    let number = c.args.number in
    let moment = c.args.moment in
    let self = c.args.self.now in
    let new = c.drop_entry.new.self in
    let code = c.in-Err-Header.code in
    let found = subst (λ (s : StoreState). HasFault (D.content c.hold_rest.new.disk) (placed_of (placed_in s) number) code) c.self.view_is (c.in-Err-Header.ensures.fault code (ap Err c.in-Err-Header.field-0-is)) in
    record {
      ends = ends-err D c.from_residual-in_err-drop_entry-in-Err-Header.result self new c.args.disk.now c.drop_entry.new.disk number moment c.from_residual-in_err-drop_entry-in-Err-Header.ensures.0
          (λ e. ends-doubtful D self c.args.disk.now number moment c.requires.whole c.requires.ready g.met.D.Disk.lasts_same g.met.D.Disk.lasts_on c.hold_rest.new.self c.hold_rest.new.disk c.check_file.new.disk
          c.in_ok-hold_rest.ensures.does _ (λ is. let same = c.in-Err-Header.field-0-is in cc) c.in-Err-Header.ensures.reads new c.drop_entry.new.disk c.drop_entry.ensures.leaves code found e c.in_err-drop_entry-in-Err-Header.ensures.does);
    }

pub returns-in_ok-seal_entry-in-Ok : goal.returns-in_ok-seal_entry-in-Ok
returns-in_ok-seal_entry-in-Ok g c =
    let D = g.D.Disk in
    let number = c.args.number in
    let moment = c.args.moment in
    let found = subst (λ (s : StoreState). ChecksFile (D.content c.hold_rest.new.disk) (placed_of (placed_in s) number) moment c.in-Ok.header) c.self.view_is c.in-Ok.ensures.header in
    record {
      ends = ends-sealed D c.args.self.now c.args.disk.now number moment c.requires.whole c.requires.ready g.met.D.Disk.lasts_same g.met.D.Disk.lasts_on c.hold_rest.new.self c.hold_rest.new.disk c.check_file.new.disk
          c.in_ok-hold_rest.ensures.does _ (λ is. cc is) c.in-Ok.ensures.reads c.seal_entry.new.self c.seal_entry.new.disk c.seal_entry.ensures.leaves c.in-Ok.header found
          c.in_ok-seal_entry-in-Ok.ensures.does c.in_ok-seal_entry-in-Ok.ensures.sealed c.in_ok-seal_entry-in-Ok.ensures.rest;
    }

pub returns-in_ok-drop_entry-in-Err-Header : goal.returns-in_ok-drop_entry-in-Err-Header
returns-in_ok-drop_entry-in-Err-Header g c =
    let D = g.D.Disk in
    let number = c.args.number in
    let moment = c.args.moment in
    let code = c.in-Err-Header.code in
    let found = subst (λ (s : StoreState). HasFault (D.content c.hold_rest.new.disk) (placed_of (placed_in s) number) code) c.self.view_is (c.in-Err-Header.ensures.fault code (ap Err c.in-Err-Header.field-0-is)) in
    record {
      ends = rw c.in-Err-Header.field-0-is (ends-dropped D c.args.self.now c.args.disk.now number moment c.requires.whole c.requires.ready g.met.D.Disk.lasts_same g.met.D.Disk.lasts_on c.hold_rest.new.self c.hold_rest.new.disk c.check_file.new.disk
          c.in_ok-hold_rest.ensures.does _ (λ is. let same = c.in-Err-Header.field-0-is in cc) c.in-Err-Header.ensures.reads c.drop_entry.new.self c.drop_entry.new.disk c.drop_entry.ensures.leaves code found
          c.in_ok-drop_entry-in-Err-Header.ensures.does c.in_ok-drop_entry-in-Err-Header.ensures.gone c.in_ok-drop_entry-in-Err-Header.ensures.rest (c.in-Err-Header.ensures.code code (ap Err c.in-Err-Header.field-0-is)));
    }

pub returns-in-Err-Disk : goal.returns-in-Err-Disk
returns-in-Err-Disk g c =
    let D = g.D.Disk in
    let ready = subst (λ (s : StoreState). IsReady D s c.check_file.new.disk) c.self.view_is c.in-Err-Disk.ensures.ready in
    record {
      ends = ends-unread D c.args.self.now c.args.disk.now c.args.number c.args.moment c.requires.whole c.requires.ready g.met.D.Disk.lasts_same g.met.D.Disk.lasts_on c.hold_rest.new.self c.hold_rest.new.disk c.check_file.new.disk
          c.in_ok-hold_rest.ensures.does _ (λ is. refl) (λ is. ap Err c.in-Err-Disk.field-0-is) c.in-Err-Disk.ensures.reads ready.stands_on c.in_ok-hold_rest.ensures.rest;
    }
