use Rattle.std.proofs.Common.{◌≡◌, true, sym}
use Rattle.file_store_blocks.specs.declared.check_fault.CheckFault.TheVariants.{Header}
use Rattle.file_store_blocks.proofs.Names.{IsErrOf, is_whole, passes_at, store_of, passed, blocks_on}
use Rattle.file_store_blocks.proofs.AppliedLemmas.{fault_refuses, header_takes}
use Rattle.file_store_blocks.proofs.entries.Entries.may_seal.Goals as goal

pub returns-in-Err-Header-clause-may : goal.returns-in-Err-Header-clause-may
returns-in-Err-Header-clause-may g c = λ told.
    let store = store_of c.args.self.now.files in
    let whole : passes_at store c.args.number is_whole ≡ true = let e = c.is_whole.ensures in let f = c.if-not-is_whole.false in cc in
    let fails : IsErrOf c.check.result (Header c.in-Err-Header.field-0-0) = let e = c.in-Err-Header.is in let f = c.in-Err-Header.field-0-is in cc in (
      sym (fault_refuses (blocks_on (g.D.Disk.content c.args.disk.now)) store c.args.number c.args.moment c.args.sum
          (passed store c.args.number is_whole whole) c.in-Err-Header.field-0-0
          (c.check.ensures.fault c.in-Err-Header.field-0-0 fails told)),
      tt,
    )

pub returns-in-Ok-clause-takes : goal.returns-in-Ok-clause-takes
returns-in-Ok-clause-takes g c =
    let store = store_of c.args.self.now.files in
    let whole : passes_at store c.args.number is_whole ≡ true = let e = c.is_whole.ensures in let f = c.if-not-is_whole.false in cc in
    header_takes (blocks_on (g.D.Disk.content c.args.disk.now)) store c.args.number c.args.moment c.args.sum
    (passed store c.args.number is_whole whole) c.in-Ok.header.len c.of_sum.result c.in-Ok.ensures.inside c.of_sum.ensures.len
