use Rattle.std.proofs.Common.{ℕ, Option, sym, subst}
use Rattle.file_store_blocks.proofs.Names.{IfSome, store_of, TakesSeal, TellsSeal}
use Rattle.file_store_blocks.proofs.AppliedLemmas.{sealed_is_read}
use Rattle.file_store_blocks.proofs.entries.Entries.apply_seal.Goals as goal

pub returns-clause-applied : goal.returns-clause-applied
returns-clause-applied g c =
    let store = store_of c.args.self.now.files in
    let content = g.D.Disk.content c.args.disk.now in
    let is = c.in-Some.is in
    let takes = subst (λ (o : Option ℕ). IfSome o (TakesSeal store c.args.number)) is c.in_ok-header_len.ensures.takes in
    let may = subst (λ (o : Option ℕ). TellsSeal content store c.args.number c.args.moment c.args.sum o) is c.in_ok-header_len.ensures.may in
    sealed_is_read c.args.self.now c.seal.new.self c.requires.rules content c.args.number c.args.moment c.args.sum c.in-Some.header_len takes
    c.seal.ensures.becomes.store_is c.seal.ensures.reading (λ told. (sym (may told).0, (may told).1))
