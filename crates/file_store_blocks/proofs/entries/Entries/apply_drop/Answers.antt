use Rattle.std.proofs.Common.{◌≡◌, true}
use Rattle.file_store_blocks.proofs.Names.{is_partial, passes_at, store_of, passed}
use Rattle.file_store_blocks.proofs.AppliedLemmas.{dropped_is_read}
use Rattle.file_store_blocks.proofs.entries.Entries.apply_drop.Goals as goal

pub returns-clause-applied : goal.returns-clause-applied
returns-clause-applied c =
    let store = store_of c.args.self.now.files in
    let part : passes_at store c.args.number is_partial ≡ true = let e = c.is_under_way.ensures in let f = c.if-not-is_under_way.false in cc in
    dropped_is_read c.args.self.now c.drop_entry.new.self c.requires.rules c.args.number (passed store c.args.number is_partial part)
    c.drop_entry.ensures.becomes.store_is c.drop_entry.ensures.reading
