use Rattle.std.proofs.Common.{ap, arith}
use Rattle.file_store_blocks.proofs.Names.{EntriesState}
use Rattle.file_store_blocks.proofs.AnewLemmas.{kept_next}
use Rattle.file_store_blocks.proofs.entries.Entries.take_next.Goals as goal

pub invariant_of-self : goal.invariant_of-self
invariant_of-self c =
    let view = ap (λ (s : EntriesState). s.files) c.self.view_is in
    let least = ap (λ (s : EntriesState). s.least) c.self.view_is in
    (kept_next c.self.inside.table.runs c.self.inside.files.items c.self.inside.next c.self.inside.table.limit c.self.invariant.0 _ view c.get-self-inside.result c.args.self.now.least c.requires.rules.rules (omega (arith, least, c.if-get-self.false, c.get.ensures, c.get-self-inside.ensures)), c.self.invariant.1, c.self.invariant.2)
