use Rattle.std.proofs.Common.{◌≡◌, ◌+◌, ℕ, length, take, drop, ◌∙◌, ap, arith}
use Rattle.file_journal.proofs.Names.{on_ok_weaker, block_place, told_weaker}
use Rattle.file_journal.proofs.BlockLemmas.{block_part}
use Rattle.file_journal.proofs.journal.Journal.read_block.Goals as goal

pub returns-clause-room : goal.returns-clause-room
returns-clause-room g c =
    let place : c.block_place.result + c.from.result ≡ block_place c.args.block + c.args.at = omega (arith, c.block_place.ensures.place, c.from.ensures) in
    on_ok_weaker c.read.result (λ has. told_weaker (g.D.Disk.content c.args.disk.now) _ _ (λ octets told is.
    block_part octets c.read.new.room c.args.block c.args.at (length c.args.room.now) c.requires.within (is ∙ ap (λ (i : ℕ). take (length c.args.room.now) (drop i octets)) place)) has)
    c.read.ensures.room
