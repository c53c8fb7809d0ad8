use Rattle.std.proofs.Common.{sym, arith}
use Rattle.file_store.proofs.Names.{blocks_on, StoreState, state_from}
use Rattle.file_store.proofs.OnLemmas.{known_told, on-seals, told_known}
use Rattle.file_store.proofs.ReadLemmas.{fills-same, sealed-given, sealed-length, sealed-there, then-ok}
use Rattle.file_store.proofs.reading.read_file.Goals as goal

pub read_sealed-requires-clause-there : goal.read_sealed-requires-clause-there
read_sealed-requires-clause-there g c =
    let store : StoreState = state_from c.args.kept.now.ledger.files c.args.kept.now.journal in
    sealed-there store c.args.number c.requires.may.complete

pub read_sealed-requires-clause-seals : goal.read_sealed-requires-clause-seals
read_sealed-requires-clause-seals g c told =
    let store : StoreState = state_from c.args.kept.now.ledger.files c.args.kept.now.journal in
    on-seals g.D.Disk store c.args.disk.now c.requires.may.ready (told_known g.D.Disk c.args.disk.now told)

pub read_sealed-requires-clause-inside : goal.read_sealed-requires-clause-inside
read_sealed-requires-clause-inside g c sealed =
    let store : StoreState = state_from c.args.kept.now.ledger.files c.args.kept.now.journal in
    omega (arith, c.requires.there, sealed-length store c.args.number sealed)

pub returns-clause-room : goal.returns-clause-room
returns-clause-room g c =
    let store : StoreState = state_from c.args.kept.now.ledger.files c.args.kept.now.journal in
    let sealed = sealed-there store c.args.number c.requires.may.complete in
    then-ok c.read_sealed.result _ _ (λ room known.
    fills-same _ _ _ _ _ (sym (sealed-given store c.args.number sealed (blocks_on (g.D.Disk.content c.args.disk.now)))) (room (known_told g.D.Disk c.args.disk.now known) sealed)) c.read_sealed.ensures.room
