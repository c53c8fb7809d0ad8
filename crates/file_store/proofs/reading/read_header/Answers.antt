use Rattle.std.proofs.Common.{◌≡◌, ◌≤◌, List, ℕ, length, Option, sym, ap, subst, arith, rules, length-append}
use Rattle.file_store.proofs.Names.{IsSomeAnd, Placed, placed_of, octets_given, given_length, IsHeaderOf, IsWholeHeader, body_octets, blocks_on, StoreState, placed_in, state_from}
use Rattle.file_store.proofs.OnLemmas.{known_told, on-seals, told_known}
use Rattle.file_store.proofs.ReadLemmas.{fits-inside, sealed-given, sealed-there}
use Rattle.file_store.proofs.reading.read_header.Goals as goal

pub read_header-requires-clause-there : goal.read_header-requires-clause-there
read_header-requires-clause-there g c =
    let store : StoreState = state_from c.args.kept.now.ledger.files c.args.kept.now.journal in
    sealed-there store c.args.number c.requires.may.complete

pub read_header-requires-clause-seals : goal.read_header-requires-clause-seals
read_header-requires-clause-seals g c told =
    let store : StoreState = state_from c.args.kept.now.ledger.files c.args.kept.now.journal in
    on-seals g.D.Disk store c.args.disk.now c.requires.may.ready (told_known g.D.Disk c.args.disk.now told)

pub returns-in-Ok-clause-header : goal.returns-in-Ok-clause-header
returns-in-Ok-clause-header g c known =
    let store : StoreState = state_from c.args.kept.now.ledger.files c.args.kept.now.journal in
    let sealed = sealed-there store c.args.number c.requires.may.complete in
    let is = c.in-Ok.ensures.header (known_told g.D.Disk c.args.disk.now known) sealed in
    subst (λ (file : List ℕ). IsHeaderOf file c.read_header.new.header.items) (sym (sealed-given store c.args.number sealed (blocks_on (g.D.Disk.content c.args.disk.now)))) is.header

pub returns-in-Ok-clause-inside : goal.returns-in-Ok-clause-inside
returns-in-Ok-clause-inside g c =
    let store : StoreState = state_from c.args.kept.now.ledger.files c.args.kept.now.journal in
    let fits : IsSomeAnd (placed_of (placed_in store) c.args.number) (λ f. length c.read_header.new.header.items ≤ f.held) = search rules in
    fits-inside store c.args.number (length c.read_header.new.header.items) fits

pub returns-in-Ok-2-clause-there : goal.returns-in-Ok-2-clause-there
returns-in-Ok-2-clause-there g c none known =
    let store : StoreState = state_from c.args.kept.now.ledger.files c.args.kept.now.journal in
    let sealed = sealed-there store c.args.number c.requires.may.complete in
    let is = c.in-Ok.ensures.header (known_told g.D.Disk c.args.disk.now known) sealed in
    let yes = c.is_header.ensures.1 (subst IsWholeHeader (sym c.deref.ensures.value) is.whole) in
    let no = c.if-is_header.false in
    cc

pub returns-in-Ok-2-2-clause-there : goal.returns-in-Ok-2-2-clause-there
returns-in-Ok-2-2-clause-there g c none known =
    let store : StoreState = state_from c.args.kept.now.ledger.files c.args.kept.now.journal in
    let blocks = blocks_on (g.D.Disk.content c.args.disk.now) in
    let sealed = sealed-there store c.args.number c.requires.may.complete in
    let is = c.in-Ok.ensures.header (known_told g.D.Disk c.args.disk.now known) sealed in
    let items : List ℕ = c.read_header.new.header.items in
    let seals = on-seals g.D.Disk store c.args.disk.now c.requires.may.ready known in
    let long : length items ≤ sealed.file.held =
    omega (arith, ap (λ (os : List ℕ). length os) is.header.front, length-append items (body_octets (octets_given blocks sealed)), given_length blocks (placed_in store) c.args.number c.requires.may.ready.stands_on.holds.reached seals sealed) in
    let there : IsSomeAnd (placed_of (placed_in store) c.args.number) (λ f. length items ≤ f.held) = subst (λ (o : Option Placed). IsSomeAnd o (λ f. length items ≤ f.held)) (sym sealed.found) long in
    let same : c.len.result ≡ length items = search rules in
    let yes = c.fits_file.ensures.1 (subst (λ (n : ℕ). IsSomeAnd (placed_of (placed_in store) c.args.number) (λ f. n ≤ f.held)) (sym same) there) in
    let no = c.if-fits_file.false in
    cc
