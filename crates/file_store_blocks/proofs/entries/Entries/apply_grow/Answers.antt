use Rattle.std.proofs.Common.{◌≡◌, true, false, sym, ◌∙◌, []}
use Rattle.file_store_blocks.proofs.Names.{IsTrue, grow, is_allowed, store_of, may_take, Blocks, blocks_on}
use Rattle.file_store_blocks.proofs.AppliedLemmas.{grown_is_read, refused_is}
use Rattle.file_store_blocks.proofs.entries.Entries.apply_grow.Goals as goal
use Rattle.std.proofs.Common.{refl}

pub grow-requires-clause-allowed : goal.grow-requires-clause-allowed
grow-requires-clause-allowed c =
    let store = store_of c.args.self.now.files in
    let may : c.may_grow.result ≡ true = let f = c.if-not-may_grow.false in cc in
    may_take (λ b. []) store c.args.number c.args.block c.args.used (sym (c.may_grow.ensures (λ b. [])) ∙ may)

pub returns-clause-applied : goal.returns-clause-applied
returns-clause-applied c =
    let store = store_of c.args.self.now.files in
    let may : c.may_grow.result ≡ true = let f = c.if-not-may_grow.false in cc in
    let ok : (held : Blocks) → IsTrue (is_allowed held store (grow c.args.number c.args.block c.args.used)) = λ held. sym (c.may_grow.ensures held) ∙ may in
    grown_is_read c.args.self.now c.grow.new.self c.requires.rules c.args.number c.args.block c.args.used
    (may_take (λ b. []) store c.args.number c.args.block c.args.used (ok (λ b. []))) c.grow.ensures.becomes.store_is c.grow.ensures.reading ok

pub returns-then-not-may_grow-clause-applied : goal.returns-then-not-may_grow-clause-applied
returns-then-not-may_grow-clause-applied c = λ content.
    let may : c.may_grow.result ≡ false = let f = c.if-not-may_grow.true in cc in
    refused_is content c.args.self.now c.args.self.now (grow c.args.number c.args.block c.args.used) c.requires.rules
    (λ told. sym (c.may_grow.ensures (blocks_on content)) ∙ may) refl
