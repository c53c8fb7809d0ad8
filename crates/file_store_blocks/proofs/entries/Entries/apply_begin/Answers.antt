use Rattle.std.proofs.Common.{◌≡◌, ◌==◌, true, false, [], rules, refl, sym, ◌∙◌}
use Rattle.file_store_blocks.proofs.Names.{is_some, IsCall, with_next, begin, read_of, store_of, may_number, next_placed, may_have, seen, Blocks, blocks_on}
use Rattle.file_store_blocks.proofs.AppliedLemmas.{barred, begun_is, first_false, not_barred, refused_is, second_false}
use Rattle.file_store_blocks.proofs.entries.Entries.apply_begin.Goals as goal

pub returns-then-not-may_have-clause-applied : goal.returns-then-not-may_have-clause-applied
returns-then-not-may_have-clause-applied c = λ content.
    let have : may_have (read_of c.args.self.now) c.args.number ≡ false = let e = c.may_have.ensures in let f = c.if-not-may_have.true in cc in
    refused_is content c.args.self.now c.args.self.now (begin c.args.number c.args.caller c.args.length c.args.moment) c.requires.rules
    (λ told. first_false (may_have (read_of c.args.self.now) c.args.number) _ have) refl

pub returns-then-is_some-clause-applied : goal.returns-then-is_some-clause-applied
returns-then-is_some-clause-applied c = λ content.
    let store = with_next c.args.number (store_of c.args.self.now.files) in
    refused_is content c.args.self.now c.args.self.now (begin c.args.number c.args.caller c.args.length c.args.moment) c.requires.rules
    (λ told.
    second_false (may_have (read_of c.args.self.now) c.args.number) _
    (second_false (c.args.number == c.args.number) _
    (barred c.begin_bar_as.result (seen (blocks_on content) store) c.args.length (c.begin_bar_as.ensures.some (blocks_on content)) (sym c.is_some.ensures ∙ c.if-is_some.true)))) refl

pub begin_as-requires-clause-rules : goal.begin_as-requires-clause-rules
begin_as-requires-clause-rules c =
    let have : may_have (read_of c.args.self.now) c.args.number ≡ true = let e = c.may_have.ensures in let f = c.if-not-may_have.false in cc in
    next_placed c.args.self.now.least c.args.number (store_of c.args.self.now.files) (may_number (read_of c.args.self.now) c.args.number have).0 c.requires.rules.rules

pub begin_as-requires-clause-may : goal.begin_as-requires-clause-may
begin_as-requires-clause-may c =
    let held : Blocks = λ b. [] in
    let none : is_some c.begin_bar_as.result ≡ false = let e = c.is_some.ensures in let f = c.if-is_some.false in cc in
    (held, not_barred c.begin_bar_as.result (c.begin_bar_as.ensures.none held) none)

pub returns-clause-applied : goal.returns-clause-applied
returns-clause-applied c =
    let call : IsCall c.args.caller = search rules in
    let have : may_have (read_of c.args.self.now) c.args.number ≡ true = let e = c.may_have.ensures in let f = c.if-not-may_have.false in cc in
    let none : is_some c.begin_bar_as.result ≡ false = let e = c.is_some.ensures in let f = c.if-is_some.false in cc in
    begun_is c.args.self.now c.begin_as.new.self c.requires.rules c.args.number c.args.length c.args.moment c.args.caller call have
    (λ held. not_barred c.begin_bar_as.result (c.begin_bar_as.ensures.none held) none)
    c.begin_as.ensures.becomes.store_is c.begin_as.ensures.least c.begin_as.ensures.first
