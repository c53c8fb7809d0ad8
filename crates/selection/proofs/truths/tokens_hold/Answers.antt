use Rattle.std.proofs.Common.{◌≡◌, ℕ, ◌-◌, List, [], ◌∷◌, length, take, drop, Bool, Option, Some, Result, Ok, refl, sym, ap, subst, ◌∙◌}
use Rattle.selection.proofs.Names.{IsSome, slice_get, Token, TokenFault, holds, token_in, ReadsAs, tree_of}
use Rattle.selection.proofs.TruthLemmas.{evaluated-start, evaluated-reads, evaluated-enough, evaluated-step, evaluated-end}
use Rattle.selection.proofs.truths.tokens_hold.Goals as goal

-- what is read at the front of the rest of the tokens
reads : (tokens : List ℕ) (at : ℕ) (read : Result Token TokenFault) (token : Token) → read ≡ Ok token
    → ReadsAs read (token_in (take (length tokens - at) (drop at tokens))) → ReadsAs (Ok token) (token_in (take (length tokens - at) (drop at tokens)))
reads tokens at read token same h =
    let P : Result Token TokenFault → Type 0 = λ r. ReadsAs r (token_in (take (length tokens - at) (drop at tokens))) in subst P same h

-- the last of one
popped : (truths : List Bool) (truth : Bool) (last : Option Bool) → last ≡ slice_get truths (length truths - 1) → truths ≡ truth ∷ [] → last ≡ Some truth
popped truths truth last e one = e ∙ ap (λ (ts : List Bool). slice_get ts (length ts - 1)) one

pub loop-at-init : goal.loop-at-init
loop-at-init c = evaluated-start c.args.tokens.now c.args.header.now.items c.new-truths.result.items c.requires c.new-truths.ensures

pub unwrap-token-requires : goal.unwrap-token-requires
unwrap-token-requires c =
    evaluated-reads c.args.tokens.now c.args.header.now.items c.loop-at.at c.loop-at.truths.items c.loop-at-test.true c.loop-at.invariant
    c.first_token.result c.first_token.ensures.token

pub take_token-requires-clause-room : goal.take_token-requires-clause-room
take_token-requires-clause-room c =
    (evaluated-enough c.args.tokens.now c.args.header.now.items c.loop-at.at c.loop-at.truths.items c.loop-at-test.true c.loop-at.invariant
    c.unwrap-token.result
    (reads c.args.tokens.now c.loop-at.at c.first_token.result c.unwrap-token.result c.unwrap-token.ensures c.first_token.ensures.token)).0

pub take_token-requires-clause-operands : goal.take_token-requires-clause-operands
take_token-requires-clause-operands c =
    (evaluated-enough c.args.tokens.now c.args.header.now.items c.loop-at.at c.loop-at.truths.items c.loop-at-test.true c.loop-at.invariant
    c.unwrap-token.result
    (reads c.args.tokens.now c.loop-at.at c.first_token.result c.unwrap-token.result c.unwrap-token.ensures c.first_token.ensures.token)).1

pub loop-at-preserved : goal.loop-at-preserved
loop-at-preserved c =
    evaluated-step c.args.tokens.now c.args.header.now.items c.loop-at.at c.loop-at.truths.items c.loop-at-test.true c.loop-at.invariant
    c.unwrap-token.result c.take_token.new.truths.items c.len-at.result
    (reads c.args.tokens.now c.loop-at.at c.first_token.result c.unwrap-token.result c.unwrap-token.ensures c.first_token.ensures.token)
    c.len-at.ensures c.take_token.ensures

pub unwrap-requires : goal.unwrap-requires
unwrap-requires c =
    let one = evaluated-end c.args.tokens.now c.args.header.now.items c.loop-at.at c.loop-at.truths.items c.loop-at-test.false c.loop-at.invariant in
    let last = popped c.loop-at.truths.items (holds (tree_of c.args.tokens.now) c.args.header.now.items) c.pop.result c.pop.ensures.value one in
    let P : Option Bool → Type 0 = λ o. IsSome o in
    subst P (sym last) refl

pub returns : goal.returns
returns c =
    let one = evaluated-end c.args.tokens.now c.args.header.now.items c.loop-at.at c.loop-at.truths.items c.loop-at-test.false c.loop-at.invariant in
    let last = popped c.loop-at.truths.items (holds (tree_of c.args.tokens.now) c.args.header.now.items) c.pop.result c.pop.ensures.value one in
    let same = c.unwrap.ensures in
    cc
