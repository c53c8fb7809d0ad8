-- What decodes is twice as long as its tokens, and one word.
use Rattle.std.proofs.Common.{◌≡◌, List, ℕ, ◌*◌, ◌≤◌, ◌<◌, [], ◌∷◌, Ok, Err, length, subst, ap, sym, ◌∙◌, inl, inr, arith}
use Rattle.hex.specs.declared.error.FromHexError.{FromHexError}
use Rattle.air_schedule.proofs.Names.{eqb-false, eqb-true, All-from_get_or, decode_of, decode_of-ok, IsCause, fault_of_hex, LineFault, NoLine, OutOfMemory, AreTokens, words_of}
use Rattle.air_schedule.proofs.WordLemmas.{IsWord-hex, sole_word, words_of-word}
use Rattle.air_schedule.proofs.tokens.read_tokens.Goals.{then-is_empty-via-then-is_empty, then-is_empty-via-else-is_empty+then-word}
use Rattle.air_schedule.proofs.tokens.read_tokens.Goals as goal

-- a word of tokens is twice as long as they are
twice : (word hex tokens : List ℕ) → words_of word ≡ hex ∷ [] → decode_of hex ≡ Ok tokens → length word ≡ 2 * length tokens
twice word hex tokens h e = ap length (sole_word word hex h) ∙ (decode_of-ok hex tokens e).2

pub returns-then-is_empty : goal.returns-then-is_empty
returns-then-is_empty c = λ hex tokens h e fits.
    let len = twice c.args.word.now hex tokens h e in
    let some : 1 ≤ length tokens = fits.0 in
    let few : length tokens ≤ 2047 = fits.1 in
    elim c.then-is_empty.branch [
      | then-is_empty-via-then-is_empty w ↦
          let none : length c.args.word.now ≡ 0 = eqb-true _ 0 (sym c.is_empty.ensures ∙ w.if-is_empty.true) in
          omega arith
      | then-is_empty-via-else-is_empty+then-word w ↦ omega arith
    ]

octets : (hex tokens : List ℕ) → decode_of hex ≡ Ok tokens → 1 ≤ length hex → length hex ≤ 4094 → AreTokens tokens
octets hex tokens e some few =
    let ok = decode_of-ok hex tokens e in
    (omega arith, omega arith, All-from_get_or (λ octet. octet < 256) tokens 0 (λ i below. ok.3 i))

-- no tokens are written so
abbrev NoTokens : List ℕ → Type 0
NoTokens word = (hex tokens : List ℕ) → words_of word ≡ hex ∷ [] → decode_of hex ≡ Ok tokens → AreTokens tokens → ⊥

a_cause : {none : Type 0} (fault : LineFault) → none → IsCause none fault
a_cause NoLine h = h
a_cause OutOfMemory h = tt

apart : (tokens : List ℕ) (refused : FromHexError) → Ok tokens ≡ Err refused → ⊥
apart tokens refused h = cc

pub returns-in-Ok : goal.returns-in-Ok
returns-in-Ok c =
    let decoded = c.in-Ok.ensures.ok in
    let some : length c.args.word.now ≡ 0 → ⊥ = eqb-false _ 0 (sym c.is_empty.ensures ∙ c.if-is_empty.false) in (
      octets c.args.word.now c.in-Ok.tokens.items decoded (omega arith) c.if-word.false,
      decoded,
      words_of-word c.args.word.now (IsWord-hex c.args.word.now c.in-Ok.tokens.items decoded),
    )

pub returns-in-Err : goal.returns-in-Err
returns-in-Err c = elim c.in-Err.ensures.err [
  | inl memory ↦ subst (IsCause (NoTokens c.args.word.now)) (sym (c.from.ensures ∙ ap fault_of_hex memory)) tt
  | inr refused ↦ a_cause c.from.result (λ hex tokens h e fits.
      let same : decode_of c.args.word.now ≡ Ok tokens = ap decode_of (sole_word c.args.word.now hex h) ∙ e in
      apart tokens c.in-Err.refused (sym same ∙ refused))
]
