-- A call is one word.
use Rattle.std.proofs.Common.{◌≡◌, [], ◌∷◌, codes, subst, sym, ◌∙◌}
use Rattle.air_schedule.proofs.Names.{CallText, words_of}
use Rattle.air_schedule.proofs.WordLemmas.{IsWord-call, same_words, sole_word, words_of-word}
use Rattle.air_schedule.proofs.call_word.read_client.Goals as goal

pub returns-in-Ok : goal.returns-in-Ok
returns-in-Ok c =
    let call = c.in_ok-keyword.call.now in
    let keyword : c.in_ok-keyword.keyword.now ≡ codes "client" = same_words _ _ (sym c.ne.ensures ∙ c.if-ne.false) in
    let word : words_of c.in_ok-keyword.call.now ≡ c.in_ok-keyword.call.now ∷ [] = words_of-word _ (IsWord-call _ _ c.in-Ok.ensures.call) in
    (c.in_ok-keyword.call.now, c.in-Ok.ensures.call, cc (c.in_ok-keyword.ensures, keyword, word))

pub returns-in-Err : goal.returns-in-Err
returns-in-Err c = λ call h.
    let rest : words_of c.in_ok-keyword.call.now ≡ h.0 ∷ [] = cc (c.in_ok-keyword.ensures, h.2) in
    c.in-Err.ensures.bad.none call (subst (CallText call) (sym (sole_word c.in_ok-keyword.call.now h.0 rest)) h.1)
