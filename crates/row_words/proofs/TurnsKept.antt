-- Turns with one more.
use Rattle.std.proofs.Common.{◌≡◌, List, [], ◌∷◌, ◌++◌, refl, ap, sym, ◌∙◌, append_assoc, append-nil}
use Rattle.std.specs.List.{AllByRecursion}
use Rattle.px_base.specs.declared.air.Turn.{Turn}
use Rattle.px_base.specs.Polling.{IsTurn, octets_heard, octets_of_turn}

-- each of the turns and of one more is a turn that a poll can bring
pub turns_push : (turns : List Turn) (next : Turn) → AllByRecursion IsTurn turns → IsTurn next → AllByRecursion IsTurn (turns ++ next ∷ [])
turns_push [] next h k = (k, tt)
turns_push (t ∷ turns) next h k = (h.0, turns_push turns next h.1 k)

-- and the octets heard are those of the turns and of the one more
pub octets_push : (turns : List Turn) (next : Turn) → octets_heard (turns ++ next ∷ []) ≡ octets_heard turns ++ octets_of_turn next
octets_push [] next = append-nil (octets_of_turn next)
octets_push (t ∷ turns) next =
    ap (λ octets. octets_of_turn t ++ octets) (octets_push turns next) ∙ sym (append_assoc (octets_of_turn t) (octets_heard turns) (octets_of_turn next))

-- turns after turns, each of which a poll can bring
pub turns_join : (turns later : List Turn) → AllByRecursion IsTurn turns → AllByRecursion IsTurn later → AllByRecursion IsTurn (turns ++ later)
turns_join [] later h k = k
turns_join (t ∷ turns) later h k = (h.0, turns_join turns later h.1 k)

-- and the octets heard are those of the ones and then those of the others
pub octets_join : (turns later : List Turn) → octets_heard (turns ++ later) ≡ octets_heard turns ++ octets_heard later
octets_join [] later = refl
octets_join (t ∷ turns) later =
    ap (λ octets. octets_of_turn t ++ octets) (octets_join turns later) ∙ sym (append_assoc (octets_of_turn t) (octets_heard turns) (octets_heard later))
