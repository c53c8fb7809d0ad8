-- What turns bring to a session.
use Rattle.std.proofs.Common.{◌≡◌, ℕ, List, [], ◌∷◌, ◌++◌, refl, ap, sym, ◌∙◌, subst, append_assoc, append-nil}
use Rattle.px_base.specs.Polling.{octets_heard, octets_of_turn}
use Rattle.px_base.specs.declared.air.Turn.{Turn}
use Rattle.ftl0_packets.specs.Stream.{IsPartial, Stream}
use Rattle.ftl0_packets.proofs.SplitLemmas.{stream-append, stream-partial}
use Rattle.ftl0_session.proofs.Names.{Item, Brings, Event, at_moment, packets_in}

-- the packets of packets at a moment and of later events
packets_in-at : (moment : ℕ) (items : List Item) (later : List Event) → packets_in (at_moment moment items ++ later) ≡ items ++ packets_in later
packets_in-at moment [] later = refl
packets_in-at moment (item ∷ items) later = ap (λ is. item ∷ is) (packets_in-at moment items later)

-- What turns bring is the stream of all octets heard.
pub brings-stream : (waiting : List ℕ) (turns : List Turn) (moments : List ℕ) (events : List Event) (rest : List ℕ) → IsPartial waiting → Brings waiting turns moments events rest → Stream (waiting ++ octets_heard turns) (packets_in events) rest
brings-stream waiting [] moments events rest partial h = rw (h.0, h.1) (append-nil waiting, partial)
brings-stream waiting (t ∷ turns) [] events rest partial h = absurd h
brings-stream waiting (t ∷ turns) (m ∷ moments) events rest partial h =
    let later = brings-stream h.1 turns moments h.2 rest (stream-partial (waiting ++ octets_of_turn t) h.0 h.1 h.3) h.5 in
    let all = stream-append (waiting ++ octets_of_turn t) (octets_heard turns) h.0 h.1 (packets_in h.2) rest h.3 later in
    let at_octets : List ℕ → Type 0 = λ o. Stream o (h.0 ++ packets_in h.2) rest in
    let at_items : List Item → Type 0 = λ is. Stream (waiting ++ (octets_of_turn t ++ octets_heard turns)) is rest in
    subst at_items (sym (ap packets_in h.4 ∙ packets_in-at m h.0 h.2)) (subst at_octets (append_assoc waiting (octets_of_turn t) (octets_heard turns)) all)

-- further moments make no difference
pub brings-more : (waiting : List ℕ) (turns : List Turn) (moments more : List ℕ) (events : List Event) (rest : List ℕ) → Brings waiting turns moments events rest → Brings waiting turns (moments ++ more) events rest
brings-more waiting [] moments more events rest h = h
brings-more waiting (t ∷ turns) [] more events rest h = absurd h
brings-more waiting (t ∷ turns) (m ∷ moments) more events rest h = (h.0, h.1, h.2, h.3, h.4, brings-more h.1 turns moments more h.2 rest h.5)

-- and so do all turns but the last
pub brings-init : (waiting : List ℕ) (turns : List Turn) (last : Turn) (moments : List ℕ) (events : List Event) (rest : List ℕ) → Brings waiting (turns ++ last ∷ []) moments events rest
    → (least : List Event) × (left : List ℕ) × Brings waiting turns moments least left
brings-init waiting [] last moments events rest h = ([], waiting, (refl, refl))
brings-init waiting (t ∷ turns) last [] events rest h = absurd h
brings-init waiting (t ∷ turns) last (m ∷ moments) events rest h =
    let later = brings-init h.1 turns last moments h.2 rest h.5 in
    (at_moment m h.0 ++ later.0, later.1, (h.0, h.1, later.0, h.3, refl, later.2))
