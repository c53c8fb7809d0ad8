-- What the turns of a session or a service say of its end.
use Rattle.std.proofs.Common.{List, [], ◌∷◌, ◌++◌, subst}
use Rattle.px_base.specs.declared.air.Turn.TheVariants as turn
use Rattle.pacsat_cli.proofs.Names.{AllByRecursion, EndsWith, HasEnd, IsOpen, Turn}

-- open turns have no end
pub open-no_end : (turns : List Turn) → AllByRecursion IsOpen turns → HasEnd turns → ⊥
open-no_end [] h e = e
open-no_end ((turn.Bytes octets) ∷ turns) h e = open-no_end turns h.1 e
open-no_end (turn.Quiet ∷ turns) h e = open-no_end turns h.1 e
open-no_end (turn.Fail ∷ turns) h e = h.0
open-no_end (turn.End ∷ turns) h e = h.0

-- nor have open ones with a failed one after them
pub failed-no_end : (earlier : List Turn) → AllByRecursion IsOpen earlier → HasEnd (earlier ++ turn.Fail ∷ []) → ⊥
failed-no_end [] h e = e
failed-no_end ((turn.Bytes octets) ∷ turns) h e = failed-no_end turns h.1 e
failed-no_end (turn.Quiet ∷ turns) h e = failed-no_end turns h.1 e
failed-no_end (turn.Fail ∷ turns) h e = h.0
failed-no_end (turn.End ∷ turns) h e = h.0

-- turns that end with a turn that isn't open aren't open ones
closed-not_open : (earlier : List Turn) (last : Turn) → AllByRecursion IsOpen (earlier ++ last ∷ []) → IsOpen last
closed-not_open [] last h = h.0
closed-not_open (t ∷ earlier) last h = closed-not_open earlier last h.1

pub ends_with-not_open : (turns : List Turn) (last : Turn) → EndsWith turns last → AllByRecursion IsOpen turns → IsOpen last
ends_with-not_open turns last h all_open =
    let P : List Turn → Type 0 = λ x. AllByRecursion IsOpen x in
    closed-not_open h.0 last (subst P h.1 all_open)
