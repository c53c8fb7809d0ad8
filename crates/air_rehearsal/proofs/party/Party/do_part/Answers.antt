-- Each part by its own call.
use Rattle.std.proofs.Common.{subst}
use Rattle.air_rehearsal.proofs.Names.{IsPart, Part}
use Rattle.air_rehearsal.proofs.PartLemmas.{ok_then}
use Rattle.air_rehearsal.proofs.party.Party.do_part.Goals as goal

pub returns-in-Download-clause-begins : goal.returns-in-Download-clause-begins
returns-in-Download-clause-begins g c =
    ok_then c.ask_download.result _ _
    (λ begins seat whole at_seat is_part.
    begins seat whole at_seat (subst (λ (p : Part). IsPart seat p whole) c.in-Download.is is_part))
    c.ask_download.ensures.begins

pub returns-in-Tick-clause-begins : goal.returns-in-Tick-clause-begins
returns-in-Tick-clause-begins g c = λ seat whole at_seat is_part.
    c.tick.ensures.begins seat whole at_seat (subst (λ (p : Part). IsPart seat p whole) c.in-Tick.is is_part)
