-- By the client of the number, which has nothing to send.
use Rattle.std.proofs.Common.{refl, sym, subst}
use Rattle.std.specs.Prelude.{◌↔◌}
use Rattle.air_rehearsal.proofs.Names.{Bool, IsTrue, IsClosed, IsClosedBy}
use Rattle.air_rehearsal.proofs.NumberedLemmas.{closed-here, none-here}
use Rattle.air_rehearsal.proofs.generator.is_closed.Goals as goal

pub returns-in-Some : goal.returns-in-Some
returns-in-Some g c world plays enough =
    subst (λ (is : Bool). IsTrue is ↔ IsClosed world c.args.client) (sym c.closed.ensures)
    (closed-here c.args.stations.now world plays c.args.client c.in-Some.party.now c.in-Some.ensures g.B.Disk
    c.args._disks.now c.requires enough)

pub returns-in-None : goal.returns-in-None
returns-in-None g c world plays enough = (
  λ yes_is. subst IsClosedBy (sym (none-here c.args.stations.now world plays c.args.client c.in-None.ensures)) tt,
  λ closed. refl,
)
