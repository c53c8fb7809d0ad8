-- What the loops of an attempt keep.
use Rattle.std.proofs.Common.{ℕ, List}
use Rattle.ftl0_client.proofs.Names.{Ok, ⊤, Ghosts, free_octets, Item, HasFront, AttemptState, Becomes, LeavesFit, Working, KeepsUp, MayAnswer, Takes, queuing}

-- Packets were taken from the beginning of the octets, and these are left.
pub record IsTaking {D : Type 0} (g : Ghosts D) (octets left : List ℕ) (before now : Working D) : Type 0 where
  pub items : List Item
  pub front : HasFront octets left items
  pub takes : Takes g items before now
  pub may : MayAnswer g now
  pub fit : LeavesFit {T = ⊤} g before now (Ok tt)

-- Whatever queuing makes of it now, it makes of the attempt as it was.
pub record IsQueuing (old now : AttemptState) : Type 0 where
  pub rest : (new : AttemptState) → Becomes now new (λ w a. queuing (free_octets a.end) a) → Becomes old new (λ w a. queuing (free_octets a.end) a)
  pub keeps : KeepsUp old now
