use Rattle.std.proofs.Common.{◌≡◌, drop}
use Rattle.ftl0_client_job.proofs.Names.{mandatory_items, are_items as are_items_of}
use Rattle.ftl0_client_job.proofs.short.are_items.Given as goal

-- what is left is the items of the rules that are left
abbrev pub invariant-loop-rule : goal.invariant-loop-rule
invariant-loop-rule l = are_items_of (drop l.rule-index mandatory_items) l.left ≡ are_items_of mandatory_items l.octets
