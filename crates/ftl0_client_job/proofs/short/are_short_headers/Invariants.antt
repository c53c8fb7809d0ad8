use Rattle.std.proofs.Common.{◌≡◌, ◌+◌, ◌-◌, ◌*◌, length}
use Rattle.ftl0_client_job.proofs.Names.{are_headers}
use Rattle.ftl0_client_job.proofs.short.are_short_headers.Given as goal

-- what is left is the headers that are left, and it is shorter by those that were seen
abbrev pub invariant-loop : goal.invariant-loop
invariant-loop l = record {
  headers : are_headers (l.end - l.counter) l.left ≡ are_headers l.end l.octets;
  left : length l.left + 73 * l.counter ≡ length l.octets;
}
