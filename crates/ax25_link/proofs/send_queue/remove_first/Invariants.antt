use Rattle.std.proofs.Common.{◌≡◌, drop}
use Rattle.ax25_link.proofs.send_queue.remove_first.Given as goal

abbrev pub invariant-loop : goal.invariant-loop
invariant-loop l = l.sizes.items ≡ drop l.counter l.fn.sizes.items
