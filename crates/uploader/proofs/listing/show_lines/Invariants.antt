-- The lines of the headers so far were shown, and what is left is shorter by these.
use Rattle.std.proofs.Common.{◌≡◌, ◌+◌, ◌-◌, ◌*◌, length}
use Rattle.uploader.proofs.Names.{first_lines, listing_lines}
use Rattle.uploader.proofs.LineLemmas.{IsShowing}
use Rattle.uploader.proofs.listing.show_lines.Given as goal

abbrev pub invariant-loop : goal.invariant-loop
invariant-loop g l = record {
  showing : IsShowing g.O.Out.shown g.O.Out.faults l.initial.out l.out (listing_lines l.listing) (first_lines (l.end - l.counter) l.left);
  left : length l.left + 73 * l.counter ≡ length l.listing;
}
