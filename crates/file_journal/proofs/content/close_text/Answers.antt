use Rattle.std.proofs.Common.{◌≤◌, ℕ, ◌<◌, List, length, take, arith}
use Rattle.file_journal.proofs.Names.{common_steps, All-take, All-drop, All-from_get_or}
use Rattle.file_journal.proofs.content.close_text.Goals as goal

-- a part of so many octets has no more
most : (len : ℕ) (octets : List ℕ) → len ≤ 600 → length (take len octets) ≤ 600
most len octets within = grind (arith, common_steps)

pub returns-clause-fits : goal.returns-clause-fits
returns-clause-fits c =
    record {
      kind = omega (arith, c.ranges.kind);
      octets = All-take (λ (o : ℕ). o < 256) c.args.len _ (All-drop (λ (o : ℕ). o < 256) 4 _ (All-from_get_or (λ (o : ℕ). o < 256) c.args.text.now 0 (λ i lt. c.fits-text i)));
      most = most c.args.len _ c.requires;
    }
