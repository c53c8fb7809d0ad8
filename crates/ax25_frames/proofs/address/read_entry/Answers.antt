-- An entry that was read, or its fault.
use Rattle.std.proofs.Common.{ℕ, ◌*◌, ◌<◌, arith}
use Rattle.ax25_frames.proofs.Names.{All-from_get_or}
use Rattle.ax25_frames.proofs.FaultLemmas.{bad_entry, short_entry}
use Rattle.ax25_frames.proofs.ReadLemmas.{unended_within, call_read, entry_read, octets_after}
use Rattle.ax25_frames.proofs.address.read_entry.Goals as goal

pub split_at-requires : goal.split_at-requires
split_at-requires c = unended_within c.args.bytes.now c.args.before c.requires.unended

pub returns-then-begun-min-clause-fault : goal.returns-then-begun-min-clause-fault
returns-then-begun-min-clause-fault c =
    bad_entry c.args.bytes.now c.split_at.result.1.now c.args.before c.characters_begun-begun.result c.split_at.ensures.back c.characters_begun-begun.ensures
    c.requires.unended c.requires.few (omega arith)

pub returns-then-octets-lt-ENTRY_LEN-clause-fault : goal.returns-then-octets-lt-ENTRY_LEN-clause-fault
returns-then-octets-lt-ENTRY_LEN-clause-fault c =
    short_entry c.args.bytes.now c.split_at.result.1.now c.args.before c.characters_begun-begun.result c.split_at.ensures.back c.characters_begun-begun.ensures
    c.requires.unended c.requires.few (omega arith) (omega arith)

pub invariant_of-result : goal.invariant_of-result
invariant_of-result c =
    call_read c.split_at.result.1.now c.characters.result c.characters_begun-begun.result c.characters.ensures c.characters_begun-begun.ensures (omega arith) (omega arith)

pub returns-clause-entry : goal.returns-clause-entry
returns-clause-entry c =
    entry_read c.args.bytes.now c.split_at.result.1.now c.characters.result c.args.before c.characters_begun-begun.result c.split_at.ensures.back c.characters.ensures
    c.characters_begun-begun.ensures (omega arith) (omega arith)
    (octets_after (7 * c.args.before) c.args.bytes.now c.split_at.result.1.now c.split_at.ensures.back (All-from_get_or (λ (octet : ℕ). octet < 256) c.args.bytes.now 0 (λ i below. omega (arith, c.type_inv.bytes i))) 6 0 (omega arith))
