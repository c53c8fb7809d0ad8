-- What a session receives it receives still, if store, client, attempt and session are others with the same of it.
use Rattle.std.specs.Prelude.{◌≡◌, ◌+◌, ◌≤◌, ◌++◌}
use Rattle.air_world.proofs.files.Names.{ℕ, List, length, take, Some, Store, entry_of, Attempt, Party, AsksUpload, Offers, octets_come, said_behind_server, ServerSide, GoesOnWith, Receives}

module _ {store now : Store} {party that : Party} {a b : Attempt} {side other : ServerSide} {number : ℕ} {rest : List ℕ}
    (r : Receives store party a side number rest) where
  pub receives-as : AsksUpload b r.task r.known r.file → entry_of now number ≡ Some r.entry
      → r.entry.caller ≡ that.client.me → Offers other number r.offset
      → r.held ++ rest ≡ take (r.offset + octets_come other) r.file → r.offset + octets_come other ≤ length r.file
      → GoesOnWith r.file (r.offset + octets_come other) (said_behind_server other b.client)
      → Receives now that b other number rest
  receives-as asks is_entry caller_is offers came within goes_on = record {
    task = r.task;
    known = r.known;
    file = r.file;
    asks = asks;
    entry = r.entry;
    is_entry = is_entry;
    held = r.held;
    holds = r.holds;
    caller_is = caller_is;
    length_is = r.length_is;
    few = r.few;
    offset = r.offset;
    offers = offers;
    came = came;
    within = within;
    goes_on = goes_on;
  }
